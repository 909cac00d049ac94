-- What is proved of turns: `turn_laws`.
use Prim.Native.Nat.{ℕ, zero, suc, ◌+◌, ◌-◌, ◌≤◌, ◌<◌}
use mathlib.Core.Path.{◌≡◌, refl, sym, ap, ◌∙◌}
use mathlib.Core.Logic.{⊎_elim}
use mathlib.Core.List.{List, [], ◌∷◌, ◌++◌, map}
use native.Mathlib.Omega.{arith}
use lib.ListN.{length, take, drop, length-append, length-drop}
use borrow.Author.Tests.{le-leb, lt-leb}
use Rattle.task.proofs.Reading.{le_or_lt}
use Rattle.horn_text.specs.Script.{join, parts_of, longest}
use Rattle.horn_text.proofs.Readings.{join_append}
use Rattle.horn_text.proofs.RunLaws.{longest_drop}
use Rattle.console.specs.Turns.{fitting, turn_of, turns, TurnLaws}

-- no more lengths fit than there are
pub fitting_most : (room : ℕ) (ns : List ℕ) → fitting room ns ≤ length ns
fitting_most room [] = omega arith
fitting_most room (n ∷ ns) =
    ⊎_elim (λ (h : n ≤ room). let i = fitting_most (room - n) ns in rw (le-leb n room h) (omega arith)) (λ (h : room < n). rw (lt-leb n room h) (omega arith)) (le_or_lt n room)

-- the first texts, and those behind them
pub taken_all : (n : ℕ) (ts : List (List ℕ)) → take n ts ++ drop (length (take n ts)) ts ≡ ts
taken_all zero ts = refl
taken_all (suc n) [] = refl
taken_all (suc n) (t ∷ ts) = ap (λ (us : List (List ℕ)). t ∷ us) (taken_all n ts)

turn_fits : (room places : ℕ) (ts : List (List ℕ)) → length (join (turn_of room places ts)) ≤ room
turn_fits room zero ts = omega arith
turn_fits room (suc places) [] = omega arith
turn_fits room (suc places) (t ∷ ts) =
    ⊎_elim
    (λ (h : length t ≤ room). let i = turn_fits (room - length t) places ts in
    let l : length (t ++ join (turn_of (room - length t) places ts)) ≡ length t + length (join (turn_of (room - length t) places ts)) = length-append t (join (turn_of (room - length t) places ts)) in
    rw (le-leb (length t) room h) (omega arith))
    (λ (h : room < length t). rw (lt-leb (length t) room h) (omega arith))
    (le_or_lt (length t) room)

turn_some : (room places : ℕ) (ts : List (List ℕ)) → longest ts ≤ room → 0 < places → 0 < length ts → 0 < length (turn_of room places ts)
turn_some room zero ts h g l = absurd (omega arith)
turn_some room (suc places) [] h g l = absurd (omega arith)
turn_some room (suc places) (t ∷ ts) h g l = rw (le-leb (length t) room (omega arith)) (omega arith)

turns_joined : (n room places : ℕ) (ts : List (List ℕ)) → longest ts ≤ room → 0 < places → length ts ≤ n → join (turns n room places ts) ≡ join ts
turns_joined zero room places [] h g l = refl
turns_joined zero room places (t ∷ ts) h g l = absurd (omega arith)
turns_joined (suc n) room places ts h g l =
    let us = turn_of room places ts in
    let vs = drop (length us) ts in
    let d = length-drop (length us) ts in
    let m = longest_drop (length us) ts in
    let c : length vs ≤ n = ⊎_elim (λ (e : length ts ≤ 0). omega arith) (λ (e : 0 < length ts). let s = turn_some room places ts h g e in omega arith) (le_or_lt (length ts) 0) in
    ap (λ (w : List ℕ). join us ++ w) (turns_joined n room places vs (omega arith) g c)
    ∙ sym (join_append us vs) ∙ ap join (taken_all (fitting room (map length (take places ts))) ts)

pub turn_laws : TurnLaws
turn_laws = record { fits = turn_fits; some = turn_some; joined = λ names t room places n h g l. turns_joined n room places (parts_of names t) h g l }
