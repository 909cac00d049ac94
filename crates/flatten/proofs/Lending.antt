-- A part that is written into what is left of the buffer: the buffer lent from its middle, and what stands in it afterwards.
use mathlib.Core.Path.{◌≡◌, refl, ap}
use mathlib.Core.Bool.{true, false}
use mathlib.Core.List.{List, [], ◌∷◌, ◌++◌}
use Prim.Native.Nat.{ℕ, ◌-◌, ◌≤◌, min, max}
use native.Mathlib.Omega.{arith}
use lib.ListN.{length, take, drop, set}
use Rattle.task.specs.Decode.{Res}
use Rattle.task.specs.Run.{Runs}
use Rattle.output.specs.Emit.{output, most, emits, Sends}
use Rattle.output.proofs.Sent.{sent_lent}
use Rattle.flatten.specs.declared.Range.{Range}
use Rattle.flatten.specs.declared.Progress.{Progress}
use Rattle.flatten.specs.Parts.{Writing, writing, up, has, most32, noted, placed, passed, place, pass, put, puts, Puts}

-- PARTS

same_writing : {r : Range} {n n' l l' m m' : ℕ} {b b' ls ls' : List ℕ} → n ≡ n' → l ≡ l' → m ≡ m' → b ≡ b' → ls ≡ ls'
    → ◌≡◌ {A = Writing} (record { range = r; seen = n; len = l; longest = m; buf = b; lengths = ls }) (record { range = r; seen = n'; len = l'; longest = m'; buf = b'; lengths = ls' })
same_writing {r} p q o s t = λ i. record { range = r; seen = p i; len = q i; longest = o i; buf = s i; lengths = t i }

-- a part of n bytes was counted and its length put into the table
abbrev pub Counted : Progress → ℕ → List ℕ → Progress → List ℕ → Type 0
Counted p n ls p' ls' = (p' ≡ placed p n) × (ls' ≡ noted p.range p.seen n ls)

-- a part behind what was written: n bytes were sent to what was lent
pub place_in : (p p' : Progress) (xs t ys ls ls' : List ℕ) (start z n : ℕ) → start ≡ min p.len (length xs) → z ≡ 0 → length xs ≤ most
    → output ys n ≡ emits (output (take (length xs - start) (drop start xs)) z) t → Counted p n ls p' ls'
    → writing p' (take start xs ++ (ys ++ drop (length xs - start) (drop start xs))) ls' ≡ place (writing p xs ls) t
unfolding place
place_in p p' xs t ys ls ls' start z n e e0 m w e' =
    let l = sent_lent t xs ys p.len start z n e e0 m w in
    let k : min n most32 ≡ min (length t) most32 = let i = l.1 in omega arith in
    rw (e'.0, e'.1)
    (same_writing refl (ap (up p.len) l.1) (ap (max p.longest) l.1) l.0 (ap (set ls (p.seen - p.range.from)) k))

module _ (p p' : Progress) (xs t ls : List ℕ) where
  -- a part in the range
  pub put_in : (ys ls' : List ℕ) (start z n : ℕ) → has p.range p.seen ≡ true → start ≡ min p.len (length xs) → z ≡ 0 → length xs ≤ most
      → output ys n ≡ emits (output (take (length xs - start) (drop start xs)) z) t → Counted p n ls p' ls'
      → writing p' (take start xs ++ (ys ++ drop (length xs - start) (drop start xs))) ls' ≡ put (writing p xs ls) t
  unfolding put
  put_in ys ls' start z n h e e0 m w e' = rw h (place_in p p' xs t ys ls ls' start z n e e0 m w e')

  -- a part that is not
  pub put_out : has p.range p.seen ≡ false → p' ≡ passed p → writing p' xs ls ≡ put (writing p xs ls) t
  unfolding put pass
  put_out h e = rw (h, e)

-- a decoded part: its text was sent to what was lent
module _ {A : Type 0} (text : A → List ℕ) (p p' : Progress) (xs ls ls' : List ℕ) (d : Res A) (ys : List ℕ) (start z n at : ℕ) where
  pub part_placed : start ≡ min p.len (length xs) → z ≡ 0 → length xs ≤ most → Sends text d (output (take (length xs - start) (drop start xs)) z) (output ys n) at → Counted p n ls p' ls'
      → Runs (λ v a. place v (text a)) d (writing p xs ls) (writing p' (take start xs ++ (ys ++ drop (length xs - start) (drop start xs))) ls') at
  unfolding Sends
  part_placed e e0 m w e' a q g = let v = w a q g in (v.0, place_in p p' xs (text a) ys ls ls' start z n e e0 m v.1 e')

  -- in the range
  pub part_in : has p.range p.seen ≡ true → start ≡ min p.len (length xs) → z ≡ 0 → length xs ≤ most
      → Sends text d (output (take (length xs - start) (drop start xs)) z) (output ys n) at → Counted p n ls p' ls'
      → Puts (λ a. text a ∷ []) d (writing p xs ls) (writing p' (take start xs ++ (ys ++ drop (length xs - start) (drop start xs))) ls') at
  unfolding Puts Sends puts
  part_in h e e0 m w e' a q g = let v = w a q g in (v.0, put_in p p' xs (text a) ls ys ls' start z n h e e0 m v.1 e')

-- parts one behind the other
pub puts_append : (w : Writing) (us vs : List (List ℕ)) → puts w (us ++ vs) ≡ puts (puts w us) vs
unfolding puts
puts_append w [] vs = refl
puts_append w (u ∷ us) vs = puts_append (put w u) us vs
