-- Laws of sending: texts one behind the other, what stands in the buffer in the end, and a buffer that is lent from its middle.
use mathlib.Core.Path.{◌≡◌, refl, sym, ap, ◌∙◌}
use mathlib.Core.Logic.{⊎_elim}
use mathlib.Core.List.{List, [], ◌∷◌, ◌++◌, append-nil}
use Prim.Native.Nat.{ℕ, zero, suc, ◌+◌, ◌-◌, ◌<◌, ◌≤◌, min}
use native.Mathlib.Omega.{arith}
use native.Mathlib.Nat.{eq-or-lt_of_le, add-zero, add-suc, le_of_suc-le-suc}
use lib.ListN.{length, set, take, drop, get_or, length-set, take-append-drop, drop_of_length-le, length-take, length-drop}
use lib.Seq.{sets, set_out, take_all, take-set-le, drop-set-add}
use Rattle.task.proofs.Reading.{le_or_lt}
use Rattle.output.specs.Emit.{Output, output, most, emit, emits, Laid}

pub output_path : {b b' : List ℕ} {n n' : ℕ} → b ≡ b' → n ≡ n' → output b n ≡ output b' n'
output_path p q = λ i. record { buf = p i; len = q i }

pub emits_append : (o : Output) (xs ys : List ℕ) → emits o (xs ++ ys) ≡ emits (emits o xs) ys
unfolding emits
emits_append o [] ys = refl
emits_append o (x ∷ xs) ys = emits_append (emit o x) xs ys

-- behind the buffer's end nothing is stored
pub sets_out : (b : List ℕ) (n : ℕ) (t : List ℕ) → length b ≤ n → sets b n t ≡ b
sets_out b n [] h = refl
sets_out b n (x ∷ t) h = rw (set_out b n x h) (sets_out b (suc n) t (omega arith))

-- what is sent is stored, and its length is counted
pub emits_sets : (t b : List ℕ) (n : ℕ) → length b ≤ most → n ≤ most → emits (output b n) t ≡ output (sets b n t) (min (n + length t) most)
unfolding emits emit
emits_sets [] b n hb hn = output_path refl (omega arith)
emits_sets (x ∷ t) b n hb hn =
    ⊎_elim
    (λ (h : n ≡ most).
    let m : min (n + 1) most ≡ n = omega arith in
    let o : length b ≤ n = omega arith in
    let o' : length b ≤ suc n = omega arith in
    rw (m, set_out b n x o) (emits_sets t b n hb hn ∙ output_path (sets_out b n t o ∙ sym (sets_out b (suc n) t o')) (omega arith)))
    (λ (h : n < most).
    let m : min (n + 1) most ≡ suc n = omega arith in
    rw m (emits_sets t (set b n x) (suc n) (rw length-set hb) h ∙ output_path refl (omega arith)))
    (eq-or-lt_of_le hn)

pub laid : Laid
laid t b hb ht = emits_sets t b 0 hb (omega arith) ∙ output_path refl (omega arith)

-- one more byte of a text is stored
pub sets_step : (t b : List ℕ) (at i : ℕ) → i < length t → set (sets b at (take i t)) (at + i) (get_or t i 0) ≡ sets b at (take (i + 1) t)
sets_step [] b at i h = absurd (omega arith)
sets_step (x ∷ t) b at zero h = rw (add-zero at)
sets_step (x ∷ t) b at (suc i) h =
    let e : at + suc i ≡ suc at + i = omega arith in
    let f : suc i + 1 ≡ suc (i + 1) = omega arith in
    rw (e, f) (sets_step t (set b at x) (suc at) i (le_of_suc-le-suc h))

-- as many as fit are all that are stored
sets_all : (t b : List ℕ) (at i : ℕ) → min (length t) (length b - at) ≤ i → sets b at (take i t) ≡ sets b at t
sets_all [] b at zero h = refl
sets_all [] b at (suc i) h = refl
sets_all (x ∷ t) b at zero h = sym (sets_out b at (x ∷ t) (omega arith))
sets_all (x ∷ t) b at (suc i) h =
    sets_all t (set b at x) (suc at) i (let e : length (set b at x) ≡ length b = length-set b at x in omega arith)

-- `bytes`: what was copied and counted is what is sent
pub copied : (t b b' : List ℕ) (n m k : ℕ) → length b ≤ most → n ≤ most → b' ≡ sets b n (take k t) → min (length t) (length b - n) ≤ k → m ≡ min (n + length t) most
    → output b' m ≡ emits (output b n) t
copied t b b' n m k hb hn e h e' = output_path (e ∙ sets_all t b n k h) e' ∙ sym (emits_sets t b n hb hn)

-- where the buffer has no room for it, its length alone is needed
pub sent_out : (t b : List ℕ) (n m : ℕ) → length b ≤ n → n ≤ most → m ≡ min (n + length t) most → output b m ≡ emits (output b n) t
sent_out t b n m h hn e = output_path (sym (sets_out b n t h)) e ∙ sym (emits_sets t b n (omega arith) hn)

-- LENT FROM THE MIDDLE

-- a text stored behind the first n places
behind : (t xs : List ℕ) (n i : ℕ) → take n xs ++ sets (drop n xs) i t ≡ sets xs (n + i) t
behind [] xs n i = take-append-drop n xs
behind (a ∷ t) xs n i =
    rw (← take-set-le n xs (n + i) a (omega arith), ← drop-set-add n xs i a)
    (behind t (set xs (n + i) a) n (suc i) ∙ ap (λ (k : ℕ). sets (set xs (n + i) a) k t) (add-suc n i))

-- from there on, or from the end on if the place is behind it
from_least : (xs t : List ℕ) (n : ℕ) → take (min n (length xs)) xs ++ sets (drop (min n (length xs)) xs) 0 t ≡ sets xs n t
from_least xs t n =
    ⊎_elim
    (λ (h : n ≤ length xs).
    let e : min n (length xs) ≡ n = omega arith in
    rw e (behind t xs n 0 ∙ ap (λ (k : ℕ). sets xs k t) (add-zero n)))
    (λ (h : length xs < n).
    let e : min n (length xs) ≡ length xs = omega arith in
    let w : take n xs ≡ take (length xs) xs = take_all n xs (omega arith) ∙ sym (take_all (length xs) xs (omega arith)) in
    let d : drop n xs ≡ drop (length xs) xs = drop_of_length-le xs {i = n} (omega arith) ∙ sym (drop_of_length-le xs {i = length xs} (omega arith)) in
    rw (e, ← w, ← d) (behind t xs n 0 ∙ ap (λ (k : ℕ). sets xs k t) (add-zero n)))
    (le_or_lt n (length xs))

-- what was lent comes back between what stands before it and nothing
lent : (xs t ys : List ℕ) (n start : ℕ) → start ≡ min n (length xs) → ys ≡ sets (take (length xs - start) (drop start xs)) 0 t
    → take start xs ++ (ys ++ drop (length xs - start) (drop start xs)) ≡ sets xs n t
lent xs t ys n start e h =
    let all : take (length xs - start) (drop start xs) ≡ drop start xs = take_all (length xs - start) (drop start xs) (rw length-drop (omega arith)) in
    let none : drop (length xs - start) (drop start xs) ≡ [] = drop_of_length-le (drop start xs) {i = length xs - start} (rw length-drop (omega arith)) in
    rw (none, append-nil ys, h, all, e) (from_least xs t n)

-- a text that was sent to what was lent, and its length
pub sent_lent : (t xs ys : List ℕ) (n start z m : ℕ) → start ≡ min n (length xs) → z ≡ 0 → length xs ≤ most
    → output ys m ≡ emits (output (take (length xs - start) (drop start xs)) z) t
    → (take start xs ++ (ys ++ drop (length xs - start) (drop start xs)) ≡ sets xs n t) × (m ≡ min (length t) most)
sent_lent t xs ys n start z m e e0 h w =
    let tail = take (length xs - start) (drop start xs) in
    let o : output ys m ≡ output (sets tail 0 t) (min (0 + length t) most) = w ∙ rw e0 (emits_sets t tail 0 (rw (length-take, length-drop) (omega arith)) (omega arith)) in
    (lent xs t ys n start e (ap (λ (x : Output). x.buf) o), ap (λ (x : Output). x.len) o ∙ omega arith)
