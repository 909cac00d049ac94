-- A number read from its highest byte down: the loop of number_at. And a number of twice as many bytes by its halves.
use mathlib.Core.Path.{◌≡◌, refl, sym, ap, ◌∙◌}
use mathlib.Core.List.{List, [], ◌∷◌, ◌++◌, append-nil, append_assoc}
use Prim.Native.Nat.{ℕ, zero, suc, ◌+◌, ◌*◌, ◌^◌, ◌<◌, ◌≤◌}
use native.Mathlib.Nat.{pow-suc, pow-succ', pow-le-pow_right, mul_assoc, zero-add, suc-add}
use native.Mathlib.Omega.{arith}
use lib.ListN.{length, take, drop, length-append, length-drop}
use lib.Seq.{drop-drop}
use Rattle.std.proofs.Common.{length-take-le}
use Rattle.task.specs.Decode.{got, refuse, little, raw, number}
use Rattle.task.proofs.Reading.{raw_got, number_fits, number_short, number_got, number_refused}

-- of the bytes w those before r's end are left, and v is the number in the others
pub record Taken (w r : List ℕ) (v : ℕ) : Type 0 where
  pub taken : List ℕ
  pub whole : w ≡ r ++ taken
  pub short : length w ≤ 8
  pub value : v ≡ little taken
  pub small : v < 256 ^ length taken

pub taken_start : (k : ℕ) (s : List ℕ) (at p : ℕ) (w v : List ℕ) → raw k s at ≡ got w p → k ≤ 8 → v ≡ w → Taken v v 0
taken_start k s at p w v h l e =
    let f = raw_got k s at w p h in
    let d : k ≤ length (drop at s) = rw (length-drop at s) (omega (arith, f.fits)) in
    let m : length v ≡ k = ap length (e ∙ f.are) ∙ length-take-le k (drop at s) d in
    record { taken = []; whole = sym (append-nil v); short = omega arith; value = refl; small = omega arith }

-- one byte more leaves room in 64 bits
pub taken_room : (w r q : List ℕ) (v b : ℕ) → Taken w r v → r ≡ q ++ (b ∷ []) → v * 256 + 255 < 2 ^ 64
taken_room w r q v b t e =
    let m = length t.taken in
    let l : length w ≡ length r + m = rw t.whole (length-append r t.taken) in
    let k : length r ≡ length q + 1 = rw e (length-append q (b ∷ [])) in
    let p : 256 ^ m ≤ 256 ^ 7 = pow-le-pow_right {n = 256} (omega arith) {i = m} {j = 7} (let h = t.short in omega arith) in
    let z = t.small in
    omega arith

pub taken_step : (w r q : List ℕ) (v b n : ℕ) → Taken w r v → r ≡ q ++ (b ∷ []) → n ≡ b → n < 256 → Taken w q (v * 256 + n)
taken_step w r q v b n t e f l =
    let z = t.small in
    record {
      taken = b ∷ t.taken;
      whole = t.whole ∙ rw e (append_assoc q (b ∷ []) t.taken);
      short = t.short;
      value = rw (← t.value) (omega arith);
      small = rw (pow-suc 256 (length t.taken)) (omega arith);
    }

pub taken_end : (k : ℕ) (s : List ℕ) (at p : ℕ) (w v r : List ℕ) (n : ℕ) → raw k s at ≡ got w p → v ≡ w → Taken v r n → length r ≡ 0 → number k s at ≡ got n p
taken_end k s at p w v [] n h e t l = rw (h, t.value, ← e, t.whole)
taken_end k s at p w v (b ∷ r) n h e t l = absurd (omega (arith, l))

-- the low bytes and the high ones
pub little_split : (m n : ℕ) (xs : List ℕ) → m ≤ length xs → little (take (m + n) xs) ≡ little (take m xs) + 256 ^ m * little (take n (drop m xs))
little_split zero n xs h = rw (zero-add n) (omega arith)
little_split (suc m) n [] h = absurd (omega arith)
little_split (suc m) n (x ∷ xs) h =
    let e = little_split m n xs (omega arith) in
    let p : 256 * (256 ^ m * little (take n (drop m xs))) ≡ 256 * 256 ^ m * little (take n (drop m xs)) = sym (mul_assoc 256 (256 ^ m) (little (take n (drop m xs)))) in
    rw (suc-add m n, e, pow-succ' 256 m) (omega arith)

module _ (s : List ℕ) (at : ℕ) where
  pub halves : (lo hi p q : ℕ) → number 8 s at ≡ got lo p → number 8 s p ≡ got hi q → number 16 s at ≡ got (lo + 2 ^ 64 * hi) q
  halves lo hi p q e f =
      let g = number_got 8 s at lo p e in
      let h = number_got 8 s p hi q f in
      let a : p ≡ at + 8 = g.end in
      let b : q ≡ at + 16 = omega (arith, h.end) in
      let c : at + 16 ≤ length s = omega (arith, h.fits) in
      let d : 8 ≤ length (drop at s) = rw (length-drop at s) (omega arith) in
      let v : little (take 16 (drop at s)) ≡ little (take 8 (drop at s)) + 256 ^ 8 * little (take 8 (drop 8 (drop at s))) = little_split 8 8 (drop at s) d in
      let u : drop 8 (drop at s) ≡ drop p s = rw (drop-drop 8 at s, a) in
      rw (number_fits 16 s at c, b, v, u, ← g.value, ← h.value)

  pub low_short : (k : ℕ) → number 8 s at ≡ refuse k → number 16 s at ≡ refuse k
  low_short k e =
      let h = number_refused 8 s at k e in
      number_short 16 s at (omega arith) ∙ sym (number_short 8 s at h) ∙ e

  pub high_short : (lo p k : ℕ) → number 8 s at ≡ got lo p → number 8 s p ≡ refuse k → number 16 s at ≡ refuse k
  high_short lo p k e f =
      let g = number_got 8 s at lo p e in
      let a = g.end in
      let h = number_refused 8 s p k f in
      number_short 16 s at (omega arith) ∙ sym (number_short 8 s p h) ∙ f
