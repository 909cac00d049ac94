-- The decimal of a number of two halves, nine digits at a step: the digits of a step, and what the steps add up to.
use mathlib.Core.Path.{◌≡◌, sym, ap, ◌∙◌}
use mathlib.Core.Bool.{Bool, true, false}
use mathlib.Core.Logic.{⊎_elim}
use mathlib.Core.List.{List, [], ◌∷◌, ◌++◌, append_assoc, append-nil}
use Prim.Native.Nat.{ℕ, zero, suc, ◌+◌, ◌*◌, ◌-◌, ◌/◌, ◌%◌, ◌^◌, ◌<◌, ◌≤◌}
use native.Mathlib.Omega.{arith}
use native.Mathlib.Nat.{pow-suc, pow-succ', zero-add, suc-add, one-le-pow, div-lt_iff_lt-mul, le-div_iff_mul-le, div-add-mod, mod-lt, mul_assoc, mul-le-mul, pow-le-pow_right}
use lib.Dec.{ltb, lit<}
use lib.ListN.{length, drop, set, length-set, length-drop, length-append}
use lib.Seq.{drop-cons, get_or-set_same, drop-set-lt}
use borrow.Author.Tests.{ltb-true, ltb-false, lt-ltb, le-ltb}
use Rattle.smtlib.specs.Compose.{digits, decimal}
use Rattle.smtlib.proofs.Decimal.{decimal_digits}
use Rattle.task.proofs.Reading.{le_or_lt}
use Rattle.output.specs.Digits.{padded}

-- the number of two halves
abbrev pub whole : ℕ → ℕ → ℕ
whole lo hi = lo + 2 ^ 64 * hi

-- DIGITS

-- a number n has at most n + 1 digits
enough : (n : ℕ) → n < 10 ^ suc n
enough zero = lit< tt
enough (suc n) = let h = enough n in rw (pow-succ' 10 (suc n)) (omega arith)

-- the decimal of a number below ten
one_digit : (n : ℕ) → n < 10 → decimal n ≡ (48 + n) ∷ []
unfolding decimal
one_digit n h = rw (lt-ltb n 10 h)

-- the last digit, behind the decimal of the others
last_digit : (n : ℕ) → 10 ≤ n → decimal n ≡ decimal (n / 10) ++ ((48 + n % 10) ∷ [])
last_digit n h =
    let e : decimal (n / 10) ≡ digits (suc n) (n / 10) = decimal_digits n (n / 10) (let g = enough n in omega arith) in
    decimal_digits (suc n) n (let g = enough n in rw (pow-succ' 10 (suc n)) (omega arith)) ∙ rw (le-ltb n 10 h, e)

-- the last k digits, behind the decimal of the others: put together, and of one number
split : (k q r : ℕ) → 1 ≤ q → r < 10 ^ k → decimal (10 ^ k * q + r) ≡ decimal q ++ padded k r
split zero q r p h =
    let e : 1 * q + r ≡ q = omega arith in
    rw e (sym (append-nil (decimal q)))
split (suc k) q r p h =
    let n = 10 ^ suc k * q + r in
    let l : 1 ≤ 10 ^ k * q = mul-le-mul {m₁ = 1} (one-le-pow k 10 (omega arith)) p in
    let t : n ≡ 10 * (10 ^ k * q) + r = ap (λ (x : ℕ). x * q + r) (pow-succ' 10 k) ∙ ap (λ (x : ℕ). x + r) (mul_assoc 10 (10 ^ k) q) in
    let d : n / 10 ≡ 10 ^ k * q + r / 10 = omega arith in
    let m : n % 10 ≡ r % 10 = omega arith in
    last_digit n (omega arith) ∙ rw (d, m, split k q (r / 10) p (omega arith)) (append_assoc (decimal q) (padded k (r / 10)) ((48 + r % 10) ∷ []))

cut : (k n : ℕ) → 10 ^ k ≤ n → decimal n ≡ decimal (n / 10 ^ k) ++ padded k (n % 10 ^ k)
cut k n h =
    let p : 1 ≤ 10 ^ k = one-le-pow k 10 (omega arith) in
    ap decimal (sym (div-add-mod n (10 ^ k))) ∙ split k (n / 10 ^ k) (n % 10 ^ k) ((le-div_iff_mul-le p).1 (omega arith)) (mod-lt n p)

-- a byte that is put before what stands behind its place
put : (w l : List ℕ) (at x : ℕ) → at < length l → w ++ drop at (set l at x) ≡ (w ++ (x ∷ [])) ++ drop (suc at) l
put w l at x h =
    let g : at < length (set l at x) = simp length-set (omega arith) in
    rw (drop-cons (set l at x) at 0 g, get_or-set_same l at x 0 h, drop-set-lt (suc at) l at x (omega arith)) (sym (append_assoc w (x ∷ []) (drop (suc at) l)))

-- `fill`: i of the nine digits of n stand before e, and the others are those of m.
pub record Nine (n e : ℕ) (b l : List ℕ) (i m : ℕ) : Type 0 where
  pub some : i ≤ 9
  pub size : length l ≡ length b
  pub are : padded (9 - i) m ++ drop (e - i) l ≡ padded 9 n ++ drop e b

module _ (n e : ℕ) (b : List ℕ) where
  pub nine_more : (l : List ℕ) (i m : ℕ) → 9 ≤ e → e ≤ length b → Nine n e b l i m → i < 9 → Nine n e b (set l (e - 1 - i) (48 + m % 10)) (i + 1) (m / 10)
  nine_more l i m p q f h =
      let k : 9 - i ≡ suc (9 - (i + 1)) = omega arith in
      let at : e - i ≡ suc (e - 1 - i) = omega arith in
      let next : e - (i + 1) ≡ e - 1 - i = omega arith in
      record {
        some = omega arith;
        size = length-set l (e - 1 - i) (48 + m % 10) ∙ f.size;
        are = rw next (put (padded (9 - (i + 1)) (m / 10)) l (e - 1 - i) (48 + m % 10) (omega (arith, f.size)) ∙ rw (k, at) at f.are);
      }

-- `fill_last`: the digits of n that are left are those of m, up to place i.
pub record Last (n e : ℕ) (b l : List ℕ) (i m : ℕ) : Type 0 where
  pub place : i < e
  pub size : length l ≡ length b
  pub fits : m < 10 ^ suc i
  pub are : decimal m ++ drop (suc i) l ≡ decimal n ++ drop e b

module _ (n e : ℕ) (b : List ℕ) where
  module _ (l : List ℕ) (i m : ℕ) (q : e ≤ length b) (f : Last n e b l i m) where
    pub last_room : 10 ≤ m → 1 ≤ i
    last_room h = ⊎_elim (λ (z : i ≤ 0). let u : i ≡ 0 = omega arith in let w : m < 10 = rw u at f.fits in absurd (omega arith)) (λ (z : 0 < i). z) (le_or_lt i 0)

    pub last_more : 10 ≤ m → Last n e b (set l i (48 + m % 10)) (i - 1) (m / 10)
    last_more h =
        let p : 1 ≤ i = last_room h in
        let k : suc (i - 1) ≡ i = omega arith in
        record {
          place = omega (arith, f.place);
          size = length-set l i (48 + m % 10) ∙ f.size;
          fits = rw k (let g = rw (pow-succ' 10 i) at f.fits in omega arith);
          are = rw k (put (decimal (m / 10)) l i (48 + m % 10) (omega (arith, f.place, f.size)) ∙ rw (last_digit m h) at f.are);
        }

    pub last_end : m < 10 → drop i (set l i (48 + m)) ≡ decimal n ++ drop e b
    last_end h = put [] l i (48 + m) (omega (arith, f.place, f.size)) ∙ rw (one_digit m h) at f.are

-- the power of a sum
pow_add : (k e : ℕ) → 10 ^ (k + e) ≡ 10 ^ e * 10 ^ k
pow_add zero e = rw (zero-add e) (omega arith)
pow_add (suc k) e = rw (suc-add k e, pow-suc 10 (k + e), pow_add k e, pow-suc 10 k) (mul_assoc (10 ^ e) (10 ^ k) 10)

-- without its last k digits a number has k digits fewer
fewer : (k e v : ℕ) → v < 10 ^ (k + e) → v / 10 ^ k < 10 ^ e
fewer k e v h = (div-lt_iff_lt-mul {k = 10 ^ k} {x = v} {y = 10 ^ e} (one-le-pow k 10 (omega arith))).1 (rw (pow_add k e) at h)

-- `digits_of`: the digits of the decimal d from e on are told, and stand there if they are kept; the others are those of v.
pub record Filling (d : List ℕ) (keep : Bool) (l : List ℕ) (e v : ℕ) : Type 0 where
  pub some : 1 ≤ e
  pub place : e ≤ 45
  pub size : length l ≡ 45
  pub fits : v < 10 ^ e
  pub count : length (decimal v) + (45 - e) ≡ length d
  pub are : keep ≡ true → decimal v ++ drop e l ≡ d

module _ (d l : List ℕ) (keep : Bool) (e lo hi : ℕ) (t : Bool) (f : Filling d keep l e (whole lo hi)) (u : t ≡ ltb (whole lo hi) (10 ^ 9)) where
  -- a number of more than nine digits leaves room for others before the nine
  pub room_left : t ≡ false → 9 < e
  room_left z =
      let g : 10 ^ 9 ≤ whole lo hi = ltb-false (whole lo hi) (10 ^ 9) (sym u ∙ z) in
      ⊎_elim (λ (h : e ≤ 9). absurd (no (whole lo hi) (10 ^ e) f.fits g (pow-le-pow_right {n = 10} (omega arith) h))) (λ (h : 9 < e). h) (le_or_lt e 9)
    where
      no : (v p : ℕ) → v < p → 10 ^ 9 ≤ v → p ≤ 10 ^ 9 → ⊥
      no v p a b c = omega arith

  module _ (l' : List ℕ) (lo' hi' r : ℕ) (z : t ≡ false) (w : whole lo' hi' ≡ whole lo hi / 10 ^ 9) (y : r ≡ whole lo hi % 10 ^ 9) where
    -- nine digits are told, and stand there if they are kept
    step : length l' ≡ 45 → (keep ≡ true → drop (e - 9) l' ≡ padded 9 r ++ drop e l) → Filling d keep l' (e - 9) (whole lo' hi')
    step s k =
        let p : 9 < e = room_left z in
        let g : 10 ^ 9 ≤ whole lo hi = ltb-false (whole lo hi) (10 ^ 9) (sym u ∙ z) in
        let c : decimal (whole lo hi) ≡ decimal (whole lo' hi') ++ padded 9 r = rw (w, y) (cut 9 (whole lo hi) g) in
        let n : length (decimal (whole lo hi)) ≡ length (decimal (whole lo' hi')) + 9 = ap length c ∙ simp length-append in
        record {
          some = omega arith;
          place = omega (arith, f.place);
          size = s;
          fits = rw w (fewer 9 (e - 9) (whole lo hi) (let q : 9 + (e - 9) ≡ e = omega arith in rw q f.fits));
          count = omega (arith, f.count, f.place);
          are = λ kept. rw (k kept) (sym (append_assoc (decimal (whole lo' hi')) (padded 9 r) (drop e l)) ∙ rw c at (f.are kept));
        }

    -- they are kept
    pub step_kept : (l₁ : List ℕ) → l' ≡ l₁ → length l₁ ≡ length l → drop (e - 9) l₁ ≡ padded 9 r ++ drop e l → Filling d keep l' (e - 9) (whole lo' hi')
    step_kept l₁ q s k = step (ap length q ∙ s ∙ f.size) (λ _. rw q k)

    -- they are not
    pub step_told : l' ≡ l → keep ≡ false → Filling d keep l' (e - 9) (whole lo' hi')
    step_told q n = step (ap length q ∙ f.size) (λ k. let x : ◌≡◌ {A = ℕ} 0 1 = cc in absurd (omega arith))

  -- the last digits: the high half is 0
  low_only : t ≡ true → whole lo hi ≡ lo
  low_only z = let s : whole lo hi < 10 ^ 9 = ltb-true (whole lo hi) (10 ^ 9) (sym u ∙ z) in omega arith

  pub filled : (l' : List ℕ) (start : ℕ) → t ≡ true → length l' ≡ 45 → drop start l' ≡ decimal lo ++ drop e l → start < e
      → (keep ≡ true → drop start l' ≡ d) × (45 - start ≡ length d) × (start < 45) × (length l' ≡ 45)
  filled l' start z s w h =
      let v : whole lo hi ≡ lo = low_only z in
      let n : length l' - start ≡ length (decimal lo) + (length l - e) = sym (length-drop start l') ∙ ap length w ∙ simp (length-append, length-drop) in
      let c : length (decimal lo) + (45 - e) ≡ length d = rw v at f.count in
      ((λ kept. w ∙ rw v at (f.are kept)), omega (arith, f.size), omega (arith, f.place), s)
