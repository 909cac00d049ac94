-- The decimal of a number is a numeral, `decimal_spells`, and means that number, `decimal_means`; as many digits as the number has are enough
-- for it, `decimal_digits`.
use mathlib.Core.Path.{◌≡◌, refl, sym, ap, ◌∙◌}
use mathlib.Core.Bool.{Bool, true, false}
use mathlib.Core.List.{List, [], ◌∷◌, ◌++◌}
use Prim.Native.Nat.{ℕ, zero, suc, ◌+◌, ◌-◌, ◌*◌, ◌/◌, ◌%◌, ◌^◌, ◌≤◌, ◌<◌}
use native.Mathlib.Nat.{pow-suc, pow-succ', div-lt_iff_lt-mul}
use native.Mathlib.Omega.{arith}
use lib.Dec.{T, leb, ltb, eqb, eqb→eq, le→leb, ltb→lt, lt→ltb, nltb→le, not_T, lit<}
use Rattle.smtlib.specs.Lexicon.{digit, all, is_numeral, numeral}
use Rattle.smtlib.specs.Read.{as_word}
use Rattle.smtlib.specs.Compose.{digits, decimal, value}
use Rattle.smtlib.specs.Theorems.{DecimalSpells, DecimalDigits, DecimalMeans}
use Rattle.smtlib.proofs.Bools.{is_true, true_holds, false_fails, both, all_snoc}

is_digit : (n : ℕ) → n < 10 → T (digit (48 + n))
is_digit n h = both (leb 48 (48 + n)) (leb (48 + n) 57) (le→leb 48 (48 + n) (omega arith)) (le→leb (48 + n) 57 (omega arith))

-- digits of which the first is not `0`
Leads : List ℕ → Type 0
Leads [] = ⊥
Leads (b ∷ w) = T (digit b) × (b ≡ 48 → ⊥) × T (all digit w)

leads_snoc : (w : List ℕ) (b : ℕ) → Leads w → T (digit b) → Leads (w ++ (b ∷ []))
unfolding Leads
leads_snoc [] b h t = absurd h
leads_snoc (a ∷ w) b h t = (h.0, h.1, all_snoc digit w b h.2 t)

leads_numeral : (w : List ℕ) → Leads w → T (is_numeral w)
unfolding Leads
leads_numeral [] h = absurd h
leads_numeral (b ∷ []) h = h.0
leads_numeral (b ∷ c ∷ w) h =
    both (all digit (b ∷ c ∷ w)) _ (both (digit b) _ h.0 h.2) (not_T (eqb b 48) (λ t. h.1 (eqb→eq b 48 t)))

digits_lead : (f n : ℕ) → n < f → zero < n → Leads (digits f n)
unfolding Leads
digits_lead zero n h p = let z : ⊥ = omega arith in absurd z
digits_lead (suc f) n h p = go (ltb n 10) refl (digits_lead f (n / 10))
  where
    go : (v : Bool) → ltb n 10 ≡ v → (n / 10 < f → zero < n / 10 → Leads (digits f (n / 10))) → Leads (digits (suc f) n)
    go true e ih = let k : n < 10 = ltb→lt n 10 (true_holds e) in rw e (is_digit n k, omega arith, tt)
    go false e ih =
        let k : 10 ≤ n = nltb→le n 10 (false_fails e) in
        rw e (leads_snoc (digits f (n / 10)) (48 + n % 10) (ih (omega arith) (omega arith)) (is_digit (n % 10) (omega arith)))

decimal_numeral : (n : ℕ) → T (is_numeral (decimal n))
unfolding decimal
decimal_numeral zero = tt
decimal_numeral (suc n) = leads_numeral (decimal (suc n)) (digits_lead (suc (suc n)) (suc n) (omega arith) (omega arith))

pub decimal_spells : DecimalSpells
decimal_spells n = as_word numeral (decimal n) (decimal_numeral n)

-- with more than one digit, one place fewer is enough for the tenth
tenth : (f n : ℕ) → n < 10 ^ suc f → n / 10 < 10 ^ f
tenth f n h = (div-lt_iff_lt-mul {k = 10} {x = n} {y = 10 ^ f} (omega arith)).1 (rw (pow-suc 10 f) at h)

one_digit : (f n : ℕ) → ltb n 10 ≡ true → digits (suc f) n ≡ (48 + n) ∷ []
one_digit f n e = rw e

more_digits : (f n : ℕ) → ltb n 10 ≡ false → digits (suc f) n ≡ digits f (n / 10) ++ ((48 + n % 10) ∷ [])
more_digits f n e = rw e

digits_agree : (f g n : ℕ) → n < 10 ^ suc f → n < 10 ^ suc g → digits (suc f) n ≡ digits (suc g) n
digits_agree zero g n h k =
    let e : ltb n 10 ≡ true = is_true (ltb n 10) (lt→ltb n 10 h) in
    one_digit zero n e ∙ sym (one_digit g n e)
digits_agree (suc f) zero n h k =
    let e : ltb n 10 ≡ true = is_true (ltb n 10) (lt→ltb n 10 k) in
    one_digit (suc f) n e ∙ sym (one_digit zero n e)
digits_agree (suc f) (suc g) n h k = go (ltb n 10) refl (digits_agree f g (n / 10) (tenth (suc f) n h) (tenth (suc g) n k))
  where
    go : (v : Bool) → ltb n 10 ≡ v → digits (suc f) (n / 10) ≡ digits (suc g) (n / 10) → digits (suc (suc f)) n ≡ digits (suc (suc g)) n
    go true e ih = one_digit (suc f) n e ∙ sym (one_digit (suc g) n e)
    go false e ih = more_digits (suc f) n e ∙ ap (λ (w : List ℕ). w ++ ((48 + n % 10) ∷ [])) ih ∙ sym (more_digits (suc g) n e)

enough : (n : ℕ) → n < 10 ^ suc n
enough zero = lit< tt
enough (suc n) = let h = enough n in rw (pow-succ' 10 (suc n)) (omega arith)

pub decimal_digits : DecimalDigits
unfolding decimal
decimal_digits f n h = digits_agree n f n (enough n) h

-- one digit more
value_snoc : (m : ℕ) (w : List ℕ) (b : ℕ) → value m (w ++ (b ∷ [])) ≡ 10 * value m w + (b - 48)
value_snoc m [] b = refl
value_snoc m (a ∷ w) b = value_snoc (10 * m + (a - 48)) w b

value_digits : (f n : ℕ) → n < f → value 0 (digits f n) ≡ n
value_digits zero n h = let z : ⊥ = omega arith in absurd z
value_digits (suc f) n h = go (ltb n 10) refl (value_digits f (n / 10))
  where
    go : (v : Bool) → ltb n 10 ≡ v → (n / 10 < f → value 0 (digits f (n / 10)) ≡ n / 10) → value 0 (digits (suc f) n) ≡ n
    go true e ih = ap (value 0) (one_digit f n e) ∙ omega arith
    go false e ih =
        let k : 10 ≤ n = nltb→le n 10 (false_fails e) in
        let l : value 0 (digits f (n / 10)) ≡ n / 10 = ih (omega arith) in
        ap (value 0) (more_digits f n e) ∙ value_snoc 0 (digits f (n / 10)) (48 + n % 10) ∙ omega arith

pub decimal_means : DecimalMeans
unfolding decimal
decimal_means n = value_digits (suc n) n (omega arith)
