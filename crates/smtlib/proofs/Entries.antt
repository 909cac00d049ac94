-- A table's rule, proved once over the whole table, and what the last arm of a match tells.
use mathlib.Core.Path.{◌≡◌, refl, sym, ap, ◌∙◌, subst⁻¹}
use mathlib.Core.Bool.{Bool, true, false, ◌&&◌}
use Prim.Native.Nat.{ℕ, zero, suc, ◌+◌, ◌<◌, ◌≤◌}
use native.Mathlib.Nat.{add-zero, zero-add, add-suc, suc-add, le_of_suc-le-suc, not-suc-le-zero}
use native.Mathlib.Omega.{arith}
use lib.Dec.{T, eqb, eqb→eq}
use lib.ListN.{get_or}
use borrow.Author.Tests.{eqb-false}
use Rattle.smtlib.specs.Table.{values}
use Rattle.smtlib.proofs.Bools.{true_holds, and_left, and_right}

-- a test at every number below n
abbrev pub below : ℕ → (ℕ → Bool) → Bool
below zero p = true
below (suc n) p = p n && below n p

-- what the computed test says of each number
pub at_below : (n : ℕ) (p : ℕ → Bool) → T (below n p) → (k : ℕ) → k < n → T (p k)
at_below zero p t k h = absurd (not-suc-le-zero h)
at_below (suc n) p t k h = go (eqb k n) refl (λ g. at_below n p (and_right (p n) (below n p) t) k g)
  where
    go : (v : Bool) → eqb k n ≡ v → (k < n → T (p k)) → T (p k)
    go true e f = subst⁻¹ (λ (m : ℕ). T (p m)) (eqb→eq k n (true_holds e)) (and_left (p n) (below n p) t)
    go false e f = let ne : k ≡ n → ⊥ = eqb-false k n e in f (omega arith)

-- a table that lists the values of a function
value_from : (f : ℕ → ℕ) (i n k : ℕ) → k < n → get_or (values f i n) k 0 ≡ f (i + k)
value_from f i zero k h = absurd (not-suc-le-zero h)
value_from f i (suc n) zero h = ap f (sym (add-zero i))
value_from f i (suc n) (suc k) h = value_from f (suc i) n k (le_of_suc-le-suc h) ∙ ap f (suc-add i k ∙ sym (add-suc i k))

pub value_at : (f : ℕ → ℕ) (n k : ℕ) → k < n → get_or (values f 0 n) k 0 ≡ f k
value_at f n k h = value_from f 0 n k h ∙ ap f (zero-add k)

-- what the last arm of a match over the numbers from 0 tells: x is none of the k before it
abbrev pub NoneOf : ℕ → ℕ → Type 0
NoneOf zero x = Unit
NoneOf (suc k) x = NoneOf k x × (x ≡ k → ⊥)

pub beyond : (k x : ℕ) → NoneOf k x → k ≤ x
beyond zero x t = omega arith
beyond (suc k) x t = let h = beyond k x t.0 in let g = t.1 in omega arith
