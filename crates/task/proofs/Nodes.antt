-- A piece by its node: what a decoder with levels left gives where the node of a piece is known.
use Prim.Native.Nat.{ℕ, zero, suc, ◌-◌}
use mathlib.Core.Path.{◌≡◌, refl, ap, ◌∙◌}
use mathlib.Core.List.{List}
use native.Mathlib.Numerals.{sub-one}
use Rattle.task.specs.declared.SortNode.{SortNode}
use Rattle.task.specs.declared.ExprNode.{ExprNode}
use Rattle.task.specs.declared.PredNode.{PredNode}
use Rattle.task.specs.declared.ConstraintNode.{ConstraintNode}
use Rattle.task.specs.Decode.{dec_sort, dec_expr, dec_pred, dec_constraint}
use Rattle.task.specs.Node.{Answered, sort_of, SortAt, expr_of, ExprAt, pred_of, PredAt, constraint_of, ConstraintAt}

-- what is known one level below is known of levels that are not none
below : {A : Type 0} (f g : ℕ → A) → ((k : ℕ) → f (suc k) ≡ g k) → (l : ℕ) → (l ≡ 0 → ⊥) → f l ≡ g (l - 1)
below f g h zero z = absurd (z refl)
below f g h (suc k) z = rw (sub-one (suc k)) (h k)

module _ (l : ℕ) (s : List ℕ) (at : ℕ) where
  pub sort_at : (n n' : Answered SortNode) → (l ≡ 0 → ⊥) → SortAt s at n → n ≡ n' → dec_sort l s at ≡ sort_of s (dec_sort (l - 1)) n'
  unfolding dec_sort SortAt
  sort_at n n' z h e = below (λ k. dec_sort k s at) (λ k. sort_of s (dec_sort k) n') (λ k. h (dec_sort k) ∙ ap (sort_of s (dec_sort k)) e) l z

  pub expr_at : (n n' : Answered ExprNode) → (l ≡ 0 → ⊥) → ExprAt s at n → n ≡ n' → dec_expr l s at ≡ expr_of s (l - 1) (dec_expr (l - 1)) n'
  unfolding dec_expr
  expr_at n n' z h e = below (λ k. dec_expr k s at) (λ k. expr_of s k (dec_expr k) n') (λ k. h.is k (dec_expr k) ∙ ap (expr_of s k (dec_expr k)) e) l z

  pub pred_at : (n n' : Answered PredNode) → (l ≡ 0 → ⊥) → PredAt s at n → n ≡ n' → dec_pred l s at ≡ pred_of s (dec_expr (l - 1)) n'
  unfolding dec_pred
  pred_at n n' z h e = below (λ k. dec_pred k s at) (λ k. pred_of s (dec_expr k) n') (λ k. h.is (dec_expr k) ∙ ap (pred_of s (dec_expr k)) e) l z

  pub constraint_at : (n n' : Answered ConstraintNode) → (l ≡ 0 → ⊥) → ConstraintAt s at n → n ≡ n' → dec_constraint l s at ≡ constraint_of s (l - 1) (dec_constraint (l - 1)) n'
  unfolding dec_constraint
  constraint_at n n' z h e = below (λ k. dec_constraint k s at) (λ k. constraint_of s k (dec_constraint k) n') (λ k. h.is k (dec_constraint k) ∙ ap (constraint_of s k (dec_constraint k)) e) l z
