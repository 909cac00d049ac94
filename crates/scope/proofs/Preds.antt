-- What the steps of the walk over predicates add up to, and what the table says of KVars before and behind a scope.
use Rattle.std.specs.Prelude.{Ok, Err, Option as Found, Some, None}
use mathlib.Core.Path.{◌≡◌, refl, sym, ap, ◌∙◌}
use mathlib.Core.Bool.{Bool, cond}
use mathlib.Core.List.{List, [], ◌∷◌, ◌++◌, append-nil}
use mathlib.Core.Option.{Option, some, none}
use Prim.Native.Nat.{ℕ, suc, ◌+◌, ◌*◌, ◌-◌, ◌<◌}
use native.Mathlib.Omega.{arith}
use lib.ListN.{length}
use borrow.Author.Tests.{eq-eqb, ne_eqb}
use Rattle.smtlib.specs.Lexicon.{is_one}
use Rattle.task.specs.declared.Fault.{Fault}
use Rattle.task.specs.declared.Fault.TheVariants.{Unknown, Arguments, Sound}
use Rattle.task.specs.declared.Refusal.{Refusal}
use Rattle.task.specs.declared.PredNode.{PredNode}
use Rattle.task.specs.declared.PredNode.TheVariants as pred_node
use Rattle.task.specs.Ast.{Expr, Exprs, Pred}
use Rattle.task.specs.Decode.{Res, got, refuse, bind, number, many, name, dec_expr, dec_pred}
use Rattle.task.specs.Fault.{each}
use Rattle.task.specs.Scope.{Globals, exprs_number, arguments_fault, pred_scope}
use Rattle.task.specs.Node.{Bytes, pred_of, PredAt}
use Rattle.task.specs.Refusals.{number_of}
use Rattle.task.proofs.Nodes.{pred_at}
use Rattle.item_check.proofs.Walks.{many_size}
use Rattle.task_check.specs.Walk.{walked, after}
use Rattle.task_check.proofs.Rows.{Fold}
use Rattle.names.specs.Table.{Symbol, offset_of, entries, or_else, last_from, last_of, fits, names_of, Chained}
use Rattle.names.specs.Change.{Kept, Restored}
use Rattle.names.proofs.Theorems.{searches, names_append, restored_all}
use Rattle.declared.specs.Arity.{value_of, size_at, size_found, arity_in}
use Rattle.scope.specs.Known.{taken_in, globals_in, expr_in, exprs_in, pred_in, Space}
use Rattle.scope.proofs.Tables.{space_on, vars_kept, ctors_kept, ctors_more, bound_all}

-- KVARS

-- a search among more entries, none of which is found
last_more : (p : Symbol → Bool) (i : ℕ) (es fs : List Symbol) → ((j : ℕ) → last_from p j fs ≡ None) → last_from p i (es ++ fs) ≡ last_from p i es
unfolding last_from
last_more p i [] fs h = h i
last_more p i (e ∷ es) fs h = ap (λ (f : Found ℕ). or_else f (cond (p e) (Some i) None)) (last_more p (suc i) es fs h)

-- a bound name is no KVar
bound_none : (x : List ℕ) (xs : List (List ℕ)) (i : ℕ) → last_from (fits x 1 1) i (bound_all xs) ≡ None
unfolding last_from fits
bound_none x [] i = refl
bound_none x (y ∷ xs) i = ap (λ (f : Found ℕ). or_else f None) (bound_none x xs (suc i))

module _ (s t u : List ℕ) (k : Kept t u) where
  -- the same entry is found at the same place
  arity_same : ((x : List ℕ) → last_of (fits x 1 1) (entries s u) ≡ last_of (fits x 1 1) (entries s t)) → arity_in s u ≡ arity_in s t
  unfolding arity_in
  arity_same h = λ i x. one x i
    where
      one : (x : List ℕ) → size_found s u (last_of (fits x 1 1) (entries s u)) ≡ size_found s t (last_of (fits x 1 1) (entries s t))
      one x = ap (size_found s u) (h x) ∙ go (last_of (fits x 1 1) (entries s t)) refl
        where
          go : (f : Found ℕ) → last_of (fits x 1 1) (entries s t) ≡ f → size_found s u f ≡ size_found s t f
          go (Some j) e = ap (size_at s) (k.places j ((searches s t x 1 1).entry_below j e))
          go None e = refl

  pub arity_kept : entries s u ≡ entries s t → arity_in s u ≡ arity_in s t
  arity_kept e = arity_same (λ x. ap (last_of (fits x 1 1)) e)

  pub arity_more : (xs : List (List ℕ)) → entries s u ≡ entries s t ++ bound_all xs → arity_in s u ≡ arity_in s t
  arity_more xs e = arity_same (λ x. ap (last_of (fits x 1 1)) e ∙ last_more (fits x 1 1) 0 (entries s t) (bound_all xs) (bound_none x xs))

-- THE WHOLE CONSTRAINT

-- what a table says, part by part
globals : {a a' : List ℕ → Bool} {b b' : List (List ℕ)} {c c' : List ℕ → Option ℕ} → a ≡ a' → b ≡ b' → c ≡ c'
    → ◌≡◌ {A = Globals} (record { taken = a; ctors = b; arity = c }) (record { taken = a'; ctors = b'; arity = c' })
globals p q r = λ i. record { taken = p i; ctors = q i; arity = r i }

bound_untaken : (xs : List (List ℕ)) → names_of 1 5 (bound_all xs) ≡ []
unfolding names_of
bound_untaken [] = refl
bound_untaken (x ∷ xs) = bound_untaken xs

module _ (s t u : List ℕ) where
  pub globals_kept : Restored s t u → globals_in s u ≡ globals_in s t
  unfolding globals_in taken_in
  globals_kept r = globals (ap {B = List ℕ → Bool} (λ (es : List Symbol). λ (x : List ℕ). is_one x (names_of 1 5 es)) r.are) (ctors_kept s t u r.are) (arity_kept s t u r.kept r.are)

  pub globals_more : (xs : List (List ℕ)) → Kept t u → entries s u ≡ entries s t ++ bound_all xs → globals_in s u ≡ globals_in s t
  unfolding globals_in taken_in
  globals_more xs k e =
      globals
      (ap {B = List ℕ → Bool} (λ (ws : List (List ℕ)). λ (x : List ℕ). is_one x ws)
      (ap (names_of 1 5) e ∙ names_append 1 5 (entries s t) (bound_all xs) ∙ ap (λ (ws : List (List ℕ)). names_of 1 5 (entries s t) ++ ws) (bound_untaken xs) ∙ append-nil (names_of 1 5 (entries s t))))
      (ctors_more s t u xs e)
      (arity_more s t u k xs e)

  pub pred_kept : Restored s t u → pred_in s u ≡ pred_in s t
  pred_kept r = rw (globals_kept r, vars_kept s t u r.are)

-- A KVAR'S ARGUMENTS

module _ (s : List ℕ) (at : ℕ) where
  pub size_unnamed : (j : ℕ) → name s at ≡ refuse j → size_at s at ≡ none
  unfolding size_at
  size_unnamed j e = rw e

  pub size_read : (y : List ℕ) (p : ℕ) (x : Res ℕ) → name s at ≡ got y p → number 2 s p ≡ x → size_at s at ≡ value_of x
  unfolding size_at
  size_read y p x e i = rw (e, i)

module _ (s t x : List ℕ) (n : ℕ) (f : Found ℕ) (u : f ≡ last_of (fits x 1 1) (entries s t)) where
  found_size : arity_in s t x ≡ size_found s t f
  unfolding arity_in
  found_size = ap (size_found s t) (sym u)

  pub no_kvar : f ≡ None → Unknown ≡ arguments_fault (arity_in s t x) n
  no_kvar g = sym (ap (λ (o : Option ℕ). arguments_fault o n) (found_size ∙ ap (size_found s t) g))

  module _ (k : ℕ) (g : f ≡ Some k) where
    pub kvar_inside : Chained s t → 1026 + 3 * k + 1 < length t
    kvar_inside c =
        let z : last_of (fits x 1 1) (entries s t) ≡ Some k = sym u ∙ g in
        let b = (searches s t x 1 1).entry_below k z in
        let r = c.room in
        omega arith

    module _ (o : ℕ) (i : o ≡ offset_of t k) where
      by_size : (v : Option ℕ) → size_at s o ≡ v → arity_in s t x ≡ v
      by_size v j = found_size ∙ ap (size_found s t) g ∙ ap (size_at s) (sym i) ∙ j

      pub kvar_unsized : size_at s o ≡ none → Unknown ≡ arguments_fault (arity_in s t x) n
      kvar_unsized j = sym (ap (λ (o : Option ℕ). arguments_fault o n) (by_size none j))

      module _ (a : ℕ) (j : size_at s o ≡ some a) where
        pub kvar_counted : n ≡ a → Sound ≡ arguments_fault (arity_in s t x) n
        kvar_counted z = sym (ap (λ (o : Option ℕ). arguments_fault o n) (by_size (some a) j) ∙ rw (eq-eqb n a z))

        pub kvar_miscounted : (n ≡ a → ⊥) → Arguments ≡ arguments_fault (arity_in s t x) n
        kvar_miscounted z = sym (ap (λ (o : Option ℕ). arguments_fault o n) (by_size (some a) j) ∙ rw (ne_eqb n a z))

-- A PREDICATE

pub preds_fold : (s t : List ℕ) → Fold [] ◌∷◌ (pred_in s t) (each (pred_in s t))
preds_fold s t = record { none = refl; step = λ p ps. refl }

pub pred_none : (s t : List ℕ) (l at : ℕ) → l ≡ 0 → Space s t at → (refuse 3 ≡ walked (pred_in s t) (dec_pred l s at)) × Restored s t t
unfolding dec_pred
pred_none s t l at e c = (rw e, restored_all s t c.chained)

module _ (s t : List ℕ) (l at : ℕ) (z : l ≡ 0 → ⊥) where
  pub pred_refused : (r : Refusal) → PredAt s at (Err r) → Space s t at → (refuse (number_of r) ≡ walked (pred_in s t) (dec_pred l s at)) × Restored s t t
  unfolding pred_of
  pred_refused r h c = (ap (walked (pred_in s t)) (sym (pred_at l s at (Err r) (Err r) z h refl)), restored_all s t c.chained)

  module _ (node : PredNode) (p : ℕ) (h : PredAt s at (Ok (node, p))) where
    by_node : (k : PredNode) → node ≡ k → dec_pred l s at ≡ pred_of s (dec_expr (l - 1)) (Ok (k, p))
    by_node k e = pred_at l s at (Ok (node, p)) (Ok (k, p)) z h (rw e)

    pub pred_space : Space s t at → Space s t p
    pred_space c = let b = h.behind in space_on s t at p c (omega arith)

    pub pred_kvar : (x : Bytes) (n : ℕ) (f : Fault) (v w : Res Fault) (u : List ℕ) → node ≡ pred_node.KVar x n → f ≡ arguments_fault (arity_in s t x.now) n
        → (v ≡ walked (exprs_in s t) (many Exprs.none Exprs.more (dec_expr (l - 1)) n s p)) × Restored s t u → w ≡ after f v
        → (w ≡ walked (pred_in s t) (dec_pred l s at)) × Restored s t u
    unfolding pred_of pred_scope globals_in
    pred_kvar x n f v w u e i k m =
        (rw (by_node (pred_node.KVar x n) e) (m ∙ ap (after f) k.0 ∙ go (many Exprs.none Exprs.more (dec_expr (l - 1)) n s p) refl), k.1)
      where
        go : (y : Res Exprs) → many Exprs.none Exprs.more (dec_expr (l - 1)) n s p ≡ y → after f (walked (exprs_in s t) y) ≡ walked (pred_in s t) (bind y (λ es q. got (Pred.kvar x.now es) q))
        go (got es q) g = let j = many_size Exprs.none Exprs.more exprs_number refl (λ a r. refl) (dec_expr (l - 1)) s n p es q g in ap (λ (z : Fault). got z q) (rw (i, ← j))
        go (refuse j) g = refl

    pub pred_expr : (w : Res Fault) (u : List ℕ) → node ≡ pred_node.Expr → (w ≡ walked (expr_in s t) (dec_expr (l - 1) s p)) × Restored s t u
        → (w ≡ walked (pred_in s t) (dec_pred l s at)) × Restored s t u
    unfolding pred_of pred_scope globals_in
    pred_expr w u e k = (rw (by_node pred_node.Expr e) (k.0 ∙ go (dec_expr (l - 1) s p)), k.1)
      where
        go : (y : Res Expr) → walked (expr_in s t) y ≡ walked (pred_in s t) (bind y (λ a q. got (Pred.expr a) q))
        go (got a q) = refl
        go (refuse j) = refl
