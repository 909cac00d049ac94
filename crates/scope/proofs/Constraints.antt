-- What the steps of the walk over a constraint add up to, with premises in the form in which the code's steps give them.
use Rattle.std.specs.Prelude.{Ok, Err, Option as Found, is_some}
use mathlib.Core.Path.{◌≡◌, refl, sym, ap, ◌∙◌}
use mathlib.Core.Bool.{Bool, true, false, not}
use mathlib.Core.List.{List, [], ◌∷◌, ◌++◌}
use Prim.Native.Nat.{ℕ, ◌*◌, ◌-◌, ◌<◌}
use native.Mathlib.Omega.{arith}
use lib.ListN.{length}
use Rattle.smtlib.specs.Lexicon.{is_one}
use Rattle.task.specs.declared.Fault.{Fault}
use Rattle.task.specs.declared.Fault.TheVariants.{Clash, Sound}
use Rattle.task.specs.declared.Refusal.{Refusal}
use Rattle.task.specs.declared.ConstraintNode.{ConstraintNode}
use Rattle.task.specs.declared.ConstraintNode.TheVariants as constraint_node
use Rattle.task.specs.Ast.{Sort, Pred, Constraint, Constraints}
use Rattle.task.specs.Decode.{Res, got, refuse, bind, number, many, name, dec_sort, dec_pred, dec_constraint}
use Rattle.task.specs.Fault.{lower, unless, each, sort_fault}
use Rattle.task.specs.Scope.{pred_scope, constraint_names}
use Rattle.task.specs.Node.{constraint_of, ConstraintAt}
use Rattle.task.specs.Refusals.{number_of}
use Rattle.task.proofs.Nodes.{constraint_at}
use Rattle.task.proofs.Covering.{forward, covers_many, covers_less, covers_number}
use Rattle.task.proofs.Pieces.{each_covers, wide_names}
use Rattle.task_check.specs.Walk.{walked, after}
use Rattle.task_check.proofs.Rows.{Fold, next_is, refused_is}
use Rattle.task_check.proofs.Exprs.{stops, goes, lasts}
use Rattle.constraint_check.specs.Around.{for_all}
use Rattle.names.specs.Table.{entries, last_of, fits}
use Rattle.names.specs.Change.{Pushed, Popped, Restored}
use Rattle.names.proofs.Theorems.{restored_all, restored_both, scope_ends}
use Rattle.scope.specs.Known.{taken_in, vars_in, globals_in, pred_in, constraint_in, constraints_in, Space}
use Rattle.scope.specs.Walk.{Under, under_form, under_in}
use Rattle.scope.proofs.Tables.{space_on, space_kept, walked_on, vars_kept, vars_more, bound_one, bound_all}
use Rattle.scope.proofs.Exprs.{found_one}
use Rattle.scope.proofs.Preds.{globals_kept, globals_more}

pub constraint_kept : (s t u : List ℕ) → Restored s t u → constraint_in s u ≡ constraint_in s t
constraint_kept s t u r = rw (globals_kept s t u r, vars_kept s t u r.are)

pub members_fold : (s t : List ℕ) → Fold Constraints.none Constraints.more (constraint_in s t) (constraints_in s t)
unfolding constraint_names
members_fold s t = record { none = refl; step = λ c cs. refl }

-- A FORALL'S NAME

-- it is found in the table exactly if it is taken: the kinds that are sought are 1 to 5
module _ (s table x : List ℕ) (f : Found ℕ) (u : f ≡ last_of (fits x 1 5) (entries s table)) (b : Bool) (e : b ≡ is_some f) where
  found_taken : b ≡ is_one x (taken_in s table)
  unfolding taken_in
  found_taken = e ∙ found_one s table x 1 5 f u

  pub name_clashes : b ≡ true → Clash ≡ unless (not (is_one x (taken_in s table))) Clash
  name_clashes t = let z : is_one x (taken_in s table) ≡ true = sym found_taken ∙ t in rw z

  pub name_free : b ≡ false → Sound ≡ unless (not (is_one x (taken_in s table))) Clash
  name_free t = let z : is_one x (taken_in s table) ≡ false = sym found_taken ∙ t in rw z

-- A CONSTRAINT BY ITS NODE

pub constraint_none : (s t : List ℕ) (l at : ℕ) → l ≡ 0 → Space s t at → (refuse 3 ≡ walked (constraint_in s t) (dec_constraint l s at)) × Restored s t t
unfolding dec_constraint
constraint_none s t l at e c = (rw e, restored_all s t c.chained)

-- a constraint that is made of one piece has its fault
made : {A : Type 0} (one : A → Fault) (whole : Constraint → Fault) (make : A → Constraint) (x : Res A) → ((a : A) → whole (make a) ≡ one a) → walked one x ≡ walked whole (bind x (λ a q. got (make a) q))
made one whole make (got a q) g = ap (λ (f : Fault). got f q) (sym (g a))
made one whole make (refuse j) g = refl

module _ (s t : List ℕ) (l at : ℕ) (z : l ≡ 0 → ⊥) where
  pub constraint_refused : (r : Refusal) → ConstraintAt s at (Err r) → Space s t at → (refuse (number_of r) ≡ walked (constraint_in s t) (dec_constraint l s at)) × Restored s t t
  unfolding constraint_of
  constraint_refused r h c = (ap (walked (constraint_in s t)) (sym (constraint_at l s at (Err r) (Err r) z h refl)), restored_all s t c.chained)

  module _ (node : ConstraintNode) (p : ℕ) (h : ConstraintAt s at (Ok (node, p))) where
    by_node : (k : ConstraintNode) → node ≡ k → dec_constraint l s at ≡ constraint_of s (l - 1) (dec_constraint (l - 1)) (Ok (k, p))
    by_node k e = constraint_at l s at (Ok (node, p)) (Ok (k, p)) z h (rw e)

    pub node_space : Space s t at → Space s t p × (3 * length (entries s t) < p)
    node_space c = let b = h.behind in let r = c.room in (space_on s t at p c (omega arith), omega arith)

    pub constraint_pred : (w : Res Fault) (u : List ℕ) → node ≡ constraint_node.Pred → (w ≡ walked (pred_in s t) (dec_pred (l - 1) s p)) × Restored s t u
        → (w ≡ walked (constraint_in s t) (dec_constraint l s at)) × Restored s t u
    unfolding constraint_of constraint_names
    constraint_pred w u e k = (rw (by_node constraint_node.Pred e) (k.0 ∙ made (pred_in s t) (constraint_in s t) Constraint.pred (dec_pred (l - 1) s p) (λ a. refl)), k.1)

    pub constraint_conj : (n : ℕ) (w : Res Fault) (u : List ℕ) → node ≡ constraint_node.Conj n
        → (w ≡ walked (constraints_in s t) (many Constraints.none Constraints.more (dec_constraint (l - 1)) n s p)) × Restored s t u
        → (w ≡ walked (constraint_in s t) (dec_constraint l s at)) × Restored s t u
    unfolding constraint_of constraint_names
    constraint_conj n w u e k = (
      rw (by_node (constraint_node.Conj n) e)
          (k.0 ∙ made (constraints_in s t) (constraint_in s t) Constraint.conj (many Constraints.none Constraints.more (dec_constraint (l - 1)) n s p) (λ a. refl)),
      k.1,
    )

    pub constraint_for_all : (w : Res Fault) (u : List ℕ) → node ≡ constraint_node.ForAll → (w ≡ walked (constraint_in s t) (for_all (l - 1) s p)) × Restored s t u
        → (w ≡ walked (constraint_in s t) (dec_constraint l s at)) × Restored s t u
    unfolding constraint_of
    constraint_for_all w u e k = (rw (by_node constraint_node.ForAll e) k.0, k.1)

-- WHAT A FORALL'S NAME IS KNOWN IN

module _ (s t : List ℕ) (l n at : ℕ) (c : Space s t at) where
  pub under_stops : (j : ℕ) (u : List ℕ) → (refuse j ≡ walked (each (pred_in s t)) (many [] ◌∷◌ (dec_pred l) n s at)) × Restored s t u
      → (refuse j ≡ walked (under_in s t) (under_form l n s at)) × Restored s t u
  under_stops j u k =
      (stops (each (pred_in s t)) (under_in s t) (many [] ◌∷◌ (dec_pred l) n s at) (λ ps p. bind (dec_constraint l s p) (λ b q. got (record { preds = ps; body = b }) q)) j k.0, k.1)

  module _ (f : Fault) (p : ℕ) (u : List ℕ) (k : (got f p ≡ walked (each (pred_in s t)) (many [] ◌∷◌ (dec_pred l) n s at)) × Restored s t u) where
    pub under_space : Space s u p
    under_space =
        let on = walked_on (each (pred_in s t)) (many [] ◌∷◌ (dec_pred l) n)
        (covers_many (λ ps. 0) (λ a. 0) [] ◌∷◌ (dec_pred l) (omega arith) (λ a ps. omega arith) (covers_less (λ a. 1) (λ a. 0) (dec_pred l) (λ a. omega arith) (each_covers.preds l)) n) s at p f k.0 in
        space_on s u at p (space_kept s t u at c k.1) on

    pub under_walks : (x w : Res Fault) (u2 : List ℕ) → (x ≡ walked (constraint_in s u) (dec_constraint l s p)) × Restored s u u2 → w ≡ after f x
        → (w ≡ walked (under_in s t) (under_form l n s at)) × Restored s t u2
    under_walks x w u2 a m = (
      goes (each (pred_in s t)) (under_in s t) (many [] ◌∷◌ (dec_pred l) n s at) (λ ps p. bind (dec_constraint l s p) (λ b q. got (record { preds = ps; body = b }) q)) p f w k.0
          (λ ps i d. m ∙ ap (after f) (a.0 ∙ ap (λ (o : Constraint → Fault). walked o (dec_constraint l s p)) (constraint_kept s t u k.1))
          ∙ lasts (constraint_in s t) (under_in s t) (dec_constraint l s p) (λ b. record { preds = ps; body = b }) f (λ b. rw (← d))),
      restored_both s t u u2 k.1 a.1,
    )

-- A FORALL

module _ (s t : List ℕ) (l at : ℕ) (c : Space s t at × (3 * length (entries s t) < at)) where
  pub for_all_unnamed : (j : ℕ) → name s at ≡ refuse j → (refuse j ≡ walked (constraint_in s t) (for_all l s at)) × Restored s t t
  for_all_unnamed j e = (rw e, restored_all s t c.0.chained)

  module _ (y : List ℕ) (p : ℕ) (e : name s at ≡ got y p) where
    pub for_all_unsorted : (j : ℕ) → refuse j ≡ walked (sort_fault false) (dec_sort l s p) → (refuse j ≡ walked (constraint_in s t) (for_all l s at)) × Restored s t t
    for_all_unsorted j k = (rw (e, refused_is (sort_fault false) (dec_sort l s p) j k), restored_all s t c.0.chained)

    module _ (f : Fault) (q : ℕ) (k : got f q ≡ walked (sort_fault false) (dec_sort l s p)) where
      pub for_all_uncounted : (j : ℕ) → number 2 s q ≡ refuse j → (refuse j ≡ walked (constraint_in s t) (for_all l s at)) × Restored s t t
      for_all_uncounted j d =
          let z = next_is (sort_fault false) (dec_sort l s p) q f k in
          (rw (e, z.is, d), restored_all s t c.0.chained)

      module _ (n r : ℕ) (d : number 2 s q ≡ got n r) (u : List ℕ) (w : Pushed s t at 6 u) where
        pushed_one : (entries s u ≡ entries s t ++ bound_all (y ∷ [])) × Space s u p
        pushed_one =
            let b = wide_names.covered s at y p e in
            let a = b.room in
            let o = b.end in
            bound_one s t u at y p c.0 c.1 e (omega arith) (b.inside (omega arith)) w

        in_scope : under_in s u ≡ (λ (h : Under). lower (each (pred_scope (globals_in s t) (vars_in s t ++ (y ∷ []))) h.preds) (constraint_names (globals_in s t) (vars_in s t ++ (y ∷ [])) h.body))
        in_scope =
            let g : globals_in s u ≡ globals_in s t = globals_more s t u (y ∷ []) w.kept pushed_one.0 in
            let v : vars_in s u ≡ vars_in s t ++ (y ∷ []) = vars_more s t u (y ∷ []) pushed_one.0 in
            λ i. λ (h : Under). lower (each (pred_scope (g i) (v i)) h.preds) (constraint_names (g i) (v i) h.body)

        pub for_all_under_space : Space s u r
        for_all_under_space =
            let a = walked_on (sort_fault false) (dec_sort l) (each_covers.sorts l) s p q f k in
            let b = forward (number 2) (covers_number 2) s q n r d in
            space_on s u p r pushed_one.1 (omega arith)

        pub for_all_walks : (g : Fault) (v' o : Res Fault) (u2 u3 : List ℕ) → g ≡ unless (not (is_one y (taken_in s t))) Clash → (v' ≡ walked (under_in s u) (under_form l n s r)) × Restored s u u2
            → Popped s u2 1 u3 → o ≡ after g v' → (o ≡ walked (constraint_in s t) (for_all l s at)) × Restored s t u3
        unfolding constraint_names globals_in
        for_all_walks g v' o u2 u3 b a j h =
            let z = next_is (sort_fault false) (dec_sort l s p) q f k in (
              rw (e, z.is, d)
                  (h ∙ ap (after g) (a.0 ∙ ap (λ (o' : Under → Fault). walked o' (under_form l n s r)) in_scope) ∙ go z.value (many [] ◌∷◌ (dec_pred l) n s r)),
              scope_ends s t u u2 u3 (bound_all (y ∷ [])) 1 pushed_one.0 refl w.kept w.words a.1 j,
            )
          where
            go : (sort : Sort) (ps : Res (List Pred))
                → after g (walked (λ (h : Under). lower (each (pred_scope (globals_in s t) (vars_in s t ++ (y ∷ []))) h.preds) (constraint_names (globals_in s t) (vars_in s t ++ (y ∷ [])) h.body))
                (bind ps (λ qs p1. bind (dec_constraint l s p1) (λ b1 p2. got (record { preds = qs; body = b1 }) p2))))
                ≡ walked (constraint_in s t) (bind ps (λ qs p1. bind (dec_constraint l s p1) (λ b1 p2. got (Constraint.for_all y sort qs b1) p2)))
            go sort (refuse j1) = refl
            go sort (got qs p1) = then (dec_constraint l s p1)
              where
                then : (y1 : Res Constraint)
                    → after g (walked (λ (h : Under). lower (each (pred_scope (globals_in s t) (vars_in s t ++ (y ∷ []))) h.preds) (constraint_names (globals_in s t) (vars_in s t ++ (y ∷ [])) h.body))
                    (bind y1 (λ b1 p2. got (record { preds = qs; body = b1 }) p2)))
                    ≡ walked (constraint_in s t) (bind y1 (λ b1 p2. got (Constraint.for_all y sort qs b1) p2))
                then (refuse j1) = refl
                then (got b1 p2) = ap (λ (z : Fault). got z p2) (rw b)
