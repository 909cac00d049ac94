-- The names of a task: what their fault says.
use Prim.Native.Nat.{ℕ, suc, ◌<◌}
use mathlib.Core.Path.{◌≡◌, refl, sym, ap, ◌∙◌}
use mathlib.Core.Bool.{Bool, true, false, not, ◌||◌}
use mathlib.Core.Logic.{⊎_elim}
use mathlib.Core.List.{List, [], ◌∷◌, ◌++◌, map}
use mathlib.Core.Option.{Option, none, some}
use native.Mathlib.Omega.{arith}
use Rattle.smtlib.specs.Lexicon.{same, is_one}
use Rattle.smtlib.proofs.Bools.{is_true, true_holds, either, clash, same_self, same→eq}
use Rattle.task.specs.declared.Fault.{Fault}
use Rattle.task.specs.declared.Fault.TheVariants.{Clash, Unknown, Arguments, Sound}
use Rattle.task.specs.Ast.{Pred, Constraint, Constraints, FunBody, FunDef, Task}
use Rattle.task.specs.Fault.{rank, each, unless}
use Rattle.task.specs.Scope.{declared_by, taken_names, everywhere, in_constraint, body_scope, functions_scope, Globals, globals_of, pred_scope, constraint_names, constraints_names, names_fault}
use Rattle.task.specs.Names.{for_all_names, for_alls_in, field_names, Disjoint, Apart, ExprClosed, PredClosed, PredCounted, Each, EachPred, EachPreds, InBody, EachBody, Known, Counted, NameRules, SoundNames}
use Rattle.task.proofs.Reading.{le_or_lt}
use Rattle.task.proofs.Judging.{rank_most, by_rank}
use Rattle.task.proofs.Members.{none_first, none_second, first, second, one_append, one_taken}
use Rattle.task.proofs.Closing.{above_left, above_right, above_both, expr_closed, expr_sound, expr_late, pred_closed, closed_pred, pred_counted, counted_pred, pred_late}

-- FUNCTIONS

module _ (ctors : List (List ℕ)) where
  pub bodies_closed : (vars : List (List ℕ)) (fs : List FunDef) → 9 < rank (functions_scope ctors vars fs) → EachBody (ExprClosed ctors) vars fs
  unfolding functions_scope body_scope
  bodies_closed vars [] h = tt
  bodies_closed vars (f ∷ fs) h = (go f.body (above_left 9 _ _ h), bodies_closed (vars ++ (f.name ∷ [])) fs (above_right 9 _ _ h))
    where
      go : (o : Option FunBody) → 9 < rank (body_scope ctors vars o) → InBody (ExprClosed ctors) vars o
      go none h = tt
      go (some b) h = expr_closed ctors (vars ++ b.args) b.expr h

  closed_bodies : (vars : List (List ℕ)) (fs : List FunDef) → EachBody (ExprClosed ctors) vars fs → 10 < rank (functions_scope ctors vars fs)
  unfolding functions_scope body_scope
  closed_bodies vars [] c = omega arith
  closed_bodies vars (f ∷ fs) c = above_both 10 _ _ (go f.body c.0) (closed_bodies (vars ++ (f.name ∷ [])) fs c.1)
    where
      go : (o : Option FunBody) → InBody (ExprClosed ctors) vars o → 10 < rank (body_scope ctors vars o)
      go none c = omega arith
      go (some b) c = expr_sound ctors (vars ++ b.args) b.expr c

  bodies_late : (vars : List (List ℕ)) (fs : List FunDef) → 8 < rank (functions_scope ctors vars fs)
  unfolding functions_scope body_scope
  bodies_late vars [] = omega arith
  bodies_late vars (f ∷ fs) = above_both 8 _ _ (go f.body) (bodies_late (vars ++ (f.name ∷ [])) fs)
    where
      go : (o : Option FunBody) → 8 < rank (body_scope ctors vars o)
      go none = omega arith
      go (some b) = expr_late ctors (vars ++ b.args) b.expr

-- EACH PREDICATE

module _ (P Q R : List (List ℕ) → Pred → Type 0) (f : (known : List (List ℕ)) (p : Pred) → P known p → Q known p → R known p) where
  zip_list : (known : List (List ℕ)) (ps : List Pred) → Each (P known) ps → Each (Q known) ps → Each (R known) ps
  zip_list known [] a b = tt
  zip_list known (p ∷ ps) a b = (f known p a.0 b.0, zip_list known ps a.1 b.1)

  mutual
    unfolding EachPred

    zip : (known : List (List ℕ)) (c : Constraint) → EachPred P known c → EachPred Q known c → EachPred R known c
    zip known (Constraint.pred p) a b = f known p a b
    zip known (Constraint.conj cs) a b = zips known cs a b
    zip known (Constraint.for_all x s ps c) a b = (zip_list (known ++ (x ∷ [])) ps a.0 b.0, zip (known ++ (x ∷ [])) c a.1 b.1)

    zips : (known : List (List ℕ)) (cs : Constraints) → EachPreds P known cs → EachPreds Q known cs → EachPreds R known cs
    zips known Constraints.none a b = tt
    zips known (Constraints.more c cs) a b = (zip known c a.0 b.0, zips known cs a.1 b.1)

-- one gives the other
mapped : (P R : List (List ℕ) → Pred → Type 0) → ((known : List (List ℕ)) (p : Pred) → P known p → R known p) → (known : List (List ℕ)) (c : Constraint) → EachPred P known c → EachPred R known c
mapped P R f known c a = zip P P R (λ v p x y. f v p x) known c a a

-- what holds of any predicate
module _ (Q : List (List ℕ) → Pred → Type 0) (f : (known : List (List ℕ)) (p : Pred) → Q known p) where
  all_list : (known : List (List ℕ)) (ps : List Pred) → Each (Q known) ps
  all_list known [] = tt
  all_list known (p ∷ ps) = (f known p, all_list known ps)

  mutual
    unfolding EachPred

    all : (known : List (List ℕ)) (c : Constraint) → EachPred Q known c
    all known (Constraint.pred p) = f known p
    all known (Constraint.conj cs) = alls known cs
    all known (Constraint.for_all x s ps c) = (all_list (known ++ (x ∷ [])) ps, all (known ++ (x ∷ [])) c)

    alls : (known : List (List ℕ)) (cs : Constraints) → EachPreds Q known cs
    alls known Constraints.none = tt
    alls known (Constraints.more c cs) = (all known c, alls known cs)

-- THE CONSTRAINT

module _ (k : ℕ) (l : k < rank Sound) (g : Globals) where
  list_out : (known : List (List ℕ)) (ps : List Pred) → k < rank (each (pred_scope g known) ps) → Each (λ p. k < rank (pred_scope g known p)) ps
  list_out known [] h = tt
  list_out known (p ∷ ps) h = (above_left k _ _ h, list_out known ps (above_right k _ _ h))

  list_in : (known : List (List ℕ)) (ps : List Pred) → Each (λ p. k < rank (pred_scope g known p)) ps → k < rank (each (pred_scope g known) ps)
  list_in known [] a = l
  list_in known (p ∷ ps) a = above_both k _ _ a.0 (list_in known ps a.1)

  mutual
    unfolding constraint_names EachPred

    each_out : (known : List (List ℕ)) (c : Constraint) → k < rank (constraint_names g known c) → EachPred (λ v p. k < rank (pred_scope g v p)) known c
    each_out known (Constraint.pred p) h = h
    each_out known (Constraint.conj cs) h = eachs_out known cs h
    each_out known (Constraint.for_all x b ps c) h =
        (list_out (known ++ (x ∷ [])) ps (above_left k _ _ (above_right k _ _ h)), each_out (known ++ (x ∷ [])) c (above_right k _ _ (above_right k _ _ h)))

    eachs_out : (known : List (List ℕ)) (cs : Constraints) → k < rank (constraints_names g known cs) → EachPreds (λ v p. k < rank (pred_scope g v p)) known cs
    eachs_out known Constraints.none h = tt
    eachs_out known (Constraints.more c cs) h = (each_out known c (above_left k _ _ h), eachs_out known cs (above_right k _ _ h))

  mutual
    unfolding constraint_names for_all_names

    names_out : (known : List (List ℕ)) (c : Constraint) → k < rank (constraint_names g known c) → (x : List ℕ) → is_one x (for_all_names c) ≡ true → k < rank (unless (not (g.taken x)) Clash)
    names_out known (Constraint.pred p) h x e = clash (cc)
    names_out known (Constraint.conj cs) h x e = all_names_out known cs h x e
    names_out known (Constraint.for_all y b ps c) h x e =
        ⊎_elim
        (λ a. let z : x ≡ y = same→eq x y a in rw z (above_left k _ _ h))
        (λ a. names_out (known ++ (y ∷ [])) c (above_right k _ _ (above_right k _ _ h)) x (is_true _ a))
        (either (same x y) (is_one x (for_all_names c)) (true_holds e))

    all_names_out : (known : List (List ℕ)) (cs : Constraints) → k < rank (constraints_names g known cs) → (x : List ℕ) → is_one x (for_alls_in cs) ≡ true → k < rank (unless (not (g.taken x)) Clash)
    all_names_out known Constraints.none h x e = clash (cc)
    all_names_out known (Constraints.more c cs) h x e =
        ⊎_elim
        (λ a. names_out known c (above_left k _ _ h) x (is_true _ a))
        (λ a. all_names_out known cs (above_right k _ _ h) x (is_true _ a))
        (either (is_one x (for_all_names c)) (is_one x (for_alls_in cs)) (true_holds (sym (one_append x (for_all_names c) (for_alls_in cs)) ∙ e)))

  mutual
    unfolding constraint_names for_all_names EachPred

    each_in : (known : List (List ℕ)) (c : Constraint) → ((x : List ℕ) → is_one x (for_all_names c) ≡ true → k < rank (unless (not (g.taken x)) Clash))
        → EachPred (λ v p. k < rank (pred_scope g v p)) known c → k < rank (constraint_names g known c)
    each_in known (Constraint.pred p) d a = a
    each_in known (Constraint.conj cs) d a = eachs_in known cs d a
    each_in known (Constraint.for_all y b ps c) d a =
        above_both k _ _ (d y (first (same y y) (is_one y (for_all_names c)) (same_self y)))
        (above_both k _ _ (list_in (known ++ (y ∷ [])) ps a.0) (each_in (known ++ (y ∷ [])) c (λ x h. d x (second (same x y) (is_one x (for_all_names c)) h)) a.1))

    eachs_in : (known : List (List ℕ)) (cs : Constraints) → ((x : List ℕ) → is_one x (for_alls_in cs) ≡ true → k < rank (unless (not (g.taken x)) Clash))
        → EachPreds (λ v p. k < rank (pred_scope g v p)) known cs → k < rank (constraints_names g known cs)
    eachs_in known Constraints.none d a = l
    eachs_in known (Constraints.more c cs) d a =
        above_both k _ _
        (each_in known c (λ x h. d x (one_append x (for_all_names c) (for_alls_in cs) ∙ first (is_one x (for_all_names c)) (is_one x (for_alls_in cs)) h)) a.0)
        (eachs_in known cs (λ x h. d x (one_append x (for_all_names c) (for_alls_in cs) ∙ second (is_one x (for_all_names c)) (is_one x (for_alls_in cs)) h)) a.1)

clash_none : (b : Bool) → 8 < rank (unless (not b) Clash) → b ≡ false
clash_none true h = absurd (omega arith)
clash_none false h = refl

none_clash : (b : Bool) → b ≡ false → 10 < rank (unless (not b) Clash)
none_clash b e = rw e (omega arith)

clash_late : (b : Bool) → 7 < rank (unless (not b) Clash)
clash_late true = omega arith
clash_late false = omega arith

-- TASKS

module _ (t : Task) where
  -- the taken names, kind by kind
  disjoint_apart : Disjoint (for_all_names t.constraint) (taken_names t) → Apart t
  disjoint_apart d =
      let cs : List ℕ → Bool = λ x. is_one x (declared_by true t.datatypes) in
      let fs : List ℕ → Bool = λ x. is_one x (field_names t.datatypes) in
      let ns : List ℕ → Bool = λ x. is_one x (map (λ b. b.name) t.constants) in
      let gs : List ℕ → Bool = λ x. is_one x (map (λ f. f.name) t.functions) in
      let ks : List ℕ → Bool = λ x. is_one x (map (λ k. k.kvid) t.kvars) in
      let no : (x : List ℕ) → is_one x (for_all_names t.constraint) ≡ true → ((cs x || fs x) || (ns x || (gs x || ks x))) ≡ false = λ x h. sym (one_taken x t) ∙ d x h in
      record {
        constants = λ x h. none_first (ns x) (gs x || ks x) (none_second (cs x || fs x) (ns x || (gs x || ks x)) (no x h));
        functions = λ x h. none_first (gs x) (ks x) (none_second (ns x) (gs x || ks x) (none_second (cs x || fs x) (ns x || (gs x || ks x)) (no x h)));
        constructors = λ x h. none_first (cs x) (fs x) (none_first (cs x || fs x) (ns x || (gs x || ks x)) (no x h));
        fields = λ x h. none_second (cs x) (fs x) (none_first (cs x || fs x) (ns x || (gs x || ks x)) (no x h));
        kvars = λ x h. none_second (gs x) (ks x) (none_second (ns x) (gs x || ks x) (none_second (cs x || fs x) (ns x || (gs x || ks x)) (no x h)));
      }

  pub apart_disjoint : Apart t → Disjoint (for_all_names t.constraint) (taken_names t)
  apart_disjoint a x h = one_taken x t ∙ rw (a.constructors x h, a.fields x h, a.constants x h, a.functions x h, a.kvars x h)

  apart_free : Apart t → (x : List ℕ) → is_one x (for_all_names t.constraint) ≡ true → 10 < rank (unless (not ((globals_of t).taken x)) Clash)
  unfolding globals_of
  apart_free a x h = none_clash (is_one x (taken_names t)) (apart_disjoint a x h)

  in_functions : (k : ℕ) → k < rank (names_fault t) → k < rank (functions_scope (declared_by true t.datatypes) (everywhere t) t.functions)
  unfolding names_fault
  in_functions k h = above_left k _ _ h

  in_constraint_lem : (k : ℕ) → k < rank (names_fault t) → k < rank (constraint_names (globals_of t) (in_constraint t) t.constraint)
  unfolding names_fault
  in_constraint_lem k h = above_right k _ _ h

  in_both : (k : ℕ) → k < rank (functions_scope (declared_by true t.datatypes) (everywhere t) t.functions) → k < rank (constraint_names (globals_of t) (in_constraint t) t.constraint)
      → k < rank (names_fault t)
  unfolding names_fault
  in_both k a b = above_both k _ _ a b

  behind_15 : 8 < rank (names_fault t) → Apart t
  unfolding globals_of
  behind_15 h = disjoint_apart (λ x e. clash_none (is_one x (taken_names t)) (names_out 8 (omega arith) (globals_of t) (in_constraint t) t.constraint (in_constraint_lem 8 h) x e))

  behind_10 : 9 < rank (names_fault t) → Known t
  behind_10 h = record {
    bodies = bodies_closed (declared_by true t.datatypes) (everywhere t) t.functions (in_functions 9 h);
    predicates =
        mapped (λ v p. 9 < rank (pred_scope (globals_of t) v p)) (PredClosed t) (pred_closed t) (in_constraint t) t.constraint
        (each_out 9 (omega arith) (globals_of t) (in_constraint t) t.constraint (in_constraint_lem 9 h));
  }

  behind_11 : 10 < rank (names_fault t) → Counted t
  behind_11 h =
      mapped (λ v p. 10 < rank (pred_scope (globals_of t) v p)) (PredCounted t) (pred_counted t) (in_constraint t) t.constraint
      (each_out 10 (omega arith) (globals_of t) (in_constraint t) t.constraint (in_constraint_lem 10 h))

  -- there is no fault that is judged before 15
  scope_late : 7 < rank (names_fault t)
  scope_late =
      in_both 7 (let z = bodies_late (declared_by true t.datatypes) (everywhere t) t.functions in omega arith)
      (each_in 7 (omega arith) (globals_of t) (in_constraint t) t.constraint (λ x e. clash_late ((globals_of t).taken x))
      (all (λ v p. 7 < rank (pred_scope (globals_of t) v p)) (λ v p. let z = pred_late t v p in omega arith) (in_constraint t) t.constraint))

  module _ (a : Apart t) where
    not_15 : 8 < rank (names_fault t)
    not_15 =
        in_both 8 (bodies_late (declared_by true t.datatypes) (everywhere t) t.functions)
        (each_in 8 (omega arith) (globals_of t) (in_constraint t) t.constraint (λ x e. let z = apart_free a x e in omega arith)
        (all (λ v p. 8 < rank (pred_scope (globals_of t) v p)) (λ v p. pred_late t v p) (in_constraint t) t.constraint))

    module _ (n : Known t) where
      not_10 : 9 < rank (names_fault t)
      not_10 =
          in_both 9 (let z = closed_bodies (declared_by true t.datatypes) (everywhere t) t.functions n.bodies in omega arith)
          (each_in 9 (omega arith) (globals_of t) (in_constraint t) t.constraint (λ x e. let z = apart_free a x e in omega arith)
          (mapped (PredClosed t) (λ v p. 9 < rank (pred_scope (globals_of t) v p)) (closed_pred t) (in_constraint t) t.constraint n.predicates))

      not_11 : Counted t → 10 < rank (names_fault t)
      not_11 m =
          in_both 10 (closed_bodies (declared_by true t.datatypes) (everywhere t) t.functions n.bodies)
          (each_in 10 (omega arith) (globals_of t) (in_constraint t) t.constraint (λ x e. apart_free a x e)
          (zip (PredClosed t) (PredCounted t) (λ v p. 10 < rank (pred_scope (globals_of t) v p)) (λ v p c u. counted_pred t v p c u) (in_constraint t) t.constraint n.predicates m))

  -- a fault that is judged behind rank k, and not behind the next
  at_rank : (k : ℕ) (f : Fault) → k < rank (names_fault t) → (suc k < rank (names_fault t) → ⊥) → rank f ≡ suc k → names_fault t ≡ f
  at_rank k f h n e = by_rank (names_fault t) f (⊎_elim (λ a. omega arith) (λ a. absurd (n a)) (le_or_lt (rank (names_fault t)) (suc k)))

  pub name_rules : NameRules t
  name_rules = record {
    clash = λ n. at_rank 7 Clash scope_late (λ h. n (behind_15 h)) refl;
    unknown = λ a n. at_rank 8 Unknown (not_15 a) (λ h. n (behind_10 h)) refl;
    arguments = λ a k n. at_rank 9 Arguments (not_10 a k) (λ h. n (behind_11 h)) refl;
    none = λ a k n. at_rank 10 Sound (not_11 a k n) (λ h. let z = rank_most (names_fault t) in absurd (omega arith)) refl;
  }

pub names_hold : SoundNames
names_hold t e = let z : rank (names_fault t) ≡ rank Sound = ap rank e in record { apart = behind_15 t (omega arith); known = behind_10 t (omega arith); counted = behind_11 t (omega arith) }
