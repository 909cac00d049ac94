-- In an accepted task no name free in a predicate of a ForAll is the binder of a ForAll inside that one: `no_captures`.
use Prim.Native.Nat.{ℕ}
use mathlib.Core.Path.{◌≡◌, refl, sym, ap, ◌∙◌}
use mathlib.Core.Bool.{Bool, true, false, not, ◌||◌}
use mathlib.Core.Logic.{⊎_elim}
use mathlib.Core.List.{List, [], ◌∷◌, ◌++◌, map}
use Rattle.smtlib.specs.Lexicon.{same, is_one}
use Rattle.smtlib.proofs.Bools.{is_true, true_holds, never, either, clash, same→eq}
use Rattle.task.specs.declared.Fault.TheVariants.{Shadowed, Sound}
use Rattle.task.specs.Ast.{Pred, Constraint, Constraints, Task}
use Rattle.task.specs.Fault.{unless, name_fault, shadow_fault, constraint_fault, constraints_fault, task_fault}
use Rattle.task.specs.Scope.{declared_by, datatypes_take, taken_names, everywhere, in_constraint}
use Rattle.task.specs.Names.{for_all_names, for_alls_in, field_names, Disjoint, free_among, tested_among, Closed, PredClosed, Each, EachPred, EachPreds}
use Rattle.task.proofs.Judging.{sound_parts}
use Rattle.task.proofs.Members.{none_first, first, second, one_append, one_taken}
use Rattle.task.proofs.Naming.{apart_disjoint}
use Rattle.task.proofs.Scoping.{task_sound, held_names}
use Rattle.meaning.specs.Interpretation.{is_free}
use Rattle.meaning.specs.Theorems.{Uncaptured, AllUncaptured, NoCaptures}
open sound_parts use {none_left, none_right}

-- what holds of each member by another thing that does
pub each_map : {A : Type 0} {P Q : A → Type 0} → ((x : A) → P x → Q x) → (xs : List A) → Each P xs → Each Q xs
each_map f [] h = tt
each_map f (x ∷ xs) h = (f x h.0, each_map f xs h.1)

-- REPEATS

-- no refusal 7 for a name: it is not one of those around
not_shadowed : (b : Bool) → unless (not b) Shadowed ≡ Sound → b ≡ false
not_shadowed true e = clash (cc)
not_shadowed false e = refl

mutual
  unfolding constraint_fault for_all_names shadow_fault

  -- where no ForAll is named like one around it, none in a constraint has a name of those around
  not_around : (around : List (List ℕ)) (c : Constraint) → constraint_fault around c ≡ Sound → (x : List ℕ) → is_one x (for_all_names c) ≡ true → is_one x around ≡ false
  not_around around (Constraint.pred p) s x h = clash (cc)
  not_around around (Constraint.conj cs) s x h = none_around around cs s x h
  not_around around (Constraint.for_all y b ps c) s x h =
      let r = none_right (name_fault y) _ s in
      ⊎_elim
      (λ g. let z : x ≡ y = same→eq x y g in rw z (not_shadowed (is_one y around) (none_left _ _ r)))
      (λ g. none_first (is_one x around) (is_one x (y ∷ [])) (sym (one_append x around (y ∷ [])) ∙ not_around (around ++ y ∷ []) c (none_right _ _ (none_right _ _ (none_right _ _ r))) x (is_true _ g)))
      (either (same x y) (is_one x (for_all_names c)) (true_holds h))

  -- so for constraints in a row
  none_around : (around : List (List ℕ)) (cs : Constraints) → constraints_fault around cs ≡ Sound → (x : List ℕ) → is_one x (for_alls_in cs) ≡ true → is_one x around ≡ false
  none_around around Constraints.none s x h = clash (cc)
  none_around around (Constraints.more c cs) s x h =
      ⊎_elim
      (λ g. not_around around c (none_left _ _ s) x (is_true _ g))
      (λ g. none_around around cs (none_right _ _ s) x (is_true _ g))
      (either (is_one x (for_all_names c)) (is_one x (for_alls_in cs)) (true_holds (sym (one_append x (for_all_names c) (for_alls_in cs)) ∙ h)))

-- FREE NAMES

module _ (t : Task) where
  -- a name that the task declares, or that of a ForAll around
  abbrev Bound : List (List ℕ) → List ℕ → Type 0
  Bound around x = (is_one x (taken_names t) || is_one x around) ≡ true

  -- the known names are such
  abbrev AllBound : List (List ℕ) → List (List ℕ) → Type 0
  AllBound known around = (x : List ℕ) → is_one x known ≡ true → Bound around x

  -- those that are known anywhere in the constraint are declared
  in_constraint_lem : AllBound (in_constraint t) []
  unfolding in_constraint everywhere taken_names
  in_constraint_lem x h =
      let ds = datatypes_take t.datatypes in
      let cs = map (λ b. b.name) t.constants in
      let fs = map (λ f. f.name) t.functions in
      let ks = map (λ k. k.kvid) t.kvars in
      rw (one_append x ds (cs ++ (fs ++ ks)), one_append x cs (fs ++ ks), one_append x fs ks)
      (go (is_one x ds) (is_one x cs) (is_one x fs) (is_one x ks) (sym (one_append x (ds ++ cs) fs ∙ ap (λ (b : Bool). b || is_one x fs) (one_append x ds cs)) ∙ h))
    where
      go : (d c f k : Bool) → ((d || c) || f) ≡ true → ((d || (c || (f || k))) || false) ≡ true
      go true c f k e = refl
      go false true f k e = refl
      go false false true k e = refl
      go false false false k e = clash (cc)

  -- a ForAll's name is one more of both
  one_more : (known around : List (List ℕ)) (y : List ℕ) → AllBound known around → AllBound (known ++ y ∷ []) (around ++ y ∷ [])
  one_more known around y f x h =
      rw (one_append x around (y ∷ [])) (
      go (is_one x known) (is_one x (y ∷ [])) (is_one x (taken_names t)) (is_one x around) (f x) (sym (one_append x known (y ∷ [])) ∙ h))
    where
      go : (k b n r : Bool) → (k ≡ true → (n || r) ≡ true) → (k || b) ≡ true → (n || (r || b)) ≡ true
      go k b true r f e = refl
      go k b false true f e = refl
      go true b false false f e = clash (let z = f refl in cc)
      go false b false false f e = e

  module _ (known around : List (List ℕ)) (k : AllBound known around) where
    -- a declared name
    taken : (x : List ℕ) → is_one x (taken_names t) ≡ true → Bound around x
    taken x h = first _ (is_one x around) h

    -- a constructor's name
    tested : (x : List ℕ) → is_one x (declared_by true t.datatypes) ≡ true → Bound around x
    tested x h = taken x (one_taken x t ∙ rw h)

    -- a name that is free or tested for where free names are known and constructors are tested for
    closed : {p q : List ℕ → Bool} → Closed p q (declared_by true t.datatypes) known → (x : List ℕ) → (p x || q x) ≡ true → Bound around x
    closed {p} {q} c x h = ⊎_elim (λ g. k x (c.free x (is_true _ g))) (λ g. tested x (c.tested x (is_true _ g))) (either (p x) (q x) (true_holds h))

    -- a KVar's name is declared
    a_kvar : (x : List ℕ) → is_one x (map (λ d. d.kvid) t.kvars) ≡ true → Bound around x
    a_kvar x h =
        let cs = is_one x (declared_by true t.datatypes) in
        let fs = is_one x (field_names t.datatypes) in
        let ns = is_one x (map (λ b. b.name) t.constants) in
        let gs = is_one x (map (λ f. f.name) t.functions) in
        taken x (one_taken x t ∙ second (cs || fs) _ (second ns _ (second gs _ h)))

    -- the names free in a predicate whose names are known
    free_known : (p : Pred) → PredClosed t known p → (x : List ℕ) → is_free x p ≡ true → Bound around x
    free_known (Pred.kvar n es) c x h =
        ⊎_elim (λ g. let z : x ≡ n = same→eq x n g in rw z (a_kvar n c.0)) (λ g. closed c.1 x (is_true _ g))
        (either (same x n) (free_among x es || tested_among x es) (true_holds h))
    free_known (Pred.expr e) c x h = closed c x h

  -- a name that is neither declared nor around is not bound so
  not_free : (n r : Bool) → n ≡ false → r ≡ false → (n || r) ≡ true → ⊥
  not_free n r e f h = clash (cc)

  mutual
    unfolding constraint_fault for_all_names EachPred Uncaptured

    -- a name free in a predicate is declared or around it, and a ForAll inside has no such name
    uncaptured : (known around : List (List ℕ)) (c : Constraint) → AllBound known around
        → Disjoint (for_all_names c) (taken_names t)
        → constraint_fault around c ≡ Sound → EachPred (PredClosed t) known c → Uncaptured c
    uncaptured known around (Constraint.pred p) k d s e = tt
    uncaptured known around (Constraint.conj cs) k d s e = all_uncaptured known around cs k d s e
    uncaptured known around (Constraint.for_all y b ps c) k d s e =
        let more = one_more known around y k in
        let inner : constraint_fault (around ++ y ∷ []) c ≡ Sound = none_right _ _ (none_right _ _ (none_right _ _ (none_right (name_fault y) _ s))) in
        let free : Disjoint (for_all_names c) (taken_names t) = λ x h. d x (second (same x y) _ h) in (
          each_map (λ p h x f.
              never (is_one x (for_all_names c)) (λ g.
              let z = is_true _ g in
              not_free (is_one x (taken_names t)) (is_one x (around ++ y ∷ [])) (free x z) (not_around (around ++ y ∷ []) c inner x z) (free_known (known ++ y ∷ []) (around ++ y ∷ []) more p h x f)))
              ps e.0,
          uncaptured (known ++ y ∷ []) (around ++ y ∷ []) c more free inner e.1,
        )

    -- so for constraints in a row
    all_uncaptured : (known around : List (List ℕ)) (cs : Constraints) → AllBound known around
        → Disjoint (for_alls_in cs) (taken_names t)
        → constraints_fault around cs ≡ Sound → EachPreds (PredClosed t) known cs → AllUncaptured cs
    all_uncaptured known around Constraints.none k d s e = tt
    all_uncaptured known around (Constraints.more c cs) k d s e = (
      uncaptured known around c k (λ x h. d x (one_append x (for_all_names c) (for_alls_in cs) ∙ first _ _ h)) (none_left _ _ s) e.0,
      all_uncaptured known around cs k (λ x h. d x (one_append x (for_all_names c) (for_alls_in cs) ∙ second (is_one x (for_all_names c)) _ h)) (none_right _ _ s) e.1,
    )

-- the constraint of a task without fault is without fault
constraint_sound : (t : Task) → task_fault t ≡ Sound → constraint_fault [] t.constraint ≡ Sound
unfolding task_fault
constraint_sound t s = none_right _ _ (none_right _ _ (none_right _ _ (none_right _ _ (none_right _ _ s))))

pub no_captures : NoCaptures
no_captures file t end e =
    let n = held_names file t end e in
    uncaptured t (in_constraint t) [] t.constraint (in_constraint_lem t) (apart_disjoint t n.apart) (constraint_sound t (task_sound file t end e)) n.known.predicates
