-- The tree and the assertions mean the same: `flattening`; and the assertions are those of the script: `script_meaning`.
use Prim.Native.Nat.{ℕ}
use mathlib.Core.Path.{◌≡◌, refl, sym, ap, ◌∙◌, subst, fun_ext}
use mathlib.Core.Bool.{Bool, true, false, cond, not, ◌&&◌, and-true, and_assoc}
use mathlib.Core.List.{List, [], ◌∷◌, ◌++◌}
use native.Mathlib.Nat.{le_refl}
use lib.ListN.{length, take}
use lib.Seq.{take-length}
use Rattle.smtlib.specs.Lexicon.{same, is_one}
use Rattle.smtlib.specs.Theorems.{OnlyReading}
use Rattle.smtlib.proofs.Bools.{clash}
use Rattle.task.specs.Ast.{Binder, Constant, Expr, Pred, Constraint, Constraints}
use Rattle.task.specs.Names.{for_all_names, for_alls_in, Each}
use Rattle.task.specs.Returns.{every}
use Rattle.task.specs.Task.{literally_true}
use Rattle.task.proofs.Members.{none_first, none_second, one_append}
use Rattle.smt_text.specs.Encoder.{Encoder}
use Rattle.smt_text.specs.Text.{write_sort}
use Rattle.horn_text.specs.Clauses.{kept, flatten_constraint, flatten_constraints}
use Rattle.horn_text.specs.Script.{encoder_of, script_of}
use Rattle.horn_text.specs.Commands.{commands_of}
use Rattle.horn_text.specs.Answers.{script_buffer}
use Rattle.horn_text.specs.Demand.{Carries, Promised}
use Rattle.horn_text.proofs.Readings.{all_assertions}
use Rattle.horn_text.proofs.Demands.{demand3}
use Rattle.meaning.specs.Interpretation.{is_free, Assignment, assign, Interpretation, Lawful}
use Rattle.meaning.specs.Holds.{implies, all_true, tree_holds, trees_hold, for_all_values, implication, assertion_holds, assertions_hold}
use Rattle.meaning.specs.Theorems.{Unbound, Uncaptured, AllUncaptured, UncapturedMeaning, Flattening}
use Rattle.meaning.specs.Script.{ScriptMeaning}
use Rattle.meaning.proofs.Captures.{each_map, no_captures}

-- TESTS OF EACH MEMBER OF A LIST

-- two tests exchanged behind a third
and_swap : (a b c d : Bool) → ((a && b) && (c && d)) ≡ ((a && c) && (b && d))
and_swap true b true d = refl
and_swap true true false d = refl
and_swap true false false d = refl
and_swap false b c d = refl

module _ {A : Type 0} where
  every_true : (xs : List A) → every (λ x. true) xs ≡ true
  every_true [] = refl
  every_true (x ∷ xs) = every_true xs

  every_and : (f g : A → Bool) (xs : List A) → every (λ x. f x && g x) xs ≡ (every f xs && every g xs)
  every_and f g [] = refl
  every_and f g (x ∷ xs) = rw (every_and f g xs) (and_swap (f x) (g x) (every f xs) (every g xs))

  every_append : (f : A → Bool) (xs ys : List A) → every f (xs ++ ys) ≡ (every f xs && every f ys)
  every_append f [] ys = refl
  every_append f (x ∷ xs) ys = rw (every_append f xs ys) (sym (and_assoc (f x) (every f xs) (every f ys)))

-- a condition that is the same for all members may be asked once, before them
every_implied : {A : Type 0} (g : Bool) (p q : A → Bool) (xs : List A) → every (λ x. implies (g && p x) (q x)) xs ≡ implies g (every (λ x. implies (p x) (q x)) xs)
every_implied true p q xs = refl
every_implied false p q xs = every_true xs

-- two conclusions
implies_and : (g p q : Bool) → implies g (p && q) ≡ (implies g p && implies g q)
implies_and true p q = refl
implies_and false p q = refl

implies_true : (g : Bool) → implies g true ≡ true
implies_true true = refl
implies_true false = refl

-- false from the opposite of a truth
implies_negation : (g p : Bool) → implies (g && not p) false ≡ implies g p
implies_negation true true = refl
implies_negation true false = refl
implies_negation false p = refl

-- GUARDS IN LISTS

module _ (P : Pred → Type 0) where
  each_append : (ps qs : List Pred) → Each P ps → Each P qs → Each P (ps ++ qs)
  each_append [] qs h k = k
  each_append (p ∷ ps) qs h k = (h.0, each_append ps qs h.1 k)

  -- what holds of all predicates holds of those that are kept
  each_kept : (ps : List Pred) → Each P ps → Each P (kept ps)
  each_kept [] h = tt
  each_kept (p ∷ ps) h = go (literally_true p) (each_kept ps h.1)
    where
      go : (b : Bool) → Each P (kept ps) → Each P (cond b (kept ps) (p ∷ kept ps))
      go true k = k
      go false k = (h.0, k)

module _ {Value : Type 0} (i : Interpretation Value) (l : Lawful i) (enc : Encoder) where
  -- LITERALLY TRUE PREDICATES

  -- the only one is Boolean true
  literal : (p : Pred) (a : Assignment Value) → literally_true p ≡ true → i.truth p a ≡ true
  unfolding literally_true
  literal (Pred.kvar k es) a h = clash (cc)
  literal (Pred.expr (Expr.constant (Constant.boolean true))) a h = l.boolean_true a
  literal (Pred.expr (Expr.constant (Constant.boolean false))) a h = clash (cc)
  literal (Pred.expr (Expr.constant (Constant.numeral n))) a h = clash (cc)
  literal (Pred.expr (Expr.constant (Constant.real n))) a h = clash (cc)
  literal (Pred.expr (Expr.constant (Constant.string t))) a h = clash (cc)
  literal (Pred.expr (Expr.constant (Constant.bit_vec n w))) a h = clash (cc)
  literal (Pred.expr (Expr.var x)) a h = clash (cc)
  literal (Pred.expr (Expr.app f es o)) a h = clash (cc)
  literal (Pred.expr (Expr.neg e)) a h = clash (cc)
  literal (Pred.expr (Expr.binary_op o e f)) a h = clash (cc)
  literal (Pred.expr (Expr.if_then_else c e f)) a h = clash (cc)
  literal (Pred.expr (Expr.and es)) a h = clash (cc)
  literal (Pred.expr (Expr.or es)) a h = clash (cc)
  literal (Pred.expr (Expr.not e)) a h = clash (cc)
  literal (Pred.expr (Expr.imp e f)) a h = clash (cc)
  literal (Pred.expr (Expr.iff e f)) a h = clash (cc)
  literal (Pred.expr (Expr.atom r e f)) a h = clash (cc)
  literal (Pred.expr (Expr.let_in x e f)) a h = clash (cc)
  literal (Pred.expr (Expr.thy_func f)) a h = clash (cc)
  literal (Pred.expr (Expr.is_ctor x e)) a h = clash (cc)
  literal (Pred.expr (Expr.quantifier q bs e)) a h = clash (cc)
  literal (Pred.expr Expr.wk_var) a h = clash (cc)

  -- those that are kept are true exactly if all are
  all_kept : (ps : List Pred) (a : Assignment Value) → all_true i (kept ps) a ≡ all_true i ps a
  all_kept [] a = refl
  all_kept (p ∷ ps) a = go (literally_true p) refl (all_kept ps a)
    where
      go : (b : Bool) → literally_true p ≡ b → all_true i (kept ps) a ≡ all_true i ps a → all_true i (cond b (kept ps) (p ∷ kept ps)) a ≡ (i.truth p a && all_true i ps a)
      go true e h = h ∙ rw (literal p a e)
      go false e h = rw h

  -- GUARDS AND BINDERS

  -- a binder that is not free in guards changes none of them
  steady : (x : List ℕ) (gs : List Pred) (a : Assignment Value) (v : Value)
      → Each (λ p. (y : List ℕ) → is_free y p ≡ true → same y x ≡ false) gs → all_true i gs (assign a x v) ≡ all_true i gs a
  steady x [] a v u = refl
  steady x (g ∷ gs) a v u = rw (l.free_names g (assign a x v) a (λ y h. rw (u.0 y h)), steady x gs a v u.1)

  -- ALL VALUES OF BINDERS

  -- what is the same under every assignment
  values_same : (vars : List Binder) {f g : Assignment Value → Bool} (a : Assignment Value) → ((b : Assignment Value) → f b ≡ g b) → for_all_values i enc vars f a ≡ for_all_values i enc vars g a
  values_same vars a e = ap (λ (f : Assignment Value → Bool). for_all_values i enc vars f a) (fun_ext e)

  -- what holds always holds for all values, also for none
  values_true : (vars : List Binder) (a : Assignment Value) → for_all_values i enc vars (λ b. true) a ≡ true
  values_true [] a = refl
  values_true (x ∷ vars) a = ap (λ (f : Value → Bool). every f (i.values (write_sort enc x.sort))) (fun_ext (λ v. values_true vars (assign a x.name v))) ∙ every_true (i.values (write_sort enc x.sort))

  -- two things hold for all values exactly if each does
  values_and : (vars : List Binder) (f g : Assignment Value → Bool) (a : Assignment Value)
      → for_all_values i enc vars (λ b. f b && g b) a ≡ (for_all_values i enc vars f a && for_all_values i enc vars g a)
  values_and [] f g a = refl
  values_and (x ∷ vars) f g a =
      ap (λ (h : Value → Bool). every h (i.values (write_sort enc x.sort))) (fun_ext (λ v. values_and vars f g (assign a x.name v)))
      ∙ every_and (λ v. for_all_values i enc vars f (assign a x.name v)) (λ v. for_all_values i enc vars g (assign a x.name v)) (i.values (write_sort enc x.sort))

  -- the innermost binder is set last
  values_snoc : (vars : List Binder) (x : Binder) (f : Assignment Value → Bool) (a : Assignment Value)
      → for_all_values i enc (vars ++ x ∷ []) f a ≡ for_all_values i enc vars (λ b. every (λ v. f (assign b x.name v)) (i.values (write_sort enc x.sort))) a
  values_snoc [] x f a = refl
  values_snoc (y ∷ vars) x f a = ap (λ (h : Value → Bool). every h (i.values (write_sort enc y.sort))) (fun_ext (λ v. values_snoc vars x f (assign a y.name v)))

  -- guards in which a binder is not free may be asked before it is set, or behind that together with its own predicates
  set_behind : (x : List ℕ) (gs ps : List Pred) (h : Assignment Value → Bool) (vs : List Value) (a : Assignment Value)
      → Each (λ p. (y : List ℕ) → is_free y p ≡ true → same y x ≡ false) gs
      → implies (all_true i gs a) (every (λ v. implies (all_true i ps (assign a x v)) (h (assign a x v))) vs)
      ≡ every (λ v. implies (all_true i (gs ++ kept ps) (assign a x v)) (h (assign a x v))) vs
  set_behind x gs ps h vs a u =
      sym (every_implied (all_true i gs a) (λ v. all_true i ps (assign a x v)) (λ v. h (assign a x v)) vs)
      ∙ ap (λ (f : Value → Bool). every f vs) (fun_ext λ v.
      rw (every_append (λ p. i.truth p (assign a x v)) gs (kept ps), steady x gs a v u, all_kept ps (assign a x v)))

  -- THE WALK

  -- an assertion's implication is that the guards imply the head, of either kind
  head_holds : (gs : List Pred) (p : Pred) (a : Assignment Value) → implication i gs p a ≡ implies (all_true i gs a) (i.truth p a)
  head_holds gs (Pred.kvar k es) a = refl
  head_holds gs (Pred.expr e) a = implies_negation (all_true i gs a) (i.truth (Pred.expr e) a)

  -- a constraint holds under the binders and guards of a path
  abbrev Under : Constraint → List Binder → List Pred → Assignment Value → Bool
  Under c vars gs = for_all_values i enc vars (λ b. implies (all_true i gs b) (tree_holds i enc c b))

  mutual
    unfolding flatten_constraint tree_holds for_all_names Uncaptured assertion_holds assertions_hold

    -- it does exactly if the assertions do that the walk gives for it there
    flat : (c : Constraint) (vars : List Binder) (gs : List Pred) (a : Assignment Value) → Each (Unbound c) gs → Uncaptured c
        → Under c vars gs a ≡ assertions_hold i enc (flatten_constraint c vars gs) a
    flat (Constraint.pred p) vars gs a u k = go (literally_true p) refl
      where
        go : (b : Bool) → literally_true p ≡ b → Under (Constraint.pred p) vars gs a ≡ assertions_hold i enc (cond b [] (record { vars = vars; guards = gs; head = p } ∷ [])) a
        go true e = values_same vars a (λ b. rw (literal p b e) (implies_true (all_true i gs b))) ∙ values_true vars a
        go false e = values_same vars a (λ b. sym (head_holds gs p b)) ∙ sym (and-true _)
    flat (Constraint.conj cs) vars gs a u k = flats cs vars gs a u k
    flat (Constraint.for_all x b ps c) vars gs a u k =
        let inner : Each (Unbound c) (gs ++ kept ps) = each_append (Unbound c) gs (kept ps) (each_map (λ p h y f. none_second (same y x) _ (h y f)) gs u) (each_kept (Unbound c) ps k.0) in
        let outer = each_map {Q = λ p. (y : List ℕ) → is_free y p ≡ true → same y x ≡ false} (λ p h y f. none_first (same y x) _ (h y f)) gs u in
        let binder : Binder = record { name = x; sort = b } in
        values_same vars a (λ d. set_behind x gs ps (tree_holds i enc c) (i.values (write_sort enc b)) d outer)
        ∙ sym (values_snoc vars binder _ a)
        ∙ flat c (vars ++ binder ∷ []) (gs ++ kept ps) a inner k.1

    -- so for constraints in a row
    flats : (cs : Constraints) (vars : List Binder) (gs : List Pred) (a : Assignment Value) → Each (Unbound (Constraint.conj cs)) gs → AllUncaptured cs
        → for_all_values i enc vars (λ b. implies (all_true i gs b) (trees_hold i enc cs b)) a ≡ assertions_hold i enc (flatten_constraints cs vars gs) a
    flats Constraints.none vars gs a u k = values_same vars a (λ b. implies_true (all_true i gs b)) ∙ values_true vars a
    flats (Constraints.more c cs) vars gs a u k =
        let one = each_map {Q = Unbound c} (λ p h y f. none_first _ (is_one y (for_alls_in cs)) (sym (one_append y (for_all_names c) (for_alls_in cs)) ∙ h y f)) gs u in
        let rest = each_map {Q = Unbound (Constraint.conj cs)} (λ p h y f. none_second (is_one y (for_all_names c)) _ (sym (one_append y (for_all_names c) (for_alls_in cs)) ∙ h y f)) gs u in
        values_same vars a (λ b. implies_and (all_true i gs b) (tree_holds i enc c b) (trees_hold i enc cs b))
        ∙ values_and vars (λ b. implies (all_true i gs b) (tree_holds i enc c b)) (λ b. implies (all_true i gs b) (trees_hold i enc cs b)) a
        ∙ rw (flat c vars gs a one k.0, flats cs vars gs a rest k.1) (sym (every_append _ (flatten_constraint c vars gs) (flatten_constraints cs vars gs)))

pub uncaptured_meaning : UncapturedMeaning
uncaptured_meaning names t u Value i l a = flat i l (encoder_of names t) t.constraint [] [] a tt u

pub flattening : Flattening
flattening names file t end e = uncaptured_meaning names t (no_captures file t end e)

pub script_meaning : ScriptMeaning
unfolding Promised
script_meaning names v file buf t end e room =
    let c : Carries names t (script_buffer names file buf) = demand3 names v file buf t end e room in
    let text = take (length (script_of names t)) (script_buffer names file buf) in
    record {
      reading = subst (OnlyReading text) (rw c.complete (take-length (commands_of names t))) (c.cut (length (script_of names t)) (le_refl _) c.last);
      clauses = all_assertions names t;
      meaning = flattening names file t end e;
    }
