-- Where the names in an expression, a body or a predicate are known: what its fault says.
use Prim.Native.Nat.{ℕ, ◌<◌, ◌≤◌}
use mathlib.Core.Path.{◌≡◌, refl, sym, ap, ◌∙◌, subst⁻¹}
use mathlib.Core.Bool.{Bool, true, false, cond, not, ◌||◌, ◌&&◌}
use mathlib.Core.Logic.{⊎_elim}
use mathlib.Core.List.{List, [], ◌∷◌, ◌++◌, map}
use mathlib.Core.Option.{Option, none, some}
use native.Mathlib.Omega.{arith}
use lib.Dec.{eqb}
use borrow.Author.Tests.{eqb-true, eq-eqb}
use Rattle.smtlib.specs.Lexicon.{same, is_one}
use Rattle.smtlib.proofs.Bools.{is_true, true_holds, either, clash, same_self, same→eq}
use Rattle.task.specs.declared.Fault.{Fault}
use Rattle.task.specs.declared.Fault.TheVariants.{Unknown, Arguments}
use Rattle.task.specs.Ast.{Expr, Exprs, Pred, KVarDecl, Task}
use Rattle.task.specs.Fault.{rank, lower, unless, sorts_number}
use Rattle.task.specs.Scope.{declared_by, arity_of, known_fault, expr_scope, exprs_scope, globals_of, exprs_number, arguments_fault, pred_scope}
use Rattle.task.specs.Names.{free_in, free_among, tested_in, tested_among, Closed, ExprClosed, PredClosed, PredCounted}
use Rattle.task.proofs.Reading.{le_or_lt}
use Rattle.task.proofs.Judging.{lower_left, lower_right}
use Rattle.task.proofs.Members.{first, second, one_append}

-- RANKS

-- the fault that is judged first has the lower of two ranks
module _ (f g : Fault) where
  lowest : (rank (lower f g) ≤ rank f) × (rank (lower f g) ≤ rank g)
  lowest =
      ⊎_elim (λ a. let e : rank (lower f g) ≡ rank f = ap rank (lower_left f g a) in (omega arith, omega arith))
      (λ b. let e : rank (lower f g) ≡ rank g = ap rank (lower_right f g b) in (omega arith, omega arith)) (le_or_lt (rank f) (rank g))

  one_of_two : (P : Fault → Type 0) → P f → P g → P (lower f g)
  one_of_two P a b = ⊎_elim (λ h. subst⁻¹ P (lower_left f g h) a) (λ h. subst⁻¹ P (lower_right f g h) b) (le_or_lt (rank f) (rank g))

module _ (k : ℕ) (f g : Fault) where
  pub above_left : k < rank (lower f g) → k < rank f
  above_left h = let l = (lowest f g).0 in omega arith

  pub above_right : k < rank (lower f g) → k < rank g
  above_right h = let l = (lowest f g).1 in omega arith

  pub above_both : k < rank f → k < rank g → k < rank (lower f g)
  above_both = one_of_two f g (λ h. k < rank h)

-- NAMES

module _ (known : List (List ℕ)) (x : List ℕ) where
  known_one : 9 < rank (known_fault known x) → is_one x known ≡ true
  unfolding known_fault
  known_one = go (is_one x known)
    where
      go : (b : Bool) → 9 < rank (unless b Unknown) → b ≡ true
      go true h = refl
      go false h = absurd (omega arith)

  one_known : is_one x known ≡ true → 10 < rank (known_fault known x)
  unfolding known_fault
  one_known e = rw e (omega arith)

  known_late : 8 < rank (known_fault known x)
  unfolding known_fault
  known_late = go (is_one x known)
    where
      go : (b : Bool) → 8 < rank (unless b Unknown)
      go true = omega arith
      go false = omega arith

-- names that are known, and more of them
known_there : (known ys : List (List ℕ)) (bound : List ℕ → Bool) → ((x : List ℕ) → is_one x ys ≡ bound x) → (x : List ℕ) → is_one x (known ++ ys) ≡ (is_one x known || bound x)
known_there known ys bound e x = one_append x known ys ∙ ap (λ (b : Bool). is_one x known || b) (e x)

module _ {ctors known : List (List ℕ)} where
  no_names : Closed (λ x. false) (λ x. false) ctors known
  no_names = record { free = λ x h. clash (cc); tested = λ x h. clash (cc) }

  one_name : (y : List ℕ) → is_one y known ≡ true → Closed (λ x. same x y) (λ x. false) ctors known
  one_name y e = record { free = λ x h. ap (λ (w : List ℕ). is_one w known) (same→eq x y (true_holds h)) ∙ e; tested = λ x h. clash (cc) }

  -- two pieces
  join : {p p' q q' : List ℕ → Bool} → Closed p q ctors known → Closed p' q' ctors known → Closed (λ x. p x || p' x) (λ x. q x || q' x) ctors known
  join {p} {p'} {q} {q'} c d = record {
    free = λ x h. ⊎_elim (λ g. c.free x (is_true _ g)) (λ g. d.free x (is_true _ g)) (either (p x) (p' x) (true_holds h));
    tested = λ x h. ⊎_elim (λ g. c.tested x (is_true _ g)) (λ g. d.tested x (is_true _ g)) (either (q x) (q' x) (true_holds h));
  }

  -- one name that is tested for
  test : {p q : List ℕ → Bool} (y : List ℕ) → is_one y ctors ≡ true → Closed p q ctors known → Closed p (λ x. same x y || q x) ctors known
  test {p} {q} y e c = record {
    free = c.free;
    tested = λ x h. ⊎_elim (λ g. ap (λ (w : List ℕ). is_one w ctors) (same→eq x y g) ∙ e) (λ g. c.tested x (is_true _ g)) (either (same x y) (q x) (true_holds h));
  }

  module _ (p p' q q' : List ℕ → Bool) (c : Closed (λ x. p x || p' x) (λ x. q x || q' x) ctors known) where
    left_of : Closed p q ctors known
    left_of = record { free = λ x h. c.free x (first (p x) (p' x) h); tested = λ x h. c.tested x (first (q x) (q' x) h) }

    right_of : Closed p' q' ctors known
    right_of = record { free = λ x h. c.free x (second (p x) (p' x) h); tested = λ x h. c.tested x (second (q x) (q' x) h) }

  -- names that are bound in a piece
  module _ (p q : List ℕ → Bool) (bound : List ℕ → Bool) (ys : List (List ℕ)) (e : (x : List ℕ) → is_one x ys ≡ bound x) where
    bind_names : Closed p q ctors (known ++ ys) → Closed (λ x. not (bound x) && p x) q ctors known
    bind_names c = record { free = λ x h. go (bound x) (p x) (is_one x known) h (λ g. sym (known_there known ys bound e x) ∙ c.free x g); tested = c.tested }
      where
        go : (b r k : Bool) → (not b && r) ≡ true → (r ≡ true → (k || b) ≡ true) → k ≡ true
        go true r k h f = clash (cc)
        go false true true h f = refl
        go false true false h f = f refl
        go false false k h f = clash (cc)

    within_names : Closed (λ x. not (bound x) && p x) q ctors known → Closed p q ctors (known ++ ys)
    within_names c = record { free = λ x h. known_there known ys bound e x ∙ go (bound x) (p x) (is_one x known) h (c.free x); tested = c.tested }
      where
        go : (b r k : Bool) → r ≡ true → ((not b && r) ≡ true → k ≡ true) → (k || b) ≡ true
        go true r true h f = refl
        go true r false h f = refl
        go false r k h f = rw (f h)

one_alone : (y x : List ℕ) → is_one x (y ∷ []) ≡ same x y
one_alone y x = go (same x y)
  where
    go : (b : Bool) → (b || false) ≡ b
    go true = refl
    go false = refl

-- EXPRESSIONS

module _ (ctors : List (List ℕ)) where
  -- judged behind 10: the names are known
  mutual
    unfolding expr_scope free_in tested_in

    pub expr_closed : (vars : List (List ℕ)) (e : Expr) → 9 < rank (expr_scope ctors vars e) → ExprClosed ctors vars e
    expr_closed vars (Expr.constant c) h = no_names
    expr_closed vars (Expr.var x) h = one_name x (known_one vars x h)
    expr_closed vars (Expr.app f es o) h = join (expr_closed vars f (above_left 9 _ _ h)) (exprs_closed vars es (above_right 9 _ _ h))
    expr_closed vars (Expr.neg e) h = expr_closed vars e h
    expr_closed vars (Expr.binary_op o a b) h = join (expr_closed vars a (above_left 9 _ _ h)) (expr_closed vars b (above_right 9 _ _ h))
    expr_closed vars (Expr.if_then_else c a b) h =
        join (expr_closed vars c (above_left 9 _ _ h))
        (join (expr_closed vars a (above_left 9 _ _ (above_right 9 _ _ h))) (expr_closed vars b (above_right 9 _ _ (above_right 9 _ _ h))))
    expr_closed vars (Expr.and es) h = exprs_closed vars es h
    expr_closed vars (Expr.or es) h = exprs_closed vars es h
    expr_closed vars (Expr.not e) h = expr_closed vars e h
    expr_closed vars (Expr.imp a b) h = join (expr_closed vars a (above_left 9 _ _ h)) (expr_closed vars b (above_right 9 _ _ h))
    expr_closed vars (Expr.iff a b) h = join (expr_closed vars a (above_left 9 _ _ h)) (expr_closed vars b (above_right 9 _ _ h))
    expr_closed vars (Expr.atom r a b) h = join (expr_closed vars a (above_left 9 _ _ h)) (expr_closed vars b (above_right 9 _ _ h))
    expr_closed vars (Expr.let_in y a b) h =
        join (expr_closed vars a (above_left 9 _ _ h))
        (bind_names (λ x. free_in x b) (λ x. tested_in x b) (λ x. same x y) (y ∷ []) (one_alone y) (expr_closed (vars ++ (y ∷ [])) b (above_right 9 _ _ h)))
    expr_closed vars (Expr.thy_func f) h = no_names
    expr_closed vars (Expr.is_ctor y e) h = test y (known_one ctors y (above_left 9 _ _ h)) (expr_closed vars e (above_right 9 _ _ h))
    expr_closed vars (Expr.quantifier q bs e) h =
        bind_names (λ x. free_in x e) (λ x. tested_in x e) (λ x. is_one x (map (λ b. b.name) bs)) (map (λ b. b.name) bs) (λ x. refl)
        (expr_closed (vars ++ map (λ b. b.name) bs) e h)
    expr_closed vars Expr.wk_var h = no_names

    pub exprs_closed : (vars : List (List ℕ)) (es : Exprs) → 9 < rank (exprs_scope ctors vars es) → Closed (λ x. free_among x es) (λ x. tested_among x es) ctors vars
    exprs_closed vars Exprs.none h = no_names
    exprs_closed vars (Exprs.more e es) h = join (expr_closed vars e (above_left 9 _ _ h)) (exprs_closed vars es (above_right 9 _ _ h))

  -- two operands whose names are known
  both_sound : (p p' q q' : List ℕ → Bool) (vars : List (List ℕ)) (f g : Fault) → Closed (λ x. p x || p' x) (λ x. q x || q' x) ctors vars
      → (Closed p q ctors vars → 10 < rank f) → (Closed p' q' ctors vars → 10 < rank g) → 10 < rank (lower f g)
  both_sound p p' q q' vars f g c a b = above_both 10 f g (a (left_of p p' q q' c)) (b (right_of p p' q q' c))

  pair_sound : (vars : List (List ℕ)) (a b : Expr) → (ExprClosed ctors vars a → 10 < rank (expr_scope ctors vars a)) → (ExprClosed ctors vars b → 10 < rank (expr_scope ctors vars b))
      → Closed (λ x. free_in x a || free_in x b) (λ x. tested_in x a || tested_in x b) ctors vars → 10 < rank (lower (expr_scope ctors vars a) (expr_scope ctors vars b))
  pair_sound vars a b f g c = both_sound (λ x. free_in x a) (λ x. free_in x b) (λ x. tested_in x a) (λ x. tested_in x b) vars (expr_scope ctors vars a) (expr_scope ctors vars b) c f g

  -- where the names are known there is no fault
  mutual
    unfolding expr_scope free_in tested_in

    pub expr_sound : (vars : List (List ℕ)) (e : Expr) → ExprClosed ctors vars e → 10 < rank (expr_scope ctors vars e)
    expr_sound vars (Expr.constant k) c = omega arith
    expr_sound vars (Expr.var x) c = one_known vars x (c.free x (same_self x))
    expr_sound vars (Expr.app f es o) c =
        both_sound (λ x. free_in x f) (λ x. free_among x es) (λ x. tested_in x f) (λ x. tested_among x es) vars _ _ c (λ d. expr_sound vars f d) (λ d. exprs_sound vars es d)
    expr_sound vars (Expr.neg e) c = expr_sound vars e c
    expr_sound vars (Expr.binary_op o a b) c = pair_sound vars a b (λ d. expr_sound vars a d) (λ d. expr_sound vars b d) c
    expr_sound vars (Expr.if_then_else k a b) c =
        both_sound (λ x. free_in x k) (λ x. free_in x a || free_in x b) (λ x. tested_in x k) (λ x. tested_in x a || tested_in x b) vars _ _ c (λ d. expr_sound vars k d) (pair_sound vars a b (λ d. expr_sound vars a d) (λ d. expr_sound vars b d))
    expr_sound vars (Expr.and es) c = exprs_sound vars es c
    expr_sound vars (Expr.or es) c = exprs_sound vars es c
    expr_sound vars (Expr.not e) c = expr_sound vars e c
    expr_sound vars (Expr.imp a b) c = pair_sound vars a b (λ d. expr_sound vars a d) (λ d. expr_sound vars b d) c
    expr_sound vars (Expr.iff a b) c = pair_sound vars a b (λ d. expr_sound vars a d) (λ d. expr_sound vars b d) c
    expr_sound vars (Expr.atom r a b) c = pair_sound vars a b (λ d. expr_sound vars a d) (λ d. expr_sound vars b d) c
    expr_sound vars (Expr.let_in y a b) c =
        both_sound (λ x. free_in x a) (λ x. not (same x y) && free_in x b) (λ x. tested_in x a) (λ x. tested_in x b) vars _ _ c (λ d. expr_sound vars a d)
        (λ d. expr_sound (vars ++ (y ∷ [])) b (within_names (λ x. free_in x b) (λ x. tested_in x b) (λ x. same x y) (y ∷ []) (one_alone y) d))
    expr_sound vars (Expr.thy_func f) c = omega arith
    expr_sound vars (Expr.is_ctor y e) c =
        above_both 10 _ _ (one_known ctors y (c.tested y (first (same y y) (tested_in y e) (same_self y))))
        (expr_sound vars e (record { free = c.free; tested = λ x h. c.tested x (second (same x y) (tested_in x e) h) }))
    expr_sound vars (Expr.quantifier q bs e) c =
        expr_sound (vars ++ map (λ b. b.name) bs) e
        (within_names (λ x. free_in x e) (λ x. tested_in x e) (λ x. is_one x (map (λ b. b.name) bs)) (map (λ b. b.name) bs) (λ x. refl) c)
    expr_sound vars Expr.wk_var c = omega arith

    pub exprs_sound : (vars : List (List ℕ)) (es : Exprs) → Closed (λ x. free_among x es) (λ x. tested_among x es) ctors vars → 10 < rank (exprs_scope ctors vars es)
    exprs_sound vars Exprs.none c = omega arith
    exprs_sound vars (Exprs.more e es) c =
        both_sound (λ x. free_in x e) (λ x. free_among x es) (λ x. tested_in x e) (λ x. tested_among x es) vars _ _ c (λ d. expr_sound vars e d) (λ d. exprs_sound vars es d)

  -- there is no fault that is judged before 10
  mutual
    unfolding expr_scope

    pub expr_late : (vars : List (List ℕ)) (e : Expr) → 8 < rank (expr_scope ctors vars e)
    expr_late vars (Expr.constant c) = omega arith
    expr_late vars (Expr.var x) = known_late vars x
    expr_late vars (Expr.app h es o) = above_both 8 _ _ (expr_late vars h) (exprs_late vars es)
    expr_late vars (Expr.neg e) = expr_late vars e
    expr_late vars (Expr.binary_op o a b) = above_both 8 _ _ (expr_late vars a) (expr_late vars b)
    expr_late vars (Expr.if_then_else c a b) = above_both 8 _ _ (expr_late vars c) (above_both 8 _ _ (expr_late vars a) (expr_late vars b))
    expr_late vars (Expr.and es) = exprs_late vars es
    expr_late vars (Expr.or es) = exprs_late vars es
    expr_late vars (Expr.not e) = expr_late vars e
    expr_late vars (Expr.imp a b) = above_both 8 _ _ (expr_late vars a) (expr_late vars b)
    expr_late vars (Expr.iff a b) = above_both 8 _ _ (expr_late vars a) (expr_late vars b)
    expr_late vars (Expr.atom r a b) = above_both 8 _ _ (expr_late vars a) (expr_late vars b)
    expr_late vars (Expr.let_in y a b) = above_both 8 _ _ (expr_late vars a) (expr_late (vars ++ (y ∷ [])) b)
    expr_late vars (Expr.thy_func f) = omega arith
    expr_late vars (Expr.is_ctor y e) = above_both 8 _ _ (known_late ctors y) (expr_late vars e)
    expr_late vars (Expr.quantifier q bs e) = expr_late (vars ++ map (λ b. b.name) bs) e
    expr_late vars Expr.wk_var = omega arith

    pub exprs_late : (vars : List (List ℕ)) (es : Exprs) → 8 < rank (exprs_scope ctors vars es)
    exprs_late vars Exprs.none = omega arith
    exprs_late vars (Exprs.more e es) = above_both 8 _ _ (expr_late vars e) (exprs_late vars es)

-- PREDICATES

-- a KVar is declared
abbrev is_some : Option ℕ → Bool
is_some none = false
is_some (some n) = true

declared_arity : (ks : List KVarDecl) (k : List ℕ) → is_one k (map (λ d. d.kvid) ks) ≡ is_some (arity_of ks k)
unfolding arity_of
declared_arity [] k = refl
declared_arity (d ∷ ks) k = go (same k d.kvid) (declared_arity ks k)
  where
    go : (b : Bool) → is_one k (map (λ d. d.kvid) ks) ≡ is_some (arity_of ks k) → (b || is_one k (map (λ d. d.kvid) ks)) ≡ is_some (cond b (some (sorts_number d.sorts)) (arity_of ks k))
    go true e = refl
    go false e = e

module _ (n : ℕ) where
  some_declared : (o : Option ℕ) → 9 < rank (arguments_fault o n) → is_some o ≡ true
  some_declared none h = absurd (omega arith)
  some_declared (some m) h = refl

  declared_some : (o : Option ℕ) → is_some o ≡ true → 9 < rank (arguments_fault o n)
  declared_some none e = clash (cc)
  declared_some (some m) e = go (eqb n m)
    where
      go : (b : Bool) → 9 < rank (unless b Arguments)
      go true = omega arith
      go false = omega arith

  some_counted : (o : Option ℕ) → 10 < rank (arguments_fault o n) → o ≡ some n
  some_counted none h = absurd (omega arith)
  some_counted (some m) h = go (eqb n m) refl h
    where
      go : (b : Bool) → eqb n m ≡ b → 10 < rank (unless b Arguments) → some m ≡ some n
      go true e h = ap some (sym (eqb-true n m e))
      go false e h = absurd (omega arith)

  counted_some : (o : Option ℕ) → o ≡ some n → 10 < rank (arguments_fault o n)
  counted_some o e = rw (e, eq-eqb n n refl) (omega arith)

  arguments_late : (o : Option ℕ) → 8 < rank (arguments_fault o n)
  arguments_late none = omega arith
  arguments_late (some m) = go (eqb n m)
    where
      go : (b : Bool) → 8 < rank (unless b Arguments)
      go true = omega arith
      go false = omega arith

module _ (t : Task) (vars : List (List ℕ)) where
  ctors : List (List ℕ)
  ctors = declared_by true t.datatypes

  pub pred_closed : (p : Pred) → 9 < rank (pred_scope (globals_of t) vars p) → PredClosed t vars p
  unfolding pred_scope globals_of ctors
  pred_closed (Pred.kvar k es) h =
      (declared_arity t.kvars k ∙ some_declared (exprs_number es) (arity_of t.kvars k) (above_left 9 _ _ h), exprs_closed ctors vars es (above_right 9 _ _ h))
  pred_closed (Pred.expr e) h = expr_closed ctors vars e h

  pub closed_pred : (p : Pred) → PredClosed t vars p → 9 < rank (pred_scope (globals_of t) vars p)
  unfolding pred_scope globals_of ctors
  closed_pred (Pred.kvar k es) c =
      above_both 9 _ _ (declared_some (exprs_number es) (arity_of t.kvars k) (sym (declared_arity t.kvars k) ∙ c.0)) (let z = exprs_sound ctors vars es c.1 in omega arith)
  closed_pred (Pred.expr e) c = let z = expr_sound ctors vars e c in omega arith

  pub pred_counted : (p : Pred) → 10 < rank (pred_scope (globals_of t) vars p) → PredCounted t vars p
  unfolding pred_scope globals_of
  pred_counted (Pred.kvar k es) h = some_counted (exprs_number es) (arity_of t.kvars k) (above_left 10 _ _ h)
  pred_counted (Pred.expr e) h = tt

  pub counted_pred : (p : Pred) → PredClosed t vars p → PredCounted t vars p → 10 < rank (pred_scope (globals_of t) vars p)
  unfolding pred_scope globals_of ctors
  counted_pred (Pred.kvar k es) c n = above_both 10 _ _ (counted_some (exprs_number es) (arity_of t.kvars k) n) (exprs_sound ctors vars es c.1)
  counted_pred (Pred.expr e) c n = expr_sound ctors vars e c

  pub pred_late : (p : Pred) → 8 < rank (pred_scope (globals_of t) vars p)
  unfolding pred_scope globals_of ctors
  pred_late (Pred.kvar k es) = above_both 8 _ _ (arguments_late (exprs_number es) (arity_of t.kvars k)) (exprs_late ctors vars es)
  pred_late (Pred.expr e) = expr_late ctors vars e
