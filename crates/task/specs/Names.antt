-- What W-207 and W-201 say of the names of a task, without the folds of `Scope.antt`, and that it holds of every task that a file holds.
use Rattle.std.specs.Prelude.{ℕ, ◌≡◌, Bool, true, false, not, ◌||◌, ◌&&◌, List, [], ◌∷◌, ◌++◌, map}
use Rattle.std.proofs.Math.Option.{Option, none, some}
use Rattle.smtlib.specs.Lexicon.{same, is_one}
use Rattle.task.specs.declared.Fault.TheVariants.{Clash, Unknown, Arguments, Sound}
use Rattle.task.specs.Ast.{Expr, Exprs, Pred, Constraint, Constraints, DataCtor, DataDecl, FunBody, FunDef, Task}
use Rattle.task.specs.Decode.{got, bind}
use Rattle.task.specs.Fault.{task_fault}
use Rattle.task.specs.Scope.{declared_by, everywhere, in_constraint, arity_of, exprs_number, names_fault}
use Rattle.task.specs.Task.{judged_by, judged, task_of}

-- the names of the ForAlls in a constraint, in the order of the file
unfoldable mutual
  pub for_all_names : Constraint → List (List ℕ)
  for_all_names (Constraint.pred p) = []
  for_all_names (Constraint.conj cs) = for_alls_in cs
  for_all_names (Constraint.for_all x b ps c) = x ∷ for_all_names c

  -- of constraints in a row
  pub for_alls_in : Constraints → List (List ℕ)
  for_alls_in Constraints.none = []
  for_alls_in (Constraints.more c cs) = for_all_names c ++ for_alls_in cs

-- the names of the fields of constructors
abbrev pub ctor_fields : List DataCtor → List (List ℕ)
ctor_fields [] = []
ctor_fields (c ∷ cs) = map (λ b. b.name) c.fields ++ ctor_fields cs

-- the names of the fields of datatypes
abbrev pub field_names : List DataDecl → List (List ℕ)
field_names [] = []
field_names (d ∷ ds) = ctor_fields d.ctors ++ field_names ds

-- no name is in both lists
abbrev pub Disjoint : List (List ℕ) → List (List ℕ) → Type 0
Disjoint xs ys = (x : List ℕ) → is_one x xs ≡ true → is_one x ys ≡ false

-- W-207, said without the fold: no ForAll has the name of a constant, a function, a constructor, a field or a KVar
pub record Apart (t : Task) : Type 0 where
  pub constants : Disjoint (for_all_names t.constraint) (map (λ b. b.name) t.constants)
  pub functions : Disjoint (for_all_names t.constraint) (map (λ f. f.name) t.functions)
  pub constructors : Disjoint (for_all_names t.constraint) (declared_by true t.datatypes)
  pub fields : Disjoint (for_all_names t.constraint) (field_names t.datatypes)
  pub kvars : Disjoint (for_all_names t.constraint) (map (λ k. k.kvid) t.kvars)

-- W-201, said without the fold. A name is free in an expression: some Var has it, and nothing around that Var binds it.
unfoldable mutual
  pub free_in : List ℕ → Expr → Bool
  free_in x (Expr.constant c) = false
  free_in x (Expr.var y) = same x y
  free_in x (Expr.app h es o) = free_in x h || free_among x es
  free_in x (Expr.neg e) = free_in x e
  free_in x (Expr.binary_op o a b) = free_in x a || free_in x b
  free_in x (Expr.if_then_else c a b) = free_in x c || (free_in x a || free_in x b)
  free_in x (Expr.and es) = free_among x es
  free_in x (Expr.or es) = free_among x es
  free_in x (Expr.not e) = free_in x e
  free_in x (Expr.imp a b) = free_in x a || free_in x b
  free_in x (Expr.iff a b) = free_in x a || free_in x b
  free_in x (Expr.atom r a b) = free_in x a || free_in x b
  free_in x (Expr.let_in y a b) = free_in x a || (not (same x y) && free_in x b)
  free_in x (Expr.thy_func f) = false
  free_in x (Expr.is_ctor y e) = free_in x e
  free_in x (Expr.quantifier q bs e) = not (is_one x (map (λ b. b.name) bs)) && free_in x e
  free_in x Expr.wk_var = false

  -- in one of several expressions
  pub free_among : List ℕ → Exprs → Bool
  free_among x Exprs.none = false
  free_among x (Exprs.more e es) = free_in x e || free_among x es

-- An expression tests whether something was made by the constructor of that name: some IsCtor has it.
unfoldable mutual
  pub tested_in : List ℕ → Expr → Bool
  tested_in x (Expr.constant c) = false
  tested_in x (Expr.var y) = false
  tested_in x (Expr.app h es o) = tested_in x h || tested_among x es
  tested_in x (Expr.neg e) = tested_in x e
  tested_in x (Expr.binary_op o a b) = tested_in x a || tested_in x b
  tested_in x (Expr.if_then_else c a b) = tested_in x c || (tested_in x a || tested_in x b)
  tested_in x (Expr.and es) = tested_among x es
  tested_in x (Expr.or es) = tested_among x es
  tested_in x (Expr.not e) = tested_in x e
  tested_in x (Expr.imp a b) = tested_in x a || tested_in x b
  tested_in x (Expr.iff a b) = tested_in x a || tested_in x b
  tested_in x (Expr.atom r a b) = tested_in x a || tested_in x b
  tested_in x (Expr.let_in y a b) = tested_in x a || tested_in x b
  tested_in x (Expr.thy_func f) = false
  tested_in x (Expr.is_ctor y e) = same x y || tested_in x e
  tested_in x (Expr.quantifier q bs e) = tested_in x e
  tested_in x Expr.wk_var = false

  -- one of several expressions does
  pub tested_among : List ℕ → Exprs → Bool
  tested_among x Exprs.none = false
  tested_among x (Exprs.more e es) = tested_in x e || tested_among x es

-- every name that passes the test is in the list
abbrev pub Within : (List ℕ → Bool) → List (List ℕ) → Type 0
Within test known = (x : List ℕ) → test x ≡ true → is_one x known ≡ true

-- The names that are free are known, and what is tested for are constructors.
pub record Closed (is_free is_tested : List ℕ → Bool) (ctors known : List (List ℕ)) : Type 0 where
  pub free : Within is_free known
  pub tested : Within is_tested ctors

-- an expression
abbrev pub ExprClosed : List (List ℕ) → List (List ℕ) → Expr → Type 0
ExprClosed ctors known e = Closed (λ x. free_in x e) (λ x. tested_in x e) ctors known

-- a predicate: its KVar, if it has one, is declared
abbrev pub PredClosed : Task → List (List ℕ) → Pred → Type 0
PredClosed t known (Pred.kvar k es) =
    (is_one k (map (λ d. d.kvid) t.kvars) ≡ true) × Closed (λ x. free_among x es) (λ x. tested_among x es) (declared_by true t.datatypes) known
PredClosed t known (Pred.expr e) = ExprClosed (declared_by true t.datatypes) known e

-- its KVar has as many sorts as it has arguments
abbrev pub PredCounted : Task → List (List ℕ) → Pred → Type 0
PredCounted t known (Pred.kvar k es) = arity_of t.kvars k ≡ some (exprs_number es)
PredCounted t known (Pred.expr e) = Unit

-- it holds of each member of a list
abbrev pub Each : {A : Type 0} → (A → Type 0) → List A → Type 0
Each P [] = Unit
Each P (a ∷ rest) = P a × Each P rest

-- It holds of each predicate of a constraint with the names that are known there: the given ones, and the names of the ForAlls that hold the predicate.
unfoldable mutual
  pub EachPred : (List (List ℕ) → Pred → Type 0) → List (List ℕ) → Constraint → Type 0
  EachPred P known (Constraint.pred p) = P known p
  EachPred P known (Constraint.conj cs) = EachPreds P known cs
  EachPred P known (Constraint.for_all x b ps c) = Each (P (known ++ (x ∷ []))) ps × EachPred P (known ++ (x ∷ [])) c

  -- of each predicate of constraints in a row
  pub EachPreds : (List (List ℕ) → Pred → Type 0) → List (List ℕ) → Constraints → Type 0
  EachPreds P known Constraints.none = Unit
  EachPreds P known (Constraints.more c cs) = EachPred P known c × EachPreds P known cs

-- a body, if there is one, with its function's arguments
abbrev pub InBody : (List (List ℕ) → Expr → Type 0) → List (List ℕ) → Option FunBody → Type 0
InBody P known none = Unit
InBody P known (some b) = P (known ++ b.args) b.expr

-- It holds of each body with the names that are known there: the given ones, the functions in front, and the arguments.
abbrev pub EachBody : (List (List ℕ) → Expr → Type 0) → List (List ℕ) → List FunDef → Type 0
EachBody P known [] = Unit
EachBody P known (f ∷ fs) = InBody P known f.body × EachBody P (known ++ (f.name ∷ [])) fs

-- Every name in a task is known.
pub record Known (t : Task) : Type 0 where
  pub bodies : EachBody (ExprClosed (declared_by true t.datatypes)) (everywhere t) t.functions
  pub predicates : EachPred (PredClosed t) (in_constraint t) t.constraint

-- Every KVar predicate has as many arguments as its declaration has sorts.
abbrev pub Counted : Task → Type 0
Counted t = EachPred (PredCounted t) (in_constraint t) t.constraint

-- Names are judged behind pieces: where a piece is at fault its number is answered, and else that of the names. (proofs/Scoping.antt: judged_last)
abbrev pub JudgedLast : Type 0
JudgedLast = (t : Task) (end : ℕ) → judged t end ≡ bind (judged_by task_fault t end) (judged_by names_fault)

-- 15, 10 and 11 are the faults in this order, each exactly where its rule does not hold. (proofs/Naming.antt: name_rules)
pub record NameRules (t : Task) : Type 0 where
  pub clash : (Apart t → ⊥) → names_fault t ≡ Clash
  pub unknown : Apart t → (Known t → ⊥) → names_fault t ≡ Unknown
  pub arguments : Apart t → Known t → (Counted t → ⊥) → names_fault t ≡ Arguments
  pub none : Apart t → Known t → Counted t → names_fault t ≡ Sound

-- what holds of the names of a task without such a fault
pub record NamesHold (t : Task) : Type 0 where
  pub apart : Apart t
  pub known : Known t
  pub counted : Counted t

-- where the fold finds no fault it does (proofs/Naming.antt: names_hold)
abbrev pub SoundNames : Type 0
SoundNames = (t : Task) → names_fault t ≡ Sound → NamesHold t

-- and so it is in every task that a file holds (proofs/Scoping.antt: held_names)
abbrev pub HeldNames : Type 0
HeldNames = (file : List ℕ) (t : Task) (end : ℕ) → task_of file ≡ got t end → NamesHold t
