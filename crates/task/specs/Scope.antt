-- What is refused of the names of a task: W-207 and W-201. It is judged behind the faults of `Fault.antt`.
use Rattle.std.specs.Prelude.{ℕ, suc, Bool, true, false, cond, not, List, [], ◌∷◌, ◌++◌, map, eqb}
use Rattle.std.proofs.Math.Option.{Option, none, some}
use Rattle.smtlib.specs.Lexicon.{same, is_one}
use Rattle.task.specs.declared.Fault.{Fault}
use Rattle.task.specs.declared.Fault.TheVariants.{Clash, Unknown, Arguments, Sound}
use Rattle.task.specs.Ast.{Expr, Exprs, Pred, Constraint, Constraints, DataCtor, DataDecl, FunBody, FunDef, KVarDecl, Task}
use Rattle.task.specs.Fault.{lower, unless, each, sorts_number}

-- WHAT A TASK DECLARES

-- the names of constructors
abbrev pub ctor_names : List DataCtor → List (List ℕ)
ctor_names [] = []
ctor_names (c ∷ cs) = c.name ∷ ctor_names cs

-- the names that a datatype declares: its own, or those of its constructors
abbrev pub declared : Bool → DataDecl → List (List ℕ)
declared false d = d.name ∷ []
declared true d = ctor_names d.ctors

-- the names that datatypes declare
abbrev pub declared_by : Bool → List DataDecl → List (List ℕ)
declared_by ctors [] = []
declared_by ctors (d ∷ ds) = declared ctors d ++ declared_by ctors ds

-- a name is that of a declared datatype
abbrev pub is_datatype : List ℕ → List DataDecl → Bool
is_datatype x ds = is_one x (declared_by false ds)

-- a name is that of a declared constructor
abbrev pub is_ctor : List ℕ → List DataDecl → Bool
is_ctor x ds = is_one x (declared_by true ds)

-- the names that a constructor takes: its own, and those of its fields
abbrev pub ctor_takes : DataCtor → List (List ℕ)
ctor_takes c = c.name ∷ map (λ b. b.name) c.fields

-- constructors
abbrev pub ctors_take : List DataCtor → List (List ℕ)
ctors_take [] = []
ctors_take (c ∷ cs) = ctor_takes c ++ ctors_take cs

-- datatypes: the names of their constructors and fields; a datatype's own name does not count
abbrev pub datatypes_take : List DataDecl → List (List ℕ)
datatypes_take [] = []
datatypes_take (d ∷ ds) = ctors_take d.ctors ++ datatypes_take ds

-- the names that no ForAll may have: those of constructors and fields, of constants, of functions and of KVars
unfoldable pub taken_names : Task → List (List ℕ)
taken_names t =
    datatypes_take t.datatypes
    ++ (map (λ b. b.name) t.constants ++ (map (λ f. f.name) t.functions ++ map (λ k. k.kvid) t.kvars))

-- the names that a Var may have wherever it stands: those of constructors and fields, and of constants
unfoldable pub everywhere : Task → List (List ℕ)
everywhere t = datatypes_take t.datatypes ++ map (λ b. b.name) t.constants

-- those that a Var may have anywhere in the constraint: the names of all functions too
unfoldable pub in_constraint : Task → List (List ℕ)
in_constraint t = everywhere t ++ map (λ f. f.name) t.functions

-- the number of sorts of a KVar, if one is declared under the name; of two declarations the first counts
unfoldable pub arity_of : List KVarDecl → List ℕ → Option ℕ
arity_of [] x = none
arity_of (k ∷ ks) x = cond (same x k.kvid) (some (sorts_number k.sorts)) (arity_of ks x)

-- EXPRESSIONS

-- 10: a name is one of the known ones
unfoldable pub known_fault : List (List ℕ) → List ℕ → Fault
known_fault known x = unless (is_one x known) Unknown

-- an expression, given the names of constructors and the names that a Var may have where it stands; sorts are not looked at
unfoldable mutual
  pub expr_scope : List (List ℕ) → List (List ℕ) → Expr → Fault
  expr_scope ctors vars (Expr.constant c) = Sound
  expr_scope ctors vars (Expr.var x) = known_fault vars x
  -- a Var at the head is a Var like any other
  expr_scope ctors vars (Expr.app h es o) = lower (expr_scope ctors vars h) (exprs_scope ctors vars es)
  expr_scope ctors vars (Expr.neg e) = expr_scope ctors vars e
  expr_scope ctors vars (Expr.binary_op o a b) = lower (expr_scope ctors vars a) (expr_scope ctors vars b)
  expr_scope ctors vars (Expr.if_then_else c a b) = lower (expr_scope ctors vars c) (lower (expr_scope ctors vars a) (expr_scope ctors vars b))
  expr_scope ctors vars (Expr.and es) = exprs_scope ctors vars es
  expr_scope ctors vars (Expr.or es) = exprs_scope ctors vars es
  expr_scope ctors vars (Expr.not e) = expr_scope ctors vars e
  expr_scope ctors vars (Expr.imp a b) = lower (expr_scope ctors vars a) (expr_scope ctors vars b)
  expr_scope ctors vars (Expr.iff a b) = lower (expr_scope ctors vars a) (expr_scope ctors vars b)
  expr_scope ctors vars (Expr.atom r a b) = lower (expr_scope ctors vars a) (expr_scope ctors vars b)
  -- a Let's name is known in its second operand, not in its first
  expr_scope ctors vars (Expr.let_in x a b) = lower (expr_scope ctors vars a) (expr_scope ctors (vars ++ (x ∷ [])) b)
  expr_scope ctors vars (Expr.thy_func f) = Sound
  -- an IsCtor's name is that of a constructor
  expr_scope ctors vars (Expr.is_ctor x e) = lower (known_fault ctors x) (expr_scope ctors vars e)
  -- a Quantifier's names are known in its body
  expr_scope ctors vars (Expr.quantifier q bs e) = expr_scope ctors (vars ++ map (λ b. b.name) bs) e
  expr_scope ctors vars Expr.wk_var = Sound

  -- expressions in a row
  pub exprs_scope : List (List ℕ) → List (List ℕ) → Exprs → Fault
  exprs_scope ctors vars Exprs.none = Sound
  exprs_scope ctors vars (Exprs.more e es) = lower (expr_scope ctors vars e) (exprs_scope ctors vars es)

-- FUNCTIONS

-- a body, if there is one: the function's arguments are known in it
unfoldable pub body_scope : List (List ℕ) → List (List ℕ) → Option FunBody → Fault
body_scope ctors vars none = Sound
body_scope ctors vars (some b) = expr_scope ctors (vars ++ b.args) b.expr

-- functions in a row: each is known to those behind it, and not in its own body
unfoldable pub functions_scope : List (List ℕ) → List (List ℕ) → List FunDef → Fault
functions_scope ctors vars [] = Sound
functions_scope ctors vars (f ∷ fs) = lower (body_scope ctors vars f.body) (functions_scope ctors (vars ++ (f.name ∷ [])) fs)

-- THE CONSTRAINT

-- what a task declares, as its constraint is judged by it
pub record Globals : Type 0 where
  -- no ForAll may have the name
  pub taken : List ℕ → Bool
  -- the names of constructors
  pub ctors : List (List ℕ)
  -- the number of a KVar's sorts, if it is declared
  pub arity : List ℕ → Option ℕ

-- those of a task
unfoldable pub globals_of : Task → Globals
globals_of t = record { taken = λ x. is_one x (taken_names t); ctors = declared_by true t.datatypes; arity = arity_of t.kvars }

-- how many expressions there are in a row
abbrev pub exprs_number : Exprs → ℕ
exprs_number Exprs.none = 0
exprs_number (Exprs.more e es) = suc (exprs_number es)

-- 10: a KVar predicate names a declared KVar. 11: it has as many arguments as that has sorts.
abbrev pub arguments_fault : Option ℕ → ℕ → Fault
arguments_fault none arguments = Unknown
arguments_fault (some sorts) arguments = unless (eqb arguments sorts) Arguments

-- a predicate, given the names that a Var may have where it stands
unfoldable pub pred_scope : Globals → List (List ℕ) → Pred → Fault
pred_scope g vars (Pred.kvar k es) = lower (arguments_fault (g.arity k) (exprs_number es)) (exprs_scope g.ctors vars es)
pred_scope g vars (Pred.expr e) = expr_scope g.ctors vars e

-- a constraint: a ForAll's name is not taken (15), and it is known in its predicates and its body. Each ForAll is judged, with heads under it or without.
unfoldable mutual
  pub constraint_names : Globals → List (List ℕ) → Constraint → Fault
  constraint_names g vars (Constraint.pred p) = pred_scope g vars p
  constraint_names g vars (Constraint.conj cs) = constraints_names g vars cs
  constraint_names g vars (Constraint.for_all x b ps c) =
      lower (unless (not (g.taken x)) Clash) (lower (each (pred_scope g (vars ++ (x ∷ []))) ps) (constraint_names g (vars ++ (x ∷ [])) c))

  -- constraints in a row
  pub constraints_names : Globals → List (List ℕ) → Constraints → Fault
  constraints_names g vars Constraints.none = Sound
  constraints_names g vars (Constraints.more c cs) = lower (constraint_names g vars c) (constraints_names g vars cs)

-- a task: its functions, and its constraint
unfoldable pub names_fault : Task → Fault
names_fault t =
    lower (functions_scope (declared_by true t.datatypes) (everywhere t) t.functions)
    (constraint_names (globals_of t) (in_constraint t) t.constraint)
