-- What decides how a piece is written: the declared names, the names of the set functions, and a function's arguments with their sorts.
use Rattle.std.specs.Prelude.{ℕ, Bool, true, false, not, List, [], ◌∷◌}
use Rattle.smtlib.specs.Lexicon.{is_one}
use Rattle.task.specs.Ast.{SortCtor, Sorts, Binder, Expr, DataDecl}
use Rattle.task.specs.Fault.{needs_sort}
use Rattle.task.specs.Scope.{declared_by}
use Rattle.smt_text.specs.Editions.{NameTable}

-- the names of the declared constructors and datatypes
pub record Declared : Type 0 where
  pub constructors : List (List ℕ)
  pub datatypes : List (List ℕ)

-- the names that datatypes declare
abbrev pub declared : List DataDecl → Declared
declared ds = record { constructors = declared_by true ds; datatypes = declared_by false ds }

-- `SmtEncoder`: the declared names and, W-205, the names of the set functions in the place of its options
pub record Encoder : Type 0 where
  pub names : NameTable
  pub declares : Declared

-- `SmtEncoder::new`, for the declared names
abbrev pub encoder : NameTable → Declared → Encoder
encoder names env = record { names = names; declares = env }

-- a datatype's name that is not declared
abbrev pub is_opaque : Declared → SortCtor → Bool
is_opaque env SortCtor.set = false
is_opaque env SortCtor.map = false
is_opaque env (SortCtor.named x) = not (is_one x env.datatypes)

-- an application's head that is written with the output sort: a declared constructor, SetEmpty, MapDefault
abbrev pub is_qualified : Declared → Expr → Bool
is_qualified env (Expr.constant c) = false
is_qualified env (Expr.var x) = is_one x env.constructors
is_qualified env (Expr.app h es o) = false
is_qualified env (Expr.neg e) = false
is_qualified env (Expr.binary_op o a b) = false
is_qualified env (Expr.if_then_else c a b) = false
is_qualified env (Expr.and es) = false
is_qualified env (Expr.or es) = false
is_qualified env (Expr.not e) = false
is_qualified env (Expr.imp a b) = false
is_qualified env (Expr.iff a b) = false
is_qualified env (Expr.atom r a b) = false
is_qualified env (Expr.let_in x a b) = false
is_qualified env (Expr.thy_func f) = needs_sort f
is_qualified env (Expr.is_ctor x e) = false
is_qualified env (Expr.quantifier q bs e) = false
is_qualified env Expr.wk_var = false

-- each name with the sort at its place, as many as there are of both
abbrev pub zip : List (List ℕ) → Sorts → List Binder
zip [] bs = []
zip (x ∷ xs) Sorts.none = []
zip (x ∷ xs) (Sorts.more b bs) = record { name = x; sort = b } ∷ zip xs bs
