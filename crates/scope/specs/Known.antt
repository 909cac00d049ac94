-- What a table of names says where an expression, a predicate or a constraint stands. Only contracts of inner functions speak of it.
use Rattle.std.specs.Prelude.{ℕ, ◌+◌, ◌*◌, ◌≤◌, List, length}
use Rattle.smtlib.specs.Lexicon.{is_one}
use Rattle.task.specs.declared.Fault.{Fault}
use Rattle.task.specs.Ast.{Expr, Exprs, Pred, Constraint, Constraints}
use Rattle.task.specs.Scope.{Globals, expr_scope, exprs_scope, pred_scope, constraint_names, constraints_names}
use Rattle.names.specs.declared.Kind.TheVariants.{KVar, Constructor, Function, Bound}
use Rattle.names.specs.Table.{number_of, entries, names_of, Chained}
use Rattle.names.specs.declared.table.Table.{Table}
use Rattle.declared.specs.Arity.{arity_in}

-- the names of constructors
unfoldable pub ctors_in : List ℕ → List ℕ → List (List ℕ)
ctors_in s table = names_of (number_of Constructor) (number_of Constructor) (entries s table)

-- the names that a Var may have: constructors, fields, constants, functions and bound names are the kinds of this range
unfoldable pub vars_in : List ℕ → List ℕ → List (List ℕ)
vars_in s table = names_of (number_of Constructor) (number_of Bound) (entries s table)

-- the fault of an expression by the table, and of expressions in a row
abbrev pub expr_in : List ℕ → List ℕ → Expr → Fault
expr_in s table = expr_scope (ctors_in s table) (vars_in s table)

abbrev pub exprs_in : List ℕ → List ℕ → Exprs → Fault
exprs_in s table = exprs_scope (ctors_in s table) (vars_in s table)

-- the names that no ForAll may have: KVars, constructors, fields, constants and functions are the kinds of this range
unfoldable pub taken_in : List ℕ → List ℕ → List (List ℕ)
taken_in s table = names_of (number_of KVar) (number_of Function) (entries s table)

-- what the table says of the whole constraint
unfoldable pub globals_in : List ℕ → List ℕ → Globals
globals_in s table = record { taken = λ x. is_one x (taken_in s table); ctors = ctors_in s table; arity = arity_in s table }

-- the fault of a predicate by the table
abbrev pub pred_in : List ℕ → List ℕ → Pred → Fault
pred_in s table = pred_scope (globals_in s table) (vars_in s table)

-- the fault of a constraint by the table, and of constraints in a row
abbrev pub constraint_in : List ℕ → List ℕ → Constraint → Fault
constraint_in s table = constraint_names (globals_in s table) (vars_in s table)

abbrev pub constraints_in : List ℕ → List ℕ → Constraints → Fault
constraints_in s table = constraints_names (globals_in s table) (vars_in s table)

-- The table can be searched, it has a word for each byte of a file that is not too long, and three bytes before a position belong to each entry. So
-- there is room for the names that stand behind the position.
pub record Space (s table : List ℕ) (at : ℕ) : Type 0 where
  pub chained : Chained s table
  pub short : length s ≤ 60000
  pub words : 1026 + length s ≤ length table
  pub few : 3 * length (entries s table) ≤ length s
  pub room : 3 * length (entries s table) ≤ at

-- so it is of a table over its own file
abbrev pub Roomy : Table → ℕ → Type 0
Roomy t at = Space t.file.now t.words.now at
