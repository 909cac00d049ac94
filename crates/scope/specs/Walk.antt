-- What the walk over names reads, piece by piece. Only contracts of inner functions speak of it.
use Rattle.std.specs.Prelude.{ℕ, Bool, true, false, cond, List, [], ◌∷◌, ◌++◌, eqb}
use Rattle.std.proofs.Math.Option.{Option, none, some}
use Rattle.task.specs.declared.Fault.{Fault}
use Rattle.task.specs.declared.Fault.TheVariants.{Sound}
use Rattle.task.specs.declared.ExprNode.{ExprNode}
use Rattle.task.specs.declared.ExprNode.TheVariants as expr_node
use Rattle.task.specs.Ast.{Sorts, Expr, Pred, Constraint, FunBody}
use Rattle.task.specs.Decode.{Decoder, give, refusal, ◌▹◌, number, many, counted, name, flag, dec_sort, dec_expr, dec_pred, dec_constraint, deepest}
use Rattle.task.specs.Fault.{lower, each, sorts_number}
use Rattle.task.specs.Scope.{known_fault, expr_scope, body_scope}
use Rattle.scope.specs.declared.ScopeParts.{ScopeParts}
use Rattle.scope.specs.declared.ScopeParts.TheVariants as scope_parts_is
use Rattle.scope.specs.Known.{ctors_in, vars_in, pred_in, constraint_in}

-- what an expression's node leaves to be walked
abbrev pub scope_parts : List ℕ → List ℕ → ExprNode → ScopeParts
scope_parts s table (expr_node.Numeral lo hi) = scope_parts_is.Row 0 Sound
scope_parts s table (expr_node.Boolean b) = scope_parts_is.Row 0 Sound
scope_parts s table (expr_node.Real n) = scope_parts_is.Row 0 Sound
scope_parts s table (expr_node.String x) = scope_parts_is.Row 0 Sound
scope_parts s table (expr_node.BitVec lo hi w) = scope_parts_is.Row 0 Sound
scope_parts s table (expr_node.Var x) = scope_parts_is.Row 0 (known_fault (vars_in s table) x.now)
scope_parts s table expr_node.WKVar = scope_parts_is.Row 0 Sound
scope_parts s table expr_node.Neg = scope_parts_is.Row 1 Sound
scope_parts s table expr_node.Not = scope_parts_is.Row 1 Sound
scope_parts s table (expr_node.BinaryOp o) = scope_parts_is.Row 2 Sound
scope_parts s table (expr_node.Atom r) = scope_parts_is.Row 2 Sound
scope_parts s table expr_node.Imp = scope_parts_is.Row 2 Sound
scope_parts s table expr_node.Iff = scope_parts_is.Row 2 Sound
scope_parts s table (expr_node.And n) = scope_parts_is.Row n Sound
scope_parts s table (expr_node.Or n) = scope_parts_is.Row n Sound
scope_parts s table expr_node.IfThenElse = scope_parts_is.Row 3 Sound
scope_parts s table (expr_node.Let x) = scope_parts_is.Let
scope_parts s table (expr_node.App b) = scope_parts_is.App b
scope_parts s table (expr_node.ThyFunc f) = scope_parts_is.Row 0 Sound
scope_parts s table (expr_node.IsCtor x) = scope_parts_is.Row 1 (known_fault (ctors_in s table) x.now)
scope_parts s table (expr_node.Quantifier q n) = scope_parts_is.Quantifier n

-- what stands behind a Let's code
abbrev pub let_form : ℕ → Decoder Expr
let_form l = name ▹ λ x. dec_expr l ▹ λ a. dec_expr l ▹ λ b. give (Expr.let_in x a b)

-- what a ForAll's name is known in
pub record Under : Type 0 where
  pub preds : List Pred
  pub body : Constraint

-- it stands behind the number of predicates
abbrev pub under_form : ℕ → ℕ → Decoder Under
under_form l n = many [] ◌∷◌ (dec_pred l) n ▹ λ ps. dec_constraint l ▹ λ c. give (record { preds = ps; body = c })

-- its fault by the table
abbrev pub under_in : List ℕ → List ℕ → Under → Fault
under_in s table h = lower (each (pred_in s table) h.preds) (constraint_in s table h.body)

-- a function's body of as many argument names as there are inputs
abbrev pub body_form : ℕ → Decoder FunBody
body_form inputs =
    number 2 ▹ λ n. cond (eqb n inputs) (many [] ◌∷◌ name n ▹ λ xs. dec_expr deepest ▹ λ e. give (record { args = xs; expr = e })) (refusal 6)

-- if the flag before it says so
abbrev pub perhaps_body : Bool → ℕ → Decoder (Option FunBody)
perhaps_body false inputs = give none
perhaps_body true inputs = body_form inputs ▹ λ b. give (some b)

-- what stands behind a function's name and its number of parameters
abbrev pub signature_form : Decoder (Option FunBody)
signature_form = counted Sorts.none Sorts.more (dec_sort deepest) ▹ λ ins. dec_sort deepest ▹ λ out. flag ▹ λ b. perhaps_body b (sorts_number ins)

-- a function, of which the body is judged
abbrev pub function_form : Decoder (Option FunBody)
function_form = name ▹ λ x. number 2 ▹ λ params. signature_form

-- the fault of a body by the table
abbrev pub body_in : List ℕ → List ℕ → FunBody → Fault
body_in s table b = expr_scope (ctors_in s table) (vars_in s table ++ b.args) b.expr

-- of a body, if there is one
abbrev pub perhaps_in : List ℕ → List ℕ → Option FunBody → Fault
perhaps_in s table = body_scope (ctors_in s table) (vars_in s table)
