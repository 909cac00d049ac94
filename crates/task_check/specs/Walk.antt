-- What the checking walkers answer.
use Rattle.std.specs.Prelude.{◌≡◌, ℕ, zero, suc, ◌<◌, ◌^◌, Bool, false, not, List, [], ◌∷◌, Result}
use Rattle.task.specs.declared.Fault.{Fault}
use Rattle.task.specs.declared.Refusal.{Refusal}
use Rattle.task.specs.Node.{read_of}
use Rattle.task.specs.declared.Quantifier.TheVariants.{Forall}
use Rattle.task.specs.Ast.{Expr, Exprs, Pred}
use Rattle.task.specs.Decode.{Res, got, refuse, bind, Decoder, give, ◌▹◌, many, counted, name, binder, given, dec_expr}
use Rattle.task.specs.Fault.{lower, name_fault, text_fault, width_fault, thy_func_fault}
use Rattle.task.specs.Task.{literally_true}
use Rattle.task.specs.declared.SortNode.{SortNode}
use Rattle.task.specs.declared.SortNode.TheVariants as sort_node_is
use Rattle.task.specs.declared.ExprNode.{ExprNode}
use Rattle.task.specs.declared.ExprNode.TheVariants as expr_node
use Rattle.task.specs.declared.Fault.TheVariants.{Sound, WKVar}
use Rattle.task_check.specs.declared.SortParts.{SortParts}
use Rattle.task_check.specs.declared.SortParts.TheVariants as sort_parts_is
use Rattle.task_check.specs.declared.ExprParts.{ExprParts}
use Rattle.task_check.specs.declared.ExprParts.TheVariants as expr_parts_is

-- the fault of a decoded piece and where it ends, or the refusal
abbrev pub walked : {A : Type 0} → (A → Fault) → Res A → Res Fault
walked fault (got a p) = got (fault a) p
walked fault (refuse k) = refuse k

-- an answer with a fault that was met before
abbrev pub after : Fault → Res Fault → Res Fault
after f (got g p) = got (lower f g) p
after f (refuse k) = refuse k

-- what a walker answers
abbrev pub Answer : Type 0
Answer = Result (Fault × ℕ) Refusal

-- the answer for n pieces in a row, given the answer for one at each position
abbrev pub row : (ℕ → Res Fault) → ℕ → ℕ → Res Fault
row one zero at = got Sound at
row one (suc n) at = bind (one at) (λ f p. after f (row one n p))

-- calls answer what is told for each position
abbrev pub Answers : (ℕ → Answer → Type 0) → (ℕ → Res Fault) → Type 0
Answers call one = (p : ℕ) (r : Answer) → p < 2 ^ 64 → call p r → read_of r ≡ one p

-- x is the answer for n pieces in a row, given what calls answer for one at each position
pub record Rows (call : ℕ → Answer → Type 0) (n at : ℕ) (x : Res Fault) : Type 0 where
  pub are : (one : ℕ → Res Fault) → Answers call one → x ≡ row one n at

-- what a sort's node leaves to be walked
abbrev pub sort_parts : Bool → SortNode → SortParts
sort_parts under sort_node_is.Int = sort_parts_is.Row 0 (width_fault under)
sort_parts under sort_node_is.Bool = sort_parts_is.Row 0 (width_fault under)
sort_parts under sort_node_is.Real = sort_parts_is.Row 0 (width_fault under)
sort_parts under sort_node_is.Str = sort_parts_is.Row 0 (width_fault under)
sort_parts under sort_node_is.BitVec = sort_parts_is.Width (width_fault under)
sort_parts under (sort_node_is.BvSize n) = sort_parts_is.Row 0 (width_fault (not under))
sort_parts under (sort_node_is.Var n) = sort_parts_is.Row 0 (width_fault under)
sort_parts under sort_node_is.Func = sort_parts_is.Row 2 (width_fault under)
sort_parts under (sort_node_is.Abs n) = sort_parts_is.Row 1 (width_fault under)
sort_parts under (sort_node_is.Set n) = sort_parts_is.Row n (width_fault under)
sort_parts under (sort_node_is.Map n) = sort_parts_is.Row n (width_fault under)
sort_parts under (sort_node_is.Data x n) = sort_parts_is.Row n (lower (width_fault under) (name_fault x.now))

-- what an expression's node leaves to be walked
abbrev pub expr_parts : Bool → ExprNode → ExprParts
expr_parts head (expr_node.Numeral lo hi) = expr_parts_is.Row 0 Sound
expr_parts head (expr_node.Boolean b) = expr_parts_is.Row 0 Sound
expr_parts head (expr_node.Real n) = expr_parts_is.Row 0 Sound
expr_parts head (expr_node.String x) = expr_parts_is.Row 0 (text_fault x.now)
expr_parts head (expr_node.BitVec lo hi w) = expr_parts_is.Row 0 Sound
expr_parts head (expr_node.Var x) = expr_parts_is.Row 0 (name_fault x.now)
expr_parts head expr_node.WKVar = expr_parts_is.Row 0 WKVar
expr_parts head expr_node.Neg = expr_parts_is.Row 1 Sound
expr_parts head expr_node.Not = expr_parts_is.Row 1 Sound
expr_parts head (expr_node.BinaryOp o) = expr_parts_is.Row 2 Sound
expr_parts head (expr_node.Atom r) = expr_parts_is.Row 2 Sound
expr_parts head expr_node.Imp = expr_parts_is.Row 2 Sound
expr_parts head expr_node.Iff = expr_parts_is.Row 2 Sound
expr_parts head (expr_node.And n) = expr_parts_is.Row n Sound
expr_parts head (expr_node.Or n) = expr_parts_is.Row n Sound
expr_parts head expr_node.IfThenElse = expr_parts_is.Row 3 Sound
expr_parts head (expr_node.Let x) = expr_parts_is.Row 2 (name_fault x.now)
expr_parts head (expr_node.App b) = expr_parts_is.App b
expr_parts head (expr_node.ThyFunc f) = expr_parts_is.Row 0 (thy_func_fault head f)
expr_parts head (expr_node.IsCtor x) = expr_parts_is.Row 1 (name_fault x.now)
expr_parts head (expr_node.Quantifier q n) = expr_parts_is.Quantifier n

-- what stands behind an application's flag
abbrev pub applied : ℕ → Bool → Decoder Expr
applied l b = given l b ▹ λ o. dec_expr l ▹ λ h. counted Exprs.none Exprs.more (dec_expr l) ▹ λ es. give (Expr.app h es o)

-- what stands behind a quantifier's count; which quantifier it is makes no difference to a fault
abbrev pub quantified : ℕ → ℕ → Decoder Expr
quantified l n = many [] ◌∷◌ (binder l) n ▹ λ bs. dec_expr l ▹ λ e. give (Expr.quantifier Forall bs e)

-- whether a predicate was decoded that is literally true
abbrev pub read_true : Res Pred → Bool
read_true (got p q) = literally_true p
read_true (refuse k) = false

-- a name, if one was decoded, before others
abbrev pub named : Res (List ℕ) → List (List ℕ) → List (List ℕ)
named (got x p) xs = x ∷ xs
named (refuse k) xs = xs

-- the name that stands at a position, if there is one
abbrev pub named_at : List ℕ → ℕ → List (List ℕ)
named_at s at = named (name s at) []
