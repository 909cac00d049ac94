-- What the code's answers stand for: the decoder's answer that each read is. Only contracts of inner functions speak of it.
use Rattle.std.specs.Borrow.{Bor}
use Rattle.std.specs.Prelude.{Result, Ok, Err, ℕ, ◌+◌, ◌*◌, ◌^◌, ◌≤◌, List, [], ◌∷◌, ◌≡◌, get_or}
use Rattle.task.specs.declared.Refusal.{Refusal}
use Rattle.task.specs.Refusals.{number_of}
use Rattle.task.specs.declared.SortNode.{SortNode}
use Rattle.task.specs.declared.SortNode.TheVariants as sort_node_is
use Rattle.task.specs.declared.ExprNode.{ExprNode}
use Rattle.task.specs.declared.ExprNode.TheVariants as expr_node
use Rattle.task.specs.declared.PredNode.{PredNode}
use Rattle.task.specs.declared.PredNode.TheVariants as pred_node
use Rattle.task.specs.declared.ConstraintNode.{ConstraintNode}
use Rattle.task.specs.declared.ConstraintNode.TheVariants as constraint_node
use Rattle.task.specs.Ast.{SortCtor, Sort, Sorts, Constant, Expr, Exprs, Pred, Constraint, Constraints}
use Rattle.task.specs.Decode.{Res, got, refuse, Decoder, give, refusal, ◌▹◌, many, counted, name, coded, given, binder, dec_sort, dec_pred, sort_forms, expr_forms, pred_forms, constraint_forms}

-- what stands at a position with the position behind it, or the refusal
abbrev pub Answered : Type 0 → Type 0
Answered A = Result (A × ℕ) Refusal

-- a part of the section, lent
abbrev pub Bytes : Type 0
Bytes = Bor (List ℕ)

-- what the decoder answers for it
abbrev pub read_of : {A : Type 0} → Answered A → Res A
read_of (Ok (a, p)) = got a p
read_of (Err r) = refuse (number_of r)

-- a number by its halves
abbrev pub halves_of : Answered (ℕ × ℕ) → Res ℕ
halves_of (Ok ((lo, hi), p)) = got (lo + 2 ^ 64 * hi) p
halves_of (Err r) = refuse (number_of r)

-- bytes: those of a name or of a text
abbrev pub text_of : Answered Bytes → Res (List ℕ)
text_of (Ok (x, p)) = got x.now p
text_of (Err r) = refuse (number_of r)

-- a sort's node, given the decoder of a sort one level deeper
unfoldable pub sort_of : List ℕ → Decoder Sort → Answered SortNode → Res Sort
sort_of s sort (Ok (sort_node_is.Int, p)) = got Sort.int p
sort_of s sort (Ok (sort_node_is.Bool, p)) = got Sort.bool p
sort_of s sort (Ok (sort_node_is.Real, p)) = got Sort.real p
sort_of s sort (Ok (sort_node_is.Str, p)) = got Sort.str p
sort_of s sort (Ok (sort_node_is.BitVec, p)) = (sort ▹ λ b. give (Sort.bit_vec b)) s p
sort_of s sort (Ok (sort_node_is.BvSize n, p)) = got (Sort.bv_size n) p
sort_of s sort (Ok (sort_node_is.Var n, p)) = got (Sort.var n) p
sort_of s sort (Ok (sort_node_is.Func, p)) = (sort ▹ λ a. sort ▹ λ b. give (Sort.func a b)) s p
sort_of s sort (Ok (sort_node_is.Abs n, p)) = (sort ▹ λ b. give (Sort.abs n b)) s p
sort_of s sort (Ok (sort_node_is.Set n, p)) = (many Sorts.none Sorts.more sort n ▹ λ bs. give (Sort.app SortCtor.set bs)) s p
sort_of s sort (Ok (sort_node_is.Map n, p)) = (many Sorts.none Sorts.more sort n ▹ λ bs. give (Sort.app SortCtor.map bs)) s p
sort_of s sort (Ok (sort_node_is.Data x n, p)) = (many Sorts.none Sorts.more sort n ▹ λ bs. give (Sort.app (SortCtor.named x.now) bs)) s p
sort_of s sort (Err r) = refuse (number_of r)

-- the node is what stands behind code k
unfoldable pub SortForm : ℕ → List ℕ → ℕ → Answered SortNode → Type 0
SortForm k s p n = (sort : Decoder Sort) → get_or (sort_forms sort) k (refusal 2) s p ≡ sort_of s sort n

-- the node is what stands at the position
unfoldable pub SortAt : List ℕ → ℕ → Answered SortNode → Type 0
SortAt s at n = (sort : Decoder Sort) → coded (sort_forms sort) s at ≡ sort_of s sort n

-- an expression's node, given the levels left for what is in it and the decoder of an expression there
unfoldable pub expr_of : List ℕ → ℕ → Decoder Expr → Answered ExprNode → Res Expr
expr_of s l expr (Ok (expr_node.Numeral lo hi, p)) = got (Expr.constant (Constant.numeral (lo + 2 ^ 64 * hi))) p
expr_of s l expr (Ok (expr_node.Boolean b, p)) = got (Expr.constant (Constant.boolean b)) p
expr_of s l expr (Ok (expr_node.Real n, p)) = got (Expr.constant (Constant.real n)) p
expr_of s l expr (Ok (expr_node.String x, p)) = got (Expr.constant (Constant.string x.now)) p
expr_of s l expr (Ok (expr_node.BitVec lo hi w, p)) = got (Expr.constant (Constant.bit_vec (lo + 2 ^ 64 * hi) w)) p
expr_of s l expr (Ok (expr_node.Var x, p)) = got (Expr.var x.now) p
expr_of s l expr (Ok (expr_node.WKVar, p)) = got Expr.wk_var p
expr_of s l expr (Ok (expr_node.Neg, p)) = (expr ▹ λ e. give (Expr.neg e)) s p
expr_of s l expr (Ok (expr_node.Not, p)) = (expr ▹ λ e. give (Expr.not e)) s p
expr_of s l expr (Ok (expr_node.BinaryOp o, p)) = (expr ▹ λ a. expr ▹ λ b. give (Expr.binary_op o a b)) s p
expr_of s l expr (Ok (expr_node.Atom r, p)) = (expr ▹ λ a. expr ▹ λ b. give (Expr.atom r a b)) s p
expr_of s l expr (Ok (expr_node.Imp, p)) = (expr ▹ λ a. expr ▹ λ b. give (Expr.imp a b)) s p
expr_of s l expr (Ok (expr_node.Iff, p)) = (expr ▹ λ a. expr ▹ λ b. give (Expr.iff a b)) s p
expr_of s l expr (Ok (expr_node.And n, p)) = (many Exprs.none Exprs.more expr n ▹ λ es. give (Expr.and es)) s p
expr_of s l expr (Ok (expr_node.Or n, p)) = (many Exprs.none Exprs.more expr n ▹ λ es. give (Expr.or es)) s p
expr_of s l expr (Ok (expr_node.IfThenElse, p)) = (expr ▹ λ c. expr ▹ λ a. expr ▹ λ b. give (Expr.if_then_else c a b)) s p
expr_of s l expr (Ok (expr_node.Let x, p)) = (expr ▹ λ a. expr ▹ λ b. give (Expr.let_in x.now a b)) s p
expr_of s l expr (Ok (expr_node.App b, p)) =
    (given l b ▹ λ o. expr ▹ λ h. counted Exprs.none Exprs.more expr ▹ λ es. give (Expr.app h es o)) s p
expr_of s l expr (Ok (expr_node.ThyFunc f, p)) = got (Expr.thy_func f) p
expr_of s l expr (Ok (expr_node.IsCtor x, p)) = (expr ▹ λ e. give (Expr.is_ctor x.now e)) s p
expr_of s l expr (Ok (expr_node.Quantifier q n, p)) =
    (many [] ◌∷◌ (binder l) n ▹ λ bs. expr ▹ λ e. give (Expr.quantifier q bs e)) s p
expr_of s l expr (Err r) = refuse (number_of r)

-- what a node leaves to be read stands no earlier than a position
abbrev pub Behind : {A : Type 0} → ℕ → Answered A → Type 0
Behind at (Ok (n, p)) = at ≤ p
Behind at (Err r) = Unit

-- so does an expression's, and a Let's name stands at the position
abbrev pub ExprBehind : List ℕ → ℕ → Answered ExprNode → Type 0
ExprBehind s at (Ok (expr_node.Let x, p)) = name s at ≡ got x.now p
ExprBehind s at n = Behind at n

-- the node is what stands behind code k
pub record ExprForm (k : ℕ) (s : List ℕ) (p : ℕ) (n : Answered ExprNode) : Type 0 where
  pub is : (l : ℕ) (expr : Decoder Expr) → get_or (expr_forms l expr) k (refusal 2) s p ≡ expr_of s l expr n
  pub behind : ExprBehind s p n

-- the node is what stands at the position
pub record ExprAt (s : List ℕ) (at : ℕ) (n : Answered ExprNode) : Type 0 where
  pub is : (l : ℕ) (expr : Decoder Expr) → coded (expr_forms l expr) s at ≡ expr_of s l expr n
  pub behind : ExprBehind s (at + 1) n

-- a predicate's node
unfoldable pub pred_of : List ℕ → Decoder Expr → Answered PredNode → Res Pred
pred_of s expr (Ok (pred_node.KVar x n, p)) = (many Exprs.none Exprs.more expr n ▹ λ es. give (Pred.kvar x.now es)) s p
pred_of s expr (Ok (pred_node.Expr, p)) = (expr ▹ λ e. give (Pred.expr e)) s p
pred_of s expr (Err r) = refuse (number_of r)

-- the node is what stands behind code k
pub record PredForm (k : ℕ) (s : List ℕ) (p : ℕ) (n : Answered PredNode) : Type 0 where
  pub is : (expr : Decoder Expr) → get_or (pred_forms expr) k (refusal 2) s p ≡ pred_of s expr n
  pub behind : Behind p n

-- the node is what stands at the position
pub record PredAt (s : List ℕ) (at : ℕ) (n : Answered PredNode) : Type 0 where
  pub is : (expr : Decoder Expr) → coded (pred_forms expr) s at ≡ pred_of s expr n
  pub behind : Behind (at + 1) n

-- a constraint's node
unfoldable pub constraint_of : List ℕ → ℕ → Decoder Constraint → Answered ConstraintNode → Res Constraint
constraint_of s l constraint (Ok (constraint_node.Pred, p)) = (dec_pred l ▹ λ h. give (Constraint.pred h)) s p
constraint_of s l constraint (Ok (constraint_node.Conj n, p)) =
    (many Constraints.none Constraints.more constraint n ▹ λ cs. give (Constraint.conj cs)) s p
constraint_of s l constraint (Ok (constraint_node.ForAll, p)) =
    (name ▹ λ x. dec_sort l ▹ λ b. counted [] ◌∷◌ (dec_pred l) ▹ λ ps. constraint ▹ λ c. give (Constraint.for_all x b ps c)) s p
constraint_of s l constraint (Err r) = refuse (number_of r)

-- the node is what stands at the position
pub record ConstraintAt (s : List ℕ) (at : ℕ) (n : Answered ConstraintNode) : Type 0 where
  pub is : (l : ℕ) (constraint : Decoder Constraint) → coded (constraint_forms l constraint) s at ≡ constraint_of s l constraint n
  pub behind : Behind (at + 1) n
