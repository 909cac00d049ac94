-- How a task stands in bytes: document 01, "The task file the customer hands in". A decoder reads a section at a position and gives
-- what stands there with the position behind it, or the number of the refusal that is met first.
use Rattle.std.specs.Prelude.{ℕ, zero, suc, ◌+◌, ◌*◌, Bool, true, false, cond, List, [], ◌∷◌, leb, eqb, length, take, drop, get_or}
use Rattle.std.proofs.Math.Option.{Option, none, some}
use Rattle.task.specs.declared.BinOp.{BinOp}
use Rattle.task.specs.declared.BinOp.TheVariants as op
use Rattle.task.specs.declared.BinRel.{BinRel}
use Rattle.task.specs.declared.BinRel.TheVariants as rel
use Rattle.task.specs.declared.Quantifier.{Quantifier}
use Rattle.task.specs.declared.Quantifier.TheVariants as quantifier
use Rattle.task.specs.declared.ThyFunc.{ThyFunc}
use Rattle.task.specs.declared.ThyFunc.TheVariants.{StrLen, StrConcat, StrPrefixOf, StrSuffixOf, StrContains, BvZeroExtend, BvSignExtend, IntToBv8, Bv8ToInt, IntToBv32, Bv32ToInt, IntToBv64, Bv64ToInt, IntToBv128, Bv128ToInt, BvUle, BvSle, BvUge, BvSge, BvUdiv, BvSdiv, BvSrem, BvUrem, BvLshr, BvAshr, BvAnd, BvOr, BvXor, BvNot, BvAdd, BvNeg, BvSub, BvMul, BvShl, BvUgt, BvSgt, BvUlt, BvSlt, SetEmpty, SetSng, SetCup, SetCap, SetDif, SetSub, SetMem, MapDefault, MapSelect, MapStore}
use Rattle.task.specs.Ast.{SortCtor, Sort, Sorts, Binder, Constant, Expr, Exprs, Pred, Constraint, Constraints, DataCtor, DataDecl, FunBody, FunDef, KVarDecl}

infixr 2 ◌▹◌
-- what was decoded, and the position behind it; or the refusal's number
pub data Res (A : Type 0) : Type 0 where
  got : A → ℕ → Res A
  refuse : ℕ → Res A

-- what follows, at the position behind what was got
abbrev pub bind : {A B : Type 0} → Res A → (A → ℕ → Res B) → Res B
bind (got a p) k = k a p
bind (refuse n) k = refuse n

-- It reads the bytes up to the section's end, at a position.
abbrev pub Decoder : Type 0 → Type 0
Decoder A = List ℕ → ℕ → Res A

-- reads nothing
abbrev pub give : {A : Type 0} → A → Decoder A
give a s at = got a at

-- refuses, whatever stands there
abbrev pub refusal : {A : Type 0} → ℕ → Decoder A
refusal n s at = refuse n

-- one piece, then what follows it
abbrev pub ◌▹◌ : {A B : Type 0} → Decoder A → (A → Decoder B) → Decoder B
◌▹◌ d k s at = bind (d s at) (λ a p. k a s p)

-- n bytes
unfoldable pub raw : ℕ → Decoder (List ℕ)
raw n s at = cond (leb (at + n) (length s)) (got (take n (drop at s)) (at + n)) (refuse 2)

-- bytes as a number, the low one first
abbrev pub little : List ℕ → ℕ
little [] = 0
little (b ∷ w) = b + 256 * little w

-- a number of n bytes
abbrev pub number : ℕ → Decoder ℕ
number n = raw n ▹ λ w. give (little w)

-- n pieces in a row
abbrev pub many : {A B : Type 0} → B → (A → B → B) → Decoder A → ℕ → Decoder B
many end more d zero = give end
many end more d (suc n) = d ▹ λ a. many end more d n ▹ λ b. give (more a b)

-- a count, then that many pieces
abbrev pub counted : {A B : Type 0} → B → (A → B → B) → Decoder A → Decoder B
counted end more d = number 2 ▹ many end more d

-- a length from 1 to 255, then that many bytes
abbrev pub name : Decoder (List ℕ)
name = number 1 ▹ λ n. cond (eqb n 0) (refusal 2) (raw n)

-- a 2-byte length, then that many bytes
abbrev pub text : Decoder (List ℕ)
text = number 2 ▹ raw

-- a code, then what it stands for: the codes count from 0
abbrev pub coded : {A : Type 0} → List (Decoder A) → Decoder A
coded ds = number 1 ▹ λ c. get_or ds c (refusal 2)

-- 0 or 1
abbrev pub flags : List (Decoder Bool)
flags = give false ∷ give true ∷ []

-- a flag
abbrev pub flag : Decoder Bool
flag = coded flags

-- a sort, given the decoder of a sort one level deeper: codes 0 to 11
unfoldable pub sort_forms : Decoder Sort → List (Decoder Sort)
sort_forms sort =
    give Sort.int ∷
    give Sort.bool ∷
    give Sort.real ∷
    give Sort.str ∷
    (sort ▹ λ b. give (Sort.bit_vec b)) ∷
    (number 4 ▹ λ n. give (Sort.bv_size n)) ∷
    (number 2 ▹ λ n. give (Sort.var n)) ∷
    (sort ▹ λ a. sort ▹ λ b. give (Sort.func a b)) ∷
    (number 2 ▹ λ n. sort ▹ λ b. give (Sort.abs n b)) ∷
    (counted Sorts.none Sorts.more sort ▹ λ bs. give (Sort.app SortCtor.set bs)) ∷
    (counted Sorts.none Sorts.more sort ▹ λ bs. give (Sort.app SortCtor.map bs)) ∷
    (name ▹ λ n. counted Sorts.none Sorts.more sort ▹ λ bs. give (Sort.app (SortCtor.named n) bs)) ∷
    []

-- a sort, with the number of levels left for it and what is in it
unfoldable pub dec_sort : ℕ → Decoder Sort
dec_sort zero = refusal 3
dec_sort (suc l) = coded (sort_forms (dec_sort l))

-- a name and a sort
abbrev pub binder : ℕ → Decoder Binder
binder l = name ▹ λ n. dec_sort l ▹ λ b. give (record { name = n; sort = b })

-- the codes of BinaryOp
unfoldable pub bin_ops : List (Decoder BinOp)
bin_ops = give op.Add ∷ give op.Sub ∷ give op.Mul ∷ give op.Div ∷ give op.Mod ∷ []

-- the codes of Atom
unfoldable pub bin_rels : List (Decoder BinRel)
bin_rels = give rel.Eq ∷ give rel.Ne ∷ give rel.Gt ∷ give rel.Ge ∷ give rel.Lt ∷ give rel.Le ∷ []

-- the codes of Quantifier
unfoldable pub quantifiers : List (Decoder Quantifier)
quantifiers = give quantifier.Exists ∷ give quantifier.Forall ∷ []

-- an extend function has its width behind the code
abbrev pub extends : Bool → Decoder ThyFunc
extends signed = number 1 ▹ λ w. give (cond signed (BvSignExtend w) (BvZeroExtend w))

-- the codes of ThyFunc
unfoldable pub thy_funcs : List (Decoder ThyFunc)
thy_funcs =
    give StrLen ∷ give StrConcat ∷ give StrPrefixOf ∷ give StrSuffixOf ∷ give StrContains ∷
    extends false ∷ extends true ∷
    give IntToBv8 ∷ give Bv8ToInt ∷ give IntToBv32 ∷ give Bv32ToInt ∷
    give IntToBv64 ∷ give Bv64ToInt ∷ give IntToBv128 ∷ give Bv128ToInt ∷
    give BvUle ∷ give BvSle ∷ give BvUge ∷ give BvSge ∷
    give BvUdiv ∷ give BvSdiv ∷ give BvSrem ∷ give BvUrem ∷ give BvLshr ∷ give BvAshr ∷
    give BvAnd ∷ give BvOr ∷ give BvXor ∷ give BvNot ∷ give BvAdd ∷ give BvNeg ∷ give BvSub ∷ give BvMul ∷ give BvShl ∷
    give BvUgt ∷ give BvSgt ∷ give BvUlt ∷ give BvSlt ∷
    give SetEmpty ∷ give SetSng ∷ give SetCup ∷ give SetCap ∷ give SetDif ∷ give SetSub ∷ give SetMem ∷
    give MapDefault ∷ give MapSelect ∷ give MapStore ∷
    []

-- an output sort, if the flag before it says so
abbrev pub given : ℕ → Bool → Decoder (Option Sort)
given l false = give none
given l true = dec_sort l ▹ λ b. give (some b)

-- an expression, given the levels left for what is in it and the decoder of an expression there: codes 0 to 20
unfoldable pub expr_forms : ℕ → Decoder Expr → List (Decoder Expr)
expr_forms l expr =
    (number 16 ▹ λ n. give (Expr.constant (Constant.numeral n))) ∷
    (flag ▹ λ b. give (Expr.constant (Constant.boolean b))) ∷
    (number 4 ▹ λ n. give (Expr.constant (Constant.real n))) ∷
    (text ▹ λ t. give (Expr.constant (Constant.string t))) ∷
    (number 16 ▹ λ n. number 4 ▹ λ w. give (Expr.constant (Constant.bit_vec n w))) ∷
    (name ▹ λ x. give (Expr.var x)) ∷
    give Expr.wk_var ∷
    (expr ▹ λ e. give (Expr.neg e)) ∷
    (expr ▹ λ e. give (Expr.not e)) ∷
    (coded bin_ops ▹ λ o. expr ▹ λ a. expr ▹ λ b. give (Expr.binary_op o a b)) ∷
    (coded bin_rels ▹ λ r. expr ▹ λ a. expr ▹ λ b. give (Expr.atom r a b)) ∷
    (expr ▹ λ a. expr ▹ λ b. give (Expr.imp a b)) ∷
    (expr ▹ λ a. expr ▹ λ b. give (Expr.iff a b)) ∷
    (counted Exprs.none Exprs.more expr ▹ λ es. give (Expr.and es)) ∷
    (counted Exprs.none Exprs.more expr ▹ λ es. give (Expr.or es)) ∷
    (expr ▹ λ c. expr ▹ λ a. expr ▹ λ b. give (Expr.if_then_else c a b)) ∷
    (name ▹ λ x. expr ▹ λ a. expr ▹ λ b. give (Expr.let_in x a b)) ∷
    (flag ▹ λ b. given l b ▹ λ o. expr ▹ λ h. counted Exprs.none Exprs.more expr ▹ λ es. give (Expr.app h es o)) ∷
    (coded thy_funcs ▹ λ f. give (Expr.thy_func f)) ∷
    (name ▹ λ x. expr ▹ λ e. give (Expr.is_ctor x e)) ∷
    (coded quantifiers ▹ λ q. counted [] ◌∷◌ (binder l) ▹ λ bs. expr ▹ λ e. give (Expr.quantifier q bs e)) ∷
    []

-- an expression, with the number of levels left for it and what is in it
unfoldable pub dec_expr : ℕ → Decoder Expr
dec_expr zero = refusal 3
dec_expr (suc l) = coded (expr_forms l (dec_expr l))

-- a predicate, given the decoder of an expression one level deeper: codes 0 and 1
abbrev pub pred_forms : Decoder Expr → List (Decoder Pred)
pred_forms expr =
    (name ▹ λ k. counted Exprs.none Exprs.more expr ▹ λ es. give (Pred.kvar k es)) ∷
    (expr ▹ λ e. give (Pred.expr e)) ∷
    []

-- a predicate, with the number of levels left for it and what is in it
unfoldable pub dec_pred : ℕ → Decoder Pred
dec_pred zero = refusal 3
dec_pred (suc l) = coded (pred_forms (dec_expr l))

-- a constraint, given the levels left for what is in it and the decoder of a constraint there: codes 0 to 2
abbrev pub constraint_forms : ℕ → Decoder Constraint → List (Decoder Constraint)
constraint_forms l constraint =
    (dec_pred l ▹ λ p. give (Constraint.pred p)) ∷
    (counted Constraints.none Constraints.more constraint ▹ λ cs. give (Constraint.conj cs)) ∷
    (name ▹ λ x. dec_sort l ▹ λ b. counted [] ◌∷◌ (dec_pred l) ▹ λ ps. constraint ▹ λ c. give (Constraint.for_all x b ps c)) ∷
    []

-- a constraint, with the number of levels left for it and what is in it
unfoldable pub dec_constraint : ℕ → Decoder Constraint
dec_constraint zero = refusal 3
dec_constraint (suc l) = coded (constraint_forms l (dec_constraint l))

-- the deepest level that a sort, an expression, a predicate or a constraint may be at
abbrev pub deepest : ℕ
deepest = 256

-- What stands directly in an item is at level 1. A comment is a text.
abbrev pub comment : Decoder (List ℕ)
comment = text

-- a constructor: a name and counted fields
abbrev pub data_ctor : Decoder DataCtor
data_ctor = name ▹ λ n. counted [] ◌∷◌ (binder deepest) ▹ λ fs. give (record { name = n; fields = fs })

-- a datatype: a name, its number of parameters and counted constructors
abbrev pub datatype : Decoder DataDecl
datatype =
    name ▹ λ n. number 2 ▹ λ vars. counted [] ◌∷◌ data_ctor ▹ λ cs. give (record { name = n; vars = vars; ctors = cs })

-- a constant: a name and a sort
abbrev pub constant : Decoder Binder
constant = binder deepest

-- the argument names and the expression of a function, if the flag before them says so
abbrev pub body : Bool → Decoder (Option FunBody)
body false = give none
body true = counted [] ◌∷◌ name ▹ λ xs. dec_expr deepest ▹ λ e. give (some (record { args = xs; expr = e }))

-- a function: a name, its number of parameters, counted inputs, the output, and perhaps a body
abbrev pub function : Decoder FunDef
function =
    name ▹ λ n. number 2 ▹ λ params. counted Sorts.none Sorts.more (dec_sort deepest) ▹ λ ins. dec_sort deepest ▹ λ out.
    flag ▹ λ b. body b ▹ λ o. give (record { name = n; params = params; inputs = ins; output = out; body = o })

-- a KVar: a name and counted sorts
abbrev pub kvar : Decoder KVarDecl
kvar = name ▹ λ n. counted Sorts.none Sorts.more (dec_sort deepest) ▹ λ bs. give (record { kvid = n; sorts = bs })

-- items one after another up to the section's end, of which n are enough
unfoldable pub items : {A : Type 0} → ℕ → Decoder A → Decoder (List A)
items zero d s at = got [] at
items (suc n) d s at = cond (leb (length s) at) (got [] at) ((d ▹ λ a. items n d ▹ λ b. give (a ∷ b)) s at)

-- Each item takes a byte at least, so as many as there are bytes are enough: the walk ends at the section's end (`section_walks`).
abbrev pub section : {A : Type 0} → Decoder A → Decoder (List A)
section d s = items (length s) d s
