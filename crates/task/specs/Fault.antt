-- What is refused of a task that decodes: document 01, "What each call says no to", from 4 on, with W-203 and W-206. A fault counts wherever
-- it stands, also in places that are never written.
use Rattle.std.specs.Prelude.{ℕ, suc, Bool, true, false, cond, not, ◌||◌, List, [], ◌∷◌, ◌++◌, leb, eqb, length}
use Rattle.std.proofs.Math.Option.{Option, none, some}
use Rattle.smtlib.specs.Lexicon.{all, is_one, visible, is_symbol}
use Rattle.task.specs.declared.Fault.{Fault}
use Rattle.task.specs.declared.Fault.TheVariants.{Text, NoConstructors, BitVecWidth, Unqualified, WKVar, Arity, Shadowed, Clash, Unknown, Arguments, Sound}
use Rattle.task.specs.declared.ThyFunc.{ThyFunc}
use Rattle.task.specs.declared.ThyFunc.TheVariants.{StrLen, StrConcat, StrPrefixOf, StrSuffixOf, StrContains, BvZeroExtend, BvSignExtend, IntToBv8, Bv8ToInt, IntToBv32, Bv32ToInt, IntToBv64, Bv64ToInt, IntToBv128, Bv128ToInt, BvUle, BvSle, BvUge, BvSge, BvUdiv, BvSdiv, BvSrem, BvUrem, BvLshr, BvAshr, BvAnd, BvOr, BvXor, BvNot, BvAdd, BvNeg, BvSub, BvMul, BvShl, BvUgt, BvSgt, BvUlt, BvSlt, SetEmpty, SetSng, SetCup, SetCap, SetDif, SetSub, SetMem, MapDefault, MapSelect, MapStore}
use Rattle.task.specs.Ast.{SortCtor, Sort, Sorts, Binder, Constant, Expr, Exprs, Pred, Constraint, Constraints, DataCtor, DataDecl, FunBody, FunDef, KVarDecl, Task}

-- the order in which faults are judged; a sound piece comes last
abbrev pub rank : Fault → ℕ
rank Text = 1
rank NoConstructors = 2
rank BitVecWidth = 3
rank Unqualified = 4
rank WKVar = 5
rank Arity = 6
rank Shadowed = 7
rank Clash = 8
rank Unknown = 9
rank Arguments = 10
rank Sound = 11

-- the number that is answered for a fault; 0 for none. W-206: of the forms that have no text a datatype without constructors keeps 5, and each
-- other has a number of its own, judged before 6. W-207: 15 is judged directly after 7. W-201: 10 and then 11 are judged last.
abbrev pub refusal_of : Fault → ℕ
refusal_of Text = 4
refusal_of NoConstructors = 5
refusal_of BitVecWidth = 12
refusal_of Unqualified = 13
refusal_of WKVar = 14
refusal_of Arity = 6
refusal_of Shadowed = 7
refusal_of Clash = 15
refusal_of Unknown = 10
refusal_of Arguments = 11
refusal_of Sound = 0

-- of two faults the one that is judged first
unfoldable pub lower : Fault → Fault → Fault
lower f g = cond (leb (rank f) (rank g)) f g

-- a fault, unless the test holds
abbrev pub unless : Bool → Fault → Fault
unless ok f = cond ok Sound f

-- the first judged of the faults of a list's members
abbrev pub each : {A : Type 0} → (A → Fault) → List A → Fault
each fault [] = Sound
each fault (a ∷ rest) = lower (fault a) (each fault rest)

-- 4: a name is a simple symbol and not reserved
unfoldable pub name_fault : List ℕ → Fault
name_fault x = unless (is_symbol x) Text

-- 4: the bytes of a comment or a string are 32 to 126. W-203: a string's may be quotation marks too.
unfoldable pub text_fault : List ℕ → Fault
text_fault t = unless (all visible t) Text

-- a datatype's name in a sort
abbrev pub ctor_fault : SortCtor → Fault
ctor_fault SortCtor.set = Sound
ctor_fault SortCtor.map = Sound
ctor_fault (SortCtor.named x) = name_fault x

-- 12: BvSize stands directly under BitVec, and nothing else does. Given whether a sort stands there: the fault of one that is no BvSize
abbrev pub width_fault : Bool → Fault
width_fault under = unless (not under) BitVecWidth

-- a sort
unfoldable mutual
  pub sort_fault : Bool → Sort → Fault
  sort_fault under Sort.int = width_fault under
  sort_fault under Sort.bool = width_fault under
  sort_fault under Sort.real = width_fault under
  sort_fault under Sort.str = width_fault under
  sort_fault under (Sort.bit_vec b) = lower (width_fault under) (sort_fault true b)
  sort_fault under (Sort.bv_size n) = width_fault (not under)
  sort_fault under (Sort.var n) = width_fault under
  sort_fault under (Sort.func a b) = lower (width_fault under) (lower (sort_fault false a) (sort_fault false b))
  sort_fault under (Sort.abs n b) = lower (width_fault under) (sort_fault false b)
  sort_fault under (Sort.app c bs) = lower (width_fault under) (lower (ctor_fault c) (sorts_fault bs))

  pub sorts_fault : Sorts → Fault
  sorts_fault Sorts.none = Sound
  sorts_fault (Sorts.more b bs) = lower (sort_fault false b) (sorts_fault bs)

-- a name with its sort
unfoldable pub binder_fault : Binder → Fault
binder_fault b = lower (name_fault b.name) (sort_fault false b.sort)

-- of constants only strings can be at fault
abbrev pub constant_fault : Constant → Fault
constant_fault (Constant.numeral n) = Sound
constant_fault (Constant.real n) = Sound
constant_fault (Constant.boolean b) = Sound
constant_fault (Constant.string t) = text_fault t
constant_fault (Constant.bit_vec n w) = Sound

-- a theory function that is written by its sort
unfoldable pub needs_sort : ThyFunc → Bool
needs_sort StrLen = false
needs_sort StrConcat = false
needs_sort StrPrefixOf = false
needs_sort StrSuffixOf = false
needs_sort StrContains = false
needs_sort (BvZeroExtend w) = false
needs_sort (BvSignExtend w) = false
needs_sort IntToBv8 = false
needs_sort Bv8ToInt = false
needs_sort IntToBv32 = false
needs_sort Bv32ToInt = false
needs_sort IntToBv64 = false
needs_sort Bv64ToInt = false
needs_sort IntToBv128 = false
needs_sort Bv128ToInt = false
needs_sort BvUle = false
needs_sort BvSle = false
needs_sort BvUge = false
needs_sort BvSge = false
needs_sort BvUdiv = false
needs_sort BvSdiv = false
needs_sort BvSrem = false
needs_sort BvUrem = false
needs_sort BvLshr = false
needs_sort BvAshr = false
needs_sort BvAnd = false
needs_sort BvOr = false
needs_sort BvXor = false
needs_sort BvNot = false
needs_sort BvAdd = false
needs_sort BvNeg = false
needs_sort BvSub = false
needs_sort BvMul = false
needs_sort BvShl = false
needs_sort BvUgt = false
needs_sort BvSgt = false
needs_sort BvUlt = false
needs_sort BvSlt = false
needs_sort SetEmpty = true
needs_sort SetSng = false
needs_sort SetCup = false
needs_sort SetCap = false
needs_sort SetDif = false
needs_sort SetSub = false
needs_sort SetMem = false
needs_sort MapDefault = true
needs_sort MapSelect = false
needs_sort MapStore = false

-- 13: such a function is the head of an application with an output sort. The test tells whether the function is one's head.
unfoldable pub thy_func_fault : Bool → ThyFunc → Fault
thy_func_fault head f = unless (head || not (needs_sort f)) Unqualified

-- whether an output sort is given
abbrev pub is_given : Option Sort → Bool
is_given none = false
is_given (some b) = true

-- an output sort, if it is given
abbrev pub given_fault : Option Sort → Fault
given_fault none = Sound
given_fault (some b) = sort_fault false b

-- an expression, given whether it is the head of an application with an output sort
unfoldable mutual
  pub expr_fault : Bool → Expr → Fault
  expr_fault head (Expr.constant c) = constant_fault c
  expr_fault head (Expr.var x) = name_fault x
  expr_fault head (Expr.app h es o) = lower (given_fault o) (lower (expr_fault (is_given o) h) (exprs_fault es))
  expr_fault head (Expr.neg e) = expr_fault false e
  expr_fault head (Expr.binary_op o a b) = lower (expr_fault false a) (expr_fault false b)
  expr_fault head (Expr.if_then_else c a b) = lower (expr_fault false c) (lower (expr_fault false a) (expr_fault false b))
  expr_fault head (Expr.and es) = exprs_fault es
  expr_fault head (Expr.or es) = exprs_fault es
  expr_fault head (Expr.not e) = expr_fault false e
  expr_fault head (Expr.imp a b) = lower (expr_fault false a) (expr_fault false b)
  expr_fault head (Expr.iff a b) = lower (expr_fault false a) (expr_fault false b)
  expr_fault head (Expr.atom r a b) = lower (expr_fault false a) (expr_fault false b)
  expr_fault head (Expr.let_in x a b) = lower (name_fault x) (lower (expr_fault false a) (expr_fault false b))
  expr_fault head (Expr.thy_func f) = thy_func_fault head f
  expr_fault head (Expr.is_ctor x e) = lower (name_fault x) (expr_fault false e)
  expr_fault head (Expr.quantifier q bs e) = lower (each binder_fault bs) (expr_fault false e)
  -- 14: there is no text for it anywhere
  expr_fault head Expr.wk_var = WKVar

  pub exprs_fault : Exprs → Fault
  exprs_fault Exprs.none = Sound
  exprs_fault (Exprs.more e es) = lower (expr_fault false e) (exprs_fault es)

-- a predicate
unfoldable pub pred_fault : Pred → Fault
pred_fault (Pred.kvar k es) = lower (name_fault k) (exprs_fault es)
pred_fault (Pred.expr e) = expr_fault false e

-- 7: a ForAll is not named like one around it
unfoldable pub shadow_fault : List (List ℕ) → List ℕ → Fault
shadow_fault around x = unless (not (is_one x around)) Shadowed

-- a constraint, given the names of the ForAlls around it, the outermost first
unfoldable mutual
  pub constraint_fault : List (List ℕ) → Constraint → Fault
  constraint_fault around (Constraint.pred p) = pred_fault p
  constraint_fault around (Constraint.conj cs) = constraints_fault around cs
  constraint_fault around (Constraint.for_all x b ps c) =
      lower (name_fault x)
      (lower (shadow_fault around x)
      (lower (sort_fault false b)
      (lower (each pred_fault ps) (constraint_fault (around ++ x ∷ []) c))))

  pub constraints_fault : List (List ℕ) → Constraints → Fault
  constraints_fault around Constraints.none = Sound
  constraints_fault around (Constraints.more c cs) = lower (constraint_fault around c) (constraints_fault around cs)

-- a constructor of a datatype
unfoldable pub data_ctor_fault : DataCtor → Fault
data_ctor_fault c = lower (name_fault c.name) (each binder_fault c.fields)

-- 5: a datatype has a constructor
unfoldable pub empty_fault : ℕ → Fault
empty_fault ctors = unless (not (eqb ctors 0)) NoConstructors

-- a datatype
unfoldable pub datatype_fault : DataDecl → Fault
datatype_fault d = lower (name_fault d.name) (lower (empty_fault (length d.ctors)) (each data_ctor_fault d.ctors))

-- how many sorts there are in a row
abbrev pub sorts_number : Sorts → ℕ
sorts_number Sorts.none = 0
sorts_number (Sorts.more b bs) = suc (sorts_number bs)

-- 6: a body has as many argument names as the function has inputs
unfoldable pub arity_fault : ℕ → ℕ → Fault
arity_fault args inputs = unless (eqb args inputs) Arity

-- a body, given the number of inputs
unfoldable pub body_fault : ℕ → Option FunBody → Fault
body_fault inputs none = Sound
body_fault inputs (some b) =
    lower (arity_fault (length b.args) inputs) (lower (each name_fault b.args) (expr_fault false b.expr))

-- a function
unfoldable pub function_fault : FunDef → Fault
function_fault f =
    lower (name_fault f.name)
    (lower (sorts_fault f.inputs) (lower (sort_fault false f.output) (body_fault (sorts_number f.inputs) f.body)))

-- a KVar
unfoldable pub kvar_fault : KVarDecl → Fault
kvar_fault k = lower (name_fault k.kvid) (sorts_fault k.sorts)

-- the fault that is judged first in a whole task
unfoldable pub task_fault : Task → Fault
task_fault t =
    lower (each text_fault t.comments)
    (lower (each datatype_fault t.datatypes)
    (lower (each binder_fault t.constants)
    (lower (each function_fault t.functions)
    (lower (each kvar_fault t.kvars) (constraint_fault [] t.constraint)))))
