-- Where the source's writer returns: `smt_fmt.rs` with `SmtOptions::HORN` and `write_kvar_decl` of `smt_horn.rs`, function by function under the
-- source's names. A function does not return at the `assert!`, `panic!`, `unreachable!` and `unwrap` that it comes to, and it
-- comes only to places that it writes. `ds` are the datatypes of the task, from which the source makes its encoder.
use Rattle.std.specs.Prelude.{Bool, true, false, cond, not, ◌&&◌, ◌||◌, List, [], ◌∷◌, ℕ}
use Rattle.std.proofs.Math.Option.{Option, none, some}
use Rattle.task.specs.declared.ThyFunc.{ThyFunc}
use Rattle.task.specs.declared.ThyFunc.TheVariants.{StrLen, StrConcat, StrPrefixOf, StrSuffixOf, StrContains, BvZeroExtend, BvSignExtend, IntToBv8, Bv8ToInt, IntToBv32, Bv32ToInt, IntToBv64, Bv64ToInt, IntToBv128, Bv128ToInt, BvUle, BvSle, BvUge, BvSge, BvUdiv, BvSdiv, BvSrem, BvUrem, BvLshr, BvAshr, BvAnd, BvOr, BvXor, BvNot, BvAdd, BvNeg, BvSub, BvMul, BvShl, BvUgt, BvSgt, BvUlt, BvSlt, SetEmpty, SetSng, SetCup, SetCap, SetDif, SetSub, SetMem, MapDefault, MapSelect, MapStore}
use Rattle.task.specs.Ast.{SortCtor, Sort, Sorts, Binder, Expr, Exprs, Pred, DataCtor, DataDecl, FunBody, FunDef, KVarDecl}
use Rattle.task.specs.Scope.{is_datatype, is_ctor}

-- the writer returns for each of a list
abbrev pub every : {A : Type 0} → (A → Bool) → List A → Bool
every returns [] = true
every returns (a ∷ rest) = returns a && every returns rest

-- SORTS

-- `let Sort::BvSize(size) = &**size else { panic! }`
abbrev pub is_bv_size : Sort → Bool
is_bv_size Sort.int = false
is_bv_size Sort.bool = false
is_bv_size Sort.real = false
is_bv_size Sort.str = false
is_bv_size (Sort.bit_vec b) = false
is_bv_size (Sort.bv_size n) = true
is_bv_size (Sort.var i) = false
is_bv_size (Sort.func a b) = false
is_bv_size (Sort.abs n b) = false
is_bv_size (Sort.app c bs) = false

-- a datatype's name that is not declared: `Int` is written for it, and its arguments are not
abbrev pub is_unknown : List DataDecl → SortCtor → Bool
is_unknown ds SortCtor.set = false
is_unknown ds SortCtor.map = false
is_unknown ds (SortCtor.named x) = not (is_datatype x ds)

-- `write_sort`, which is `write_sort_in_scope`: it panics at a BitVec of another sort than BvSize, and at a BvSize elsewhere. Where it panics at
-- Abs and Func it does not come with these options.
unfoldable mutual
  pub write_sort_returns : List DataDecl → Sort → Bool
  write_sort_returns ds Sort.int = true
  write_sort_returns ds Sort.bool = true
  write_sort_returns ds Sort.real = true
  write_sort_returns ds Sort.str = true
  write_sort_returns ds (Sort.bit_vec b) = is_bv_size b
  write_sort_returns ds (Sort.bv_size n) = false
  write_sort_returns ds (Sort.var i) = true
  write_sort_returns ds (Sort.func a b) = write_sort_returns ds a && write_sort_returns ds b
  write_sort_returns ds (Sort.abs n b) = write_sort_returns ds b
  write_sort_returns ds (Sort.app c bs) = is_unknown ds c || write_sorts_return ds bs

  pub write_sorts_return : List DataDecl → Sorts → Bool
  write_sorts_return ds Sorts.none = true
  write_sorts_return ds (Sorts.more b bs) = write_sort_returns ds b && write_sorts_return ds bs

-- names with their sorts
abbrev pub write_binders_return : List DataDecl → List Binder → Bool
write_binders_return ds = every (λ b. write_sort_returns ds b.sort)

-- EXPRESSIONS

-- `write_thy_func`: it panics at SetEmpty and MapDefault
unfoldable pub write_thy_func_returns : ThyFunc → Bool
write_thy_func_returns StrLen = true
write_thy_func_returns StrConcat = true
write_thy_func_returns StrPrefixOf = true
write_thy_func_returns StrSuffixOf = true
write_thy_func_returns StrContains = true
write_thy_func_returns (BvZeroExtend w) = true
write_thy_func_returns (BvSignExtend w) = true
write_thy_func_returns IntToBv8 = true
write_thy_func_returns Bv8ToInt = true
write_thy_func_returns IntToBv32 = true
write_thy_func_returns Bv32ToInt = true
write_thy_func_returns IntToBv64 = true
write_thy_func_returns Bv64ToInt = true
write_thy_func_returns IntToBv128 = true
write_thy_func_returns Bv128ToInt = true
write_thy_func_returns BvUle = true
write_thy_func_returns BvSle = true
write_thy_func_returns BvUge = true
write_thy_func_returns BvSge = true
write_thy_func_returns BvUdiv = true
write_thy_func_returns BvSdiv = true
write_thy_func_returns BvSrem = true
write_thy_func_returns BvUrem = true
write_thy_func_returns BvLshr = true
write_thy_func_returns BvAshr = true
write_thy_func_returns BvAnd = true
write_thy_func_returns BvOr = true
write_thy_func_returns BvXor = true
write_thy_func_returns BvNot = true
write_thy_func_returns BvAdd = true
write_thy_func_returns BvNeg = true
write_thy_func_returns BvSub = true
write_thy_func_returns BvMul = true
write_thy_func_returns BvShl = true
write_thy_func_returns BvUgt = true
write_thy_func_returns BvSgt = true
write_thy_func_returns BvUlt = true
write_thy_func_returns BvSlt = true
write_thy_func_returns SetEmpty = false
write_thy_func_returns SetSng = true
write_thy_func_returns SetCup = true
write_thy_func_returns SetCap = true
write_thy_func_returns SetDif = true
write_thy_func_returns SetSub = true
write_thy_func_returns SetMem = true
write_thy_func_returns MapDefault = false
write_thy_func_returns MapSelect = true
write_thy_func_returns MapStore = true

-- an output sort, and whether it returns without one
abbrev pub out_sort_returns : List DataDecl → Bool → Option Sort → Bool
out_sort_returns ds without none = without
out_sort_returns ds without (some b) = write_sort_returns ds b

-- `write_application_head`, given whether `write_expr` returns for the head. A declared constructor is written with the output sort if there is
-- one: it is unwrapped only then. SetEmpty and MapDefault, at which `write_thy_func` panics, are written with it too, and panic without one.
-- Any other head is an expression.
unfoldable pub write_application_head_returns : List DataDecl → Expr → Bool → Option Sort → Bool
write_application_head_returns ds (Expr.constant c) returns o = returns
write_application_head_returns ds (Expr.var x) returns o = cond (is_ctor x ds) (out_sort_returns ds returns o) returns
write_application_head_returns ds (Expr.app h es p) returns o = returns
write_application_head_returns ds (Expr.neg e) returns o = returns
write_application_head_returns ds (Expr.binary_op p a b) returns o = returns
write_application_head_returns ds (Expr.if_then_else c a b) returns o = returns
write_application_head_returns ds (Expr.and es) returns o = returns
write_application_head_returns ds (Expr.or es) returns o = returns
write_application_head_returns ds (Expr.not e) returns o = returns
write_application_head_returns ds (Expr.imp a b) returns o = returns
write_application_head_returns ds (Expr.iff a b) returns o = returns
write_application_head_returns ds (Expr.atom r a b) returns o = returns
write_application_head_returns ds (Expr.let_in x a b) returns o = returns
write_application_head_returns ds (Expr.thy_func f) returns o = cond (write_thy_func_returns f) returns (out_sort_returns ds false o)
write_application_head_returns ds (Expr.is_ctor x e) returns o = returns
write_application_head_returns ds (Expr.quantifier q bs e) returns o = returns
write_application_head_returns ds Expr.wk_var returns o = returns

-- `write_expr`: it panics at a WKVar (`write_weak_kvar`), as an application's head too. To the `unreachable!` at Ne it does not come, since Ne has
-- an arm of its own before it.
unfoldable mutual
  pub write_expr_returns : List DataDecl → Expr → Bool
  write_expr_returns ds (Expr.constant c) = true
  write_expr_returns ds (Expr.var x) = true
  write_expr_returns ds (Expr.app h es o) = write_application_head_returns ds h (write_expr_returns ds h) o && write_exprs_return ds es
  write_expr_returns ds (Expr.neg e) = write_expr_returns ds e
  write_expr_returns ds (Expr.binary_op o a b) = write_expr_returns ds a && write_expr_returns ds b
  write_expr_returns ds (Expr.if_then_else c a b) = write_expr_returns ds c && (write_expr_returns ds a && write_expr_returns ds b)
  write_expr_returns ds (Expr.and es) = write_exprs_return ds es
  write_expr_returns ds (Expr.or es) = write_exprs_return ds es
  write_expr_returns ds (Expr.not e) = write_expr_returns ds e
  write_expr_returns ds (Expr.imp a b) = write_expr_returns ds a && write_expr_returns ds b
  write_expr_returns ds (Expr.iff a b) = write_expr_returns ds a && write_expr_returns ds b
  write_expr_returns ds (Expr.atom r a b) = write_expr_returns ds a && write_expr_returns ds b
  write_expr_returns ds (Expr.let_in x a b) = write_expr_returns ds a && write_expr_returns ds b
  write_expr_returns ds (Expr.thy_func f) = write_thy_func_returns f
  write_expr_returns ds (Expr.is_ctor x e) = write_expr_returns ds e
  write_expr_returns ds (Expr.quantifier q bs e) = write_binders_return ds bs && write_expr_returns ds e
  write_expr_returns ds Expr.wk_var = false

  pub write_exprs_return : List DataDecl → Exprs → Bool
  write_exprs_return ds Exprs.none = true
  write_exprs_return ds (Exprs.more e es) = write_expr_returns ds e && write_exprs_return ds es

-- `write_pred`: where it panics at a KVar it does not come with these options
unfoldable pub write_pred_returns : List DataDecl → Pred → Bool
write_pred_returns ds (Pred.kvar k es) = write_exprs_return ds es
write_pred_returns ds (Pred.expr e) = write_expr_returns ds e

-- DECLARATIONS

-- `decl.ctors.is_empty()`
abbrev pub is_empty : List DataCtor → Bool
is_empty [] = true
is_empty (c ∷ cs) = false

-- `write_datatype_decl`: it asserts that there is a constructor
unfoldable pub write_datatype_decl_returns : List DataDecl → DataDecl → Bool
write_datatype_decl_returns ds d = not (is_empty d.ctors) && every (λ c. write_binders_return ds c.fields) d.ctors

-- `write_const_decl`: where it panics at a polymorphic sort it does not come with these options
unfoldable pub write_const_decl_returns : List DataDecl → Binder → Bool
write_const_decl_returns ds b = write_sort_returns ds b.sort

-- the argument names with the inputs at their places: what `zip` drops is not written
abbrev pub write_args_return : List DataDecl → List (List ℕ) → Sorts → Bool
write_args_return ds [] bs = true
write_args_return ds (x ∷ xs) Sorts.none = true
write_args_return ds (x ∷ xs) (Sorts.more b bs) = write_sort_returns ds b && write_args_return ds xs bs

-- with a body and without
abbrev pub write_fun_body_returns : List DataDecl → FunDef → Option FunBody → Bool
write_fun_body_returns ds f none = write_sorts_return ds f.inputs && write_sort_returns ds f.output
write_fun_body_returns ds f (some b) =
    write_args_return ds b.args f.inputs && (write_sort_returns ds f.output && write_expr_returns ds b.expr)

-- `write_fun_def`: where it panics at a polymorphic function it does not come with these options
unfoldable pub write_fun_def_returns : List DataDecl → FunDef → Bool
write_fun_def_returns ds f = write_fun_body_returns ds f f.body

-- `write_kvar_decl`
unfoldable pub write_kvar_decl_returns : List DataDecl → KVarDecl → Bool
write_kvar_decl_returns ds k = write_sorts_return ds k.sorts
