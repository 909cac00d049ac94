-- What is without fault the source writes without a panic: `returning`.
use Prim.Native.Nat.{ℕ}
use mathlib.Core.Path.{◌≡◌}
use mathlib.Core.Bool.{Bool, true, false, cond, not, ◌&&◌}
use mathlib.Core.List.{List, [], ◌∷◌}
use mathlib.Core.Option.{Option, none, some}
use lib.Dec.{T}
use lib.ListN.{length}
use Rattle.smtlib.proofs.Bools.{clash, choice, both, or_right}
use Rattle.task.specs.declared.Fault.{Fault}
use Rattle.task.specs.declared.Fault.TheVariants.{Sound}
use Rattle.task.specs.declared.ThyFunc.{ThyFunc}
use Rattle.task.specs.declared.ThyFunc.TheVariants.{StrLen, StrConcat, StrPrefixOf, StrSuffixOf, StrContains, BvZeroExtend, BvSignExtend, IntToBv8, Bv8ToInt, IntToBv32, Bv32ToInt, IntToBv64, Bv64ToInt, IntToBv128, Bv128ToInt, BvUle, BvSle, BvUge, BvSge, BvUdiv, BvSdiv, BvSrem, BvUrem, BvLshr, BvAshr, BvAnd, BvOr, BvXor, BvNot, BvAdd, BvNeg, BvSub, BvMul, BvShl, BvUgt, BvSgt, BvUlt, BvSlt, SetEmpty, SetSng, SetCup, SetCap, SetDif, SetSub, SetMem, MapDefault, MapSelect, MapStore}
use Rattle.task.specs.Ast.{Sort, Sorts, Binder, Expr, Exprs, Pred, DataCtor, DataDecl, FunBody, FunDef, KVarDecl}
use Rattle.task.specs.Fault.{lower, each, sort_fault, sorts_fault, binder_fault, needs_sort, thy_func_fault, is_given, given_fault, expr_fault, exprs_fault, pred_fault, data_ctor_fault, empty_fault, datatype_fault, body_fault, function_fault, kvar_fault}
use Rattle.task.specs.Scope.{is_ctor}
use Rattle.task.specs.Returns.{every, is_bv_size, is_unknown, write_sort_returns, write_sorts_return, write_binders_return, write_thy_func_returns, out_sort_returns, write_application_head_returns, write_expr_returns, write_exprs_return, write_pred_returns, is_empty, write_datatype_decl_returns, write_const_decl_returns, write_args_return, write_fun_body_returns, write_fun_def_returns, write_kvar_decl_returns}
use Rattle.task.specs.Laws.{Returning}
use Rattle.task.proofs.Judging.{sound_parts}
open sound_parts use {none_left, none_right}

-- of two pieces, if it returns for each that is without fault
two_return : {f g : Fault} (a b : Bool) → (f ≡ Sound → T a) → (g ≡ Sound → T b) → lower f g ≡ Sound → T (a && b)
two_return a b k l h = both a b (k (none_left _ _ h)) (l (none_right _ _ h))

-- of each of a list
pub every_returns : {A : Type 0} (fault : A → Fault) (returns : A → Bool) → ((a : A) → fault a ≡ Sound → T (returns a)) → (l : List A)
    → each fault l ≡ Sound → T (every returns l)
every_returns fault returns f [] h = tt
every_returns fault returns f (a ∷ l) h =
    two_return (returns a) _ (f a) (every_returns fault returns f l) h

-- what holds is chosen
held : (a : Bool) → T a → T (cond a a false)
held true t = tt
held false t = absurd t

-- only a BvSize is sound under BitVec
bv_size_lem : (b : Sort) → sort_fault true b ≡ Sound → T (is_bv_size b)
unfolding sort_fault
bv_size_lem Sort.int h = clash (cc)
bv_size_lem Sort.bool h = clash (cc)
bv_size_lem Sort.real h = clash (cc)
bv_size_lem Sort.str h = clash (cc)
bv_size_lem (Sort.bit_vec b) h = let k = none_left _ _ h in clash (cc)
bv_size_lem (Sort.bv_size n) h = tt
bv_size_lem (Sort.var i) h = clash (cc)
bv_size_lem (Sort.func a b) h = let k = none_left _ _ h in clash (cc)
bv_size_lem (Sort.abs n b) h = let k = none_left _ _ h in clash (cc)
bv_size_lem (Sort.app c bs) h = let k = none_left _ _ h in clash (cc)

-- a theory function that may stand anywhere
thy_func_returns : (f : ThyFunc) → thy_func_fault false f ≡ Sound → T (write_thy_func_returns f)
unfolding thy_func_fault needs_sort write_thy_func_returns
thy_func_returns StrLen h = tt
thy_func_returns StrConcat h = tt
thy_func_returns StrPrefixOf h = tt
thy_func_returns StrSuffixOf h = tt
thy_func_returns StrContains h = tt
thy_func_returns (BvZeroExtend w) h = tt
thy_func_returns (BvSignExtend w) h = tt
thy_func_returns IntToBv8 h = tt
thy_func_returns Bv8ToInt h = tt
thy_func_returns IntToBv32 h = tt
thy_func_returns Bv32ToInt h = tt
thy_func_returns IntToBv64 h = tt
thy_func_returns Bv64ToInt h = tt
thy_func_returns IntToBv128 h = tt
thy_func_returns Bv128ToInt h = tt
thy_func_returns BvUle h = tt
thy_func_returns BvSle h = tt
thy_func_returns BvUge h = tt
thy_func_returns BvSge h = tt
thy_func_returns BvUdiv h = tt
thy_func_returns BvSdiv h = tt
thy_func_returns BvSrem h = tt
thy_func_returns BvUrem h = tt
thy_func_returns BvLshr h = tt
thy_func_returns BvAshr h = tt
thy_func_returns BvAnd h = tt
thy_func_returns BvOr h = tt
thy_func_returns BvXor h = tt
thy_func_returns BvNot h = tt
thy_func_returns BvAdd h = tt
thy_func_returns BvNeg h = tt
thy_func_returns BvSub h = tt
thy_func_returns BvMul h = tt
thy_func_returns BvShl h = tt
thy_func_returns BvUgt h = tt
thy_func_returns BvSgt h = tt
thy_func_returns BvUlt h = tt
thy_func_returns BvSlt h = tt
thy_func_returns SetEmpty h = clash (cc)
thy_func_returns SetSng h = tt
thy_func_returns SetCup h = tt
thy_func_returns SetCap h = tt
thy_func_returns SetDif h = tt
thy_func_returns SetSub h = tt
thy_func_returns SetMem h = tt
thy_func_returns MapDefault h = clash (cc)
thy_func_returns MapSelect h = tt
thy_func_returns MapStore h = tt

-- a datatype has a constructor
not_empty : (cs : List DataCtor) → empty_fault (length cs) ≡ Sound → T (not (is_empty cs))
unfolding empty_fault
not_empty [] h = clash (cc)
not_empty (c ∷ cs) h = tt

module _ (ds : List DataDecl) where
  mutual
    unfolding sort_fault write_sort_returns

    sort_returns : (b : Sort) → sort_fault false b ≡ Sound → T (write_sort_returns ds b)
    sort_returns Sort.int h = tt
    sort_returns Sort.bool h = tt
    sort_returns Sort.real h = tt
    sort_returns Sort.str h = tt
    sort_returns (Sort.bit_vec b) h = bv_size_lem b (none_right _ _ h)
    sort_returns (Sort.bv_size n) h = clash (cc)
    sort_returns (Sort.var i) h = tt
    sort_returns (Sort.func a b) h =
        two_return (write_sort_returns ds a) _ (λ k. sort_returns a k) (λ k. sort_returns b k) (none_right _ _ h)
    sort_returns (Sort.abs n b) h = sort_returns b (none_right _ _ h)
    sort_returns (Sort.app c bs) h = or_right (is_unknown ds c) _ (sorts_return bs (none_right _ _ (none_right _ _ h)))

    sorts_return : (bs : Sorts) → sorts_fault bs ≡ Sound → T (write_sorts_return ds bs)
    sorts_return Sorts.none h = tt
    sorts_return (Sorts.more b bs) h =
        two_return (write_sort_returns ds b) _ (λ k. sort_returns b k) (λ k. sorts_return bs k) h

  binder_returns : (b : Binder) → binder_fault b ≡ Sound → T (write_sort_returns ds b.sort)
  unfolding binder_fault
  binder_returns b h = sort_returns b.sort (none_right _ _ h)

  pub binders_return : (bs : List Binder) → each binder_fault bs ≡ Sound → T (write_binders_return ds bs)
  binders_return = every_returns binder_fault (λ b. write_sort_returns ds b.sort) binder_returns

  -- an output sort
  out_returns : (r : Bool) (o : Option Sort) → given_fault o ≡ Sound → T r → T (out_sort_returns ds r o)
  out_returns r none h t = t
  out_returns r (some b) h t = sort_returns b h

  -- a head that is a theory function: with an output sort it need not return as an expression
  func_returns : (f : ThyFunc) (o : Option Sort) → thy_func_fault (is_given o) f ≡ Sound → given_fault o ≡ Sound
      → T (cond (write_thy_func_returns f) (write_thy_func_returns f) (out_sort_returns ds false o))
  func_returns f none h g = held (write_thy_func_returns f) (thy_func_returns f h)
  func_returns f (some b) h g = choice T (write_thy_func_returns f) _ _ (λ u. u) (sort_returns b g)

  -- a head, given that it returns where it is without fault as an expression
  head_returns : (h : Expr) (o : Option Sort) → expr_fault (is_given o) h ≡ Sound → given_fault o ≡ Sound
      → (expr_fault false h ≡ Sound → T (write_expr_returns ds h)) → T (write_application_head_returns ds h (write_expr_returns ds h) o)
  unfolding expr_fault write_expr_returns write_application_head_returns
  head_returns (Expr.constant c) o h g r = tt
  head_returns (Expr.var x) o h g r = choice T (is_ctor x ds) _ _ (λ t. out_returns true o g tt) tt
  head_returns (Expr.app f es p) o h g r = r h
  head_returns (Expr.neg e) o h g r = r h
  head_returns (Expr.binary_op p a b) o h g r = r h
  head_returns (Expr.if_then_else c a b) o h g r = r h
  head_returns (Expr.and es) o h g r = r h
  head_returns (Expr.or es) o h g r = r h
  head_returns (Expr.not e) o h g r = r h
  head_returns (Expr.imp a b) o h g r = r h
  head_returns (Expr.iff a b) o h g r = r h
  head_returns (Expr.atom p a b) o h g r = r h
  head_returns (Expr.let_in x a b) o h g r = r h
  head_returns (Expr.thy_func f) o h g r = func_returns f o h g
  head_returns (Expr.is_ctor x e) o h g r = r h
  head_returns (Expr.quantifier q bs e) o h g r = r h
  head_returns Expr.wk_var o h g r = r h

  mutual
    unfolding expr_fault write_expr_returns

    expr_returns : (e : Expr) → expr_fault false e ≡ Sound → T (write_expr_returns ds e)
    expr_returns (Expr.constant c) h = tt
    expr_returns (Expr.var x) h = tt
    expr_returns (Expr.app f es o) h =
        let k = none_right _ _ h in
        both (write_application_head_returns ds f (write_expr_returns ds f) o) _
        (head_returns f o (none_left _ _ k) (none_left _ _ h) (λ g. expr_returns f g)) (exprs_return es (none_right _ _ k))
    expr_returns (Expr.neg e) h = expr_returns e h
    expr_returns (Expr.binary_op o a b) h =
        two_return (write_expr_returns ds a) _ (λ k. expr_returns a k) (λ k. expr_returns b k) h
    expr_returns (Expr.if_then_else c a b) h =
        two_return (write_expr_returns ds c) _ (λ k. expr_returns c k)
        (two_return (write_expr_returns ds a) _ (λ k. expr_returns a k) (λ k. expr_returns b k)) h
    expr_returns (Expr.and es) h = exprs_return es h
    expr_returns (Expr.or es) h = exprs_return es h
    expr_returns (Expr.not e) h = expr_returns e h
    expr_returns (Expr.imp a b) h =
        two_return (write_expr_returns ds a) _ (λ k. expr_returns a k) (λ k. expr_returns b k) h
    expr_returns (Expr.iff a b) h =
        two_return (write_expr_returns ds a) _ (λ k. expr_returns a k) (λ k. expr_returns b k) h
    expr_returns (Expr.atom r a b) h =
        two_return (write_expr_returns ds a) _ (λ k. expr_returns a k) (λ k. expr_returns b k) h
    expr_returns (Expr.let_in x a b) h =
        two_return (write_expr_returns ds a) _ (λ k. expr_returns a k) (λ k. expr_returns b k) (none_right _ _ h)
    expr_returns (Expr.thy_func f) h = thy_func_returns f h
    expr_returns (Expr.is_ctor x e) h = expr_returns e (none_right _ _ h)
    expr_returns (Expr.quantifier q bs e) h =
        two_return (write_binders_return ds bs) _ (binders_return bs) (λ k. expr_returns e k) h
    expr_returns Expr.wk_var h = clash (cc)

    exprs_return : (es : Exprs) → exprs_fault es ≡ Sound → T (write_exprs_return ds es)
    exprs_return Exprs.none h = tt
    exprs_return (Exprs.more e es) h =
        two_return (write_expr_returns ds e) _ (λ k. expr_returns e k) (λ k. exprs_return es k) h

  pred_returns : (p : Pred) → pred_fault p ≡ Sound → T (write_pred_returns ds p)
  unfolding pred_fault write_pred_returns
  pred_returns (Pred.kvar k es) h = exprs_return es (none_right _ _ h)
  pred_returns (Pred.expr e) h = expr_returns e h

  ctor_returns : (c : DataCtor) → data_ctor_fault c ≡ Sound → T (write_binders_return ds c.fields)
  unfolding data_ctor_fault
  ctor_returns c h = binders_return c.fields (none_right _ _ h)

  datatype_returns : (d : DataDecl) → datatype_fault d ≡ Sound → T (write_datatype_decl_returns ds d)
  unfolding datatype_fault write_datatype_decl_returns
  datatype_returns d h =
      let k = none_right _ _ h in
      both (not (is_empty d.ctors)) _ (not_empty d.ctors (none_left _ _ k))
      (every_returns data_ctor_fault (λ c. write_binders_return ds c.fields) ctor_returns d.ctors (none_right _ _ k))

  -- the inputs that have an argument name
  args_return : (xs : List (List ℕ)) (bs : Sorts) → sorts_fault bs ≡ Sound → T (write_args_return ds xs bs)
  unfolding sort_fault
  args_return [] bs h = tt
  args_return (x ∷ xs) Sorts.none h = tt
  args_return (x ∷ xs) (Sorts.more b bs) h =
      two_return (write_sort_returns ds b) _ (λ k. sort_returns b k) (args_return xs bs) h

  body_returns : (f : FunDef) (n : ℕ) (o : Option FunBody) → sorts_fault f.inputs ≡ Sound → sort_fault false f.output ≡ Sound
      → body_fault n o ≡ Sound → T (write_fun_body_returns ds f o)
  unfolding body_fault
  body_returns f n none i o h = both (write_sorts_return ds f.inputs) _ (sorts_return f.inputs i) (sort_returns f.output o)
  body_returns f n (some b) i o h =
      both (write_args_return ds b.args f.inputs) _ (args_return b.args f.inputs i)
      (both (write_sort_returns ds f.output) _ (sort_returns f.output o) (expr_returns b.expr (none_right _ _ (none_right _ _ h))))

  function_returns : (f : FunDef) → function_fault f ≡ Sound → T (write_fun_def_returns ds f)
  unfolding function_fault write_fun_def_returns
  function_returns f h =
      let k = none_right _ _ h in
      let l = none_right _ _ k in
      body_returns f _ f.body (none_left _ _ k) (none_left _ _ l) (none_right _ _ l)

  kvar_returns : (k : KVarDecl) → kvar_fault k ≡ Sound → T (write_kvar_decl_returns ds k)
  unfolding kvar_fault write_kvar_decl_returns
  kvar_returns k h = sorts_return k.sorts (none_right _ _ h)

pub returning : (ds : List DataDecl) → Returning ds
unfolding write_const_decl_returns
returning ds = record {
  sorts = sort_returns ds;
  exprs = expr_returns ds;
  preds = pred_returns ds;
  datatypes = datatype_returns ds;
  constants = binder_returns ds;
  functions = function_returns ds;
  kvars = kvar_returns ds;
}
