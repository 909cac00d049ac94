-- What is written: `smt_fmt.rs` with `SmtOptions::HORN`, function by function under the source's names, and
-- `write_kvar_decl` of `smt_horn.rs`. Strings depart from it (`write_string`), and so do the set functions in every table of names but that of
-- Z3 (`write_identifier`). Where the source panics no task is accepted; a definition gives a text there too, since it gives one for every tree.
use Rattle.std.specs.Prelude.{ℕ, zero, suc, Bool, true, false, cond, List, [], ◌∷◌, ◌++◌, eqb}
use Prim.Native.Char.{code}
use Rattle.std.proofs.Math.Option.{Option, none, some}
use Rattle.smtlib.specs.Lexicon.{bytes}
use Rattle.smtlib.specs.Read.{doubled}
use Rattle.smtlib.specs.Compose.{paren, quotes, line, decimal}
use Rattle.task.specs.declared.BinOp.{BinOp}
use Rattle.task.specs.declared.BinOp.TheVariants as op
use Rattle.task.specs.declared.BinRel.{BinRel}
use Rattle.task.specs.declared.BinRel.TheVariants as rel
use Rattle.task.specs.declared.Quantifier.{Quantifier}
use Rattle.task.specs.declared.Quantifier.TheVariants as quantifier
use Rattle.task.specs.declared.ThyFunc.{ThyFunc}
use Rattle.task.specs.Ast.{SortCtor, Sort, Sorts, Binder, Constant, Expr, Exprs, Pred, DataCtor, DataDecl, FunBody, FunDef, KVarDecl}
use Rattle.smt_text.specs.Editions.{NameTable}
use Rattle.smt_text.specs.Encoder.{Encoder, is_opaque, is_qualified, zip}
use Rattle.smt_text.specs.Theory.{Identifier, thy_func_name}

-- texts with a space before each
abbrev pub spaced : List (List ℕ) → List ℕ
spaced [] = []
spaced (w ∷ ws) = code " " ∷ w ++ spaced ws

-- texts with a space between two
abbrev pub separated : List (List ℕ) → List ℕ
separated [] = []
separated (w ∷ ws) = w ++ spaced ws

-- in parentheses: `(a b c)`
abbrev pub sexp_list : List (List ℕ) → List ℕ
sexp_list ws = paren (separated ws)

-- a text and what it is applied to: `(f a b)`, and `f` alone if that is nothing
abbrev pub applied : List ℕ → List (List ℕ) → List ℕ
applied f [] = f
applied f (w ∷ ws) = sexp_list (f ∷ w ∷ ws)

-- names are written as they are
unfoldable pub write_name : List ℕ → List ℕ
write_name x = x

-- A string stands in quotation marks. W-203: each quotation mark in it is written twice; the source writes it once.
unfoldable pub write_string : List ℕ → List ℕ
write_string t = quotes (doubled t)

-- `f` or `(_ f n)`; W-205: a set function is written as the table of names has it
abbrev pub write_identifier : NameTable → Identifier → List ℕ
write_identifier names (Identifier.plain f) = bytes f
write_identifier names (Identifier.indexed f n) = sexp_list (bytes "_" ∷ bytes f ∷ decimal n ∷ [])
write_identifier names (Identifier.set f) = names f

-- the source panics at SetEmpty and MapDefault
unfoldable pub write_thy_func : NameTable → ThyFunc → List ℕ
write_thy_func names f = write_identifier names (thy_func_name f)

-- what an applied sort is made by
abbrev pub write_sort_ctor : SortCtor → List ℕ
write_sort_ctor SortCtor.set = bytes "Set"
write_sort_ctor SortCtor.map = bytes "Array"
write_sort_ctor (SortCtor.named x) = write_name x

-- parameter i of a datatype
abbrev pub write_parameter : ℕ → List ℕ
write_parameter i = code "T" ∷ decimal i

-- a sort; the source panics at a BvSize that stands elsewhere than under BitVec
unfoldable mutual
  pub write_sort : Encoder → Sort → List ℕ
  write_sort enc Sort.int = bytes "Int"
  write_sort enc Sort.bool = bytes "Bool"
  write_sort enc Sort.real = bytes "Real"
  write_sort enc Sort.str = bytes "String"
  write_sort enc (Sort.bit_vec b) = sexp_list (bytes "_" ∷ bytes "BitVec" ∷ write_sort enc b ∷ [])
  write_sort enc (Sort.bv_size n) = decimal n
  write_sort enc (Sort.var i) = write_parameter i
  write_sort enc (Sort.func a b) = sexp_list (bytes "Array" ∷ write_sort enc a ∷ write_sort enc b ∷ [])
  write_sort enc (Sort.abs n b) = write_sort enc b
  write_sort enc (Sort.app c bs) = cond (is_opaque enc.declares c) (bytes "Int") (applied (write_sort_ctor c) (write_sorts enc bs))

  pub write_sorts : Encoder → Sorts → List (List ℕ)
  write_sorts enc Sorts.none = []
  write_sorts enc (Sorts.more b bs) = write_sort enc b ∷ write_sorts enc bs

-- a name with its sort: `(x S)`
unfoldable pub write_binder : Encoder → Binder → List ℕ
write_binder enc b = sexp_list (write_name b.name ∷ write_sort enc b.sort ∷ [])

-- names with their sorts
abbrev pub write_binders : Encoder → List Binder → List (List ℕ)
write_binders enc [] = []
write_binders enc (b ∷ bs) = write_binder enc b ∷ write_binders enc bs

-- a Boolean
abbrev pub write_boolean : Bool → List ℕ
write_boolean true = bytes "true"
write_boolean false = bytes "false"

-- a constant
abbrev pub write_constant : Constant → List ℕ
write_constant (Constant.numeral n) = decimal n
write_constant (Constant.boolean b) = write_boolean b
write_constant (Constant.real n) = decimal n
write_constant (Constant.string t) = write_string t
write_constant (Constant.bit_vec n w) = sexp_list (bytes "_" ∷ (bytes "bv" ++ decimal n) ∷ decimal w ∷ [])

-- `(op e)`
abbrev pub write_unary : List ℕ → List ℕ → List ℕ
write_unary op e = sexp_list (op ∷ e ∷ [])

-- `(op a b)`
abbrev pub write_binary : List ℕ → List ℕ → List ℕ → List ℕ
write_binary op a b = sexp_list (op ∷ a ∷ b ∷ [])

-- `(op a b c)`, and a word of its own for no operands
abbrev pub write_nary : List ℕ → List (List ℕ) → List ℕ → List ℕ
write_nary op [] empty = empty
write_nary op (w ∷ ws) empty = sexp_list (op ∷ w ∷ ws)

-- the operations
abbrev pub write_bin_op : BinOp → List ℕ
write_bin_op op.Add = bytes "+"
write_bin_op op.Sub = bytes "-"
write_bin_op op.Mul = bytes "*"
write_bin_op op.Div = bytes "div"
write_bin_op op.Mod = bytes "mod"

-- the relations of two operands
abbrev pub write_atom : BinRel → List ℕ → List ℕ → List ℕ
write_atom rel.Eq a b = write_binary (bytes "=") a b
write_atom rel.Ne a b = write_unary (bytes "not") (write_binary (bytes "=") a b)
write_atom rel.Gt a b = write_binary (bytes ">") a b
write_atom rel.Ge a b = write_binary (bytes ">=") a b
write_atom rel.Lt a b = write_binary (bytes "<") a b
write_atom rel.Le a b = write_binary (bytes "<=") a b

-- the quantifiers
abbrev pub write_quantifier : Quantifier → List ℕ
write_quantifier quantifier.Exists = bytes "exists"
write_quantifier quantifier.Forall = bytes "forall"

-- `(as f S)`, and the head alone without an output sort
abbrev pub write_as : Encoder → List ℕ → Option Sort → List ℕ
write_as enc f none = f
write_as enc f (some b) = sexp_list (bytes "as" ∷ f ∷ write_sort enc b ∷ [])

-- an application's head, given its text as an expression and the output sort
unfoldable pub write_application_head : Encoder → Expr → List ℕ → Option Sort → List ℕ
write_application_head enc h w o = cond (is_qualified enc.declares h) (write_as enc w o) w

-- an expression; the source panics at WKVar
unfoldable mutual
  pub write_expr : Encoder → Expr → List ℕ
  write_expr enc (Expr.constant c) = write_constant c
  write_expr enc (Expr.var x) = write_name x
  write_expr enc (Expr.app h es o) = applied (write_application_head enc h (write_expr enc h) o) (write_exprs enc es)
  write_expr enc (Expr.neg e) = write_unary (bytes "-") (write_expr enc e)
  write_expr enc (Expr.binary_op o a b) = write_binary (write_bin_op o) (write_expr enc a) (write_expr enc b)
  write_expr enc (Expr.if_then_else c a b) = sexp_list (bytes "ite" ∷ write_expr enc c ∷ write_expr enc a ∷ write_expr enc b ∷ [])
  write_expr enc (Expr.and es) = write_nary (bytes "and") (write_exprs enc es) (bytes "true")
  write_expr enc (Expr.or es) = write_nary (bytes "or") (write_exprs enc es) (bytes "false")
  write_expr enc (Expr.not e) = write_unary (bytes "not") (write_expr enc e)
  write_expr enc (Expr.imp a b) = write_binary (bytes "=>") (write_expr enc a) (write_expr enc b)
  write_expr enc (Expr.iff a b) = write_binary (bytes "=") (write_expr enc a) (write_expr enc b)
  write_expr enc (Expr.atom r a b) = write_atom r (write_expr enc a) (write_expr enc b)
  write_expr enc (Expr.let_in x a b) =
      sexp_list (bytes "let" ∷ sexp_list (sexp_list (write_name x ∷ write_expr enc a ∷ []) ∷ []) ∷ write_expr enc b ∷ [])
  write_expr enc (Expr.thy_func f) = write_thy_func enc.names f
  write_expr enc (Expr.is_ctor x e) = sexp_list (sexp_list (bytes "_" ∷ bytes "is" ∷ write_name x ∷ []) ∷ write_expr enc e ∷ [])
  write_expr enc (Expr.quantifier q bs e) =
      sexp_list (write_quantifier q ∷ sexp_list (write_binders enc bs) ∷ write_expr enc e ∷ [])
  write_expr enc Expr.wk_var = []

  pub write_exprs : Encoder → Exprs → List (List ℕ)
  write_exprs enc Exprs.none = []
  write_exprs enc (Exprs.more e es) = write_expr enc e ∷ write_exprs enc es

-- a predicate
unfoldable pub write_pred : Encoder → Pred → List ℕ
write_pred enc (Pred.kvar k es) = applied (write_name k) (write_exprs enc es)
write_pred enc (Pred.expr e) = write_expr enc e

-- a constructor: `(c (f S) (g S))`
unfoldable pub write_ctor : Encoder → DataCtor → List ℕ
write_ctor enc c = sexp_list (write_name c.name ∷ write_binders enc c.fields)

-- constructors
abbrev pub write_ctors : Encoder → List DataCtor → List (List ℕ)
write_ctors enc [] = []
write_ctors enc (c ∷ cs) = write_ctor enc c ∷ write_ctors enc cs

-- the constructors of a datatype
abbrev pub write_datatype_ctors : Encoder → DataDecl → List ℕ
write_datatype_ctors enc d = sexp_list (write_ctors enc d.ctors)

-- n parameters from i on
abbrev pub write_parameters : ℕ → ℕ → List (List ℕ)
write_parameters i zero = []
write_parameters i (suc n) = write_parameter i ∷ write_parameters (suc i) n

-- the constructors, behind the parameters if there are any; the source panics if there are no constructors
abbrev pub write_datatype_body : Encoder → DataDecl → List ℕ
write_datatype_body enc d =
    cond (eqb d.vars 0)
    (write_datatype_ctors enc d)
    (sexp_list (bytes "par" ∷ sexp_list (write_parameters 0 d.vars) ∷ write_datatype_ctors enc d ∷ []))

-- a datatype's declaration
unfoldable pub write_datatype_decl : Encoder → DataDecl → List ℕ
write_datatype_decl enc d =
    line (sexp_list (
    bytes "declare-datatypes" ∷
    sexp_list (sexp_list (write_name d.name ∷ decimal d.vars ∷ []) ∷ []) ∷
    sexp_list (write_datatype_body enc d ∷ []) ∷
    []))

-- a constant's declaration
unfoldable pub write_const_decl : Encoder → Binder → List ℕ
write_const_decl enc b = line (sexp_list (bytes "declare-const" ∷ write_name b.name ∷ write_sort enc b.sort ∷ []))

-- the declaration of a name with the sorts of its arguments and its own
abbrev pub write_fun_signature : List ℕ → List (List ℕ) → List ℕ → List ℕ
write_fun_signature x inputs output = line (sexp_list (bytes "declare-fun" ∷ write_name x ∷ sexp_list inputs ∷ output ∷ []))

-- a function's declaration, given its body if it has one
abbrev pub write_fun_body : Encoder → FunDef → Option FunBody → List ℕ
write_fun_body enc f none = write_fun_signature f.name (write_sorts enc f.inputs) (write_sort enc f.output)
write_fun_body enc f (some b) =
    line (sexp_list (
    bytes "define-fun" ∷
    write_name f.name ∷
    sexp_list (write_binders enc (zip b.args f.inputs)) ∷
    write_sort enc f.output ∷
    write_expr enc b.expr ∷
    []))

-- a function's declaration
unfoldable pub write_fun_def : Encoder → FunDef → List ℕ
write_fun_def enc f = write_fun_body enc f f.body

-- a KVar's declaration
unfoldable pub write_kvar_decl : Encoder → KVarDecl → List ℕ
write_kvar_decl enc k = write_fun_signature k.kvid (write_sorts enc k.sorts) (bytes "Bool")
