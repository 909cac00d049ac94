-- What is called for: the tokens and lists of sorts, expressions, predicates and declarations, from the tree. A name is a symbol, a
-- number a numeral, a string a string; a fixed word is the reserved word or the symbol that it is. The names of the set functions are left open:
-- a piece is set out once for all tables of names, and each table fills it in.
use Rattle.std.specs.Prelude.{ℕ, zero, suc, Bool, true, false, cond, List, [], ◌∷◌, ◌++◌, eqb}
use Prim.Native.String.{String}
use Rattle.std.proofs.Math.Option.{Option, none, some}
use Rattle.smtlib.specs.Lexicon.{Kind, bytes}
use Rattle.smtlib.specs.Read.{Token}
use Rattle.smtlib.specs.Compose.{decimal}
use Rattle.task.specs.declared.BinOp.{BinOp}
use Rattle.task.specs.declared.BinOp.TheVariants as op
use Rattle.task.specs.declared.BinRel.{BinRel}
use Rattle.task.specs.declared.BinRel.TheVariants as rel
use Rattle.task.specs.declared.Quantifier.{Quantifier}
use Rattle.task.specs.declared.Quantifier.TheVariants as quantifier
use Rattle.task.specs.declared.ThyFunc.{ThyFunc}
use Rattle.task.specs.Ast.{SortCtor, Sort, Sorts, Binder, Constant, Expr, Exprs, Pred, DataCtor, DataDecl, FunBody, FunDef, KVarDecl}
use Rattle.smt_text.specs.Encoder.{Declared, is_opaque, is_qualified, zip}
use Rattle.smt_text.specs.Theory.{Identifier, thy_func_name}
use Rattle.smt_text.specs.Template.{Atom, Template, append}

-- A piece is one S-expression: a token, or a list of pieces.
abbrev pub token : Token → Template
token k = Template.atom (Atom.token k) Template.end

-- pieces one behind the other
abbrev pub row : List Template → Template
row [] = Template.end
row (x ∷ xs) = append x (row xs)

-- a list of pieces
abbrev pub group : List Template → Template
group xs = Template.list (row xs) Template.end

-- a piece and what it is applied to: a list, and the piece alone if that is nothing
abbrev pub applied_to : Template → List Template → Template
applied_to f [] = f
applied_to f (x ∷ xs) = group (f ∷ x ∷ xs)

-- a fixed word that is a symbol
abbrev pub symbol : String → Template
symbol w = token (Token.word Kind.symbol (bytes w))

-- a fixed word that is reserved
abbrev pub reserved : String → Template
reserved w = token (Token.word Kind.reserved (bytes w))

-- a name
abbrev pub name_sexp : List ℕ → Template
name_sexp x = token (Token.word Kind.symbol x)

-- a string
abbrev pub string_sexp : List ℕ → Template
string_sexp t = token (Token.string t)

-- a number
abbrev pub numeral : ℕ → Template
numeral n = token (Token.word Kind.numeral (decimal n))

-- a letter or more with a number behind: one symbol
abbrev pub numbered : String → ℕ → Template
numbered w n = token (Token.word Kind.symbol (bytes w ++ decimal n))

-- what a theory function is called
abbrev pub identifier_sexp : Identifier → Template
identifier_sexp (Identifier.plain f) = symbol f
identifier_sexp (Identifier.indexed f n) = group (reserved "_" ∷ symbol f ∷ numeral n ∷ [])
identifier_sexp (Identifier.set f) = Template.atom (Atom.set f) Template.end

-- a theory function
unfoldable pub thy_func_sexp : ThyFunc → Template
thy_func_sexp f = identifier_sexp (thy_func_name f)

-- what an applied sort is made by
abbrev pub sort_ctor_sexp : SortCtor → Template
sort_ctor_sexp SortCtor.set = symbol "Set"
sort_ctor_sexp SortCtor.map = symbol "Array"
sort_ctor_sexp (SortCtor.named x) = name_sexp x

-- a sort
unfoldable mutual
  pub sort_sexp : Declared → Sort → Template
  sort_sexp env Sort.int = symbol "Int"
  sort_sexp env Sort.bool = symbol "Bool"
  sort_sexp env Sort.real = symbol "Real"
  sort_sexp env Sort.str = symbol "String"
  sort_sexp env (Sort.bit_vec b) = group (reserved "_" ∷ symbol "BitVec" ∷ sort_sexp env b ∷ [])
  sort_sexp env (Sort.bv_size n) = numeral n
  sort_sexp env (Sort.var i) = numbered "T" i
  sort_sexp env (Sort.func a b) = group (symbol "Array" ∷ sort_sexp env a ∷ sort_sexp env b ∷ [])
  sort_sexp env (Sort.abs n b) = sort_sexp env b
  sort_sexp env (Sort.app c bs) = cond (is_opaque env c) (symbol "Int") (applied_to (sort_ctor_sexp c) (sorts_sexp env bs))

  pub sorts_sexp : Declared → Sorts → List Template
  sorts_sexp env Sorts.none = []
  sorts_sexp env (Sorts.more b bs) = sort_sexp env b ∷ sorts_sexp env bs

-- a name with its sort
unfoldable pub binder_sexp : Declared → Binder → Template
binder_sexp env b = group (name_sexp b.name ∷ sort_sexp env b.sort ∷ [])

-- names with their sorts
abbrev pub binders_sexp : Declared → List Binder → List Template
binders_sexp env [] = []
binders_sexp env (b ∷ bs) = binder_sexp env b ∷ binders_sexp env bs

-- a Boolean
abbrev pub boolean_sexp : Bool → Template
boolean_sexp true = symbol "true"
boolean_sexp false = symbol "false"

-- a constant
abbrev pub constant_sexp : Constant → Template
constant_sexp (Constant.numeral n) = numeral n
constant_sexp (Constant.real n) = numeral n
constant_sexp (Constant.boolean b) = boolean_sexp b
constant_sexp (Constant.string t) = string_sexp t
constant_sexp (Constant.bit_vec n w) = group (reserved "_" ∷ numbered "bv" n ∷ numeral w ∷ [])

-- the operations
abbrev pub bin_op_sexp : BinOp → Template
bin_op_sexp op.Add = symbol "+"
bin_op_sexp op.Sub = symbol "-"
bin_op_sexp op.Mul = symbol "*"
bin_op_sexp op.Div = symbol "div"
bin_op_sexp op.Mod = symbol "mod"

-- the relations of two operands
abbrev pub atom_sexp : BinRel → Template → Template → Template
atom_sexp rel.Eq a b = group (symbol "=" ∷ a ∷ b ∷ [])
atom_sexp rel.Ne a b = group (symbol "not" ∷ group (symbol "=" ∷ a ∷ b ∷ []) ∷ [])
atom_sexp rel.Gt a b = group (symbol ">" ∷ a ∷ b ∷ [])
atom_sexp rel.Ge a b = group (symbol ">=" ∷ a ∷ b ∷ [])
atom_sexp rel.Lt a b = group (symbol "<" ∷ a ∷ b ∷ [])
atom_sexp rel.Le a b = group (symbol "<=" ∷ a ∷ b ∷ [])

-- a connective with its members, and the word for none
abbrev pub connective_sexp : Template → List Template → Template → Template
connective_sexp op [] empty = empty
connective_sexp op (x ∷ xs) empty = group (op ∷ x ∷ xs)

-- the quantifiers
abbrev pub quantifier_sexp : Quantifier → Template
quantifier_sexp quantifier.Exists = reserved "exists"
quantifier_sexp quantifier.Forall = reserved "forall"

-- an application's head that is qualified by the output sort, if there is one
abbrev pub as_sexp : Declared → Template → Option Sort → Template
as_sexp env f none = f
as_sexp env f (some b) = group (reserved "as" ∷ f ∷ sort_sexp env b ∷ [])

-- an application's head, given its piece as an expression and the output sort
unfoldable pub head_sexp : Declared → Expr → Template → Option Sort → Template
head_sexp env h x o = cond (is_qualified env h) (as_sexp env x o) x

-- an expression; no task with a WKVar is accepted
unfoldable mutual
  pub expr_sexp : Declared → Expr → Template
  expr_sexp env (Expr.constant c) = constant_sexp c
  expr_sexp env (Expr.var x) = name_sexp x
  expr_sexp env (Expr.app h es o) = applied_to (head_sexp env h (expr_sexp env h) o) (exprs_sexp env es)
  expr_sexp env (Expr.neg e) = group (symbol "-" ∷ expr_sexp env e ∷ [])
  expr_sexp env (Expr.binary_op o a b) = group (bin_op_sexp o ∷ expr_sexp env a ∷ expr_sexp env b ∷ [])
  expr_sexp env (Expr.if_then_else c a b) = group (symbol "ite" ∷ expr_sexp env c ∷ expr_sexp env a ∷ expr_sexp env b ∷ [])
  expr_sexp env (Expr.and es) = connective_sexp (symbol "and") (exprs_sexp env es) (symbol "true")
  expr_sexp env (Expr.or es) = connective_sexp (symbol "or") (exprs_sexp env es) (symbol "false")
  expr_sexp env (Expr.not e) = group (symbol "not" ∷ expr_sexp env e ∷ [])
  expr_sexp env (Expr.imp a b) = group (symbol "=>" ∷ expr_sexp env a ∷ expr_sexp env b ∷ [])
  expr_sexp env (Expr.iff a b) = group (symbol "=" ∷ expr_sexp env a ∷ expr_sexp env b ∷ [])
  expr_sexp env (Expr.atom r a b) = atom_sexp r (expr_sexp env a) (expr_sexp env b)
  expr_sexp env (Expr.let_in x a b) =
      group (reserved "let" ∷ group (group (name_sexp x ∷ expr_sexp env a ∷ []) ∷ []) ∷ expr_sexp env b ∷ [])
  expr_sexp env (Expr.thy_func f) = thy_func_sexp f
  expr_sexp env (Expr.is_ctor x e) = group (group (reserved "_" ∷ symbol "is" ∷ name_sexp x ∷ []) ∷ expr_sexp env e ∷ [])
  expr_sexp env (Expr.quantifier q bs e) = group (quantifier_sexp q ∷ group (binders_sexp env bs) ∷ expr_sexp env e ∷ [])
  expr_sexp env Expr.wk_var = Template.end

  pub exprs_sexp : Declared → Exprs → List Template
  exprs_sexp env Exprs.none = []
  exprs_sexp env (Exprs.more e es) = expr_sexp env e ∷ exprs_sexp env es

-- a predicate
unfoldable pub pred_sexp : Declared → Pred → Template
pred_sexp env (Pred.kvar k es) = applied_to (name_sexp k) (exprs_sexp env es)
pred_sexp env (Pred.expr e) = expr_sexp env e

-- a constructor
unfoldable pub ctor_sexp : Declared → DataCtor → Template
ctor_sexp env c = group (name_sexp c.name ∷ binders_sexp env c.fields)

-- constructors
abbrev pub ctors_sexp : Declared → List DataCtor → List Template
ctors_sexp env [] = []
ctors_sexp env (c ∷ cs) = ctor_sexp env c ∷ ctors_sexp env cs

-- n parameters from i on
abbrev pub parameters_sexp : ℕ → ℕ → List Template
parameters_sexp i zero = []
parameters_sexp i (suc n) = numbered "T" i ∷ parameters_sexp (suc i) n

-- the constructors, behind the parameters if there are any
abbrev pub datatype_sexp : Declared → DataDecl → Template
datatype_sexp env d =
    cond (eqb d.vars 0)
    (group (ctors_sexp env d.ctors))
    (group (reserved "par" ∷ group (parameters_sexp 0 d.vars) ∷ group (ctors_sexp env d.ctors) ∷ []))

-- A declaration is a command: what stands between its parentheses. A datatype's:
unfoldable pub datatype_command : Declared → DataDecl → Template
datatype_command env d =
    row (
    reserved "declare-datatypes" ∷
    group (group (name_sexp d.name ∷ numeral d.vars ∷ []) ∷ []) ∷
    group (datatype_sexp env d ∷ []) ∷
    [])

-- a constant's
unfoldable pub constant_command : Declared → Binder → Template
constant_command env b = row (reserved "declare-const" ∷ name_sexp b.name ∷ sort_sexp env b.sort ∷ [])

-- that of a name with the sorts of its arguments and its own
abbrev pub signature_command : List ℕ → List Template → Template → Template
signature_command x inputs output = row (reserved "declare-fun" ∷ name_sexp x ∷ group inputs ∷ output ∷ [])

-- a function's, given its body if it has one
abbrev pub body_command : Declared → FunDef → Option FunBody → Template
body_command env f none = signature_command f.name (sorts_sexp env f.inputs) (sort_sexp env f.output)
body_command env f (some b) =
    row (
    reserved "define-fun" ∷
    name_sexp f.name ∷
    group (binders_sexp env (zip b.args f.inputs)) ∷
    sort_sexp env f.output ∷
    expr_sexp env b.expr ∷
    [])

-- a function's
unfoldable pub function_command : Declared → FunDef → Template
function_command env f = body_command env f f.body

-- a KVar's
unfoldable pub kvar_command : Declared → KVarDecl → Template
kvar_command env k = signature_command k.kvid (sorts_sexp env k.sorts) (symbol "Bool")
