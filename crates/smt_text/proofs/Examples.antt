-- The corners of document 01, computed from the definitions: what is written for each.
use mathlib.Core.Path.{◌≡◌, refl}
use mathlib.Core.List.{List, [], ◌∷◌}
use mathlib.Core.Option.{none, some}
use Prim.Native.Nat.{ℕ, ◌-◌, ◌^◌}
use lib.Dec.{lit<}
use Rattle.smtlib.specs.Lexicon.{bytes}
use Rattle.smtlib.specs.Compose.{decimal}
use Rattle.smtlib.proofs.Decimal.{decimal_digits}
use Rattle.task.specs.declared.BinRel.TheVariants as rel
use Rattle.task.specs.declared.Quantifier.TheVariants as quantifier
use Rattle.task.specs.declared.ThyFunc.TheVariants as thy
use Rattle.task.specs.Ast.{SortCtor, Sort, Sorts, Constant, Expr, Exprs, Pred}
use Rattle.task.specs.Fault.{needs_sort}
use Rattle.smt_text.specs.declared.Edition.TheVariants.{Z3}
use Rattle.smt_text.specs.Editions.{names_of}
use Rattle.smt_text.specs.Encoder.{Encoder, declared, encoder}
use Rattle.smt_text.specs.Theory.{thy_func_name}
use Rattle.smt_text.specs.Text.{write_name, write_string, write_thy_func, write_sort, write_sorts, write_binder, write_application_head, write_expr, write_exprs, write_pred, write_ctor, write_datatype_decl, write_const_decl, write_fun_def, write_kvar_decl}

-- a datatype L with a constructor c; the names are those of Z3
abbrev enc : Encoder
enc = encoder (names_of Z3) (declared (record { name = bytes "L"; vars = 0; ctors = record { name = bytes "c"; fields = [] } ∷ [] } ∷ []))

abbrev x : Expr
x = Expr.var (bytes "x")

abbrev one : Exprs
one = Exprs.more x Exprs.none

abbrev named : List ℕ → Sorts → Sort
named n bs = Sort.app (SortCtor.named n) bs

abbrev ints : Sorts
ints = Sorts.more Sort.int Sorts.none

-- a text of each corner
record Corners : Type 0 where
  empty_and : write_expr enc (Expr.and Exprs.none) ≡ bytes "true"
  empty_or : write_expr enc (Expr.or Exprs.none) ≡ bytes "false"
  and_of_one : write_expr enc (Expr.and one) ≡ bytes "(and x)"
  no_names : write_expr enc (Expr.quantifier quantifier.Forall [] x) ≡ bytes "(forall () x)"
  two_names : write_expr enc (Expr.quantifier quantifier.Exists (record { name = bytes "x"; sort = Sort.int } ∷ record { name = bytes "y"; sort = Sort.bool } ∷ []) x)
      ≡ bytes "(exists ((x Int) (y Bool)) x)"
  bare_head : write_expr enc (Expr.app x Exprs.none none) ≡ bytes "x"
  constructor_head : write_expr enc (Expr.app (Expr.var (bytes "c")) one (some (named (bytes "L") Sorts.none))) ≡ bytes "((as c L) x)"
  constructor_bare : write_expr enc (Expr.app (Expr.var (bytes "c")) one none) ≡ bytes "(c x)"
  other_head : write_expr enc (Expr.app x one (some Sort.int)) ≡ bytes "(x x)"
  empty_set : write_expr enc (Expr.app (Expr.thy_func thy.SetEmpty) Exprs.none (some (Sort.app SortCtor.set ints))) ≡ bytes "(as emptyset (Set Int))"
  map_default : write_expr enc (Expr.app (Expr.thy_func thy.MapDefault) one (some (Sort.app SortCtor.map (Sorts.more Sort.int ints)))) ≡ bytes "((as const (Array Int Int)) x)"
  declared : write_sort enc (named (bytes "L") ints) ≡ bytes "(L Int)"
  undeclared : write_sort enc (named (bytes "M") ints) ≡ bytes "Int"
  func : write_sort enc (Sort.func Sort.int (Sort.func Sort.bool Sort.str)) ≡ bytes "(Array Int (Array Bool String))"
  abs : write_sort enc (Sort.abs 2 (Sort.var 1)) ≡ bytes "T1"
  bit_vec_lem : write_sort enc (Sort.bit_vec (Sort.bv_size 32)) ≡ bytes "(_ BitVec 32)"
  not_equal : write_expr enc (Expr.atom rel.Ne x x) ≡ bytes "(not (= x x))"
  zero : write_expr enc (Expr.constant (Constant.numeral 0)) ≡ bytes "0"
  real : write_expr enc (Expr.constant (Constant.real 7)) ≡ bytes "7"
  string : write_expr enc (Expr.constant (Constant.string (bytes "a b"))) ≡ bytes "\"a b\""
  value : write_expr enc (Expr.constant (Constant.bit_vec 10 8)) ≡ bytes "(_ bv10 8)"
  extends : write_expr enc (Expr.app (Expr.thy_func (thy.BvZeroExtend 24)) one none) ≡ bytes "((_ zero_extend 24) x)"
  letting : write_expr enc (Expr.let_in (bytes "y") x x) ≡ bytes "(let ((y x)) x)"
  testing : write_expr enc (Expr.is_ctor (bytes "c") x) ≡ bytes "((_ is c) x)"
  kvar_alone : write_pred enc (Pred.kvar (bytes "k0") Exprs.none) ≡ bytes "k0"
  kvar_applied : write_pred enc (Pred.kvar (bytes "k0") one) ≡ bytes "(k0 x)"
  par : write_datatype_decl enc (record { name = bytes "N"; vars = 1; ctors = record { name = bytes "c"; fields = record { name = bytes "f"; sort = Sort.var 0 } ∷ [] } ∷ [] })
      ≡ bytes "(declare-datatypes ((N 1)) ((par (T0) ((c (f T0))))))\n"
  plain : write_datatype_decl enc (record { name = bytes "N"; vars = 0; ctors = record { name = bytes "c"; fields = [] } ∷ record { name = bytes "d"; fields = [] } ∷ [] })
      ≡ bytes "(declare-datatypes ((N 0)) (((c) (d))))\n"
  constant : write_const_decl enc (record { name = bytes "n"; sort = Sort.int }) ≡ bytes "(declare-const n Int)\n"
  function : write_fun_def enc (record { name = bytes "f"; params = 1; inputs = ints; output = Sort.bool; body = none }) ≡ bytes "(declare-fun f (Int) Bool)\n"
  definition : write_fun_def enc (record { name = bytes "f"; params = 0; inputs = ints; output = Sort.int; body = some (record { args = bytes "x" ∷ []; expr = x }) })
      ≡ bytes "(define-fun f ((x Int)) Int x)\n"
  kvar : write_kvar_decl enc (record { kvid = bytes "k0"; sorts = ints }) ≡ bytes "(declare-fun k0 (Int) Bool)\n"

corners : Corners
unfolding decimal names_of thy_func_name needs_sort write_name write_string write_thy_func write_sort write_sorts write_binder write_application_head write_expr write_exprs write_pred write_ctor write_datatype_decl write_const_decl write_fun_def write_kvar_decl
corners = record {
  empty_and = refl;
  empty_or = refl;
  and_of_one = refl;
  no_names = refl;
  two_names = refl;
  bare_head = refl;
  constructor_head = refl;
  constructor_bare = refl;
  other_head = refl;
  empty_set = refl;
  map_default = refl;
  declared = refl;
  undeclared = refl;
  func = refl;
  abs = refl;
  bit_vec_lem = refl;
  not_equal = refl;
  zero = refl;
  real = refl;
  string = refl;
  value = refl;
  extends = refl;
  letting = refl;
  testing = refl;
  kvar_alone = refl;
  kvar_applied = refl;
  par = refl;
  plain = refl;
  constant = refl;
  function = refl;
  definition = refl;
  kvar = refl;
}

-- the largest numeral has 39 digits
largest : write_expr enc (Expr.constant (Constant.numeral (2 ^ 128 - 1))) ≡ bytes "340282366920938463463374607431768211455"
unfolding write_expr
largest = decimal_digits 38 (2 ^ 128 - 1) (lit< {m = 2 ^ 128 - 1} {n = 10 ^ 39} tt)
