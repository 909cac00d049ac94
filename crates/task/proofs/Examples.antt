-- Worked examples, computed from the definitions.
use mathlib.Core.Path.{◌≡◌, refl}
use mathlib.Core.Bool.{Bool, true, false}
use mathlib.Core.List.{List, [], ◌∷◌, map}
use mathlib.Core.Option.{Option, none, some}
use Prim.Native.Nat.{ℕ}
use lib.Dec.{T}
use Rattle.smtlib.specs.Lexicon.{bytes, reserved_words}
use Rattle.task.specs.declared.BinOp.TheVariants.{Add}
use Rattle.task.specs.declared.BinRel.TheVariants.{Ge}
use Rattle.task.specs.declared.Quantifier.TheVariants.{Exists}
use Rattle.task.specs.declared.ThyFunc.TheVariants.{SetEmpty, MapDefault}
use Rattle.task.specs.declared.Fault.TheVariants.{Text, NoConstructors, BitVecWidth, Unqualified, WKVar, Arity, Shadowed, Clash, Sound}
use Rattle.task.specs.Ast.{SortCtor, Sort, Sorts, Binder, Constant, Expr, Exprs, Pred, Constraint, Constraints, DataDecl, FunBody, FunDef, Task}
use Rattle.task.specs.Decode.{got, refuse, raw, items, sort_forms, dec_sort, bin_rels, expr_forms, dec_expr, dec_pred, dec_constraint}
use Rattle.task.specs.Fault.{lower, name_fault, text_fault, sort_fault, sorts_fault, binder_fault, needs_sort, thy_func_fault, expr_fault, exprs_fault, pred_fault, shadow_fault, constraint_fault, constraints_fault, empty_fault, datatype_fault, arity_fault, body_fault, kvar_fault, task_fault}
use Rattle.task.specs.Scope.{taken_names, everywhere, in_constraint, arity_of, known_fault, expr_scope, body_scope, functions_scope, globals_of, pred_scope, constraint_names, names_fault}
use Rattle.task.specs.Task.{bound, framed, decoded, task_of, literally_true, pred_heads, heads_of, heads_in, declarations}
use Rattle.task.specs.Returns.{write_sort_returns, write_thy_func_returns, write_application_head_returns, write_expr_returns, write_pred_returns, write_datatype_decl_returns, write_const_decl_returns, write_fun_def_returns, write_kvar_decl_returns}

-- 27 zero bytes are too short.
pub zeros : List ℕ
zeros = 0 ∷ 0 ∷ 0 ∷ 0 ∷ 0 ∷ 0 ∷ 0 ∷ 0 ∷ 0 ∷ 0 ∷ 0 ∷ 0 ∷ 0 ∷ 0 ∷ 0 ∷ 0 ∷ 0 ∷ 0 ∷ 0 ∷ 0 ∷ 0 ∷ 0 ∷ 0 ∷ 0 ∷ 0 ∷ 0 ∷ 0 ∷ []

pub too_short : task_of zeros ≡ refuse 1
unfolding zeros task_of framed bound
too_short = refl

-- In 24 zero bytes and the mark no constraint stands.
pub only_trailer : List ℕ
only_trailer = 0 ∷ 0 ∷ 0 ∷ 0 ∷ 0 ∷ 0 ∷ 0 ∷ 0 ∷ 0 ∷ 0 ∷ 0 ∷ 0 ∷ 0 ∷ 0 ∷ 0 ∷ 0 ∷ 0 ∷ 0 ∷ 0 ∷ 0 ∷ 0 ∷ 0 ∷ 0 ∷ 0 ∷ 72 ∷ 79 ∷ 82 ∷ 78 ∷ []

pub no_constraint : task_of only_trailer ≡ refuse 2
unfolding only_trailer task_of framed bound decoded items raw dec_constraint
no_constraint = refl

-- Case S of document 01: the constant n, the KVar k0, and two heads that are not literally true.
pub case_s : List ℕ
case_s = 1 ∷ 110 ∷ 0 ∷ 2 ∷ 107 ∷ 48 ∷ 1 ∷ 0 ∷ 0 ∷ 2 ∷ 1 ∷ 120 ∷ 0 ∷ 1 ∷ 0 ∷ 1 ∷ 10 ∷ 3 ∷ 5 ∷ 1 ∷ 120 ∷ 0 ∷ 0 ∷ 0 ∷ 0 ∷ 0 ∷ 0 ∷
    0 ∷ 0 ∷ 0 ∷ 0 ∷ 0 ∷ 0 ∷ 0 ∷ 0 ∷ 0 ∷ 0 ∷ 0 ∷ 1 ∷ 3 ∷ 0 ∷ 0 ∷ 0 ∷ 2 ∷ 107 ∷ 48 ∷ 1 ∷ 0 ∷ 5 ∷ 1 ∷ 120 ∷ 0 ∷ 1 ∷ 1 ∷ 1 ∷
    2 ∷ 1 ∷ 121 ∷ 0 ∷ 1 ∷ 0 ∷ 0 ∷ 2 ∷ 107 ∷ 48 ∷ 1 ∷ 0 ∷ 5 ∷ 1 ∷ 121 ∷ 0 ∷ 1 ∷ 10 ∷ 3 ∷ 5 ∷ 1 ∷ 121 ∷ 5 ∷ 1 ∷ 110 ∷ 0 ∷ 0 ∷
    0 ∷ 0 ∷ 0 ∷ 0 ∷ 0 ∷ 0 ∷ 0 ∷ 0 ∷ 0 ∷ 0 ∷ 3 ∷ 0 ∷ 0 ∷ 0 ∷ 3 ∷ 0 ∷ 0 ∷ 0 ∷ 9 ∷ 0 ∷ 0 ∷ 0 ∷ 72 ∷ 79 ∷ 82 ∷ 78 ∷ []

abbrev variable : List ℕ → Exprs
variable x = Exprs.more (Expr.var x) Exprs.none

pub task_s : Task
task_s = record {
  comments = [];
  datatypes = [];
  constants = record { name = bytes "n"; sort = Sort.int } ∷ [];
  functions = [];
  kvars = record { kvid = bytes "k0"; sorts = Sorts.more Sort.int Sorts.none } ∷ [];
  constraint =
      Constraint.for_all (bytes "x") Sort.int (Pred.expr (Expr.atom Ge (Expr.var (bytes "x")) (Expr.constant (Constant.numeral 0))) ∷ [])
      (Constraint.conj
      (Constraints.more (Constraint.pred (Pred.kvar (bytes "k0") (variable (bytes "x"))))
      (Constraints.more (Constraint.pred (Pred.expr (Expr.constant (Constant.boolean true))))
      (Constraints.more
      (Constraint.for_all (bytes "y") Sort.int (Pred.kvar (bytes "k0") (variable (bytes "y")) ∷ [])
      (Constraint.pred (Pred.expr (Expr.atom Ge (Expr.var (bytes "y")) (Expr.var (bytes "n"))))))
      Constraints.none))));
}

pub s_decoded : decoded case_s ≡ got task_s 80
unfolding case_s task_s bound decoded items raw sort_forms dec_sort bin_rels expr_forms dec_expr dec_pred dec_constraint
s_decoded = refl

pub s_sound : task_fault task_s ≡ Sound
unfolding task_s lower name_fault sort_fault sorts_fault binder_fault expr_fault exprs_fault pred_fault shadow_fault constraint_fault constraints_fault kvar_fault task_fault reserved_words
s_sound = refl

pub s_declarations : declarations task_s ≡ 2
unfolding task_s
s_declarations = refl

pub s_heads : heads_of task_s.constraint ≡ 2
unfolding task_s literally_true pred_heads heads_of heads_in
s_heads = refl

-- At level 257 nothing is looked at, not even whether a byte is left.
pub too_deep : (s : List ℕ) (at : ℕ) → dec_expr 0 s at ≡ refuse 3
unfolding dec_expr
too_deep s at = refl

-- The fault of lower rank is judged, wherever it stands.
pub text_first : lower WKVar Text ≡ Text
unfolding lower
text_first = refl

-- BvSize under BitVec; another sort there; BvSize elsewhere.
pub width : sort_fault false (Sort.bit_vec (Sort.bv_size 8)) ≡ Sound
unfolding lower sort_fault
width = refl

pub no_width : sort_fault false (Sort.bit_vec Sort.int) ≡ BitVecWidth
unfolding lower sort_fault
no_width = refl

pub stray_width : sort_fault false (Sort.bv_size 8) ≡ BitVecWidth
unfolding sort_fault
stray_width = refl

-- BvSize as an output sort that its head has no use for.
pub unused_width : expr_fault false (Expr.app (Expr.var (bytes "x")) Exprs.none (some (Sort.bv_size 8))) ≡ BitVecWidth
unfolding lower name_fault sort_fault expr_fault exprs_fault reserved_words
unused_width = refl

-- SetEmpty as the head of an application with an output sort, and without one.
pub qualified : expr_fault false (Expr.app (Expr.thy_func SetEmpty) Exprs.none (some Sort.int)) ≡ Sound
unfolding lower sort_fault needs_sort thy_func_fault expr_fault exprs_fault
qualified = refl

pub unqualified : expr_fault false (Expr.app (Expr.thy_func SetEmpty) Exprs.none none) ≡ Unqualified
unfolding lower needs_sort thy_func_fault expr_fault exprs_fault
unqualified = refl

-- A string with quotation marks, and one with a line feed behind one.
pub quoted : expr_fault false (Expr.constant (Constant.string (bytes "\"a\""))) ≡ Sound
unfolding text_fault expr_fault
quoted = refl

pub broken : expr_fault false (Expr.constant (Constant.string (bytes "\"\n"))) ≡ Text
unfolding text_fault expr_fault
broken = refl

-- A datatype without constructors; a body with an argument too many.
pub no_constructors : datatype_fault (record { name = bytes "D"; vars = 0; ctors = [] }) ≡ NoConstructors
unfolding lower name_fault empty_fault datatype_fault reserved_words
no_constructors = refl

pub wrong_arity : body_fault 0 (some (record { args = bytes "x" ∷ []; expr = Expr.var (bytes "x") })) ≡ Arity
unfolding lower name_fault expr_fault arity_fault body_fault reserved_words
wrong_arity = refl

-- A ForAll named like one around it, and one beside it.
abbrev for_all_x : Constraint → Constraint
for_all_x c = Constraint.for_all (bytes "x") Sort.int [] c

abbrev nothing : Constraint
nothing = Constraint.conj Constraints.none

pub shadowed : constraint_fault [] (for_all_x (for_all_x nothing)) ≡ Shadowed
unfolding lower name_fault sort_fault shadow_fault constraint_fault constraints_fault reserved_words
shadowed = refl

pub beside : constraint_fault [] (Constraint.conj (Constraints.more (for_all_x nothing) (Constraints.more (for_all_x nothing) Constraints.none))) ≡ Sound
unfolding lower name_fault sort_fault shadow_fault constraint_fault constraints_fault reserved_words
beside = refl

-- The names that a task declares, one of each kind: a datatype d with a constructor c of a field f, a constant k, a function g and a KVar v. A ForAll of
-- each of these names, without heads under it: the datatype's is none that counts.
abbrev one_of_each : Constraint → Task
one_of_each c = record {
  comments = [];
  datatypes = record { name = bytes "d"; vars = 0; ctors = record { name = bytes "c"; fields = record { name = bytes "f"; sort = Sort.int } ∷ [] } ∷ [] } ∷ [];
  constants = record { name = bytes "k"; sort = Sort.int } ∷ [];
  functions = record { name = bytes "g"; params = 0; inputs = Sorts.none; output = Sort.int; body = none } ∷ [];
  kvars = record { kvid = bytes "v"; sorts = Sorts.none } ∷ [];
  constraint = c;
}

pub clashes : map (λ x. names_fault (one_of_each (Constraint.for_all x Sort.int [] nothing))) (map bytes ("d" ∷ "c" ∷ "f" ∷ "k" ∷ "g" ∷ "v" ∷ "x" ∷ []))
    ≡ Sound ∷ Clash ∷ Clash ∷ Clash ∷ Clash ∷ Clash ∷ Sound ∷ []
unfolding lower taken_names functions_scope body_scope globals_of constraint_names names_fault
clashes = refl

-- So is one under another, and one behind another member of a Conj.
pub clashes_inside : names_fault (one_of_each (Constraint.for_all (bytes "x") Sort.int [] (Constraint.for_all (bytes "k") Sort.int [] nothing))) ≡ Clash
unfolding lower taken_names functions_scope body_scope globals_of constraint_names names_fault
clashes_inside = refl

pub clashes_behind : names_fault (one_of_each (Constraint.conj (Constraints.more (for_all_x nothing) (Constraints.more (Constraint.for_all (bytes "k") Sort.int [] nothing) Constraints.none)))) ≡ Clash
unfolding lower taken_names functions_scope body_scope globals_of constraint_names names_fault
clashes_behind = refl

-- Case S has no such ForAll.
pub s_names : names_fault task_s ≡ Sound
unfolding task_s lower taken_names everywhere in_constraint arity_of known_fault expr_scope functions_scope globals_of pred_scope constraint_names names_fault
s_names = refl

-- An empty And is not literally true.
pub empty_and : literally_true (Pred.expr (Expr.and Exprs.none)) ≡ false
unfolding literally_true
empty_and = refl

-- Where the source panics: at each of these forms, since a piece that panics stands in a place of it that is written.
abbrev x : Expr
x = Expr.var (bytes "x")

abbrev width_8 : Sort
width_8 = Sort.bv_size 8

abbrev exprs : Expr → Expr → Exprs
exprs a b = Exprs.more a (Exprs.more b Exprs.none)

abbrev sorts : Sort → Sort → Sorts
sorts a b = Sorts.more a (Sorts.more b Sorts.none)

abbrev binder_y : Sort → Binder
binder_y b = record { name = bytes "y"; sort = b }

-- the datatype L with the constructor c
abbrev datatype_l : List DataDecl
datatype_l = record { name = bytes "L"; vars = 0; ctors = record { name = bytes "c"; fields = [] } ∷ [] } ∷ []

-- applied to x
abbrev applied : Expr → Option Sort → Expr
applied h o = Expr.app h (Exprs.more x Exprs.none) o

-- sorts of which one is written that panics
abbrev panicking_sorts : List Sort
panicking_sorts =
    width_8 ∷ Sort.bit_vec Sort.int ∷ Sort.bit_vec Sort.bool ∷ Sort.bit_vec Sort.real ∷ Sort.bit_vec Sort.str ∷ Sort.bit_vec (Sort.bit_vec width_8) ∷
    Sort.bit_vec (Sort.var 0) ∷ Sort.bit_vec (Sort.func Sort.int Sort.int) ∷ Sort.bit_vec (Sort.abs 1 Sort.int) ∷
    Sort.bit_vec (Sort.app SortCtor.set Sorts.none) ∷ Sort.func width_8 Sort.int ∷ Sort.func Sort.int width_8 ∷
    Sort.abs 1 width_8 ∷ Sort.app SortCtor.set (sorts width_8 Sort.int) ∷ Sort.app SortCtor.map (sorts Sort.int width_8) ∷
    Sort.app (SortCtor.named (bytes "L")) (sorts Sort.int width_8) ∷ []

-- expressions
abbrev panicking_exprs : List Expr
panicking_exprs =
    Expr.wk_var ∷ Expr.thy_func SetEmpty ∷ Expr.thy_func MapDefault ∷ applied Expr.wk_var none ∷ applied (Expr.thy_func SetEmpty) none ∷
    applied (Expr.thy_func SetEmpty) (some width_8) ∷ applied (Expr.var (bytes "c")) (some width_8) ∷
    Expr.app x (exprs Expr.wk_var x) none ∷ Expr.app x (exprs x Expr.wk_var) none ∷ Expr.neg Expr.wk_var ∷ Expr.not Expr.wk_var ∷
    Expr.binary_op Add Expr.wk_var x ∷ Expr.binary_op Add x Expr.wk_var ∷ Expr.if_then_else Expr.wk_var x x ∷ Expr.if_then_else x Expr.wk_var x ∷
    Expr.if_then_else x x Expr.wk_var ∷ Expr.and (exprs Expr.wk_var x) ∷ Expr.and (exprs x Expr.wk_var) ∷ Expr.or (exprs x Expr.wk_var) ∷
    Expr.imp Expr.wk_var x ∷ Expr.imp x Expr.wk_var ∷ Expr.iff Expr.wk_var x ∷ Expr.iff x Expr.wk_var ∷ Expr.atom Ge Expr.wk_var x ∷
    Expr.atom Ge x Expr.wk_var ∷ Expr.let_in (bytes "y") Expr.wk_var x ∷ Expr.let_in (bytes "y") x Expr.wk_var ∷ Expr.is_ctor (bytes "c") Expr.wk_var ∷
    Expr.quantifier Exists (binder_y width_8 ∷ binder_y Sort.int ∷ []) x ∷ Expr.quantifier Exists (binder_y Sort.int ∷ binder_y width_8 ∷ []) x ∷
    Expr.quantifier Exists [] Expr.wk_var ∷ []

-- What is not written does not make it panic: arguments of a datatype that is not declared, and an output sort that the head has no use for.
abbrev unwritten : List Expr
unwritten =
    Expr.quantifier Exists (binder_y (Sort.app (SortCtor.named (bytes "M")) (sorts Sort.int width_8)) ∷ []) x ∷
    applied x (some width_8) ∷ applied (Expr.not x) (some width_8) ∷ []

pub sorts_panic : map (write_sort_returns datatype_l) panicking_sorts ≡ map (λ b. false) panicking_sorts
unfolding write_sort_returns
sorts_panic = refl

pub exprs_panic : map (write_expr_returns datatype_l) panicking_exprs ≡ map (λ e. false) panicking_exprs
unfolding write_sort_returns write_thy_func_returns write_application_head_returns write_expr_returns
exprs_panic = refl

-- also as heads
pub heads_panic : map (λ e. write_expr_returns datatype_l (applied e none)) panicking_exprs ≡ map (λ e. false) panicking_exprs
unfolding write_sort_returns write_thy_func_returns write_application_head_returns write_expr_returns
heads_panic = refl

pub unwritten_returns : map (write_expr_returns datatype_l) unwritten ≡ map (λ e. true) unwritten
unfolding write_sort_returns write_application_head_returns write_expr_returns
unwritten_returns = refl

-- a function from Int and another sort, with a body if one is given
abbrev function_f : Sort → Sort → Option FunBody → FunDef
function_f input output body = record { name = bytes "f"; params = 0; inputs = sorts Sort.int input; output = output; body = body }

-- its body, with as many arguments as are given
abbrev body_of : List (List ℕ) → Expr → Option FunBody
body_of xs e = some (record { args = xs; expr = e })

abbrev two_names : List (List ℕ)
two_names = bytes "x" ∷ bytes "y" ∷ []

-- a datatype with two constructors, of which one has two fields
abbrev datatype_d : Sort → Sort → Sort → DataDecl
datatype_d a b c = record {
  name = bytes "D";
  vars = 0;
  ctors = record { name = bytes "c"; fields = binder_y a ∷ binder_y b ∷ [] } ∷ record { name = bytes "d"; fields = binder_y c ∷ [] } ∷ [];
}

-- predicates and declarations
abbrev panicking_others : List Bool
panicking_others =
    write_pred_returns [] (Pred.kvar (bytes "k") (exprs x Expr.wk_var)) ∷
    write_pred_returns [] (Pred.expr Expr.wk_var) ∷
    write_datatype_decl_returns [] (record { name = bytes "D"; vars = 0; ctors = [] }) ∷
    write_datatype_decl_returns [] (datatype_d width_8 Sort.int Sort.int) ∷
    write_datatype_decl_returns [] (datatype_d Sort.int width_8 Sort.int) ∷
    write_datatype_decl_returns [] (datatype_d Sort.int Sort.int width_8) ∷
    write_const_decl_returns [] (binder_y width_8) ∷
    write_fun_def_returns [] (function_f width_8 Sort.int none) ∷
    write_fun_def_returns [] (function_f Sort.int width_8 none) ∷
    write_fun_def_returns [] (function_f width_8 Sort.int (body_of two_names x)) ∷
    write_fun_def_returns [] (function_f Sort.int width_8 (body_of two_names x)) ∷
    write_fun_def_returns [] (function_f Sort.int Sort.int (body_of two_names Expr.wk_var)) ∷
    write_kvar_decl_returns [] (record { kvid = bytes "k"; sorts = sorts Sort.int width_8 }) ∷
    []

pub others_panic : panicking_others ≡ map (λ b. false) panicking_others
unfolding write_sort_returns write_expr_returns write_pred_returns write_datatype_decl_returns write_const_decl_returns write_fun_def_returns write_kvar_decl_returns
others_panic = refl

-- an input without an argument name is not written
pub dropped_returns : T (write_fun_def_returns [] (function_f width_8 Sort.int (body_of (bytes "x" ∷ []) x)))
unfolding write_sort_returns write_expr_returns write_fun_def_returns
dropped_returns = tt
