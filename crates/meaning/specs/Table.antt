-- W-208, computed: which names are free, when small trees and their assertions hold, and why refusals 7, 15 and 10 and the two laws are there.
use Rattle.std.specs.Prelude.{ℕ, ◌≡◌, Bool, true, false, cond, not, ◌&&◌, ◌||◌, List, [], ◌∷◌, ◌++◌, T}
use Prim.Native.String.{String}
use Rattle.std.proofs.Math.Option.{Option, none, some}
use Rattle.smtlib.specs.Lexicon.{bytes, same}
use Rattle.task.specs.declared.Quantifier.TheVariants.{Forall}
use Rattle.task.specs.Ast.{SortCtor, Sort, Sorts, Binder, Constant, Expr, Exprs, Pred, Constraint, Constraints, Task}
use Rattle.task.specs.Decode.{got}
use Rattle.task.specs.Names.{Known, Counted, NamesHold}
use Rattle.task.specs.Returns.{every}
use Rattle.task.specs.Task.{trailer_at, decoded, literally_true}
use Rattle.smt_text.specs.Editions.{NameTable}
use Rattle.horn_text.specs.Clauses.{clauses_of}
use Rattle.horn_text.specs.Script.{encoder_of}
use Rattle.horn_text.specs.Answers.{refused, survey_answer}
use Rattle.horn_text.specs.Table.{file_of, named, var, expr_pred, head}
use Rattle.meaning.specs.Interpretation.{is_free, Assignment, assign, Interpretation, ByFreeNames, TrueIsTrue, Lawful}
use Rattle.meaning.specs.Holds.{tree_holds, assertions_hold}

-- AN INTERPRETATION

-- The values are Booleans: both for the sort Bool, true alone for Int, and none for any other.
abbrev pub values_of : List ℕ → List Bool
values_of w = cond (same w (bytes "Bool")) (false ∷ true ∷ []) (cond (same w (bytes "Int")) (true ∷ []) [])

-- a name has the value true
abbrev pub value_true : Option Bool → Bool
value_true none = false
value_true (some b) = b

-- A predicate is true if it is literally true, or if the name y is free in it and has the value true.
abbrev pub by_y : Interpretation Bool
by_y = record { values = values_of; truth = λ p a. literally_true p || (is_free (bytes "y") p && value_true (a (bytes "y"))) }

-- to begin with y is true, and no other name has a value
abbrev pub y_true : Assignment Bool
y_true = assign (λ x. none) (bytes "y") true

-- whether the tree of a task holds then, and whether all its assertions do: in an interpretation
abbrev pub meanings_in : Interpretation Bool → NameTable → Task → Bool × Bool
meanings_in i names t = (tree_holds i (encoder_of names t) t.constraint y_true, assertions_hold i (encoder_of names t) (clauses_of t) y_true)

-- in this one
abbrev pub meanings : NameTable → Task → Bool × Bool
meanings = meanings_in by_y

-- TREES

-- a task with these constants and this constraint alone
abbrev pub task_with : List Binder → Constraint → Task
task_with constants c = record { comments = []; datatypes = []; constants = constants; functions = []; kvars = []; constraint = c }

-- a name of sort Bool
abbrev pub of_bool : String → Binder
of_bool x = record { name = bytes x; sort = Sort.bool }

-- a Boolean, as an expression
abbrev pub boolean : Bool → Expr
boolean b = Expr.constant (Constant.boolean b)

-- a Var
abbrev pub var_of : String → Expr
var_of x = Expr.var (bytes x)

-- a Var as a predicate
abbrev pub is : String → Pred
is x = Pred.expr (var_of x)

-- a KVar of an expression
abbrev pub kvar_of : String → Expr → Pred
kvar_of k e = Pred.kvar (bytes k) (Exprs.more e Exprs.none)

-- ForAll
abbrev pub for_all_of : String → Sort → List Pred → Constraint → Constraint
for_all_of x b ps c = Constraint.for_all (bytes x) b ps c

-- the Conj of two constraints
abbrev pub both_of : Constraint → Constraint → Constraint
both_of c d = Constraint.conj (Constraints.more c (Constraints.more d Constraints.none))

-- a Var as a head
abbrev pub head_is : String → Constraint
head_is x = Constraint.pred (is x)

-- a KVar of a Var as a head
abbrev pub head_kvar : String → String → Constraint
head_kvar k x = Constraint.pred (kvar_of k (var_of x))

-- false as a head
abbrev pub head_false : Constraint
head_false = Constraint.pred (Pred.expr (boolean false))

-- FREE NAMES

-- Predicates in which y is free: a Var; a KVar of that name, and one with that argument; a constructor that is tested for, also in an argument of a KVar, and what is tested; the first
-- operand of a Let y, and the second of a Let z; the body of a Quantifier over z.
abbrev pub with_y : List Pred
with_y =
    is "y" ∷
    kvar_of "y" (var_of "z") ∷
    kvar_of "k" (var_of "y") ∷
    Pred.expr (Expr.is_ctor (bytes "y") (var_of "z")) ∷
    kvar_of "k" (Expr.is_ctor (bytes "y") (var_of "z")) ∷
    Pred.expr (Expr.is_ctor (bytes "c") (var_of "y")) ∷
    Pred.expr (Expr.let_in (bytes "y") (var_of "y") (boolean true)) ∷
    Pred.expr (Expr.let_in (bytes "z") (boolean true) (var_of "y")) ∷
    Pred.expr (Expr.quantifier Forall (of_bool "z" ∷ []) (var_of "y")) ∷
    []

-- And some in which it is not: another Var, a KVar and a constructor of other names; the second operand of a Let y; the body of a Quantifier over y.
abbrev pub without_y : List Pred
without_y =
    is "z" ∷
    kvar_of "k" (var_of "z") ∷
    Pred.expr (Expr.is_ctor (bytes "c") (var_of "z")) ∷
    Pred.expr (Expr.let_in (bytes "y") (var_of "z") (var_of "y")) ∷
    Pred.expr (Expr.quantifier Forall (of_bool "y" ∷ []) (var_of "y")) ∷
    []

-- WHAT SMALL TREES MEAN

-- a tree holds, or does not, and so do its assertions, whatever the table of names
abbrev pub Means : Constraint → Bool → Type 0
Means c b = (names : NameTable) → meanings names (task_with [] c) ≡ (b, b)

-- in a task that declares nothing (proofs/Examples.antt: trees)
pub record Trees : Type 0 where
  -- without heads: a Conj without members, a head that is literally true, and one under a ForAll
  pub no_members : Means (Constraint.conj Constraints.none) true
  pub true_head : Means (Constraint.pred (Pred.expr (boolean true))) true
  pub true_below : Means (for_all_of "y" Sort.bool [] (Constraint.pred (Pred.expr (boolean true)))) true
  -- a head alone: y is true to begin with, false is not
  pub head : Means (head_is "y") true
  pub false_head : Means head_false false
  -- each member of a Conj counts
  pub members : Means (both_of (head_is "y") (head_is "y")) true
  pub first_fails : Means (both_of head_false (head_is "y")) false
  pub second_fails : Means (both_of (head_is "y") head_false) false
  -- for a sort without values everything holds, for one that has values false does not
  pub no_values : Means (for_all_of "z" Sort.str [] head_false) true
  pub one_value : Means (for_all_of "z" Sort.int [] head_false) false
  -- all values count: one of Bool is false, that of Int is true
  pub all_values : Means (for_all_of "y" Sort.bool [] (head_is "y")) false
  pub true_values : Means (for_all_of "y" Sort.int [] (head_is "y")) true
  -- a Data sort that no datatype declares is written Int, and has its values
  pub undeclared : Means (for_all_of "y" (Sort.app (SortCtor.named (bytes "D")) Sorts.none) [] (head_is "y")) true
  -- a binder's value is that of no other name
  pub other_name : Means (for_all_of "z" Sort.bool [] (head_is "y")) true
  -- of two ForAlls of one name the inner one's value counts
  pub inner_value : Means (for_all_of "y" Sort.bool [] (for_all_of "y" Sort.int [] (head_is "y"))) true
  -- a guard sees its own ForAll's value; it excludes values, and not all of them
  pub guard : Means (for_all_of "y" Sort.bool (is "y" ∷ []) (head_is "y")) true
  pub guard_fails : Means (for_all_of "y" Sort.bool (is "y" ∷ []) head_false) false
  -- one that is literally true excludes none
  pub true_guard : Means (for_all_of "y" Sort.bool (Pred.expr (boolean true) ∷ []) (head_is "y")) false
  -- it holds in ForAlls further in, and not in the next member
  pub guard_further_in : Means (for_all_of "y" Sort.bool (is "y" ∷ []) (for_all_of "z" Sort.bool [] (head_is "y"))) true
  pub guard_left : Means (for_all_of "y" Sort.bool [] (both_of (for_all_of "z" Sort.bool (is "y" ∷ []) (head_is "y")) (head_is "y"))) false
  -- so with a KVar as head
  pub kvar : Means (for_all_of "y" Sort.int [] (head_kvar "k" "y")) true
  pub kvar_fails : Means (for_all_of "y" Sort.bool [] (head_kvar "k" "y")) false
  pub kvar_guard : Means (for_all_of "y" Sort.bool (is "y" ∷ []) (head_kvar "k" "y")) true

-- WHY THE REFUSALS ARE THERE

-- ForAll x Bool with the guard y, and under it ForAll y Bool with the head y: as a constraint, and as the bytes of one
abbrev pub captures : String → Constraint
captures x = for_all_of x Sort.bool (is "y" ∷ []) (for_all_of "y" Sort.bool [] (head_is "y"))

abbrev pub captures_bytes : String → List ℕ
captures_bytes x = 2 ∷ named x ++ 1 ∷ 1 ∷ 0 ∷ expr_pred (var "y") ++ 2 ∷ named "y" ++ 1 ∷ 0 ∷ 0 ∷ head (expr_pred (var "y"))

-- 7: the outer ForAll is named y too
abbrev pub repeated_task : Task
repeated_task = task_with [] (captures "y")

-- 15: y is a constant of sort Bool
abbrev pub clashing_task : Task
clashing_task = task_with (of_bool "y" ∷ []) (captures "x")

-- 10: nothing declares the y of the guard
abbrev pub unknown_task : Task
unknown_task = task_with [] (captures "x")

-- A file that survey refuses with this number, what its bytes decode to, and that the assertions of that would hold where the tree does not.
pub record Differs (number : ℕ) (file : List ℕ) (t : Task) : Type 0 where
  pub survey : (names : NameTable) → survey_answer names file ≡ refused number
  pub task : decoded file ≡ got t (trailer_at file)
  pub differ : (names : NameTable) → meanings names t ≡ (false, true)

-- WHY THE LAWS ARE THERE

-- no predicate is true, not even Boolean true
abbrev pub none_true : Interpretation Bool
none_true = record { values = values_of; truth = λ p a. false }

-- a predicate is true if it is literally true, or if y has the value true, be it free in the predicate or not
abbrev pub not_by_free : Interpretation Bool
not_by_free = record { values = values_of; truth = λ p a. literally_true p || value_true (a (bytes "y")) }

-- Each has the one law and not the other, and a tree without captures whose assertions hold where it does not: Boolean true alone; ForAll x Bool with the guard x, over ForAll y Bool, over the head x. (proofs/Examples.antt: laws)
pub record Laws : Type 0 where
  pub by_free_names : ByFreeNames none_true
  pub true_needed : (names : NameTable) → meanings_in none_true names (task_with [] (Constraint.pred (Pred.expr (boolean true)))) ≡ (false, true)
  pub true_is_true : TrueIsTrue not_by_free
  pub free_needed : (names : NameTable) → meanings_in not_by_free names (task_with [] (for_all_of "x" Sort.bool (is "x" ∷ []) (for_all_of "y" Sort.bool [] (head_is "x")))) ≡ (false, true)

-- THE TABLE (proofs/Examples.antt: table)

pub record Table : Type 0 where
  -- the names free in predicates
  pub free : T (every (is_free (bytes "y")) with_y)
  pub not_free : T (every (λ p. not (is_free (bytes "y") p)) without_y)
  -- both laws hold of the interpretation, and both are needed
  pub lawful : Lawful by_y
  pub laws : Laws
  -- what small trees mean
  pub trees : Trees
  -- 7, and none of 15, 10 and 11; those that are judged before 7 would have been answered
  pub repeated : Differs 7 (file_of [] [] (captures_bytes "y")) repeated_task
  pub repeated_alone : NamesHold repeated_task
  -- 15, and neither 10 nor 11
  pub clashing : Differs 15 (file_of [] (named "y" ++ 1 ∷ []) (captures_bytes "x")) clashing_task
  pub clashing_known : Known clashing_task
  pub clashing_counted : Counted clashing_task
  -- 10, and not 11
  pub unknown : Differs 10 (file_of [] [] (captures_bytes "x")) unknown_task
  pub unknown_counted : Counted unknown_task
