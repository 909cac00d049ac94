-- For a task without fault the source's writer returns: `script_returns`.
use mathlib.Core.Path.{◌≡◌, refl}
use mathlib.Core.Bool.{false}
use mathlib.Core.List.{List, [], ◌∷◌, map}
use mathlib.Core.Option.{none}
use lib.Dec.{T}
use Rattle.smtlib.specs.Lexicon.{bytes}
use Rattle.smtlib.proofs.Bools.{both}
use Rattle.task.specs.declared.Fault.TheVariants.{Sound}
use Rattle.task.specs.Ast.{Sort, Sorts, Binder, Expr, Pred, Constraint, Constraints, DataDecl, FunDef, KVarDecl, Task}
use Rattle.task.specs.Fault.{binder_fault, pred_fault, datatype_fault, function_fault, kvar_fault, task_fault}
use Rattle.task.specs.Task.{literally_true}
use Rattle.task.specs.Returns.{every, write_sort_returns, write_binders_return, write_expr_returns, write_pred_returns, write_datatype_decl_returns, write_const_decl_returns, write_fun_def_returns, write_kvar_decl_returns}
use Rattle.task.proofs.Judging.{sound_parts}
use Rattle.task.proofs.Returning.{every_returns, binders_return, returning}
use Rattle.horn_text.specs.Clauses.{HornClause, flatten_constraint, clauses_of}
use Rattle.horn_text.specs.Returns.{write_assert_returns, write_smt_horn_returns}
use Rattle.horn_text.specs.Theorems.{ScriptReturns}
use Rattle.horn_text.proofs.Readings.{clause_fault, clauses_sound}
open sound_parts use {none_left, none_right}

assert_returns : (ds : List DataDecl) (c : HornClause) → clause_fault c ≡ Sound → T (write_assert_returns ds c)
unfolding clause_fault write_assert_returns
assert_returns ds c h =
    let k = none_right _ _ h in
    both (write_binders_return ds c.vars) _ (binders_return ds c.vars (none_left _ _ h))
    (both (every (write_pred_returns ds) c.guards) _
    (every_returns pred_fault (write_pred_returns ds) (returning ds).preds c.guards (none_left _ _ k))
    ((returning ds).preds c.head (none_right _ _ k)))

pub script_returns : ScriptReturns
unfolding task_fault write_smt_horn_returns
script_returns t h =
    let ds = t.datatypes in
    let h1 = none_right _ _ h in
    let h2 = none_right _ _ h1 in
    let h3 = none_right _ _ h2 in
    let h4 = none_right _ _ h3 in
    both (every (write_datatype_decl_returns ds) ds) _
    (every_returns datatype_fault (write_datatype_decl_returns ds) (returning ds).datatypes ds (none_left _ _ h1))
    (both (every (write_const_decl_returns ds) t.constants) _
    (every_returns binder_fault (write_const_decl_returns ds) (returning ds).constants t.constants (none_left _ _ h2))
    (both (every (write_fun_def_returns ds) t.functions) _
    (every_returns function_fault (write_fun_def_returns ds) (returning ds).functions t.functions (none_left _ _ h3))
    (both (every (write_kvar_decl_returns ds) t.kvars) _
    (every_returns kvar_fault (write_kvar_decl_returns ds) (returning ds).kvars t.kvars (none_left _ _ h4))
    (every_returns clause_fault (write_assert_returns ds) (assert_returns ds) (clauses_of t)
    (clauses_sound [] t.constraint [] [] refl refl (none_right _ _ h4))))))

-- Where it panics: an assertion by a binder's sort, a guard or the head, a script by each of its sections.
abbrev x : Expr
x = Expr.var (bytes "x")

abbrev width_8 : Sort
width_8 = Sort.bv_size 8

abbrev binder_x : Sort → Binder
binder_x b = record { name = bytes "x"; sort = b }

-- a clause with two binders and two guards
abbrev clause : Sort → Sort → Expr → Expr → Expr → HornClause
clause a b g h head = record { vars = binder_x a ∷ binder_x b ∷ []; guards = Pred.expr g ∷ Pred.expr h ∷ []; head = Pred.expr head }

abbrev panicking_clauses : List HornClause
panicking_clauses =
    clause width_8 Sort.int x x x ∷ clause Sort.int width_8 x x x ∷ clause Sort.int Sort.int Expr.wk_var x x ∷
    clause Sort.int Sort.int x Expr.wk_var x ∷ clause Sort.int Sort.int x x Expr.wk_var ∷ []

pub asserts_panic : map (write_assert_returns []) panicking_clauses ≡ map (λ c. false) panicking_clauses
unfolding write_sort_returns write_expr_returns write_pred_returns write_assert_returns
asserts_panic = refl

-- a task with these datatypes, constants, functions, KVars and constraint
abbrev task_of : List DataDecl → List Binder → List FunDef → List KVarDecl → Constraint → Task
task_of ds bs fs ks c = record { comments = []; datatypes = ds; constants = bs; functions = fs; kvars = ks; constraint = c }

-- a Conj without members
abbrev nothing : Constraint
nothing = Constraint.conj Constraints.none

-- ForAll x Int with a WKVar as its predicate
abbrev weak_guard : Constraint → Constraint
weak_guard c = Constraint.for_all (bytes "x") Sort.int (Pred.expr Expr.wk_var ∷ []) c

abbrev panicking_tasks : List Task
panicking_tasks =
    task_of (record { name = bytes "D"; vars = 0; ctors = [] } ∷ []) [] [] [] nothing ∷
    task_of [] (binder_x Sort.int ∷ binder_x width_8 ∷ []) [] [] nothing ∷
    task_of [] [] (record { name = bytes "f"; params = 0; inputs = Sorts.none; output = width_8; body = none } ∷ []) [] nothing ∷
    task_of [] [] [] (record { kvid = bytes "k"; sorts = Sorts.more width_8 Sorts.none } ∷ []) nothing ∷
    task_of [] [] [] [] (weak_guard (Constraint.pred (Pred.expr x))) ∷
    []

pub scripts_panic : map write_smt_horn_returns panicking_tasks ≡ map (λ t. false) panicking_tasks
unfolding flatten_constraint literally_true write_sort_returns write_expr_returns write_pred_returns write_datatype_decl_returns write_const_decl_returns write_fun_def_returns write_kvar_decl_returns write_assert_returns write_smt_horn_returns
scripts_panic = refl

-- a guard over no head is not written
pub no_head_returns : T (write_smt_horn_returns (task_of [] [] [] [] (weak_guard nothing)))
unfolding flatten_constraint write_smt_horn_returns
no_head_returns = tt
