-- The rows of the table of W-208, computed from the definitions, and that their interpretation is lawful.
use mathlib.Core.Path.{◌≡◌, refl}
use mathlib.Core.Bool.{Bool, true, false, ◌&&◌, ◌||◌}
use Rattle.smtlib.specs.Lexicon.{bytes, reserved_words}
use Rattle.smtlib.proofs.Bools.{clash}
use Rattle.task.specs.Decode.{raw, items, sort_forms, dec_sort, expr_forms, dec_expr, dec_pred, dec_constraint}
use Rattle.task.specs.Fault.{lower, name_fault, sort_fault, binder_fault, expr_fault, pred_fault, shadow_fault, constraint_fault, task_fault}
use Rattle.task.specs.Scope.{taken_names, everywhere, in_constraint, known_fault, expr_scope, functions_scope, globals_of, pred_scope, constraint_names, names_fault}
use Rattle.task.specs.Names.{free_in, tested_in, EachPred, Known}
use Rattle.task.specs.Task.{bound, framed, decoded, first_fault, judged, task_of, literally_true}
use Rattle.task.proofs.Naming.{names_hold}
use Rattle.smt_text.specs.Text.{write_sort}
use Rattle.horn_text.specs.Clauses.{flatten_constraint}
use Rattle.horn_text.specs.Answers.{survey_answer}
use Rattle.meaning.specs.Interpretation.{is_free, Assignment, Lawful}
use Rattle.meaning.specs.Holds.{tree_holds, assertion_holds, assertions_hold}
use Rattle.meaning.specs.Table.{value_true, by_y, repeated_task, clashing_task, Laws, Trees, Table}

by_y_lem : Lawful by_y
unfolding literally_true
by_y_lem = record { free_names = λ p a b h. go (literally_true p) a b (is_free (bytes "y") p) (h (bytes "y")); boolean_true = λ a. refl }
  where
    go : (l : Bool) (a b : Assignment Bool) (f : Bool) → (f ≡ true → a (bytes "y") ≡ b (bytes "y")) → (l || (f && value_true (a (bytes "y")))) ≡ (l || (f && value_true (b (bytes "y"))))
    go l a b true h = rw (h refl)
    go l a b false h = refl

-- the y of the guard is the constant, that of the head the inner ForAll's
clashing_known : Known clashing_task
unfolding everywhere in_constraint free_in tested_in EachPred
clashing_known =
    record { bodies = tt; predicates = ((record { free = λ x h. rw h; tested = λ x h. clash (cc) }, tt), (tt, record { free = λ x h. rw h; tested = λ x h. clash (cc) })) }

pub laws : Laws
unfolding free_in tested_in literally_true write_sort flatten_constraint tree_holds assertion_holds assertions_hold
laws = record {
  by_free_names = λ p a b h. refl;
  true_needed = λ names. refl;
  true_is_true = λ a. refl;
  free_needed = λ names. refl;
}

pub trees : Trees
unfolding free_in tested_in literally_true write_sort flatten_constraint tree_holds assertion_holds assertions_hold
trees = record {
  no_members = λ names. refl;
  true_head = λ names. refl;
  true_below = λ names. refl;
  head = λ names. refl;
  false_head = λ names. refl;
  members = λ names. refl;
  first_fails = λ names. refl;
  second_fails = λ names. refl;
  no_values = λ names. refl;
  one_value = λ names. refl;
  all_values = λ names. refl;
  true_values = λ names. refl;
  undeclared = λ names. refl;
  other_name = λ names. refl;
  inner_value = λ names. refl;
  guard = λ names. refl;
  guard_fails = λ names. refl;
  true_guard = λ names. refl;
  guard_further_in = λ names. refl;
  guard_left = λ names. refl;
  kvar = λ names. refl;
  kvar_fails = λ names. refl;
  kvar_guard = λ names. refl;
}

pub table : Table
unfolding free_in tested_in EachPred literally_true write_sort flatten_constraint tree_holds assertion_holds assertions_hold survey_answer task_of framed bound decoded judged raw items sort_forms dec_sort expr_forms dec_expr dec_pred dec_constraint lower name_fault sort_fault binder_fault expr_fault pred_fault shadow_fault constraint_fault task_fault taken_names everywhere in_constraint known_fault expr_scope functions_scope globals_of pred_scope constraint_names names_fault first_fault reserved_words
table = record {
  free = tt;
  not_free = tt;
  lawful = by_y_lem;
  laws = laws;
  trees = trees;
  repeated = record { survey = λ names. refl; task = refl; differ = λ names. refl };
  repeated_alone = names_hold repeated_task refl;
  clashing = record { survey = λ names. refl; task = refl; differ = λ names. refl };
  clashing_known = clashing_known;
  clashing_counted = ((tt, tt), (tt, tt));
  unknown = record { survey = λ names. refl; task = refl; differ = λ names. refl };
  unknown_counted = ((tt, tt), (tt, tt));
}
