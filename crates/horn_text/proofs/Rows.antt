-- Document 01's table, and that of the numbers, computed from the definitions.
use Prim.Native.Nat.{ℕ, zero, suc, min, ◌<◌}
use mathlib.Core.Path.{◌≡◌, refl}
use mathlib.Core.Bool.{Bool}
use mathlib.Core.List.{List, [], ◌∷◌}
use native.Mathlib.Omega.{arith}
use lib.Dec.{T, eqb, eqb→eq, lit<}
use lib.ListN.{length, get_or}
use Rattle.smtlib.specs.Lexicon.{reserved_words}
use Rattle.smtlib.specs.Compose.{decimal}
use Rattle.smtlib.proofs.Bools.{and_left, and_right}
use Rattle.task.specs.declared.Fault.{Fault}
use Rattle.task.specs.declared.Fault.TheVariants.{Text, NoConstructors, BitVecWidth, Unqualified, WKVar, Arity, Shadowed, Clash, Unknown, Arguments, Sound}
use Rattle.task.specs.Decode.{raw, items, sort_forms, dec_sort, bin_rels, quantifiers, thy_funcs, expr_forms, dec_expr, dec_pred, dec_constraint}
use Rattle.task.specs.Fault.{lower, name_fault, text_fault, sort_fault, sorts_fault, binder_fault, needs_sort, thy_func_fault, expr_fault, exprs_fault, pred_fault, shadow_fault, constraint_fault, constraints_fault, data_ctor_fault, empty_fault, datatype_fault, arity_fault, body_fault, function_fault, kvar_fault, task_fault}
use Rattle.task.specs.Scope.{taken_names, everywhere, in_constraint, arity_of, known_fault, expr_scope, body_scope, functions_scope, globals_of, pred_scope, constraint_names, names_fault}
use Rattle.task.specs.Task.{bound, framed, decoded, first_fault, judged, task_of, literally_true}
use Rattle.task.specs.Returns.{every}
use Rattle.smt_text.specs.Editions.{names_of}
use Rattle.smt_text.specs.Theory.{thy_func_name}
use Rattle.smt_text.specs.Text.{write_application_head, write_name, write_string, write_thy_func, write_sort, write_binder, write_expr, write_pred, write_ctor, write_datatype_decl, write_const_decl, write_kvar_decl}
use Rattle.horn_text.specs.Clauses.{flatten_constraint}
use Rattle.horn_text.specs.Script.{write_implication, write_assert, opening, closing}
use Rattle.horn_text.specs.Answers.{survey_answer, part_answer, part_buffer, script_answer, script_buffer}
use Rattle.horn_text.specs.Table.{case_s, Table}
use Rattle.horn_text.specs.Numbers.{place_of, Numbers}

pub table : Table
unfolding names_of thy_func_name write_thy_func write_application_head thy_funcs needs_sort thy_func_fault sorts_fault exprs_fault case_s survey_answer part_answer part_buffer script_answer script_buffer task_of framed bound decoded judged raw items sort_forms dec_sort bin_rels expr_forms dec_expr dec_pred dec_constraint lower name_fault text_fault sort_fault binder_fault expr_fault pred_fault shadow_fault constraint_fault data_ctor_fault empty_fault datatype_fault kvar_fault task_fault taken_names everywhere in_constraint arity_of known_fault expr_scope body_scope functions_scope globals_of pred_scope constraint_names names_fault first_fault reserved_words literally_true flatten_constraint decimal write_name write_string write_sort write_binder write_expr write_pred write_ctor write_datatype_decl write_const_decl write_kvar_decl write_implication write_assert opening closing
table = record {
  s_length = refl;
  s_survey = refl;
  s_script = refl;
  s_short = refl;
  s_second = refl;
  s_second_short = refl;
  s_no_part = refl;
  empty_and = refl;
  empty_or = refl;
  unguarded = refl;
  quoted = refl;
  guards_0 = refl;
  guards_1 = refl;
  guards_2 = refl;
  par = refl;
  undeclared = refl;
  true_survey = refl;
  true_script = refl;
  too_short = refl;
  no_constraint = refl;
  sets_z3 = refl;
  sets_cvc5 = refl;
  s_cvc5 = refl;
}

-- THE ORDER OF FAULTS

abbrev faults : List Fault
faults = Text ∷ NoConstructors ∷ BitVecWidth ∷ Unqualified ∷ WKVar ∷ Arity ∷ Shadowed ∷ Clash ∷ Unknown ∷ Arguments ∷ Sound ∷ []

-- what holds of all that are listed holds of the i-th
listed_holds : {A : Type 0} (p : A → Bool) (d : A) (l : List A) → T (every p l) → (i : ℕ) → i < length l → T (p (get_or l i d))
listed_holds p d [] h i g = let z : ⊥ = omega arith in absurd z
listed_holds p d (a ∷ l) h zero g = and_left (p a) _ h
listed_holds p d (a ∷ l) h (suc i) g = listed_holds p d l (and_right (p a) _ h) i (omega arith)

-- so of every fault
each_holds : (p : Fault → Bool) → T (every p faults) → (f : Fault) → T (p f)
each_holds p h Text = listed_holds p Sound faults h 0 (lit< tt)
each_holds p h NoConstructors = listed_holds p Sound faults h 1 (lit< tt)
each_holds p h BitVecWidth = listed_holds p Sound faults h 2 (lit< tt)
each_holds p h Unqualified = listed_holds p Sound faults h 3 (lit< tt)
each_holds p h WKVar = listed_holds p Sound faults h 4 (lit< tt)
each_holds p h Arity = listed_holds p Sound faults h 5 (lit< tt)
each_holds p h Shadowed = listed_holds p Sound faults h 6 (lit< tt)
each_holds p h Clash = listed_holds p Sound faults h 7 (lit< tt)
each_holds p h Unknown = listed_holds p Sound faults h 8 (lit< tt)
each_holds p h Arguments = listed_holds p Sound faults h 9 (lit< tt)
each_holds p h Sound = listed_holds p Sound faults h 10 (lit< tt)

abbrev in_order : Fault → Fault → Bool
in_order f g = eqb (place_of (lower f g)) (min (place_of f) (place_of g))

-- at every two
all_in_order : T (every (λ f. every (in_order f) faults) faults)
unfolding lower
all_in_order = tt

in_order_lem : (f g : Fault) → place_of (lower f g) ≡ min (place_of f) (place_of g)
in_order_lem f g = eqb→eq _ _ (each_holds (in_order f) (each_holds (λ h. every (in_order h) faults) all_in_order f) g)

pub numbers : Numbers
unfolding names_of survey_answer part_answer part_buffer script_answer script_buffer task_of framed bound decoded judged raw items sort_forms dec_sort bin_rels quantifiers expr_forms dec_expr dec_pred dec_constraint lower name_fault sort_fault binder_fault expr_fault pred_fault shadow_fault constraint_fault data_ctor_fault empty_fault datatype_fault kvar_fault task_fault taken_names everywhere in_constraint arity_of known_fault expr_scope body_scope functions_scope globals_of pred_scope constraint_names names_fault first_fault reserved_words literally_true flatten_constraint decimal write_name write_sort write_binder write_expr write_pred write_ctor write_datatype_decl write_const_decl write_kvar_decl write_implication write_assert opening closing thy_funcs text_fault sorts_fault needs_sort thy_func_fault exprs_fault arity_fault body_fault function_fault constraints_fault
numbers = record {
  survey = λ names. refl;
  listed = refl;
  forms = λ names. refl;
  texts = λ names. refl;
  clashes = λ names. refl;
  unknowns = λ names. refl;
  fine = λ names. tt;
  known = λ names. tt;
  order = in_order_lem;
  no_part = refl;
  part_short = refl;
  script_short = refl;
}
