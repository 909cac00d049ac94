-- `print_script`: what inspect found, in the edition of Z3.
use native.Mathlib.Omega.{arith}
use lib.ListN.{length-replicate}
use Rattle.names.proofs.Theorems.{zeros_blank}
use Rattle.assertion.proofs.Short.{are_bytes}
use Rattle.smt_horn.proofs.Entries.{accepted, task_refused, edition_names, edition_is}
use Rattle.smt_text.specs.declared.Edition.TheVariants.{Z3}
use Rattle.console.proofs.Filling.{print_task, print_none}
use Rattle.console.proofs.print_script.Goals as goal

pub inspect-requires : goal.inspect-requires
inspect-requires c = record { blank = zeros_blank 61026 (omega arith); words = λ h. simp length-replicate (omega arith) }

pub invariant_of-enc : goal.invariant_of-enc
invariant_of-enc c = record { chained = (edition_names _ _ c.in-Ok.ensures.1 Z3 _ c.set_edition.ensures).chained; bytes = are_bytes _ c.type_inv.file }

pub print_task-requires : goal.print_task-requires
print_task-requires c = (accepted _ _ c.in-Ok.ensures.0, edition_names _ _ c.in-Ok.ensures.1 Z3 _ c.set_edition.ensures)

pub returns-in-Ok : goal.returns-in-Ok
returns-in-Ok c = print_task _ _ _ (edition_is _ _ c.in-Ok.ensures.1 Z3 _ c.set_edition.ensures) c.print_task.ensures

pub returns-in-Err : goal.returns-in-Err
returns-in-Err c = print_none _ _ _ (task_refused _ _ c.in-Err.ensures.0) c.print_refusal.ensures
