-- check_row answers one piece after another.
use Rattle.task_check.proofs.Rows.{Rowing}
use Rattle.task_check.proofs.check_row.Given as goal

abbrev pub invariant-loop : goal.invariant-loop
invariant-loop g l = Rowing (goal.F-post g l.check) l.n l.at l.counter l.p l.fault
