-- scope_row judges one piece after another.
use Rattle.scope.proofs.Tables.{Along}
use Rattle.scope.proofs.scope_row.Given as goal

abbrev pub invariant-loop : goal.invariant-loop
invariant-loop g l = Along l.initial.table (goal.F-post g l.judge) l.n l.at l.table l.counter l.p l.fault
