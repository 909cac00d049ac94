-- push_row pushes one piece after another.
use Rattle.declared.proofs.Collecting.{Pushing}
use Rattle.declared.proofs.push_row.Given as goal

abbrev pub invariant-loop : goal.invariant-loop
invariant-loop g l = Pushing (goal.F-post g l.push) l.initial.table l.n l.at l.table l.counter l.p
