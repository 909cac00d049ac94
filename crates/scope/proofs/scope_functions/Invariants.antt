-- scope_functions judges one function after another, and pushes its name behind it.
use Prim.Native.Nat.{◌-◌}
use Rattle.names.specs.Same.{Same}
use Rattle.scope.proofs.Sections.{Judging}
use Rattle.scope.proofs.scope_functions.Given as goal

abbrev pub invariant-loop-p : goal.invariant-loop-p
invariant-loop-p l = Judging l.initial.table.file.now l.at l.end l.initial.table.words.now l.table.words.now l.p l.fault × Same l.initial.table l.table

abbrev pub decreases-loop-p : goal.decreases-loop-p
decreases-loop-p l = l.end - l.p
