-- `push_kvars`: each turn adds one of the KVars that are left.
use Prim.Native.Nat.{◌-◌}
use Rattle.task.specs.Decode.{kvar}
use Rattle.task.proofs.Pieces.{each_covers}
use Rattle.names.specs.Same.{Same}
use Rattle.declared.specs.Gather.{holding}
use Rattle.declared.proofs.Gathering.{Sweeping}
use Rattle.declared.proofs.Arities.{kvars_steps}
use Rattle.declared.proofs.push_kvars.Given as goal

abbrev pub invariant-loop-p : goal.invariant-loop-p
invariant-loop-p l = Sweeping (holding l.initial.table.file.now) kvars_steps kvar each_covers.kvars l.initial.table.file.now l.at l.end l.initial.table.words.now l.table.words.now l.p × Same l.initial.table l.table

abbrev pub decreases-loop-p : goal.decreases-loop-p
decreases-loop-p l = l.end - l.p
