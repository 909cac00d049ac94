-- number_at: what is left of the bytes, and the number in the others.
use Rattle.task.proofs.Numbers.{Taken}
use Rattle.task.proofs.number_at.Given as goal

abbrev pub invariant-loop-b : goal.invariant-loop-b
invariant-loop-b l = Taken l.initial.b-iterator.iter.rest.now l.b-iterator.iter.rest.now l.value
