-- `pop_last`: each turn takes one entry.
use Rattle.names.specs.Change.{Popped}
use Rattle.names.proofs.pop_last.Given as goal

abbrev pub invariant-loop : goal.invariant-loop
invariant-loop l = Popped l.s l.initial.table l.counter l.table
