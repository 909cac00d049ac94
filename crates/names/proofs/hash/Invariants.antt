-- `hash`: what is left of the name makes of h what the whole name makes of 0.
use Rattle.names.proofs.Bytes.{Hashing}
use Rattle.names.proofs.hash.Given as goal

abbrev pub invariant-loop-b : goal.invariant-loop-b
invariant-loop-b l = Hashing l.name l.h l.b-index
