use Rattle.smtlib.specs.Compose.{decimal}
use Rattle.output.proofs.Decimals.{whole, Filling}
use Rattle.output.proofs.digits_of.Given as goal

abbrev pub invariant-loop-q : goal.invariant-loop-q
invariant-loop-q l = Filling (decimal (whole l.lo l.hi)) l.keep l.bytes l.end (whole l.l l.h)

abbrev pub decreases-loop-q : goal.decreases-loop-q
decreases-loop-q l = l.end
