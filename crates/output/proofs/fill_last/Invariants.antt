use Rattle.output.proofs.Decimals.{Last}
use Rattle.output.proofs.fill_last.Given as goal

abbrev pub invariant-loop-m : goal.invariant-loop-m
invariant-loop-m l = Last l.n l.end l.initial.bytes l.bytes l.i l.m

abbrev pub decreases-loop-m : goal.decreases-loop-m
decreases-loop-m l = l.m
