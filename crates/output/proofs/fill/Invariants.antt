use Rattle.output.proofs.Decimals.{Nine}
use Rattle.output.proofs.fill.Given as goal

abbrev pub invariant-loop-i : goal.invariant-loop-i
invariant-loop-i l = Nine l.n l.end l.initial.bytes l.bytes l.i l.m
