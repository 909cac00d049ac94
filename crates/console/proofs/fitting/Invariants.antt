-- `fitting`: each turn takes one length more, or ends.
use Rattle.console.proofs.Filling.{Fitting}
use Rattle.console.proofs.fitting.Given as goal

abbrev pub invariant-loop-i : goal.invariant-loop-i
invariant-loop-i l = Fitting l.room l.lengths l.left l.i
