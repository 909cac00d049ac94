-- `range`: all parts, or those of a run.
use Rattle.smt_horn.proofs.Asked.range.Goals as goal

pub returns-in-All : goal.returns-in-All
returns-in-All c = rw c.in-All.is

pub returns-in-Run : goal.returns-in-Run
returns-in-Run c = rw (c.in-Run.is, c.sum.ensures)
