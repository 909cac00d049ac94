-- `find`: the link is that of the last entry of the bucket below some entry, and those from there on do not fit.
use Rattle.names.specs.Table.{count_of}
use Rattle.names.proofs.Chains.{Following}
use Rattle.names.proofs.find.Given as goal

abbrev pub invariant-loop-link : goal.invariant-loop-link
invariant-loop-link l = Following l.s l.table (count_of l.table) l.name l.low l.high l.link

abbrev pub decreases-loop-link : goal.decreases-loop-link
decreases-loop-link l = l.link
