-- bounds_of reads the offsets.
use Prim.Native.Nat.{◌-◌}
use lib.ListN.{length}
use Rattle.task.specs.Task.{bound}
use Rattle.trailer.proofs.bounds_of.Goals as goal

pub returns : goal.returns
unfolding bound
returns c = λ i. record { comments = c.offset.ensures i; datatypes = c.offset-2.ensures i; constants = c.offset-3.ensures i; functions = c.offset-4.ensures i; kvars = c.offset-5.ensures i; constraint = c.offset-6.ensures i; end = length c.args.file.now - 28 }
