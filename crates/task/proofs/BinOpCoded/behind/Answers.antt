-- what stands behind code 2

use Rattle.task.specs.Decode.{bin_ops}
use Rattle.task.proofs.BinOpCoded.behind.Goals as goal

pub returns-in-2 : goal.returns-in-2
unfolding bin_ops
returns-in-2 c = rw c.in-2.is
