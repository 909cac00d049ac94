-- what stands behind code 2

use Rattle.task.specs.Decode.{bin_rels}
use Rattle.task.proofs.BinRelCoded.behind.Goals as goal

pub returns-in-2 : goal.returns-in-2
unfolding bin_rels
returns-in-2 c = rw c.in-2.is
