-- `part`: the run of it alone.
use Rattle.smt_horn.proofs.Entries.{part_answers}
use native.Mathlib.Omega.{arith}
use Rattle.smt_horn.proofs.part.Goals as goal

pub returns : goal.returns
returns c = part_answers _ _ _ _ _ _ _ (omega arith) c.run.ensures.0 c.run.ensures.1
