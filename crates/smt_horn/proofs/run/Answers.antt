-- `run`: the parts of a run.
use Rattle.smt_horn.proofs.Entries.{run_answers}
use Rattle.smt_horn.proofs.run.Goals as goal

pub returns : goal.returns
returns c = run_answers _ _ _ _ _ _ _ _ _ c.write_parts.ensures
