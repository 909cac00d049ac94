-- `jiggerreef_run`: what `run` answers.
use Rattle.jiggerreef.proofs.Stored.{same_answer}
use Rattle.jiggerreef.proofs.jiggerreef_run.Goals as goal

pub returns : goal.returns
returns c = rw (← c.into.ensures) (let h = same_answer _ c.run-written.ensures.0 c.store_length.ensures in (h.0, h.1, c.run-written.ensures.1, c.run-written.ensures.2))
