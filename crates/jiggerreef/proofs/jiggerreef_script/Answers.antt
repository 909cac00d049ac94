-- `jiggerreef_script`: what `script` answers.
use Rattle.jiggerreef.proofs.Stored.{same_answer}
use Rattle.jiggerreef.proofs.jiggerreef_script.Goals as goal

pub returns : goal.returns
returns c = rw (← c.into.ensures) (let h = same_answer _ c.script-written.ensures.written.0 c.store_length.ensures in record { value = (h.0, h.1, c.script-written.ensures.written.1); promised = c.script-written.ensures.promised })
