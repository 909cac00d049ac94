-- `script`: all parts; what the buffer then holds carries demand 3.
use Rattle.smt_horn.proofs.Entries.{script_answers}
use Rattle.smt_horn.proofs.script.Goals as goal

pub returns : goal.returns
returns c = let h = script_answers _ _ _ _ _ _ _ c.write_parts.ensures in record { written = h.0; promised = h.1 }
