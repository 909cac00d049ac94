-- `put_text`: what is left of the buffer is lent to the writer.
use mathlib.Core.Path.{sym, ◌∙◌}
use native.Mathlib.Omega.{arith}
use Rattle.flatten.proofs.Lending.{put_in}
use Rattle.parts.proofs.put_text.Goals as goal

pub returns-then-has_next : goal.returns-then-has_next
returns-then-has_next c = put_in _ _ _ _ _ _ _ _ _ _ (sym c.has_next.ensures ∙ c.if-has_next.true) c.min-start.ensures c.new.ensures (omega arith) c.bytes-sent.ensures c.placed.ensures
