-- `put_opening`: what is left of the buffer is lent to the writer.
use mathlib.Core.Path.{sym, ◌∙◌}
use native.Mathlib.Omega.{arith}
use Rattle.horn_text.specs.Script.{opening}
use Rattle.parts.specs.Whole.{opening_part}
use Rattle.flatten.proofs.Lending.{part_in}
use Rattle.parts.proofs.Placing.{all_of_lem}
use Rattle.parts.proofs.put_opening.Goals as goal

pub returns-then-has_next : goal.returns-then-has_next
returns-then-has_next c = all_of_lem opening_part _ _ _ _ (part_in opening _ _ _ _ _ _ _ _ _ _ _ (sym c.has_next.ensures ∙ c.if-has_next.true) c.min-start.ensures c.new.ensures (omega arith) c.write_opening-sent.ensures c.placed.ensures)
