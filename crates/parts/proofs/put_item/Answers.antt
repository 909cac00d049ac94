-- `put_item`: what is left of the buffer is lent to the writer.
use mathlib.Core.Path.{sym, ◌∙◌}
use native.Mathlib.Omega.{arith}
use Rattle.parts.specs.Whole.{itself}
use Rattle.flatten.proofs.Lending.{part_in}
use Rattle.parts.proofs.put_item.Goals as goal

pub returns-then-has_next : goal.returns-then-has_next
returns-then-has_next c = part_in itself _ _ _ _ _ _ _ _ _ _ _ (sym c.has_next.ensures ∙ c.if-has_next.true) c.min-start.ensures c.new.ensures (let g = c.well_formed in omega arith) c.write_item-sent.ensures c.placed.ensures
