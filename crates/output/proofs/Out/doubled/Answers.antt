-- `doubled`: the bytes behind are still to be sent.
use Rattle.output.proofs.Quotes.{doubled_more, doubled_end}
use Rattle.output.proofs.Out.doubled.Goals as goal

pub loop-b-preserved : goal.loop-b-preserved
loop-b-preserved c = doubled_more _ _ _ _ _ c.loop-b-test.true c.string_byte-sent.ensures c.loop-b.invariant

pub returns : goal.returns
returns c = doubled_end _ _ _ _ c.loop-b-test.false c.loop-b.invariant
