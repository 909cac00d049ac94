-- `put_section`: each turn puts one of the items that are left.
use Rattle.smt_sort.specs.Section.{encoder_by}
use Rattle.parts.proofs.Placing.{left_start, left_more, left_stuck, left_end}
use Rattle.parts.proofs.put_section.Goals as goal

pub loop-moved-init : goal.loop-moved-init
loop-moved-init c = λ l. left_start (encoder_by c.args.enc) c.args.section _ _ _ l _

pub returns-then-next-moved : goal.returns-then-next-moved
returns-then-next-moved c = left_stuck (encoder_by c.args.enc) c.args.section _ _ _ c.requires _ _ _ _ _ c.loop-moved-test.true (c.loop-moved.invariant c.requires) c.put_item-next.ensures _ c.if-next-moved.true

pub loop-moved-preserved : goal.loop-moved-preserved
loop-moved-preserved c = λ l. left_more (encoder_by c.args.enc) c.args.section _ _ _ l _ _ _ _ _ c.loop-moved-test.true (c.loop-moved.invariant l) c.put_item-next.ensures c.if-next-moved.false

pub returns : goal.returns
returns c = left_end (encoder_by c.args.enc) c.args.section _ _ _ c.requires _ _ _ c.loop-moved-test.false (c.loop-moved.invariant c.requires)
