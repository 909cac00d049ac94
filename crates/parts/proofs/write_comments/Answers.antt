-- `write_comments`: each turn sends one of the lines that are left.
use Rattle.task.specs.Decode.{comment}
use Rattle.task.proofs.Pieces.{each_covers}
use Rattle.output.specs.Emit.{Sends}
use Rattle.task.proofs.Sections.{over_start, over_more, over_stuck, over_end}
use Rattle.parts.proofs.Placing.{comment_steps}
use Rattle.parts.proofs.write_comments.Goals as goal

pub loop-sent-init : goal.loop-sent-init
loop-sent-init c = over_start _ _ _ _ _ _

pub returns-then-next-sent : goal.returns-then-next-sent
unfolding Sends
returns-then-next-sent c = over_stuck comment_steps comment each_covers.comments _ _ _ _ _ _ _ _ _ c.loop-sent-test.true c.loop-sent.invariant c.write_comment-next.ensures c.if-next-sent.true

pub loop-sent-preserved : goal.loop-sent-preserved
unfolding Sends
loop-sent-preserved c = over_more _ _ _ _ _ _ _ _ _ _ c.loop-sent-test.true c.loop-sent.invariant c.write_comment-next.ensures c.if-next-sent.false

pub returns : goal.returns
unfolding Sends
returns c = over_end _ _ _ _ _ _ _ _ c.loop-sent-test.false c.loop-sent.invariant
