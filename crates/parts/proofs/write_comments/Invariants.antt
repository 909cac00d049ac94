-- `write_comments`: each turn sends one of the lines that are left.
use Prim.Native.Nat.{◌-◌}
use lib.ListN.{length}
use Rattle.task.specs.Decode.{comment}
use Rattle.task.proofs.Pieces.{each_covers}
use Rattle.output.specs.Emit.{output}
use Rattle.task.proofs.Sections.{Over}
use Rattle.parts.proofs.Placing.{comment_steps}
use Rattle.parts.proofs.write_comments.Given as goal

abbrev pub invariant-loop-sent : goal.invariant-loop-sent
invariant-loop-sent l = Over comment_steps comment each_covers.comments l.s l.initial.sent.at (output l.initial.buf l.initial.sent.out.len) l.sent.at (output l.buf l.sent.out.len)

abbrev pub decreases-loop-sent : goal.decreases-loop-sent
decreases-loop-sent l = length l.s - l.sent.at
