use native.Mathlib.Omega.{arith}
use lib.ListN.{length}
use Rattle.output.proofs.Sent.{copied}
use Rattle.output.proofs.Out.bytes.Goals as goal

pub returns-then-text-left : goal.returns-then-text-left
returns-then-text-left c = copied _ _ _ _ _ (length c.args.text.now) (omega arith) (omega arith) c.copy.ensures (omega arith) (omega arith)

pub returns : goal.returns
returns c = copied _ _ _ _ _ c.room-left.result (omega arith) (omega arith) c.copy-2.ensures (omega (arith, c.room-left.ensures)) c.sum.ensures
