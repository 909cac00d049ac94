-- check_row answers one piece after another.
use Rattle.std.proofs.Common.{rules}
use native.Mathlib.Omega.{arith}
use Rattle.task.proofs.Judging.{lower_comm}
use Rattle.task_check.proofs.Rows.{rowing_starts, rowing_goes, rowing_stops, rowing_ends}
use Rattle.task_check.proofs.check_row.Goals as goal

pub loop-init : goal.loop-init
loop-init g c = rowing_starts _ _ _ (search rules)

pub loop-preserved : goal.loop-preserved
loop-preserved g c = rowing_goes _ _ _ _ _ _ c.loop.invariant c.loop-test.true _ _ c.in_ok-f.ensures (search rules) _ (grind (arith, lower_comm))

pub returns-in_err-f : goal.returns-in_err-f
returns-in_err-f g c = let h = rowing_stops _ _ _ _ _ _ c.loop.invariant c.loop-test.true _ c.in_err-f.ensures in search rules

pub returns : goal.returns
returns g c = rowing_ends _ _ _ _ _ _ c.loop.invariant c.loop-test.false
