-- `write_kept`: each turn lists one of the predicates that are left.
use native.Mathlib.Omega.{arith}
use Rattle.assertion.proofs.Guards.{through_start, through_more, through_end}
use Rattle.assertion.proofs.write_kept.Goals as goal

pub loop-init : goal.loop-init
loop-init c = (through_start _ _ _ _ _, omega arith)

pub loop-preserved : goal.loop-preserved
loop-preserved c = (through_more _ _ _ _ _ _ _ _ c.loop.invariant.0 _ _ c.loop-test.true c.write_guard-listed.ensures.runs, omega arith)

pub returns : goal.returns
returns c = through_end _ _ _ _ _ _ _ _ c.loop.invariant.0 c.loop-test.false
