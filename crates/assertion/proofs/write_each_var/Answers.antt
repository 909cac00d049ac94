-- `write_each_var`: each turn sends what one of the ForAlls that are left has.
use Rattle.output.specs.Emit.{Sends}
use Rattle.assertion.proofs.Guards.{along_start, along_more, along_end, binder_runs}
use Rattle.assertion.proofs.write_each_var.Goals as goal

pub loop-offset-init : goal.loop-offset-init
loop-offset-init c = along_start _ _ _ _

pub loop-offset-preserved : goal.loop-offset-preserved
unfolding Sends
loop-offset-preserved c = along_more _ _ _ _ _ _ _ c.loop-offset-test.true c.loop-offset.invariant (rw c.from.ensures at (binder_runs _ _ _ _ _ _ c.write_binder-one.ensures))

pub returns : goal.returns
unfolding Sends
returns c = rw c.offsets-offset-items.ensures.0 at (along_end _ _ _ _ _ _ c.loop-offset-test.false c.loop-offset.invariant)
