-- push_row pushes one piece after another.
use Rattle.std.proofs.Common.{rules}
use Rattle.declared.proofs.Collecting.{pushing_starts, pushing_goes, pushing_ends}
use Rattle.declared.proofs.push_row.Goals as goal

pub loop-init : goal.loop-init
loop-init g c = pushing_starts _ _ _ _ (search rules)

pub loop-preserved : goal.loop-preserved
loop-preserved g c = pushing_goes _ _ _ _ _ _ _ c.loop.invariant c.loop-test.true _ _ c.push-p.ensures (search rules)

pub returns : goal.returns
returns g c = pushing_ends _ _ _ _ _ _ _ c.loop.invariant c.loop-test.false
