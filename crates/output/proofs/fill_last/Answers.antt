use Rattle.output.proofs.Decimals.{last_more}
use Rattle.output.proofs.fill_last.Goals as goal

pub loop-m-preserved : goal.loop-m-preserved
loop-m-preserved c = last_more _ _ _ _ _ _ c.requires.1 c.loop-m.invariant c.loop-m-test.true
