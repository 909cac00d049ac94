-- write_row sends one piece after another.
use Rattle.std.proofs.Common.{rules}
use Rattle.smt_word.proofs.Rows.{rowing_goes}
use Rattle.smt_word.proofs.write_row.Goals as goal

pub loop-preserved : goal.loop-preserved
loop-preserved g c = rowing_goes _ _ _ _ _ _ _ c.loop.invariant c.loop-test.true _ _ c.byte-spaced.ensures _ _ c.write-one.ensures (search rules)
