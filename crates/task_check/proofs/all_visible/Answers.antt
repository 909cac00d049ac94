-- all_visible tests every byte: what was seen so far and the bytes from the index on decide it.
use Rattle.smtlib.specs.Lexicon.{visible}
use Rattle.task_check.proofs.Texts.{bytes_go, bytes_end}
use Rattle.task_check.proofs.all_visible.Goals as goal

pub loop-b-preserved : goal.loop-b-preserved
loop-b-preserved c = bytes_go visible _ _ _ _ _ c.loop-b-test.true c.is_visible-visible.ensures c.loop-b.invariant

pub returns : goal.returns
returns c = bytes_end visible _ _ _ _ c.loop-b-test.false c.loop-b.invariant
