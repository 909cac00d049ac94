use mathlib.Core.Path.{◌∙◌}
use Rattle.output.proofs.Decimals.{step_kept, step_told, filled}
use Rattle.output.proofs.digits_of.Goals as goal
use Rattle.output.proofs.digits_of.Goals.{then-keep, else-keep}

pub loop-q-preserved : goal.loop-q-preserved
loop-q-preserved c =
    elim c.if-keep.branch [
      | then-keep w ↦ step_kept _ _ _ _ _ _ _ c.loop-q.invariant c.is_short.ensures _ _ _ _ c.loop-q-test.true c.divide-q.ensures.0 c.divide-q.ensures.1 _ w.bytes-is w.fill.auto.bytes w.fill.ensures
      | else-keep w ↦ step_told _ _ _ _ _ _ _ c.loop-q.invariant c.is_short.ensures _ _ _ _ c.loop-q-test.true c.divide-q.ensures.0 c.divide-q.ensures.1 w.bytes-is w.if-keep.false
    ]

pub returns : goal.returns
returns c = filled _ _ _ _ _ _ _ c.loop-q.invariant c.is_short.ensures _ _ c.loop-q-test.false (c.fill_last-start.auto.bytes ∙ c.loop-q.invariant.size) c.fill_last-start.ensures.0 c.fill_last-start.ensures.1
