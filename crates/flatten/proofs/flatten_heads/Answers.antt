-- `flatten_heads`: head by head.
use native.Mathlib.Omega.{arith}
use mathlib.Core.Path.{◌≡◌, refl, sym}
use Prim.Native.Nat.{◌-◌}
use Rattle.flatten.proofs.Flattening.{onward_start, onward_more, head_put}
use Rattle.flatten.proofs.flatten_heads.Goals as goal

pub loop-i-init : goal.loop-i-init
loop-i-init c = (onward_start _ _ _ _ _ _ _ _ (omega arith), λ h. c.requires.at_head.0)

pub loop-i-preserved : goal.loop-i-preserved
loop-i-preserved c =
    (onward_more _ _ _ _ _ _ _ _ _ _ c.loop-i.invariant.0 _ _ _ (omega arith) (head_put _ _ _ (c.loop-i.invariant.1 c.loop-i-test.true) _ _ _ _ _ _ _ _ _ refl c.to-head.ensures c.flatten_kept_head-moved.ensures), λ h. sym c.if-not-is_head.ensures)

pub returns-then-not-is_head-clause-heads_put : goal.returns-then-not-is_head-clause-heads_put
returns-then-not-is_head-clause-heads_put c =
    onward_more _ _ _ _ _ _ _ _ _ _ c.loop-i.invariant.0 _ _ _ (omega arith) (head_put _ _ _ (c.loop-i.invariant.1 c.loop-i-test.true) _ _ _ _ _ _ _ _ _ refl c.to-head.ensures c.flatten_kept_head-moved.ensures)

pub returns-clause-heads_put : goal.returns-clause-heads_put
returns-clause-heads_put c = let e : c.args.row.left - c.loop-i.i ≡ 0 = omega arith in rw e at c.loop-i.invariant.0
