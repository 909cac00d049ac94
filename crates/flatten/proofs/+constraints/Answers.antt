-- The walk over a constraint: each piece puts its parts and hands back the numbers that it was given.
use mathlib.Core.Path.{◌∙◌}
use Rattle.assertion.proofs.Short.{valid_in}
use Rattle.flatten.proofs.Flattening.{node_pred, members_heads, row_of_one, ready_stays, own_added, stays_inside}
use Rattle.flatten.proofs.+constraints.Goals as goal

pub flatten_constraint-returns-then-is_head-clause-puts_under : goal.flatten_constraint-returns-then-is_head-clause-puts_under
flatten_constraint-returns-then-is_head-clause-puts_under t c = row_of_one _ _ _ _ _ _ c.requires _ _ _ _ c.row.result c.flatten_heads.result _ c.row.ensures c.flatten_heads.ensures.heads_put c.flatten_heads.ensures.fewer_left.0

pub flatten_constraint-returns-in-Pred-clause-puts_under : goal.flatten_constraint-returns-in-Pred-clause-puts_under
flatten_constraint-returns-in-Pred-clause-puts_under t c = node_pred _ _ _ _ _ _ _ _ _ _ _ _ c.if-levels-eq0.false c.in-Ok.ensures _ c.in-Pred.is (c.to.ensures.0, c.to.ensures.1) c.flatten_head-moved.ensures

pub flatten_for_all-down-requires : goal.flatten_for_all-down-requires
flatten_for_all-down-requires t c = own_added _ _ _ _ _ _ _ _ _ c.requires _ _ c.in-Ok.ensures c.extend-own.ensures c.args.enc.bytes (valid_in _ c.args.enc.words.now)

pub flatten_for_all-returns-clause-stays : goal.flatten_for_all-returns-clause-stays
flatten_for_all-returns-clause-stays t c = stays_inside _ _ _ _ _ _ _ _ _ c.requires _ _ c.in-Ok.ensures c.extend-own.ensures _ c.down.ensures.2 _ c.flatten_constraint-back.ensures.stays

pub flatten_members-loop-left-preserved-then-is_head : goal.flatten_members-loop-left-preserved-then-is_head
flatten_members-loop-left-preserved-then-is_head t c = (members_heads _ _ _ _ _ _ (ready_stays _ _ _ _ _ _ c.requires _ _ c.loop-left.invariant.2 c.loop-left.invariant.1) _ _ _ _ _ _ _ _ _ c.loop-left.invariant.0 c.flatten_heads-rest.ensures.heads_put, c.flatten_heads-rest.ensures.fewer_left.1 ∙ c.loop-left.invariant.1, c.loop-left.invariant.2)
