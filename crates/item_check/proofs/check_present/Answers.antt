-- check_present walks counted names and an expression.
use Rattle.item_check.proofs.Walks.{body_walks}
use Rattle.item_check.proofs.check_present.Goals as goal

pub returns : goal.returns
returns c = body_walks _ _ _ _ _ c.in_ok-n.ensures _ _ _ _ _ _ c.in_ok-f.ensures c.arity_fault.ensures c.lower-fault.ensures c.check_expr.ensures c.after.ensures
