-- check_function walks a name, a number and the rest.
use Rattle.item_check.proofs.Walks.{function_walks}
use Rattle.item_check.proofs.check_function.Goals as goal

pub returns : goal.returns
returns c = function_walks _ _ _ _ _ _ _ _ _ c.in_ok-x.ensures c.in_ok-q.ensures c.name_fault.ensures c.check_signature.ensures c.after.ensures
