-- check_ctor walks a name and counted fields.
use Rattle.item_check.proofs.Walks.{ctor_walks}
use Rattle.item_check.proofs.check_ctor.Goals as goal

pub returns : goal.returns
returns c = ctor_walks _ _ _ _ _ _ _ _ _ c.in_ok-x.ensures c.in_ok-n.ensures c.name_fault.ensures c.check_binders.ensures c.after.ensures
