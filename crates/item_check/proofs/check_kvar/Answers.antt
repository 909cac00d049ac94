-- check_kvar walks a name and counted sorts.
use Rattle.item_check.proofs.Walks.{kvar_walks}
use Rattle.item_check.proofs.check_kvar.Goals as goal

pub returns : goal.returns
returns c = kvar_walks _ _ _ _ _ _ _ _ _ c.in_ok-x.ensures c.in_ok-n.ensures c.name_fault.ensures c.check_sorts.ensures c.after.ensures
