-- check_binder walks a name and a sort.
use Rattle.task_check.proofs.Exprs.{binder_walks}
use Rattle.task_check.proofs.check_binder.Goals as goal

pub returns : goal.returns
returns c = binder_walks _ _ _ _ _ _ _ _ c.in_ok-x.ensures c.name_fault.ensures c.check_sort.ensures c.after.ensures
