-- check_datatype walks a name, a number and counted constructors.
use Rattle.item_check.proofs.Walks.{datatype_walks}
use Rattle.item_check.proofs.check_datatype.Goals as goal

pub returns : goal.returns
returns c =
    datatype_walks _ _ _ _ _ _ _ _ _ c.in_ok-x.ensures c.in_ok-q.ensures c.name_fault.ensures _ _ _ _ c.in_ok-n.ensures c.empty_fault.ensures c.lower-fault.ensures
    c.check_ctors.ensures c.after.ensures
