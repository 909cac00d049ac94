-- `push_datatype`: the name is pushed, and the constructors behind it.
use Rattle.names.proofs.Sames.{same_both}
use Rattle.declared.proofs.Collecting.{ready, data_collected}
use Rattle.declared.proofs.push_datatype.Goals as goal

pub returns : goal.returns
returns c = (
  data_collected _ _ _ (ready c.args.table.now) _ _ c.in-Ok.ensures _ _ c.in-Ok-number_at.ensures _ _ _ _ _ c.in-Ok-number_at-2.ensures c.push.ensures.0 (rw c.push.ensures.1.file at c.push_ctors.ensures.0),
  same_both _ _ _ c.push.ensures.1 c.push_ctors.ensures.1,
)
