-- `push_ctor`: the name is pushed, and the fields behind it.
use Rattle.names.proofs.Sames.{same_both}
use Rattle.declared.proofs.Collecting.{ready, ctor_collected}
use Rattle.declared.proofs.push_ctor.Goals as goal

pub returns : goal.returns
returns c = (
  ctor_collected _ _ _ (ready c.args.table.now) _ _ c.in-Ok.ensures _ _ _ _ _ c.in-Ok-number_at.ensures c.push.ensures.0 (rw c.push.ensures.1.file at c.push_binders.ensures.0),
  same_both _ _ _ c.push.ensures.1 c.push_binders.ensures.1,
)
