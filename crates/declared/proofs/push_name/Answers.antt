-- `push_name`: the name is pushed.
use Rattle.declared.proofs.Collecting.{ready, name_collected}
use Rattle.declared.proofs.push_name.Goals as goal

pub returns : goal.returns
returns c = (name_collected _ _ _ (ready c.args.table.now) _ _ c.in-Ok.ensures c.args.kind _ c.push.ensures.0, c.push.ensures.1)
