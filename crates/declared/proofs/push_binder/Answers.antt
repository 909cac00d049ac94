-- `push_binder`: the name is pushed, and its sort is walked over.
use Rattle.declared.proofs.Collecting.{ready, sorted}
use Rattle.declared.proofs.push_binder.Goals as goal

pub returns : goal.returns
returns c = (sorted _ _ _ (ready c.args.table.now) _ _ c.in-Ok.ensures _ c.args.kind _ c.push.ensures.0 _ _ c.in-Ok-check_sort.ensures, c.push.ensures.1)
