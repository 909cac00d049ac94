-- `declare_kvars`: those from the beginning of their section to its end.
use Rattle.declared.proofs.Whole.{kvars_declared}
use Rattle.declared.proofs.declare_kvars.Goals as goal

pub returns : goal.returns
returns c = (kvars_declared _ c.args.b _ _ c.push_kvars.ensures.0, c.push_kvars.ensures.1)
