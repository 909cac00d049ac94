-- `write_parameters`: each turn sends a space and the next parameter.
use Rattle.smt_fmt.proofs.Decls.{list_end}
use Rattle.smt_fmt.proofs.write_parameters.Goals as goal

pub returns : goal.returns
returns c = list_end _ _ _ _ _ _ c.if-n-eq0.false c.loop-i-test.false c.loop-i.invariant c.bytes-sent.ensures c.byte.ensures
