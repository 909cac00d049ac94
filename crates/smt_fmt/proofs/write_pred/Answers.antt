-- `write_pred` goes by the node.
use Rattle.smt_fmt.proofs.Decls.{pred_refused}
use Rattle.smt_fmt.proofs.write_pred.Goals as goal

pub returns-in_default : goal.returns-in_default
returns-in_default c = pred_refused _ _ _ _ _ _ _ c.if-levels-eq0.false _ c.in_default.ensures
