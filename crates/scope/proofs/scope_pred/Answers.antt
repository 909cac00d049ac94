-- scope_pred judges a KVar with its arguments.
use Rattle.scope.proofs.Preds.{pred_kvar}
use Rattle.scope.proofs.scope_pred.Goals as goal

pub returns-in-KVar : goal.returns-in-KVar
returns-in-KVar c = (pred_kvar _ _ _ _ c.if-levels-eq0.false _ _ c.in_ok-node.ensures c.in-KVar.x _ _ _ _ _ c.in-KVar.is c.arguments_fault-fault.ensures c.scope_exprs.ensures.0 c.after.ensures, c.scope_exprs.ensures.1)
