-- check_pred walks by the node.
use Rattle.task_check.proofs.Preds.{kvar_walks, expr_walks}
use Rattle.task_check.proofs.check_pred.Goals as goal

pub returns-in-KVar : goal.returns-in-KVar
returns-in-KVar c = kvar_walks _ _ _ c.if-levels-eq0.false _ _ c.in_ok-node.ensures _ _ _ _ _ c.in-KVar.is c.name_fault.ensures c.check_exprs.ensures c.after.ensures

pub returns-in-Expr : goal.returns-in-Expr
returns-in-Expr c = expr_walks _ _ _ c.if-levels-eq0.false _ _ c.in_ok-node.ensures _ _ c.in-Expr.is c.check_expr.ensures c.after-in-Expr.ensures
