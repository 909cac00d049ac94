-- check_exprs walks the pieces in a row.
use Rattle.task_check.proofs.Exprs.{exprs_fold, expr_row, expr_app, app_walks, quantifier_walks}
use Rattle.std.proofs.Common.{rules}
use Rattle.task_check.proofs.Rows.{row_is}
use Rattle.task_check.proofs.+exprs.Goals as goal

pub check_exprs-returns : goal.check_exprs-returns
check_exprs-returns t c = search (rules, row_is exprs_fold)

pub check_expr-returns-in-Row : goal.check_expr-returns-in-Row
check_expr-returns-in-Row t c = expr_row _ _ _ _ c.if-levels-eq0.false _ _ c.in_ok-node.ensures _ _ _ _ c.in-Row.ensures c.check_exprs.ensures c.after.ensures

pub check_expr-returns-in-App : goal.check_expr-returns-in-App
check_expr-returns-in-App t c = expr_app _ _ _ _ c.if-levels-eq0.false _ _ c.in_ok-node.ensures _ _ c.in-App.ensures c.check_app.ensures

pub check_app-returns : goal.check_app-returns
check_app-returns t c = app_walks _ _ _ _ _ _ c.in_ok-f.ensures _ _ c.in_ok-g.ensures _ _ _ _ _ c.in_ok-n.ensures c.check_exprs.ensures c.after.ensures c.after-2.ensures

pub check_quantifier-returns : goal.check_quantifier-returns
check_quantifier-returns t c = quantifier_walks _ _ _ _ _ _ _ _ c.in_ok-f.ensures c.check_expr.ensures c.after.ensures
