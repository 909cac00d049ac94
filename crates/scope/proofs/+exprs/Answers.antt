-- The walkers of names in expressions walk as the decoder decodes.
use native.Mathlib.Omega.{arith}
use Rattle.std.proofs.Common.{rules}
use Rattle.task.specs.Decode.{dec_expr}
use Rattle.task.proofs.Pieces.{each_covers}
use Rattle.names.proofs.Sames.{same_both}
use Rattle.scope.specs.Known.{expr_in}
use Rattle.scope.proofs.Tables.{expr_kept, judges, row_judged}
use Rattle.scope.proofs.Exprs.{exprs_fold, let_inside, expr_row, expr_app, expr_let, expr_quantifier, app_rest_space, app_walks, let_second_space, let_walks, quantifier_space, quantifier_walks}
use Rattle.scope.proofs.+exprs.Goals as goal

pub scope_exprs-scope_row-requires : goal.scope_exprs-scope_row-requires
scope_exprs-scope_row-requires t c = record { space = c.requires; judges = judges expr_in (dec_expr c.args.levels) _ (λ m p r w l x y. search rules) (each_covers.exprs _) _ (λ m p l x. search rules) }

pub scope_exprs-returns : goal.scope_exprs-returns
scope_exprs-returns t c =
    let k = c.scope_row.ensures in
    ((row_judged expr_in (dec_expr c.args.levels) _ (λ m p r w l x y. search rules) c.args.table.now (exprs_fold _ _) (expr_kept _ _) _ _ _ k.0.0, k.0.1), k.1)

pub scope_expr-overflow_add-at : goal.scope_expr-overflow_add-at
scope_expr-overflow_add-at t c = let z = let_inside _ _ _ _ c.if-levels-eq0.false _ _ c.in_ok-node.ensures c.in-Let.ensures in let y = c.requires.short in omega arith

pub scope_expr-returns-in-Row : goal.scope_expr-returns-in-Row
scope_expr-returns-in-Row t c = (expr_row _ _ _ _ c.if-levels-eq0.false _ _ c.in_ok-node.ensures _ _ _ _ _ c.in-Row.ensures c.scope_exprs.ensures.0 c.after.ensures, c.scope_exprs.ensures.1)

pub scope_expr-returns-in-App : goal.scope_expr-returns-in-App
scope_expr-returns-in-App t c = (expr_app _ _ _ _ c.if-levels-eq0.false _ _ c.in_ok-node.ensures _ _ _ c.in-App.ensures c.scope_app.ensures.0, c.scope_app.ensures.1)

pub scope_expr-returns-in-Let : goal.scope_expr-returns-in-Let
scope_expr-returns-in-Let t c = (expr_let _ _ _ _ c.if-levels-eq0.false _ _ c.in_ok-node.ensures _ _ c.in-Let.ensures c.scope_let.ensures.0, c.scope_let.ensures.1)

pub scope_expr-returns-in-Quantifier : goal.scope_expr-returns-in-Quantifier
scope_expr-returns-in-Quantifier t c = (expr_quantifier _ _ _ _ c.if-levels-eq0.false _ _ c.in_ok-node.ensures _ _ _ c.in-Quantifier.ensures c.scope_quantifier.ensures.0, c.scope_quantifier.ensures.1)

pub scope_app-scope_exprs-requires : goal.scope_app-scope_exprs-requires
scope_app-scope_exprs-requires t c =
    let m = c.decreases in
    (omega arith, rw c.in_ok-f.ensures.1.file (app_rest_space _ _ _ _ _ c.requires _ _ c.in_ok-p.ensures _ _ _ c.in_ok-f.ensures.0 _ _ c.in_ok-n.ensures))

pub scope_app-returns : goal.scope_app-returns
scope_app-returns t c = (
  app_walks _ _ _ _ _ c.requires _ _ c.in_ok-p.ensures _ _ _ c.in_ok-f.ensures.0 _ _ c.in_ok-n.ensures _ _ _ (rw c.in_ok-f.ensures.1.file at c.scope_exprs.ensures.0) c.after.ensures,
  same_both _ _ _ c.in_ok-f.ensures.1 c.scope_exprs.ensures.1,
)

pub scope_let-scope_expr-body-requires : goal.scope_let-scope_expr-body-requires
scope_let-scope_expr-body-requires t c =
    let m = c.decreases in
    let e = same_both _ _ _ c.in_ok-f.ensures.1 c.push.ensures.1 in
    (omega arith, rw e.file (let_second_space _ _ _ _ c.requires _ _ c.in_ok-p.ensures _ _ _ c.in_ok-f.ensures.0 _ (rw c.in_ok-f.ensures.1.file at c.push.ensures.0)))

pub scope_let-returns : goal.scope_let-returns
scope_let-returns t c =
    let e = same_both _ _ _ c.in_ok-f.ensures.1 c.push.ensures.1 in
    let e2 = same_both _ _ _ e c.scope_expr-body.ensures.1 in (
      let_walks _ _ _ _ c.requires _ _ c.in_ok-p.ensures _ _ _ c.in_ok-f.ensures.0 _ (rw c.in_ok-f.ensures.1.file at c.push.ensures.0) _ _ _ _
          (rw e.file at c.scope_expr-body.ensures.0) (rw e2.file at c.pop.ensures.0) c.after.ensures,
      same_both _ _ _ e2 c.pop.ensures.1,
    )

pub scope_quantifier-scope_expr-body-requires : goal.scope_quantifier-scope_expr-body-requires
scope_quantifier-scope_expr-body-requires t c =
    let m = c.decreases in
    (omega arith, rw c.push_binders.ensures.1.file (quantifier_space _ _ _ _ _ c.requires _ _ c.in_ok-p.ensures _ _ c.push_binders.ensures.0))

pub scope_quantifier-returns : goal.scope_quantifier-returns
scope_quantifier-returns t c =
    let e = same_both _ _ _ c.push_binders.ensures.1 c.scope_expr-body.ensures.1 in (
      quantifier_walks _ _ _ _ _ c.requires _ _ c.in_ok-p.ensures _ _ c.push_binders.ensures.0 _ _ _ (rw c.push_binders.ensures.1.file at c.scope_expr-body.ensures.0) (rw e.file at c.pop_last.ensures.0),
      same_both _ _ _ e c.pop_last.ensures.1,
    )
