-- scope_preds judges one predicate after another.
use Rattle.std.proofs.Common.{rules}
use Rattle.task.specs.Decode.{dec_pred}
use Rattle.task.proofs.Pieces.{each_covers}
use Rattle.scope.specs.Known.{pred_in}
use Rattle.scope.proofs.Tables.{judges, row_judged}
use Rattle.scope.proofs.Preds.{preds_fold, pred_kept}
use Rattle.scope.proofs.scope_preds.Goals as goal

pub scope_row-requires : goal.scope_row-requires
scope_row-requires c = record { space = c.requires; judges = judges pred_in (dec_pred c.args.levels) _ (λ m p r w l x y. search rules) (each_covers.preds _) _ (λ m p l x. search rules) }

pub returns : goal.returns
returns c =
    let k = c.scope_row.ensures in
    ((row_judged pred_in (dec_pred c.args.levels) _ (λ m p r w l x y. search rules) c.args.table.now (preds_fold _ _) (pred_kept _ _) _ _ _ k.0.0, k.0.1), k.1)
