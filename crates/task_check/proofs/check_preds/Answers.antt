-- check_preds walks one predicate after another.
use Rattle.std.proofs.Common.{rules}
use Rattle.task.specs.Fault.{pred_fault}
use Rattle.task_check.proofs.Exprs.{each_fold}
use Rattle.task_check.proofs.Rows.{row_is}
use Rattle.task_check.proofs.check_preds.Goals as goal

pub returns : goal.returns
returns c = search (rules, row_is (each_fold pred_fault))
