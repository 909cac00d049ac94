-- check_binders walks one binder after another.
use Rattle.std.proofs.Common.{rules}
use Rattle.task.specs.Fault.{binder_fault}
use Rattle.task_check.proofs.Exprs.{each_fold}
use Rattle.task_check.proofs.Rows.{row_is}
use Rattle.task_check.proofs.check_binders.Goals as goal

pub returns : goal.returns
returns c = search (rules, row_is (each_fold binder_fault))
