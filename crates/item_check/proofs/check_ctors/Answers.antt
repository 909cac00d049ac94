-- check_ctors walks one constructor after another.
use Rattle.std.proofs.Common.{rules}
use Rattle.task.specs.Fault.{data_ctor_fault}
use Rattle.task_check.proofs.Exprs.{each_fold}
use Rattle.task_check.proofs.Rows.{row_is}
use Rattle.item_check.proofs.check_ctors.Goals as goal

pub returns : goal.returns
returns c = search (rules, row_is (each_fold data_ctor_fault))
