-- check_names walks one name after another.
use Rattle.std.proofs.Common.{rules}
use Rattle.task.specs.Fault.{name_fault}
use Rattle.task_check.proofs.Exprs.{each_fold}
use Rattle.task_check.proofs.Rows.{row_is}
use Rattle.item_check.proofs.check_names.Goals as goal

pub returns : goal.returns
returns c = search (rules, row_is (each_fold name_fault))
