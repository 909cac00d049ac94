-- check_sorts walks the pieces in a row.
use Rattle.task_check.proofs.Sorts.{sorts_fold, sort_row, sort_width}
use Rattle.std.proofs.Common.{rules}
use Rattle.task_check.proofs.Rows.{row_is}
use Rattle.task_check.proofs.+sorts.Goals as goal

pub check_sorts-returns : goal.check_sorts-returns
check_sorts-returns t c = search (rules, row_is sorts_fold)

pub check_sort-returns-in-Row : goal.check_sort-returns-in-Row
check_sort-returns-in-Row t c = sort_row _ _ _ _ c.if-levels-eq0.false _ _ c.in_ok-node.ensures _ _ _ _ c.in-Row.ensures c.check_sorts.ensures c.after.ensures

pub check_sort-returns-in-Width : goal.check_sort-returns-in-Width
check_sort-returns-in-Width t c = sort_width _ _ _ _ c.if-levels-eq0.false _ _ c.in_ok-node.ensures _ _ _ c.in-Width.ensures c.check_sort.ensures c.after-in-Width.ensures
