-- check_sort and check_sorts walk as the decoder decodes: the levels left fall from a sort to the sorts in it.
use Prim.Native.Nat.{◌+◌, ◌*◌}
use Rattle.task_check.proofs.+sorts.Given as goal

abbrev pub decreases-check_sort : goal.decreases-check_sort
decreases-check_sort l = 3 * l.levels

abbrev pub decreases-check_sorts : goal.decreases-check_sorts
decreases-check_sorts l = 3 * l.levels + 2

abbrev pub decreases-check_sorts-one : goal.decreases-check_sorts-one
decreases-check_sorts-one l = 3 * l.levels + 1
