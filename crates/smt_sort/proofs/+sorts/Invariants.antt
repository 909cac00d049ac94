-- The cycle of the sort writers meets its contracts; the levels left fall.
use Prim.Native.Nat.{◌+◌, ◌*◌}
use Rattle.smt_sort.proofs.+sorts.Given as goal

abbrev pub decreases-write_applied : goal.decreases-write_applied
decreases-write_applied l = 5 * l.levels + 3

abbrev pub decreases-write_array : goal.decreases-write_array
decreases-write_array l = 5 * l.levels + 1

abbrev pub decreases-write_bit_vec : goal.decreases-write_bit_vec
decreases-write_bit_vec l = 5 * l.levels + 1

abbrev pub decreases-write_data : goal.decreases-write_data
decreases-write_data l = 5 * l.levels + 4

abbrev pub decreases-write_sort : goal.decreases-write_sort
decreases-write_sort l = 5 * l.levels

abbrev pub decreases-write_sorts : goal.decreases-write_sorts
decreases-write_sorts l = 5 * l.levels + 2

abbrev pub decreases-write_sorts-one : goal.decreases-write_sorts-one
decreases-write_sorts-one l = 5 * l.levels + 1
