-- The constraint walkers walk as the decoder decodes: the levels left fall from a constraint to those in it.
use Prim.Native.Nat.{◌+◌, ◌*◌}
use Rattle.path.specs.Offsets.{entries}
use Rattle.constraint_check.specs.Around.{names_on}
use Rattle.constraint_check.proofs.Constraints.{Going}
use Rattle.constraint_check.proofs.+constraints.Given as goal

abbrev pub decreases-check_for_all : goal.decreases-check_for_all
decreases-check_for_all l = 2 * l.levels + 1

abbrev pub decreases-check_members : goal.decreases-check_members
decreases-check_members l = 2 * l.levels + 1

abbrev pub invariant-check_members-loop : goal.invariant-check_members-loop
invariant-check_members-loop l = Going l.s l.levels (names_on l.s (entries l.path)) l.n l.at l.counter l.p l.fault l.heads

abbrev pub decreases-check_within : goal.decreases-check_within
decreases-check_within l = 2 * l.levels
