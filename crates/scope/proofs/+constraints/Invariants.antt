-- The walkers of names in a constraint walk as the decoder decodes: the levels left fall from a constraint to those in it.
use Prim.Native.Nat.{◌+◌, ◌*◌}
use Rattle.scope.proofs.+constraints.Given as goal

abbrev pub decreases-scope_constraint : goal.decreases-scope_constraint
decreases-scope_constraint l = 4 * l.levels

abbrev pub decreases-scope_for_all : goal.decreases-scope_for_all
decreases-scope_for_all l = 4 * l.levels + 2

abbrev pub decreases-scope_members : goal.decreases-scope_members
decreases-scope_members l = 4 * l.levels + 2

abbrev pub decreases-scope_under : goal.decreases-scope_under
decreases-scope_under l = 4 * l.levels + 1

abbrev pub decreases-scope_members-one : goal.decreases-scope_members-one
decreases-scope_members-one l = 4 * l.levels + 1
