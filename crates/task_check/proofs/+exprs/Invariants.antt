-- The expression walkers walk as the decoder decodes: the levels left fall from an expression to those in it.
use Prim.Native.Nat.{◌+◌, ◌*◌}
use Rattle.task_check.proofs.+exprs.Given as goal

abbrev pub decreases-check_app : goal.decreases-check_app
decreases-check_app l = 4 * l.levels + 3

abbrev pub decreases-check_expr : goal.decreases-check_expr
decreases-check_expr l = 4 * l.levels

abbrev pub decreases-check_exprs : goal.decreases-check_exprs
decreases-check_exprs l = 4 * l.levels + 2

abbrev pub decreases-check_quantifier : goal.decreases-check_quantifier
decreases-check_quantifier l = 4 * l.levels + 1

abbrev pub decreases-check_exprs-one : goal.decreases-check_exprs-one
decreases-check_exprs-one l = 4 * l.levels + 1
