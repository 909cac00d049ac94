-- The walkers of names in expressions walk as the decoder decodes: the levels left fall from an expression to those in it.
use Prim.Native.Nat.{◌+◌, ◌*◌}
use Rattle.scope.proofs.+exprs.Given as goal

abbrev pub decreases-scope_app : goal.decreases-scope_app
decreases-scope_app l = 4 * l.levels + 3

abbrev pub decreases-scope_expr : goal.decreases-scope_expr
decreases-scope_expr l = 4 * l.levels

abbrev pub decreases-scope_exprs : goal.decreases-scope_exprs
decreases-scope_exprs l = 4 * l.levels + 2

abbrev pub decreases-scope_let : goal.decreases-scope_let
decreases-scope_let l = 4 * l.levels + 1

abbrev pub decreases-scope_quantifier : goal.decreases-scope_quantifier
decreases-scope_quantifier l = 4 * l.levels + 1

abbrev pub decreases-scope_exprs-one : goal.decreases-scope_exprs-one
decreases-scope_exprs-one l = 4 * l.levels + 1
