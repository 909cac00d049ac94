-- The cycle of the expression writers meets its contracts; the levels left fall.
use Prim.Native.Nat.{◌+◌, ◌*◌}
use Rattle.smt_expr.proofs.+exprs.Given as goal

abbrev pub decreases-write_app : goal.decreases-write_app
decreases-write_app l = 6 * l.levels + 3

abbrev pub decreases-write_application_head : goal.decreases-write_application_head
decreases-write_application_head l = 6 * l.levels + 1

abbrev pub decreases-write_atom : goal.decreases-write_atom
decreases-write_atom l = 6 * l.levels + 3

abbrev pub decreases-write_binary : goal.decreases-write_binary
decreases-write_binary l = 6 * l.levels + 1

abbrev pub decreases-write_expr : goal.decreases-write_expr
decreases-write_expr l = 6 * l.levels

abbrev pub decreases-write_exprs : goal.decreases-write_exprs
decreases-write_exprs l = 6 * l.levels + 2

abbrev pub decreases-write_is_ctor : goal.decreases-write_is_ctor
decreases-write_is_ctor l = 6 * l.levels + 1

abbrev pub decreases-write_ite : goal.decreases-write_ite
decreases-write_ite l = 6 * l.levels + 1

abbrev pub decreases-write_let : goal.decreases-write_let
decreases-write_let l = 6 * l.levels + 1

abbrev pub decreases-write_nary : goal.decreases-write_nary
decreases-write_nary l = 6 * l.levels + 3

abbrev pub decreases-write_ne : goal.decreases-write_ne
decreases-write_ne l = 6 * l.levels + 2

abbrev pub decreases-write_quantifier : goal.decreases-write_quantifier
decreases-write_quantifier l = 6 * l.levels + 1

abbrev pub decreases-write_unary : goal.decreases-write_unary
decreases-write_unary l = 6 * l.levels + 1

abbrev pub decreases-write_exprs-one : goal.decreases-write_exprs-one
decreases-write_exprs-one l = 6 * l.levels + 1
