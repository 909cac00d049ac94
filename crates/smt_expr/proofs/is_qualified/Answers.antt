-- `is_qualified`: where no node stands, no expression was decoded.
use Rattle.smt_expr.proofs.Heads.{tells_none}
use Rattle.smt_expr.proofs.is_qualified.Goals as goal

pub returns-in_default : goal.returns-in_default
returns-in_default c = tells_none _ _ _ _ _ c.in_default.ensures
