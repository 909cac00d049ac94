-- scope_signature comes to the body.
use Rattle.scope.proofs.Functions.{signature_body}
use Rattle.scope.proofs.scope_signature.Goals as goal

pub returns-then-has : goal.returns-then-has
returns-then-has c = (signature_body _ _ _ c.requires _ _ c.in_ok-n.ensures _ _ c.in_ok-q.ensures _ _ c.in_ok-r.ensures _ _ c.in_ok-has.ensures _ _ c.if-has.true c.scope_body.ensures.0, c.scope_body.ensures.1)
