-- check_signature walks counted sorts, a sort, a flag and the body.
use Rattle.item_check.proofs.Walks.{signature_walks}
use Rattle.item_check.proofs.check_signature.Goals as goal

pub returns : goal.returns
returns c =
    signature_walks _ _ _ _ c.in_ok-n.ensures _ _ c.in_ok-f.ensures _ _ c.in_ok-g.ensures _ _ _ _ _ c.in_ok-has.ensures c.lower.ensures c.check_body.ensures c.after.ensures
