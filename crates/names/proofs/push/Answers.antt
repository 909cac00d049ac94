-- `push`: what the two tests tell.
use Rattle.names.proofs.Chains.{to_place}
use Rattle.names.proofs.push.Goals as goal

pub place-requires-clause-room : goal.place-requires-clause-room
place-requires-clause-room c = to_place _ _ _ _ _ _ c.has_name.ensures c.if-has_name.true c.room_for.ensures c.if-room_for.true
