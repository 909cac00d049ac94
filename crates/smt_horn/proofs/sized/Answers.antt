-- `sized`: it is too long, or not.
use Rattle.smt_horn.proofs.Entries.{sized_long, sized_fits}
use Rattle.smt_horn.proofs.sized.Goals as goal

pub returns-then-room-len : goal.returns-then-room-len
returns-then-room-len c = sized_long c.args.sizes c.args.room c.if-room-len.true

pub returns : goal.returns
returns c = sized_fits c.args.sizes c.args.room c.if-room-len.false
