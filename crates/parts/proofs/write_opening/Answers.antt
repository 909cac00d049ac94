-- `write_opening`: without comments and with comments.
use Rattle.parts.proofs.Placing.{opening_bare, opening_told}
use Rattle.parts.proofs.write_opening.Goals as goal

pub returns-then-s-at : goal.returns-then-s-at
returns-then-s-at c = opening_bare c.args.s.now c.args.at _ _ c.bytes-opened.ensures c.if-s-at.true

pub returns : goal.returns
returns c = opening_told c.args.s.now c.args.at _ _ c.bytes-opened.ensures _ _ _ c.if-s-at.false c.write_comments-comments.ensures c.byte.ensures
