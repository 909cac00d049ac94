-- `declare`: the datatypes, and then the constants.
use Rattle.names.proofs.Sames.{same_both}
use Rattle.declared.proofs.Whole.{declared}
use Rattle.declared.proofs.declare.Goals as goal

pub push_items-requires-2 : goal.push_items-requires-2
push_items-requires-2 c = rw c.push_items.ensures.1.file c.requires.inside.0

pub returns : goal.returns
returns c = (
  declared _ c.args.b _ _ _ c.requires.inside.1 c.requires.room c.push_items.ensures.0 (rw c.push_items.ensures.1.file at c.push_items-2.ensures.0),
  same_both _ _ _ c.push_items.ensures.1 c.push_items-2.ensures.1,
)
