use mathlib.Core.Path.{◌∙◌}
use Rattle.output.specs.Names.{names, place_of}
use Rattle.output.proofs.Listing.{placed}
use Rattle.output.proofs.place.Goals as goal

pub returns : goal.returns
unfolding names place_of
returns c = c.from.ensures ∙ placed c.args.i c.requires
