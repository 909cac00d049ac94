use mathlib.Core.Path.{◌∙◌}
use Rattle.output.specs.Names.{names, length_of}
use Rattle.output.proofs.Listing.{measured}
use Rattle.output.proofs.length_of.Goals as goal

pub returns : goal.returns
unfolding names length_of
returns c = c.from.ensures ∙ measured c.args.i c.requires
