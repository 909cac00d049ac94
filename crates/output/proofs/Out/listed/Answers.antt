use mathlib.Core.Path.{ap, ◌∙◌}
use Rattle.output.specs.Emit.{emits}
use Rattle.output.specs.Names.{names, all_names}
use Rattle.output.proofs.Listing.{stands}
use Rattle.output.proofs.Out.listed.Goals as goal

pub returns : goal.returns
unfolding names all_names
returns c = c.bytes.ensures ∙ ap (emits _) (stands c.args.i _ _ c.if-i-ge55.false c.place-start.ensures c.length_of.ensures)
