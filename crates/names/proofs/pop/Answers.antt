-- `pop`: the head of the last entry's bucket becomes its next.
use mathlib.Core.Path.{◌∙◌, ap}
use Rattle.names.specs.Table.{hash_of}
use Rattle.names.proofs.Chains.{pop_pops}
use Rattle.names.proofs.pop.Goals as goal

pub returns : goal.returns
returns c =
    pop_pops _ _ _ _ _ c.requires c.from-n.ensures c.if-n-eq0.false c.from.ensures (c.hash-h.ensures.0 ∙ ap hash_of c.name_at.ensures, c.hash-h.ensures.1)
