-- `place`: three words for the entry, the head of its bucket, and the count.
use mathlib.Core.Path.{◌∙◌, ap}
use Rattle.names.specs.Table.{hash_of}
use Rattle.names.proofs.Chains.{placed}
use Rattle.names.proofs.place.Goals as goal

pub returns : goal.returns
returns c = placed _ _ _ _ _ _ c.requires.chained c.requires.room (c.hash-h.ensures.0 ∙ ap hash_of c.name_at.ensures, c.hash-h.ensures.1)
