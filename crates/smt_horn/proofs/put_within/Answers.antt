-- `put_within`: a table of zeros.
use lib.ListN.{length-replicate}
use Rattle.names.proofs.Theorems.{zeros_blank}
use Rattle.smt_horn.proofs.put_within.Goals as goal

pub put_with-requires : goal.put_with-requires
put_with-requires g c = record { blank = zeros_blank _ c.requires.0; words = λ h. simp length-replicate (c.requires.2 h) }
