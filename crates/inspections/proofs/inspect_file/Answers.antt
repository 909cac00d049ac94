-- The table has room for the names.
use Rattle.std.proofs.Common.{arith}
use Rattle.std.proofs.Math.ListN.{length-replicate}
use Rattle.names.proofs.Theorems.{zeros_blank}
use Rattle.inspections.proofs.inspect_file.Goals as goal

pub inspect-requires : goal.inspect-requires
inspect-requires c = record { blank = zeros_blank 61026 (omega arith); words = λ h. simp length-replicate (omega arith) }
