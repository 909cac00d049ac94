-- `turn_buffer`: as many zeros.
use mathlib.Core.Path.{sym}
use Prim.Native.Nat.{ℕ}
use lib.ListN.{length-replicate}
use Rattle.console.proofs.turn_buffer.Goals as goal

pub returns : goal.returns
returns c = sym (length-replicate {A = ℕ} 196608 0)
