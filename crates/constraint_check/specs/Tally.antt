-- What the constraint walkers answer: where a piece ends, its fault, and the number of its heads that are not literally true.
use Rattle.std.specs.Prelude.{ℕ}
use Rattle.task.specs.declared.Fault.{Fault}
use Rattle.task.specs.Decode.{Res, got, refuse}
use Rattle.constraint_check.specs.declared.Counted.{Counted}

-- the answer for a decoded piece, or for a refusal
abbrev pub tally : {A : Type 0} → (A → Fault) → (A → ℕ) → Res A → Res Counted
tally fault number (got a p) = got (record { fault = fault a; heads = number a }) p
tally fault number (refuse k) = refuse k
