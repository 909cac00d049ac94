-- Calls in a row that send pieces. Of the contracts only that of `write_row` speaks of it.
use Rattle.std.specs.Prelude.{ℕ, zero, suc, ◌<◌, ◌^◌, ◌≡◌, List}
use Rattle.std.specs.Borrow.{MutBor}
use Rattle.output.specs.declared.Out.{Out}
use Rattle.output.specs.Emit.{Output, output, emit}
use Rattle.smt_word.specs.declared.Sent.{Sent}

-- what is told of a call with a position, a buffer and a count of what was sent, with where it ended and the buffer behind it
abbrev pub Tells : Type 1
Tells = ℕ → MutBor (List ℕ) → Out → Sent → MutBor (List ℕ) → Type 0

-- a call at position p with the output o may end at q with the output o'
pub record Called (tells : Tells) (p : ℕ) (o : Output) (q : ℕ) (o' : Output) : Type 0 where
  pub low : p < 2 ^ 64
  pub buf : MutBor (List ℕ)
  pub out : Out
  pub before : output buf.now out.len ≡ o
  pub left : MutBor (List ℕ)
  pub sent : Sent
  pub behind : output left.now sent.out.len ≡ o'
  pub ended : sent.at ≡ q
  pub met : tells p buf out sent left

-- n calls, a space before each, each at the position where the one before it ended, end at q and make o' of o
abbrev pub Calls : Tells → ℕ → ℕ → Output → ℕ → Output → Type 0
Calls tells zero p o q o' = (q ≡ p) × (o' ≡ o)
Calls tells (suc n) p o q o' = (r : ℕ) × (v : Output) × Called tells p (emit o 32) r v × Calls tells n r v q o'
