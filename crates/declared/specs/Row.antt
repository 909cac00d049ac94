-- Calls in a row that push pieces into a table. Only contracts of inner functions speak of it.
use Rattle.std.specs.Prelude.{ℕ, zero, suc, ◌<◌, ◌^◌, ◌≡◌}
use Rattle.std.specs.Borrow.{MutBor}
use Rattle.names.specs.declared.table.Table.{Table}

-- what is told of a call with a table and a position, with its answer and the table behind it
abbrev pub Tells : Type 1
Tells = MutBor Table → ℕ → ℕ → MutBor Table → Type 0

-- a call may be made with any table, at any position
abbrev pub Takes : (MutBor Table → ℕ → Type 0) → Type 0
Takes may = (t : MutBor Table) (p : ℕ) → p < 2 ^ 64 → may t p

-- a call at a position may answer q and make u of t
pub record Called (tells : Tells) (p : ℕ) (t : Table) (q : ℕ) (u : Table) : Type 0 where
  pub low : p < 2 ^ 64
  pub table : MutBor Table
  pub shows : table.now ≡ t
  pub left : MutBor Table
  pub leaves : left.now ≡ u
  pub met : tells table p q left

-- n calls, each at the position that the one before it answered, end at q and make u of t
abbrev pub Row : Tells → ℕ → ℕ → Table → ℕ → Table → Type 0
Row tells zero p t q u = (q ≡ p) × (u ≡ t)
Row tells (suc n) p t q u = (r : ℕ) × (v : Table) × Called tells p t r v × Row tells n r v q u
