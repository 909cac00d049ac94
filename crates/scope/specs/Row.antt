-- Pieces that are judged by a table, one and in a row. Only contracts of inner functions speak of it.
use Rattle.std.specs.Prelude.{ℕ, ◌<◌, ◌≤◌, ◌^◌, ◌≡◌, List, Result, Ok}
use Rattle.std.specs.Borrow.{MutBor}
use Rattle.task.specs.declared.Fault.{Fault}
use Rattle.task.specs.declared.Refusal.{Refusal}
use Rattle.task.specs.Decode.{Res, Decoder}
use Rattle.task_check.specs.Walk.{walked}
use Rattle.names.specs.declared.table.Table.{Table}
use Rattle.names.specs.Change.{Restored}
use Rattle.names.specs.Same.{Same}
use Rattle.scope.specs.Known.{Roomy}

-- The piece at a position was judged with r, by the names of t, and t became u: over its file, in the same lent words, with the same entries. `one` is the fault of
-- such a piece by a file and a table.
abbrev pub Scoped : {A : Type 0} → (List ℕ → List ℕ → A → Fault) → Decoder A → ℕ → Table → Table → Res Fault → Type 0
Scoped one d at t u r = ((r ≡ walked (one t.file.now t.words.now) (d t.file.now at)) × Restored t.file.now t.words.now u.words.now) × Same t u

-- what is told of a call with a table and a position, with its answer and the table behind it
abbrev pub Tells : Type 1
Tells = MutBor Table → ℕ → Result (Fault × ℕ) Refusal → MutBor Table → Type 0

-- A call may be made where the table has space; it ends no earlier than it begins, and leaves the entries as they were.
pub record Judges (may : MutBor Table → ℕ → Type 0) (tells : Tells) : Type 0 where
  pub takes : (t : MutBor Table) (p : ℕ) → p < 2 ^ 64 → Roomy t.now p → may t p
  pub leaves : (t : MutBor Table) (p : ℕ) (r : Result (Fault × ℕ) Refusal) (u : MutBor Table) → p < 2 ^ 64 → Roomy t.now p → tells t p r u
      → Restored t.now.file.now t.now.words.now u.now.words.now × Same t.now u.now
  pub forward : (t : MutBor Table) (p : ℕ) (f : Fault) (q : ℕ) (u : MutBor Table) → p < 2 ^ 64 → Roomy t.now p → tells t p (Ok (f, q)) u → p ≤ q

-- a call at a position may give r, with the entries of t in the table
pub record Gives (t : Table) (tells : Tells) (p : ℕ) (r : Result (Fault × ℕ) Refusal) : Type 0 where
  pub table : MutBor Table
  pub space : Roomy table.now p
  pub kept : Restored t.file.now t.words.now table.now.words.now
  pub same : Same t table.now
  pub left : MutBor Table
  pub met : tells table p r left
