-- What `inspect` answers: the task's sections and numbers, or the number of its refusal; and what it leaves in the table of names.
use Rattle.std.specs.Prelude.{ℕ, ◌+◌, ◌≤◌, ◌≡◌, List, Result, Ok, Err, length}
use Rattle.task.specs.Ast.{Task}
use Rattle.task.specs.Decode.{Res, got, refuse}
use Rattle.task.specs.Task.{task_of, declarations, heads_of}
use Rattle.task.specs.declared.Refusal.{Refusal}
use Rattle.task.specs.Refusals.{number_of}
use Rattle.trailer.specs.declared.Bounds.{Bounds}
use Rattle.trailer.specs.Bounds.{bounds_of}
use Rattle.names.specs.Table.{entries, Chained}
use Rattle.names.specs.Change.{Blank}
use Rattle.declared.specs.Symbols.{symbols_of}
use Rattle.inspect.specs.declared.Inspected.{Inspected}

-- an answer with the number of its refusal
abbrev pub numbered : {A : Type 0} → Result A Refusal → Result A ℕ
numbered (Ok a) = Ok a
numbered (Err r) = Err (number_of r)

-- the sections of a task, the number of its declarations and of its heads
abbrev pub sizes_of : Bounds → ℕ → ℕ → Inspected
sizes_of b declarations heads = record { bounds = b; declarations = declarations; heads = heads }

-- the answer for a file that holds a task, or for a refusal
abbrev pub inspected_of : List ℕ → Res Task → Result Inspected ℕ
inspected_of file (got t end) = Ok (sizes_of (bounds_of file) (declarations t) (heads_of t.constraint))
inspected_of file (refuse n) = Err n

-- an empty table, with a word for each byte of a file that is not too long
pub record Room (file table : List ℕ) : Type 0 where
  pub blank : Blank table
  pub words : length file ≤ 60000 → 1026 + length file ≤ length table

-- The table can be searched; and where the file holds a task, the entries are the names that it declares.
pub record Names (file table : List ℕ) : Type 0 where
  pub chained : Chained file table
  pub are : (t : Task) (end : ℕ) → task_of file ≡ got t end → entries file table ≡ symbols_of t
