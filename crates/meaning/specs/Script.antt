-- W-208, of the script: the assertions that mean what the tree means are those that `script` leaves in the buffer.
use Rattle.std.specs.Prelude.{ℕ, ◌≤◌, ◌≡◌, List, length, take}
use Rattle.smtlib.specs.Theorems.{OnlyReading}
use Rattle.task.specs.Ast.{Task}
use Rattle.task.specs.Decode.{got}
use Rattle.task.specs.Task.{task_of}
use Rattle.smt_text.specs.Editions.{NameTable, Valid}
use Rattle.smt_text.specs.Encoder.{declared}
use Rattle.horn_text.specs.Clauses.{clauses_of}
use Rattle.horn_text.specs.Script.{script_of}
use Rattle.horn_text.specs.Commands.{commands_of, assertions_of, assertions_among}
use Rattle.horn_text.specs.Answers.{script_buffer}
use Rattle.meaning.specs.Theorems.{SameMeaning}

-- of a buffer at whose start the script of the task t stands
pub record KeepsMeaning (names : NameTable) (t : Task) (buf : List ℕ) : Type 1 where
  -- "An assertion is taken as demand three matches it": the script in the buffer is read as the commands that the task calls for, and in no other way,
  pub reading : OnlyReading (take (length (script_of names t)) buf) (commands_of names t)
  -- the assertions among these are, one to one and in order, those of the clauses,
  pub clauses : assertions_among (commands_of names t) ≡ assertions_of names (declared t.datatypes) (clauses_of t)
  -- and the tree means the same as the clauses.
  pub meaning : SameMeaning names t

-- For every accepted file what `script` leaves in a buffer with room is such. (proofs/Meaning.antt: script_meaning)
abbrev pub ScriptMeaning : Type 1
ScriptMeaning =
    (names : NameTable) → Valid names → (file buf : List ℕ) (t : Task) (end : ℕ) → task_of file ≡ got t end
    → length (script_of names t) ≤ length buf → KeepsMeaning names t (script_buffer names file buf)
