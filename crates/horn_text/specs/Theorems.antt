-- The theorems about the script. Each is proved in proofs/ under the name that stands behind it.
use Rattle.std.specs.Prelude.{ℕ, suc, ◌+◌, ◌-◌, ◌^◌, ◌≤◌, ◌<◌, ◌≡◌, List, [], T, length, take, get_or}
use Rattle.smtlib.specs.Compose.{line}
use Rattle.smtlib.specs.Theorems.{ReadAtCuts}
use Rattle.task.specs.declared.Fault.TheVariants.{Sound}
use Rattle.task.specs.Ast.{Task}
use Rattle.task.specs.Decode.{got}
use Rattle.task.specs.Fault.{task_fault}
use Rattle.task.specs.Task.{task_of, declarations, heads_of}
use Rattle.smt_text.specs.Editions.{NameTable, Valid}
use Rattle.smt_text.specs.Encoder.{declared}
use Rattle.smt_text.specs.Template.{sets_in_all, Filled}
use Rattle.horn_text.specs.Clauses.{clauses_of, places_of, clauses_at}
use Rattle.horn_text.specs.Script.{parts_of, script_of, longest}
use Rattle.horn_text.specs.Commands.{templates_of, assertions_of, commands_of, assertions_among}
use Rattle.horn_text.specs.Returns.{write_smt_horn_returns}

-- With every valid table the script of a task without fault is read, at every cut, as the commands that the task calls for.
-- (proofs/Readings.antt: script_read)
abbrev pub ScriptRead : Type 0
ScriptRead = (names : NameTable) → Valid names → (t : Task) → task_fault t ≡ Sound → ReadAtCuts (script_of names t) (commands_of names t)

-- W-205: the scripts of a task without fault, one for each table, are one list of pieces filled in from the tables. The set functions in it are, one
-- to one and in order, those of the templates that the commands are filled in from. (proofs/Readings.antt: script_filled)
abbrev pub ScriptFilled : Type 0
ScriptFilled = (t : Task) → task_fault t ≡ Sound → Filled (λ names. script_of names t) (sets_in_all (templates_of t))

-- For a task without fault the source's writer returns. (proofs/Returned.antt: script_returns)
abbrev pub ScriptReturns : Type 0
ScriptReturns = (t : Task) → task_fault t ≡ Sound → T (write_smt_horn_returns t)

-- The assertions among the first n commands are those of the first clauses. Before them stand `(set-logic HORN)` and the declarations.
-- (proofs/Readings.antt: first_assertions)
abbrev pub FirstAssertions : Type 0
FirstAssertions =
    (names : NameTable) (t : Task) (n : ℕ)
    → assertions_among (take n (commands_of names t)) ≡ assertions_of names (declared t.datatypes) (take (n - suc (declarations t)) (clauses_of t))

-- All assertions are those of all clauses. (proofs/Readings.antt: all_assertions)
abbrev pub AllAssertions : Type 0
AllAssertions = (names : NameTable) (t : Task) → assertions_among (commands_of names t) ≡ assertions_of names (declared t.datatypes) (clauses_of t)

-- The clauses belong one to one and in order to the heads that are not literally true, each with the ForAlls that hold it.
-- (proofs/Places.antt: clauses_placed)
abbrev pub ClausesPlaced : Type 0
ClausesPlaced = (t : Task) → clauses_of t ≡ clauses_at (places_of t.constraint)

-- There are as many clauses as heads that are not literally true. (proofs/Places.antt: clauses_number)
abbrev pub ClausesNumber : Type 0
ClausesNumber = (t : Task) → length (clauses_of t) ≡ heads_of t.constraint

-- As many assertions are called for. (proofs/Readings.antt: assertions_number)
abbrev pub AssertionsNumber : Type 0
AssertionsNumber = (names : NameTable) (t : Task) → length (assertions_among (commands_of names t)) ≡ heads_of t.constraint

-- D declarations and A assertions make D + A + 3 parts. (proofs/Places.antt: parts_number)
abbrev pub PartsNumber : Type 0
PartsNumber = (names : NameTable) (t : Task) → length (parts_of names t) ≡ declarations t + heads_of t.constraint + 3

-- a text that ends in a line feed
pub record Lined (w : List ℕ) : Type 0 where
  pub before : List ℕ
  pub is : w ≡ line before

-- Every part ends in a line feed. (proofs/Lines.antt: parts_lined)
abbrev pub PartsLined : Type 0
PartsLined = (names : NameTable) (t : Task) (i : ℕ) → i < length (parts_of names t) → Lined (get_or (parts_of names t) i [])

-- There are no more parts than bytes. (proofs/Lines.antt: parts_few)
abbrev pub PartsFew : Type 0
PartsFew = (names : NameTable) (t : Task) → length (parts_of names t) ≤ length (script_of names t)

-- With every valid table the script of a file of bytes is shorter than 2^40 bytes, and its longest part shorter than 2^32.
-- (proofs/Lengths.antt: script_short)
abbrev pub ScriptShort : Type 0
ScriptShort =
    (names : NameTable) → Valid names → (file : List ℕ) (t : Task) (end : ℕ) → ((i : ℕ) → get_or file i 0 < 256) → task_of file ≡ got t end
    → (length (script_of names t) < 2 ^ 40) × (longest (parts_of names t) < 2 ^ 32)
