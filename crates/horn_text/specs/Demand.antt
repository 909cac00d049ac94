-- The customer's three demands, of what the calls answer and leave in the buffer. The contracts of `survey`, `part` and `script` equate
-- their results and buffers with the definitions named here, and `script` promises demand 3 of the buffer that it leaves. W-205: the demands hold
-- for a table of names as such, the second and the third for every valid one; the tables of the two editions are such (`Tables` of
-- smt_text/specs/Table.antt).
use Rattle.std.specs.Prelude.{ℕ, zero, suc, ◌+◌, ◌-◌, ◌^◌, ◌≤◌, ◌<◌, ◌≡◌, ◌↔◌, ◌⊎◌, List, [], ◌∷◌, T, eqb, length, take, drop, get_or}
use Rattle.smtlib.specs.Lexicon.{any}
use Rattle.smtlib.specs.Read.{Command, Reading}
use Rattle.smtlib.specs.Cut.{IsOutside, closed}
use Rattle.smtlib.specs.Theorems.{OnlyReading}
use Rattle.task.specs.Ast.{Task}
use Rattle.task.specs.Decode.{got}
use Rattle.task.specs.Task.{task_of, declarations, heads_of}
use Rattle.smt_text.specs.Editions.{NameTable, Valid}
use Rattle.smt_text.specs.Encoder.{declared}
use Rattle.smt_text.specs.Template.{sets_in_all, Filled}
use Rattle.smt_text.specs.Table.{ThyFuncTexts}
use Rattle.horn_text.specs.Clauses.{clauses_of, places_of, clauses_at}
use Rattle.horn_text.specs.Script.{join, parts_of, script_of, longest}
use Rattle.horn_text.specs.Commands.{templates_of, assertions_of, commands_of, assertions_among}
use Rattle.horn_text.specs.Returns.{write_smt_horn_returns}
use Rattle.horn_text.specs.Theorems.{Lined}
use Rattle.horn_text.specs.Answers.{values, refused, survey_numbers, survey_answer, part_answer, part_buffer, script_answer, script_buffer}

-- every entry is a byte
abbrev pub Bytes : List ℕ → Type 0
Bytes file = (i : ℕ) → get_or file i 0 < 256

-- DEMAND 1

-- a file that holds a task: it is accepted
pub record Accepted (file : List ℕ) : Type 0 where
  pub task : Task
  pub end : ℕ
  pub holds : task_of file ≡ got task end

-- a file that survey refuses, with one number whatever the table
pub record Refused (file : List ℕ) : Type 0 where
  pub number : ℕ
  pub answers : (names : NameTable) → survey_answer names file ≡ refused number

-- part i of a task's script
abbrev pub nth : NameTable → Task → ℕ → List ℕ
nth names t i = get_or (parts_of names t) i []

pub record Demand1 : Type 0 where
  -- A file of whatever bytes is accepted, or it is refused with one number.
  pub any_bytes : (file : List ℕ) → Accepted file ⊎ Refused file
  -- the number is on the list
  pub survey : (names : NameTable) (file : List ℕ) (n : ℕ) → survey_answer names file ≡ refused n → T (any (eqb n) survey_numbers)
  -- What the original panics on is refused: for the task of every file that is accepted its writer returns.
  pub returns : (file : List ℕ) (t : Task) (end : ℕ) → task_of file ≡ got t end → T (write_smt_horn_returns t)
  -- What survey refuses every call refuses, with that number, also with another table.
  pub part : (names names' : NameTable) (file : List ℕ) (n i room : ℕ) → survey_answer names file ≡ refused n → part_answer names' file i room ≡ refused n
  pub script : (names names' : NameTable) (file : List ℕ) (n room : ℕ) → survey_answer names file ≡ refused n → script_answer names' file room ≡ refused n
  -- Of a file that is accepted survey refuses nothing;
  pub survey_refuses : (names : NameTable) (file : List ℕ) (t : Task) (end : ℕ) → task_of file ≡ got t end → (n : ℕ) → survey_answer names file ≡ refused n → ⊥
  -- part refuses with 8 exactly if there is no such part, and else with 9 exactly if it is longer than the room;
  pub part_refuses : (names : NameTable) (file : List ℕ) (t : Task) (end : ℕ) → task_of file ≡ got t end → (i room n : ℕ) → (part_answer names file i room ≡ refused n)
      ↔ (((n ≡ 8) × (length (parts_of names t) ≤ i)) ⊎ ((n ≡ 9) × (i < length (parts_of names t)) × (room < length (nth names t i))))
  -- script refuses with 9 exactly if the script is longer than the room.
  pub script_refuses : (names : NameTable) (file : List ℕ) (t : Task) (end : ℕ) → task_of file ≡ got t end → (room n : ℕ)
      → (script_answer names file room ≡ refused n) ↔ ((n ≡ 9) × (room < length (script_of names t)))
  -- A refusal changes no byte of the buffer.
  pub part_unchanged : (names : NameTable) (file : List ℕ) (i n : ℕ) (buf : List ℕ) → part_answer names file i (length buf) ≡ refused n → part_buffer names file i buf ≡ buf
  pub script_unchanged : (names : NameTable) (file : List ℕ) (n : ℕ) (buf : List ℕ) → script_answer names file (length buf) ≡ refused n → script_buffer names file buf ≡ buf

-- DEMAND 2

-- what n calls of part, from number i on, each into a buffer of its own, put at the buffers' starts
abbrev pub parts_written : NameTable → List ℕ → (ℕ → List ℕ) → (ℕ → ℕ) → ℕ → ℕ → List (List ℕ)
parts_written names file bufs lengths i zero = []
parts_written names file bufs lengths i (suc n) = take (lengths i) (part_buffer names file i (bufs i)) ∷ parts_written names file bufs lengths (suc i) n

-- of a file that holds the task t
pub record Script (names : NameTable) (file : List ℕ) (t : Task) : Type 0 where
  -- the reported numbers are those of the script: D + A + 3 parts, A assertions, its length, the length of its longest part
  pub reported : survey_answer names file ≡ values (length (parts_of names t) ∷ heads_of t.constraint ∷ length (script_of names t) ∷ longest (parts_of names t) ∷ [])
  pub parts : length (parts_of names t) ≡ declarations t + heads_of t.constraint + 3
  pub short : length (script_of names t) < 2 ^ 40
  pub short_parts : longest (parts_of names t) < 2 ^ 32
  -- as many assertions are called for, and as many are in every reading of the script
  pub assertions : length (assertions_among (commands_of names t)) ≡ heads_of t.constraint
  pub assertions_read : (cs : List Command) → Reading (script_of names t) cs → length (assertions_among cs) ≡ heads_of t.constraint
  -- every part ends in a line feed
  pub lined : (i : ℕ) → i < length (parts_of names t) → Lined (nth names t i)
  -- part i is the i-th, at the start of any buffer with room for it, and the bytes behind it are unchanged
  pub part_length : (i room : ℕ) → i < length (parts_of names t) → length (nth names t i) ≤ room → part_answer names file i room ≡ values (length (nth names t i) ∷ [])
  pub part_text : (i : ℕ) (buf : List ℕ) → i < length (parts_of names t) → length (nth names t i) ≤ length buf
      → take (length (nth names t i)) (part_buffer names file i buf) ≡ nth names t i
  pub part_rest : (i : ℕ) (buf : List ℕ) → i < length (parts_of names t) → length (nth names t i) ≤ length buf
      → drop (length (nth names t i)) (part_buffer names file i buf) ≡ drop (length (nth names t i)) buf
  -- so is the script
  pub script_length : (room : ℕ) → length (script_of names t) ≤ room → script_answer names file room ≡ values (length (script_of names t) ∷ [])
  pub script_text : (buf : List ℕ) → length (script_of names t) ≤ length buf → take (length (script_of names t)) (script_buffer names file buf) ≡ script_of names t
  pub script_rest : (buf : List ℕ) → length (script_of names t) ≤ length buf
      → drop (length (script_of names t)) (script_buffer names file buf) ≡ drop (length (script_of names t)) buf
  -- the parts, as the calls write them, joined are the script, as the call writes it
  pub joined : (bufs : ℕ → List ℕ) (buf : List ℕ) → ((i : ℕ) → i < length (parts_of names t) → length (nth names t i) ≤ length (bufs i))
      → length (script_of names t) ≤ length buf
      → join (parts_written names file bufs (λ i. length (nth names t i)) 0 (length (parts_of names t))) ≡ take (length (script_of names t)) (script_buffer names file buf)

pub record Demand2 : Type 0 where
  -- of every file that is accepted, with every valid table
  pub scripts : (names : NameTable) → Valid names → (file : List ℕ) (t : Task) (end : ℕ) → Bytes file → task_of file ≡ got t end → Script names file t
  -- The text of the two source files is claimed of the table of Z3 alone: its names are the source's.
  pub source : ThyFuncTexts
  -- W-205: two scripts of one task differ only in the tokens that the set functions gave. For every table the script is one list of pieces filled
  -- in from it, and the set functions in that list are, one to one and in order, those of the templates that the commands are filled in from.
  pub tables : (file : List ℕ) (t : Task) (end : ℕ) → task_of file ≡ got t end → Filled (λ names. script_of names t) (sets_in_all (templates_of t))

-- DEMAND 3

-- of a buffer at whose start the script of the task t stands
pub record Carries (names : NameTable) (t : Task) (buf : List ℕ) : Type 0 where
  -- Wherever outside a command a reader stops, the text so far has a reading and no other: the first commands that the task calls for,
  -- as many as have closed by then.
  pub cut : (k : ℕ) → k ≤ length (script_of names t) → IsOutside buf k → OnlyReading (take k buf) (take (closed buf k) (commands_of names t))
  -- before the first byte and behind the last are such places, and at the end all commands have closed
  pub first : IsOutside buf 0
  pub last : IsOutside buf (length (script_of names t))
  pub complete : closed buf (length (script_of names t)) ≡ length (commands_of names t)
  -- the assertions among the first n commands are, one to one and in order, those of the first clauses
  pub assertions : (n : ℕ)
      → assertions_among (take n (commands_of names t)) ≡ assertions_of names (declared t.datatypes) (take (n - suc (declarations t)) (clauses_of t))
  -- the clauses are, one to one and in order, those of the heads that are not literally true: each has exactly the binders of the ForAlls
  -- that hold its head, the outermost first, and exactly their predicates that are not literally true
  pub clauses : clauses_of t ≡ clauses_at (places_of t.constraint)

-- what `script` promises of the buffer that it leaves: for every file that is accepted and every buffer with room for the script
unfoldable pub Promised : NameTable → List ℕ → List ℕ → List ℕ → Type 0
Promised names file before after =
    (t : Task) (end : ℕ) → task_of file ≡ got t end → length (script_of names t) ≤ length before → Carries names t after

-- the call leaves `script_buffer`
abbrev pub Demand3 : Type 0
Demand3 = (names : NameTable) → Valid names → (file buf : List ℕ) → Promised names file buf (script_buffer names file buf)
