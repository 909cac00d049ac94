-- W-204, a run of parts in one call: what single calls give, and what is proved of a run. (proofs/RunLaws.antt: run_laws)
use Rattle.std.specs.Prelude.{ℕ, zero, suc, ◌+◌, ◌^◌, ◌≤◌, ◌<◌, ◌≡◌, ◌↔◌, ◌⊎◌, List, [], ◌∷◌, ◌++◌, map, length, take, drop, set, get_or}
use Rattle.task.specs.Ast.{Task}
use Rattle.task.specs.Decode.{got}
use Rattle.task.specs.Task.{task_of}
use Rattle.smt_text.specs.Editions.{NameTable, Valid}
use Rattle.horn_text.specs.Script.{join, parts_of}
use Rattle.horn_text.specs.Answers.{Answer, values, refused, survey_answer, part_answer, part_buffer, script_answer, script_buffer, run_parts, run_answer, run_buffer, run_table}
use Rattle.horn_text.specs.Demand.{Bytes}

-- SINGLE CALLS

-- what calls give: their answers, and what buffer and table hold then
pub record Singles : Type 0 where
  pub answers : List Answer
  pub buf : List ℕ
  pub table : List ℕ

-- the length that a call of part answers
abbrev pub length_in : Answer → ℕ
length_in (values []) = 0
length_in (values (n ∷ ns)) = n
length_in (refused n) = 0

-- "what single calls one after another give": n calls of part from number i on, each into the buffer behind the last written byte, its length into
-- the table's next place
abbrev pub singles : NameTable → List ℕ → ℕ → ℕ → List ℕ → List ℕ → Singles
singles names file i zero buf table = record { answers = []; buf = buf; table = table }
singles names file i (suc n) buf table =
    let answer = part_answer names file i (length buf) in
    let len = length_in answer in
    let after = part_buffer names file i buf in
    let further = singles names file (suc i) n (drop len after) (drop 1 table) in
    record { answers = answer ∷ further.answers; buf = take len after ++ further.buf; table = take 1 (set table 0 len) ++ further.table }

-- the calls of a run answer the lengths of its parts, and leave its buffer and its table
pub record AsSingles (names : NameTable) (file : List ℕ) (first count : ℕ) (buf table : List ℕ) : Type 0 where
  pub answers : (singles names file first count buf table).answers ≡ map (λ (part : List ℕ). values (length part ∷ [])) (run_parts names (task_of file) first count)
  pub buffer : (singles names file first count buf table).buf ≡ run_buffer names file first count buf table
  pub places : (singles names file first count buf table).table ≡ run_table names file first count buf table

-- WHAT IS PROVED OF A RUN

pub record RunLaws : Type 0 where
  -- What survey refuses a run refuses, with that number, also with another table of names.
  pub survey : (names names' : NameTable) (file : List ℕ) (n first count room places : ℕ) → survey_answer names file ≡ refused n → run_answer names' file first count room places ≡ refused n
  -- Of a file that is accepted it refuses with 8 exactly if it passes the last part, and else with 9 exactly if the joined text is longer than the
  -- buffer or the table has fewer places.
  pub refuses : (names : NameTable) (file : List ℕ) (t : Task) (end : ℕ) → task_of file ≡ got t end → (first count room places n : ℕ) → (run_answer names file first count room places ≡ refused n)
      ↔ (((n ≡ 8) × (length (parts_of names t) < first + count))
      ⊎ ((n ≡ 9) × (first + count ≤ length (parts_of names t)) × ((room < length (join (take count (drop first (parts_of names t))))) ⊎ (places < count))))
  -- A refusal changes neither buffer nor table.
  pub unchanged : (names : NameTable) (file : List ℕ) (first count n : ℕ) (buf table : List ℕ) → run_answer names file first count (length buf) (length table) ≡ refused n
      → (run_buffer names file first count buf table ≡ buf) × (run_table names file first count buf table ≡ table)
  -- A run of zero parts from a number up to the number of parts gives length 0.
  pub zero_parts : (names : NameTable) (file : List ℕ) (t : Task) (end : ℕ) → task_of file ≡ got t end → (first room places : ℕ) → first ≤ length (parts_of names t)
      → run_answer names file first 0 room places ≡ values (0 ∷ [])
  -- A run that is not refused is what single calls one after another give, none of which is refused.
  pub as_singles : (names : NameTable) (file : List ℕ) (first count n : ℕ) (buf table : List ℕ) → run_answer names file first count (length buf) (length table) ≡ values (n ∷ [])
      → AsSingles names file first count buf table
  -- Each length is a number of four bytes.
  pub short : (names : NameTable) → Valid names → (file : List ℕ) → Bytes file → (first count i : ℕ) → get_or (map length (run_parts names (task_of file) first count)) i 0 < 2 ^ 32
  -- A part is the run of it alone, and the script is the run of all parts.
  pub one_answer : (names : NameTable) (file : List ℕ) (i room places : ℕ) → 0 < places → run_answer names file i 1 room places ≡ part_answer names file i room
  pub one_buffer : (names : NameTable) (file : List ℕ) (i : ℕ) (buf table : List ℕ) → 0 < length table → run_buffer names file i 1 buf table ≡ part_buffer names file i buf
  pub all_answer : (names : NameTable) (file : List ℕ) (t : Task) (end : ℕ) → task_of file ≡ got t end → (room places : ℕ) → length (parts_of names t) ≤ places
      → run_answer names file 0 (length (parts_of names t)) room places ≡ script_answer names file room
  pub all_buffer : (names : NameTable) (file : List ℕ) (t : Task) (end : ℕ) → task_of file ≡ got t end → (buf table : List ℕ) → length (parts_of names t) ≤ length table
      → run_buffer names file 0 (length (parts_of names t)) buf table ≡ script_buffer names file buf
