-- What the four calls answer and leave in the buffer, at every table of names, file, number and buffer: document 01, "What each call says no to",
-- and W-204.
use Rattle.std.specs.Prelude.{ℕ, ◌+◌, cond, List, [], ◌∷◌, ◌++◌, map, leb, ltb, length, take, drop, get_or}
use Rattle.task.specs.Ast.{Task}
use Rattle.task.specs.Decode.{Res, got, refuse}
use Rattle.task.specs.Task.{task_of}
use Rattle.smt_text.specs.Editions.{NameTable}
use Rattle.horn_text.specs.Clauses.{clauses_of}
use Rattle.horn_text.specs.Script.{join, parts_of, script_of, longest}

-- the values of a success, or the number of a refusal alone
pub data Answer : Type 0 where
  values : List ℕ → Answer
  refused : ℕ → Answer

-- SURVEY

-- the numbers that survey can answer, in the order of judging; of those that share a place the first met counts
abbrev pub survey_places : List (List ℕ)
survey_places = (1 ∷ []) ∷ (2 ∷ 3 ∷ []) ∷ (4 ∷ []) ∷ (5 ∷ []) ∷ (12 ∷ []) ∷ (13 ∷ []) ∷ (14 ∷ []) ∷ (6 ∷ []) ∷ (7 ∷ []) ∷ (15 ∷ []) ∷ (10 ∷ []) ∷ (11 ∷ []) ∷ []

-- the same as one list
abbrev pub survey_numbers : List ℕ
survey_numbers = join survey_places

abbrev pub survey_of : NameTable → Res Task → Answer
survey_of names (got t end) = values (length (parts_of names t) ∷ length (clauses_of t) ∷ length (script_of names t) ∷ longest (parts_of names t) ∷ [])
survey_of names (refuse n) = refused n

-- the numbers of parts and of assertions, the length of the script and that of its longest part; or a number of the list
unfoldable pub survey_answer : NameTable → List ℕ → Answer
survey_answer names file = survey_of names (task_of file)

-- A TEXT IN A BUFFER

-- its length; or 9 if it is longer than the buffer
abbrev pub fitted : List ℕ → ℕ → Answer
fitted text room = cond (leb (length text) room) (values (length text ∷ [])) (refused 9)

-- it stands at the buffer's start and the bytes behind it are unchanged; if it is longer than the buffer all are
abbrev pub laid : List ℕ → List ℕ → List ℕ
laid text buf = cond (leb (length text) (length buf)) (text ++ drop (length text) buf) buf

-- PART

abbrev pub part_of : NameTable → Res Task → ℕ → ℕ → Answer
part_of names (got t end) i room = cond (ltb i (length (parts_of names t))) (fitted (get_or (parts_of names t) i []) room) (refused 8)
part_of names (refuse n) i room = refused n

-- the length of part i; or survey's refusal, then 8 if there is no such part, then 9
unfoldable pub part_answer : NameTable → List ℕ → ℕ → ℕ → Answer
part_answer names file i room = part_of names (task_of file) i room

abbrev pub part_laid : NameTable → Res Task → ℕ → List ℕ → List ℕ
part_laid names (got t end) i buf = cond (ltb i (length (parts_of names t))) (laid (get_or (parts_of names t) i []) buf) buf
part_laid names (refuse n) i buf = buf

-- what is in the buffer then
unfoldable pub part_buffer : NameTable → List ℕ → ℕ → List ℕ → List ℕ
part_buffer names file i buf = part_laid names (task_of file) i buf

-- SCRIPT

abbrev pub script_fitted : NameTable → Res Task → ℕ → Answer
script_fitted names (got t end) room = fitted (script_of names t) room
script_fitted names (refuse n) room = refused n

-- the length of the script; or survey's refusal, then 9
unfoldable pub script_answer : NameTable → List ℕ → ℕ → Answer
script_answer names file room = script_fitted names (task_of file) room

abbrev pub script_laid : NameTable → Res Task → List ℕ → List ℕ
script_laid names (got t end) buf = laid (script_of names t) buf
script_laid names (refuse n) buf = buf

-- what is in the buffer then
unfoldable pub script_buffer : NameTable → List ℕ → List ℕ → List ℕ
script_buffer names file buf = script_laid names (task_of file) buf

-- RUN (W-204)

-- "Given a first part, a number of parts": the parts of a run
abbrev pub run_parts : NameTable → Res Task → ℕ → ℕ → List (List ℕ)
run_parts names (got t end) first count = take count (drop first (parts_of names t))
run_parts names (refuse n) first count = []

-- "then 8 if the run passes the last part; then 9 if the joined text exceeds the buffer or the table has fewer places than the run"
abbrev pub run_of : NameTable → Res Task → ℕ → ℕ → ℕ → ℕ → Answer
run_of names (got t end) first count room places =
    cond (leb (first + count) (length (parts_of names t)))
    (cond (leb count places) (fitted (join (run_parts names (got t end) first count)) room) (refused 9))
    (refused 8)
run_of names (refuse n) first count room places = refused n

-- the joined length of the parts, for a buffer of so many bytes and a table of so many places; or survey's refusal, then 8, then 9
unfoldable pub run_answer : NameTable → List ℕ → ℕ → ℕ → ℕ → ℕ → Answer
run_answer names file first count room places = run_of names (task_of file) first count room places

-- "All of it is written or none": at a success it stands at the start and what is behind it is unchanged, at a refusal all is
abbrev pub leaves : Answer → List ℕ → List ℕ → List ℕ
leaves (values ns) written before = written ++ drop (length written) before
leaves (refused n) written before = before

-- what is in the buffer then: the parts joined
unfoldable pub run_buffer : NameTable → List ℕ → ℕ → ℕ → List ℕ → List ℕ → List ℕ
run_buffer names file first count buf table = leaves (run_answer names file first count (length buf) (length table)) (join (run_parts names (task_of file) first count)) buf

-- what is in the table then: the length of each
unfoldable pub run_table : NameTable → List ℕ → ℕ → ℕ → List ℕ → List ℕ → List ℕ
run_table names file first count buf table = leaves (run_answer names file first count (length buf) (length table)) (map length (run_parts names (task_of file) first count)) table
