-- The answers of the calls as the archive gives them: a number, and the values where the number is 0.
use Rattle.std.specs.Prelude.{ℕ, ◌<◌, ◌≡◌, List}
use Rattle.smt_text.specs.Editions.{NameTable}
use Rattle.horn_text.specs.Answers.{Answer, values, refused, survey_answer, part_answer, script_answer, run_answer}

-- 0 for a success, else the number of the refusal
abbrev pub number : Answer → ℕ
number (values ns) = 0
number (refused n) = n

-- what the caller's place for the values holds then: the values of a success; at a refusal what it held before
abbrev pub stored : Answer → List ℕ → List ℕ
stored (values ns) before = ns
stored (refused n) before = before

-- an answer can be told from its number and what was stored
pub record Told (a : Answer) : Type 0 where
  -- 0 is a success, with the values stored: it is no refusal's number
  pub success : (before : List ℕ) → number a ≡ 0 → a ≡ values (stored a before)
  -- a number above 0 is that refusal
  pub refusal : (n : ℕ) → 0 < n → number a ≡ n → a ≡ refused n

-- so it is for every table of names, file, index, count, buffer and table
pub record AllTold : Type 0 where
  pub survey : (names : NameTable) (file : List ℕ) → Told (survey_answer names file)
  pub part : (names : NameTable) (file : List ℕ) (i room : ℕ) → Told (part_answer names file i room)
  pub script : (names : NameTable) (file : List ℕ) (room : ℕ) → Told (script_answer names file room)
  pub run : (names : NameTable) (file : List ℕ) (first count room places : ℕ) → Told (run_answer names file first count room places)
