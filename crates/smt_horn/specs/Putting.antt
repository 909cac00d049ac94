-- What is put of a task by a call, in an edition. Only contracts of inner functions speak of it.
use Rattle.std.specs.Prelude.{Result, Ok, Err, cond, ◌≡◌, List, [], ◌∷◌, ℕ, leb, length}
use Rattle.task.specs.declared.Refusal.{Refusal}
use Rattle.task.specs.Refusals.{number_of}
use Rattle.task.specs.Ast.{Task}
use Rattle.task.specs.Decode.{got, refuse}
use Rattle.task.specs.Task.{task_of, heads_of}
use Rattle.smt_text.specs.declared.Edition.{Edition}
use Rattle.smt_text.specs.Editions.{names_of}
use Rattle.horn_text.specs.Script.{parts_of}
use Rattle.horn_text.specs.Answers.{Answer, values, refused, script_answer, script_buffer, run_answer, run_buffer, run_table}
use Rattle.output.specs.Emit.{most}
use Rattle.flatten.specs.declared.Range.{Range}
use Rattle.flatten.specs.declared.Progress.{Progress}
use Rattle.flatten.specs.Parts.{Writing, up, puts}
use Rattle.parts.specs.Whole.{fresh}
use Rattle.smt_horn.specs.declared.Asked.{Asked}
use Rattle.smt_horn.specs.declared.Asked.TheVariants as asked_is

-- the numbers of the parts that are asked for
abbrev pub range_of : Asked → Range
range_of asked_is.All = record { from = 0; to = most }
range_of (asked_is.Run first count) = record { from = first; to = up first count }

-- what is answered once parts were counted and measured: their length, or 9 if it is more than the buffer has
abbrev pub sized : Progress → ℕ → Answer
sized p room = cond (leb p.len room) (values (p.len ∷ [])) (refused 9)

-- the same by what was asked for: of a run all parts must be there, and the table must have a place for each
abbrev pub answer_to : Asked → Progress → ℕ → ℕ → Answer
answer_to asked_is.All p room places = sized p room
answer_to (asked_is.Run first count) p room places = cond (leb (up first count) p.seen) (cond (leb count places) (sized p room) (refused 9)) (refused 8)

-- what the parts of a task that are asked for become, in a buffer and a table
abbrev pub put_of : Edition → Task → Asked → List ℕ → List ℕ → Writing
put_of edition t a buf lengths = puts (fresh (range_of a) buf lengths) (parts_of (names_of edition) t)

-- They are measured, and they and their lengths are written unless the answer is a refusal.
pub record Put (edition : Edition) (t : Task) (a : Asked) (buf after lengths lengths' : List ℕ) (p : Progress) : Type 0 where
  pub seen : p.seen ≡ (put_of edition t a [] []).seen
  pub len : p.len ≡ (put_of edition t a [] []).len
  pub longest : p.longest ≡ (put_of edition t a [] []).longest
  pub done : (ns : List ℕ) → answer_to a p (length buf) (length lengths) ≡ values ns → (after ≡ (put_of edition t a buf lengths).buf) × (lengths' ≡ (put_of edition t a buf lengths).lengths)
  pub kept : (n : ℕ) → answer_to a p (length buf) (length lengths) ≡ refused n → (after ≡ buf) × (lengths' ≡ lengths)

-- where the file holds a task
unfoldable pub PutsTask : List ℕ → Edition → Asked → List ℕ → List ℕ → List ℕ → List ℕ → Progress → Type 0
PutsTask file edition a buf after lengths lengths' p = (t : Task) (end : ℕ) → task_of file ≡ got t end → Put edition t a buf after lengths lengths' p

-- The file holds a task with h heads that are not literally true, and its parts were put.
pub record Given (file : List ℕ) (edition : Edition) (a : Asked) (buf after lengths lengths' : List ℕ) (h : ℕ) (p : Progress) : Type 0 where
  pub task : Task
  pub end : ℕ
  pub held : task_of file ≡ got task end
  pub heads : heads_of task.constraint ≡ h
  pub put : Put edition task a buf after lengths lengths' p

-- so it is, or the file was refused and buffer and table are as they were
unfoldable pub Puts : List ℕ → Edition → Asked → List ℕ → List ℕ → List ℕ → List ℕ → Result (ℕ × Progress) Refusal → Type 0
Puts file edition a buf after lengths lengths' (Ok (h, p)) = Given file edition a buf after lengths lengths' h p
Puts file edition a buf after lengths lengths' (Err r) = (task_of file ≡ refuse (number_of r)) × (after ≡ buf) × (lengths' ≡ lengths)

-- what a call for parts answers and leaves
unfoldable pub Answers : List ℕ → Edition → Asked → List ℕ → List ℕ → List ℕ → List ℕ → Answer → Type 0
Answers file edition asked_is.All buf after lengths lengths' r =
    (r ≡ script_answer (names_of edition) file (length buf)) × (after ≡ script_buffer (names_of edition) file buf)
Answers file edition (asked_is.Run first count) buf after lengths lengths' r =
    (r ≡ run_answer (names_of edition) file first count (length buf) (length lengths))
    × (after ≡ run_buffer (names_of edition) file first count buf lengths)
    × (lengths' ≡ run_table (names_of edition) file first count buf lengths)
