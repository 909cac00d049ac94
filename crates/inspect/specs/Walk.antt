-- What the steps of `inspect` answer. Only contracts of inner functions speak of them; `conclude` and `finish` are steps of their proofs.
use Rattle.std.specs.Prelude.{Result, Ok, Err, Option, Some, None, ℕ, zero, suc, ◌+◌, cond, List, leb, eqb, length, take}
use Rattle.task.specs.declared.Fault.{Fault}
use Rattle.task.specs.declared.Fault.TheVariants.{Sound}
use Rattle.task.specs.Ast.{Task}
use Rattle.task.specs.Decode.{Res, got, refuse, bind, section, comment, datatype, constant, function, kvar}
use Rattle.task.specs.Fault.{lower, each, refusal_of, text_fault, datatype_fault, binder_fault, function_fault, kvar_fault, task_fault}
use Rattle.task.specs.Task.{framed, decoded, judged_by}
use Rattle.constraint_check.specs.declared.Counted.{Counted}
use Rattle.item_check.specs.declared.Section.{Section}
use Rattle.item_check.specs.declared.Section.TheVariants.{Comments, Datatypes, Constants, Functions, KVars}
use Rattle.trailer.specs.declared.Bounds.{Bounds}
use Rattle.task.specs.declared.Refusal.{Refusal}
use Rattle.task.specs.Refusals.{number_of}
use Rattle.inspect.specs.declared.Inspected.{Inspected}
use Rattle.inspect.specs.Inspect.{sizes_of}

-- the number of items and the fault that is judged first, or the number of the refusal
abbrev pub Listed : Type 0
Listed = Result (ℕ × Fault) ℕ

-- the number of a fault's refusal, 0 for none
abbrev pub refused_by : Option Refusal → ℕ
refused_by None = 0
refused_by (Some r) = number_of r

-- items counted and judged before others
abbrev pub join : Listed → Listed → Listed
join (Ok (n, f)) (Ok (m, g)) = Ok ((n + m), (lower f g))
join (Ok (n, f)) (Err k) = Err k
join (Err k) y = Err k

-- an item, then those behind it
abbrev pub onward : Res Fault → (ℕ → Listed) → Listed
onward (got f q) rest = join (Ok (1, f)) (rest q)
onward (refuse k) rest = Err k

-- items one after another, by the walk of one: n are enough
unfoldable pub walk_items : ℕ → (ℕ → Res Fault) → ℕ → ℕ → Listed
walk_items zero one end at = Ok (0, Sound)
walk_items (suc n) one end at = cond (leb end at) (Ok (0, Sound)) (onward (one at) (walk_items n one end))

-- the decoded items of a section
abbrev pub listed : {A : Type 0} → (A → Fault) → Res (List A) → Listed
listed fault (got xs p) = Ok ((length xs), (each fault xs))
listed fault (refuse k) = Err k

-- comments are no declarations
abbrev pub uncounted : Listed → Listed
uncounted (Ok (n, f)) = Ok (0, f)
uncounted (Err k) = Err k

-- the items of a section
unfoldable pub section_of : Section → List ℕ → ℕ → Listed
section_of Comments s at = uncounted (listed text_fault (section comment s at))
section_of Datatypes s at = listed datatype_fault (section datatype s at)
section_of Constants s at = listed binder_fault (section constant s at)
section_of Functions s at = listed function_fault (section function s at)
section_of KVars s at = listed kvar_fault (section kvar s at)

-- the items of all sections front to back
abbrev pub items_of : List ℕ → Bounds → Listed
items_of file b =
    join (section_of Comments (take b.datatypes file) b.comments)
    (join (section_of Datatypes (take b.constants file) b.datatypes)
    (join (section_of Constants (take b.functions file) b.constants)
    (join (section_of Functions (take b.kvars file) b.functions) (section_of KVars (take b.constraint file) b.kvars))))

-- the answer by the fault that is judged first
abbrev pub judge : Bounds → ℕ → ℕ → Fault → Result Inspected ℕ
judge b declarations heads f = cond (eqb (refusal_of f) 0) (Ok (sizes_of b declarations heads)) (Err (refusal_of f))

-- the answer by the constraint's walk, given the number and the fault of the items
abbrev pub conclude : Bounds → ℕ → Fault → Res Counted → Result Inspected ℕ
conclude b n f (got c p) = cond (eqb p b.end) (judge b n c.heads (lower f c.fault)) (Err 2)
conclude b n f (refuse k) = Err k

-- the answer by the walks of the items and of the constraint
abbrev pub finish : Bounds → Listed → Res Counted → Result Inspected ℕ
finish b (Ok (n, f)) c = conclude b n f c
finish b (Err k) c = Err k

-- the task that a file holds by the faults of its pieces: its names are not judged
unfoldable pub sound_of : List ℕ → Res Task
sound_of file = cond (framed file) (bind (decoded file) (judged_by task_fault)) (refuse 1)
