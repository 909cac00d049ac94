-- What `hornscript` writes: by turns, in each from a part on as many as fit its buffer and its table of lengths.
use Rattle.std.specs.Prelude.{Result, Ok, Err, ℕ, zero, suc, ◌+◌, ◌-◌, ◌≤◌, ◌<◌, cond, ◌≡◌, List, [], ◌∷◌, ◌++◌, map, leb, length, take, drop}
use Rattle.task.specs.Ast.{Task}
use Rattle.task.specs.Decode.{Res, got, refuse}
use Rattle.task.specs.Task.{task_of}
use Rattle.smt_text.specs.declared.Edition.{Edition}
use Rattle.smt_text.specs.declared.Edition.TheVariants.{Z3}
use Rattle.smt_text.specs.Editions.{NameTable, names_of}
use Rattle.horn_text.specs.Script.{join, parts_of, script_of, longest}
use Rattle.horn_text.specs.Answers.{Answer, values, refused}
use Rattle.console.specs.declared.Turn.{Turn}

-- TURNS

-- how many of some lengths, from the first on, there is room for together
abbrev pub fitting : ℕ → List ℕ → ℕ
fitting room [] = 0
fitting room (n ∷ ns) = cond (leb n room) (suc (fitting (room - n) ns)) 0

-- the parts of a turn that begins with the first of some: as many as fit a buffer of so many bytes and a table of so many places
abbrev pub turn_of : ℕ → ℕ → List (List ℕ) → List (List ℕ)
turn_of room places ts = take (fitting room (map length (take places ts))) ts

-- what n turns write, one behind the other
abbrev pub turns : ℕ → ℕ → ℕ → List (List ℕ) → List (List ℕ)
turns zero room places ts = []
turns (suc n) room places ts = join (turn_of room places ts) ∷ turns n room places (drop (length (turn_of room places ts)) ts)

-- what is proved of them (proofs/TurnLaws.antt: turn_laws)
pub record TurnLaws : Type 0 where
  -- a turn has room for its parts
  pub fits : (room places : ℕ) (ts : List (List ℕ)) → length (join (turn_of room places ts)) ≤ room
  -- where no part is longer than the buffer, it takes at least one
  pub some : (room places : ℕ) (ts : List (List ℕ)) → longest ts ≤ room → 0 < places → 0 < length ts → 0 < length (turn_of room places ts)
  -- and as many turns as there are parts write the script, whatever the names
  pub joined : (names : NameTable) (t : Task) (room places n : ℕ) → longest (parts_of names t) ≤ room → 0 < places → length (parts_of names t) ≤ n
      → join (turns n room places (parts_of names t)) ≡ script_of names t

-- ONE TURN

-- A turn from a part on was written: the number of the part behind it, how long it is, and the buffer with it at its start.
pub record Filled (names : NameTable) (t : Task) (from places : ℕ) (before after : List ℕ) (r : Turn) : Type 0 where
  pub next : r.next ≡ from + length (turn_of (length before) places (drop from (parts_of names t)))
  pub len : r.len ≡ length (join (turn_of (length before) places (drop from (parts_of names t))))
  pub buffer : after ≡ join (turn_of (length before) places (drop from (parts_of names t))) ++ drop r.len before

-- so it was of a file that holds a task
unfoldable pub Fills : List ℕ → Edition → ℕ → ℕ → List ℕ → List ℕ → Turn → Type 0
Fills file edition from places before after r = (t : Task) (end : ℕ) → task_of file ≡ got t end → Filled (names_of edition) t from places before after r

-- the file has a part of the number, or as many parts
unfoldable pub Begun : List ℕ → Edition → ℕ → Type 0
Begun file edition from = (t : Task) (end : ℕ) → task_of file ≡ got t end → from ≤ length (parts_of (names_of edition) t)

-- it has so many parts, none of which is longer than 65,536 bytes
unfoldable pub Short : List ℕ → Edition → ℕ → Type 0
Short file edition n = (t : Task) (end : ℕ) → task_of file ≡ got t end → (n ≡ length (parts_of (names_of edition) t)) × (longest (parts_of (names_of edition) t) ≤ 65536)

-- its script has so many bytes
unfoldable pub Whole : List ℕ → Edition → ℕ → Type 0
Whole file edition n = (t : Task) (end : ℕ) → task_of file ≡ got t end → n ≡ length (script_of (names_of edition) t)

-- THE PROGRAM

-- document 01: "N being survey's number in decimal, or 9 if a part exceeds its 65,536-byte buffer"; else the script's length
abbrev pub print_of : NameTable → Res Task → Answer
print_of names (got t end) = cond (leb (longest (parts_of names t)) 65536) (values (length (script_of names t) ∷ [])) (refused 9)
print_of names (refuse n) = refused n

-- how many bytes of the script are handed out, in the edition of Z3, or the number of the refusal
unfoldable pub print_answer : List ℕ → Answer
print_answer file = print_of (names_of Z3) (task_of file)

-- what is answered of the line of a number, in these terms
abbrev pub printed : Result ℕ ℕ → Answer
printed (Ok n) = values (n ∷ [])
printed (Err n) = refused n
