-- The parts of a script as they are written: those whose number is in a range are put into the buffer one behind the other and their lengths
-- into a table, all are counted.
use Rattle.std.specs.Prelude.{ℕ, ◌+◌, ◌-◌, min, max, Bool, cond, ◌&&◌, List, [], ◌∷◌, ◌≡◌, leb, ltb, length, set}
use Rattle.std.proofs.lemmas.List.Edits.{sets}
use Rattle.task.specs.Ast.{Pred, Constraint, Constraints}
use Rattle.task.specs.Decode.{Res, got}
use Rattle.smt_text.specs.Encoder.{Encoder}
use Rattle.horn_text.specs.Clauses.{ForAll, binders_of, guards_of, flatten_constraint, flatten_constraints}
use Rattle.horn_text.specs.Script.{write_asserts}
use Rattle.task.specs.Run.{Runs}
use Rattle.output.specs.Emit.{most}
use Rattle.flatten.specs.declared.Range.{Range}
use Rattle.flatten.specs.declared.Progress.{Progress}

-- which parts are written, what was met and written so far, and what stands in the buffer and in the table of lengths
pub record Writing : Type 0 where
  pub range : Range
  pub seen : ℕ
  pub len : ℕ
  pub longest : ℕ
  pub buf : List ℕ
  pub lengths : List ℕ

abbrev pub writing : Progress → List ℕ → List ℕ → Writing
writing p b ls = record { range = p.range; seen = p.seen; len = p.len; longest = p.longest; buf = b; lengths = ls }

-- a sum, or the largest number that there is
abbrev pub up : ℕ → ℕ → ℕ
up a n = min (a + n) most

-- a number is in the range
abbrev pub has : Range → ℕ → Bool
has r n = leb r.from n && ltb n r.to

-- a part of n bytes was written
abbrev pub placed : Progress → ℕ → Progress
placed p n = record { range = p.range; seen = up p.seen 1; len = up p.len n; longest = max p.longest n }

-- a part was passed over
abbrev pub passed : Progress → Progress
passed p = record { range = p.range; seen = up p.seen 1; len = p.len; longest = p.longest }

-- the largest number of four bytes
abbrev pub most32 : ℕ
most32 = 4294967295

-- the table with the length of the part that comes next, at the place of its number in the range; a table that ends before it is unchanged
abbrev pub noted : Range → ℕ → ℕ → List ℕ → List ℕ
noted r seen n ls = set ls (seen - r.from) (min n most32)

-- a part is put behind what was written, and its length into the table
unfoldable pub place : Writing → List ℕ → Writing
place w t = record {
  range = w.range;
  seen = up w.seen 1;
  len = up w.len (min (length t) most);
  longest = max w.longest (min (length t) most);
  buf = sets w.buf w.len t;
  lengths = noted w.range w.seen (length t) w.lengths;
}

-- a part is counted only
unfoldable pub pass : Writing → Writing
pass w = record { range = w.range; seen = up w.seen 1; len = w.len; longest = w.longest; buf = w.buf; lengths = w.lengths }

-- a part is put if its number is in the range
unfoldable pub put : Writing → List ℕ → Writing
put w t = cond (has w.range w.seen) (place w t) (pass w)

-- parts one by one
unfoldable pub puts : Writing → List (List ℕ) → Writing
puts w [] = w
puts w (t ∷ ts) = puts (put w t) ts

-- a walker runs a piece by putting its parts
unfoldable pub Puts : {A : Type 0} → (A → List (List ℕ)) → Res A → Writing → Writing → ℕ → Type 0
Puts parts d w w' at = Runs (λ v a. puts v (parts a)) d w w' at

-- Where the ForAlls of a path stand at its offsets, the parts of a piece under them were put.
unfoldable pub PutsUnder : {A : Type 0} → (List ForAll → A → List (List ℕ)) → Res (List ForAll) → Res A → Writing → Writing → ℕ → Type 0
PutsUnder parts path d w w' at = (fs : List ForAll) (q : ℕ) → path ≡ got fs q → Puts (parts fs) d w w' at

-- the parts of a head: none for one that is literally true
unfoldable pub head_parts : Encoder → List ForAll → Pred → List (List ℕ)
head_parts enc fs p = write_asserts enc (flatten_constraint (Constraint.pred p) (binders_of fs) (guards_of fs))

-- those of a constraint
unfoldable pub clause_parts : Encoder → List ForAll → Constraint → List (List ℕ)
clause_parts enc fs c = write_asserts enc (flatten_constraint c (binders_of fs) (guards_of fs))

-- those of constraints in a row
unfoldable pub member_parts : Encoder → List ForAll → Constraints → List (List ℕ)
member_parts enc fs cs = write_asserts enc (flatten_constraints cs (binders_of fs) (guards_of fs))
