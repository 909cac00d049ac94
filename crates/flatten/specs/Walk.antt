-- What the walkers of a constraint are given, and what they do at its heads. Only contracts of inner functions speak of it.
use Rattle.std.specs.Prelude.{ℕ, ◌<◌, Bool, false, not, ◌&&◌, ◌||◌, List, ◌≡◌, eqb, length}
use Rattle.task.specs.Ast.{Pred, Constraints}
use Rattle.task.specs.Decode.{Res, got, many, dec_constraint}
use Rattle.task.specs.Run.{Runs}
use Rattle.task_check.specs.Walk.{read_true}
use Rattle.path.specs.declared.Path.{Path}
use Rattle.path.specs.Offsets.{entries, Leaves}
use Rattle.smt_text.specs.Encoder.{Encoder}
use Rattle.horn_text.specs.Clauses.{ForAll}
use Rattle.assertion.specs.declared.Kept.{Kept}
use Rattle.assertion.specs.Kept.{measured, fits, Keeps}
use Rattle.assertion.specs.Under.{on_path, assert_text}
use Rattle.flatten.specs.declared.Progress.{Progress}
use Rattle.flatten.specs.declared.Moved.{Moved}
use Rattle.flatten.specs.declared.Walk.{Walk}
use Rattle.flatten.specs.declared.Row.{Row}
use Rattle.flatten.specs.Parts.{Writing, writing, has, place, Puts, head_parts, member_parts}

-- A walk may go on: the offsets of the file have two bytes, and the path has room for the levels that are left. W-202: ForAlls stand at the path's
-- offsets, and the numbers that are kept are equal to those of their binders and guards measured afresh, here and so at each head (`Keeps`,
-- `measures`).
pub record Ready (s : List ℕ) (enc : Encoder) (text : List ℕ) (path : Path) (kept : Kept) (levels : ℕ) : Type 0 where
  pub short : length s < 65536
  pub leaves : Leaves path levels
  pub around : List ForAll
  pub stands : on_path s (entries path) ≡ got around 0
  pub keeps : Keeps enc around text kept

-- W-202: behind a constraint, and so behind a ForAll, the numbers are what they were before it.
abbrev pub Restores : Walk → Walk → Type 0
Restores from back = back.kept ≡ from.kept

-- what is kept is enough for heads, without their path: the buffer is empty, or a text of such a size has room for what is kept
abbrev pub enough : ℕ → ℕ → Kept → Bool
enough size room kept = eqb room 0 || fits size kept

-- the assertion of a head is written: its number is in the range, and it is not literally true
unfoldable pub wanted : Progress → Res Pred → Bool
wanted p d = has p.range p.seen && not (read_true d)

-- A head was passed: its parts are put if its assertion is not written, whatever is around it.
unfoldable pub Passes : Moved → Res Pred → Moved → Type 0
Passes f d m =
    wanted f.progress d ≡ false → (enc : Encoder) (fs : List ForAll) (b ls : List ℕ)
    → Puts (head_parts enc fs) d (writing f.progress b ls) (writing m.progress b ls) m.at

-- The assertion of a head was put behind what was written.
unfoldable pub Places : Encoder → List ForAll → Res Pred → Writing → Writing → ℕ → Type 0
Places enc fs d w w' at = Runs (λ v p. place v (assert_text enc fs p)) d w w' at

-- So it was under the ForAlls of which the numbers are kept, under those of which the text is kept, and under those of a path.
unfoldable pub MeasuredPlaces : Encoder → Kept → Res Pred → Writing → Writing → ℕ → Type 0
MeasuredPlaces enc kept d w w' at = (fs : List ForAll) → kept ≡ measured enc fs → Places enc fs d w w' at

unfoldable pub KeptPlaces : Encoder → List ℕ → Kept → Res Pred → Writing → Writing → ℕ → Type 0
KeptPlaces enc text kept d w w' at = (fs : List ForAll) → Keeps enc fs text kept → Places enc fs d w w' at

unfoldable pub PathPlaces : Encoder → Res (List ForAll) → Res Pred → Writing → Writing → ℕ → Type 0
PathPlaces enc path d w w' at = (fs : List ForAll) (q : ℕ) → path ≡ got fs q → Places enc fs d w w' at

-- The parts of a head under the ForAlls of which the text is kept were put.
unfoldable pub KeptPuts : Encoder → List ℕ → Kept → Res Pred → Writing → Writing → ℕ → Type 0
KeptPuts enc text kept d w w' at = (fs : List ForAll) → Keeps enc fs text kept → Puts (head_parts enc fs) d w w' at

-- Some constraints of a row were put, and n' of them are left: whoever puts those has put the row, under any ForAlls for which the condition holds.
unfoldable pub Onward : (List ForAll → Type 0) → Encoder → ℕ → List ℕ → ℕ → ℕ → Writing → ℕ → ℕ → Writing → Type 0
Onward holds enc l s n at w n' at' w' =
    (fs : List ForAll) → holds fs → (z : Writing) (t : ℕ)
    → Puts (member_parts enc fs) (many Constraints.none Constraints.more (dec_constraint l) n' s at') w' z t
    → Puts (member_parts enc fs) (many Constraints.none Constraints.more (dec_constraint l) n s at) w z t

-- So it was with heads under the ForAlls of which the text is kept.
abbrev pub HeadsPut : List ℕ → Encoder → List ℕ → ℕ → Row → Writing → Row → Writing → Type 0
HeadsPut s enc text l row w rest w' =
    Onward (λ fs. Keeps enc fs text row.from.kept) enc l s row.left row.from.moved.at w rest.left rest.from.moved.at w'
