-- W-202. What is kept of the ForAlls around a place: how long the text of their binders is and that of their guards, and how many guards there
-- are; and in a lent text these texts themselves, as far as there is room.
use Rattle.std.specs.Prelude.{ℕ, ◌+◌, ◌-◌, ◌/◌, ◌≤◌, Bool, ◌&&◌, List, [], ◌∷◌, ◌≡◌, leb, length, take, drop}
use Rattle.std.proofs.lemmas.List.Edits.{sets}
use Rattle.task.specs.Ast.{Pred}
use Rattle.task.specs.Decode.{Res, got}
use Rattle.smt_text.specs.Encoder.{Encoder}
use Rattle.horn_text.specs.Clauses.{ForAll, guards_of}
use Rattle.output.specs.Emit.{Output, output, Sends}
use Rattle.assertion.specs.declared.Kept as code
use Rattle.assertion.specs.Under.{for_all_at, on_path, vars_text, guards_text, assert_text}

-- THE THREE NUMBERS

-- the binders and the guards of ForAlls measured afresh
abbrev pub measured : Encoder → List ForAll → code.Kept
measured enc fs = record { vars = length (vars_text enc fs); guards = length (guards_text enc fs); count = length (guards_of fs) }

-- going down, what a ForAll has is added
abbrev pub plus : code.Kept → code.Kept → code.Kept
plus k own = record { vars = k.vars + own.vars; guards = k.guards + own.guards; count = k.count + own.count }

-- coming up, it is taken back
abbrev pub minus : code.Kept → code.Kept → code.Kept
minus k own = record { vars = k.vars - own.vars; guards = k.guards - own.guards; count = k.count - own.count }

-- none of the numbers is larger than that of another
pub record Within (k k' : code.Kept) : Type 0 where
  pub vars_within : k.vars ≤ k'.vars
  pub guards_within : k.guards ≤ k'.guards
  pub count_within : k.count ≤ k'.count

-- THE TEXT

-- the half for binders, and that for guards
abbrev pub vars_half : List ℕ → List ℕ
vars_half text = take (length text / 2) text

abbrev pub guards_half : List ℕ → List ℕ
guards_half text = drop (length text / 2) text

-- both halves of a text of such a size have room for what is kept
abbrev pub fits : ℕ → code.Kept → Bool
fits size k = leb k.vars (size / 2) && leb k.guards (size - size / 2)

-- what is kept of the binders, and of the guards
abbrev pub vars_in : List ℕ → code.Kept → List ℕ
vars_in text k = take k.vars (vars_half text)

abbrev pub guards_in : List ℕ → code.Kept → List ℕ
guards_in text k = take k.guards (guards_half text)

-- a half begins with a text for which it has room
abbrev pub Begins : List ℕ → List ℕ → Type 0
Begins half t = length t ≤ length half → take (length t) half ≡ t

-- What is kept of ForAlls. The numbers are equal to those of the ForAlls' binders and guards measured afresh, whatever their size.
pub record Keeps (enc : Encoder) (fs : List ForAll) (text : List ℕ) (kept : code.Kept) : Type 0 where
  pub measures : kept ≡ measured enc fs
  pub vars : Begins (vars_half text) (vars_text enc fs)
  pub guards : Begins (guards_half text) (guards_text enc fs)

-- The kept bytes are the same before and after.
pub record Stays (kept : code.Kept) (text text' : List ℕ) : Type 0 where
  pub size : length text' ≡ length text
  pub same_vars : vars_in text' kept ≡ vars_in text kept
  pub same_guards : guards_in text' kept ≡ guards_in text kept

-- Where a ForAll stands at an offset, a text of it was measured, and put behind the first n bytes of a half as far as there was room.
unfoldable pub Stores : (ForAll → List ℕ) → Res ForAll → ℕ → List ℕ → List ℕ → ℕ → Type 0
Stores text d n half half' r = (f : ForAll) (p : ℕ) → d ≡ got f p → (r ≡ length (text f)) × (half' ≡ sets half n (text f))

-- Its guards were counted.
unfoldable pub Counts : Res ForAll → ℕ → Type 0
Counts d r = (f : ForAll) (p : ℕ) → d ≡ got f p → r ≡ length (guards_of (f ∷ []))

-- All that it has was measured and put behind what is kept.
pub record Extended (enc : Encoder) (f : ForAll) (kept : code.Kept) (text text' : List ℕ) (own : code.Kept) : Type 0 where
  pub measures : own ≡ measured enc (f ∷ [])
  pub size : length text' ≡ length text
  pub vars : vars_half text' ≡ sets (vars_half text) kept.vars (vars_text enc (f ∷ []))
  pub guards : guards_half text' ≡ sets (guards_half text) kept.guards (guards_text enc (f ∷ []))

-- So it was with the ForAll at an offset, where one stands there.
unfoldable pub Extends : List ℕ → Encoder → ℕ → code.Kept → List ℕ → List ℕ → code.Kept → Type 0
Extends s enc at kept text text' own = (f : ForAll) (p : ℕ) → for_all_at s at ≡ got f p → Extended enc f kept text text' own

-- HEADS

-- So many guards has a path.
unfoldable pub Numbers : List ℕ → List ℕ → ℕ → Type 0
Numbers s path n = (fs : List ForAll) (q : ℕ) → on_path s path ≡ got fs q → n ≡ length (guards_of fs)

-- The assertion of a head under the ForAlls of which the numbers are kept was measured.
unfoldable pub MeasuredSends : Encoder → code.Kept → Res Pred → ℕ → ℕ → Type 0
MeasuredSends enc kept d len at = (fs : List ForAll) → kept ≡ measured enc fs → Sends (assert_text enc fs) d (output [] 0) (output [] len) at

-- That under the ForAlls of which the text is kept was sent.
unfoldable pub KeptSends : Encoder → List ℕ → code.Kept → Res Pred → Output → Output → ℕ → Type 0
KeptSends enc text kept d o o' at = (fs : List ForAll) → Keeps enc fs text kept → Sends (assert_text enc fs) d o o' at
