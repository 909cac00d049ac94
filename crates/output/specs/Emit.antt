-- A buffer with a count of what was sent to it: a byte that has no room is counted and not stored. The count stops at the largest
-- number of 64 bits.
use Rattle.std.specs.Prelude.{ℕ, ◌+◌, ◌-◌, ◌^◌, ◌≤◌, min, ◌≡◌, List, [], ◌∷◌, length, set}
use Rattle.std.proofs.lemmas.List.Edits.{sets}
use Rattle.task.specs.Decode.{Res}
use Rattle.task.specs.Run.{Runs}

-- what stands in a buffer, and how many bytes were sent to it
pub record Output : Type 0 where
  pub buf : List ℕ
  pub len : ℕ

abbrev pub output : List ℕ → ℕ → Output
output b n = record { buf = b; len = n }

-- the largest count
abbrev pub most : ℕ
most = 2 ^ 64 - 1

-- a byte is sent; setting a place behind the buffer's end changes nothing
unfoldable pub emit : Output → ℕ → Output
emit o b = output (set o.buf o.len b) (min (o.len + 1) most)

-- bytes are sent one by one
unfoldable pub emits : Output → List ℕ → Output
emits o [] = o
emits o (b ∷ bs) = emits (emit o b) bs

-- a writer runs a piece by sending its text
unfoldable pub Sends : {A : Type 0} → (A → List ℕ) → Res A → Output → Output → ℕ → Type 0
Sends text d o o' at = Runs (λ w a. emits w (text a)) d o o' at

-- What was sent to an empty count stands at the buffer's start as far as there is room, and the count is its length. (proofs/Sent.antt: laid)
abbrev pub Laid : Type 0
Laid = (text before : List ℕ) → length before ≤ most → length text ≤ most → emits (output before 0) text ≡ output (sets before 0 text) (length text)
