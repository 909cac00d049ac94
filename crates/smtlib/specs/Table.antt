-- How the code lays out its tables. Contracts of inner functions and proofs cite this, and no claim about words or readings rests on it.
use Rattle.std.specs.Prelude.{Bool, false, cond, ◌||◌, List, [], ◌∷◌, ◌++◌, ℕ, zero, suc, length}
use Prim.Native.Char.{code}
use Rattle.smtlib.specs.Lexicon.{same, symbol_byte}

-- The values of f at n numbers from i on.
abbrev pub values : (ℕ → ℕ) → ℕ → ℕ → List ℕ
values f i zero = []
values f i (suc n) = f i ∷ values f (suc i) n

-- The bytes of symbols below 128, each at its own place, and a space at every other place.
abbrev pub symbol_place : ℕ → ℕ
symbol_place b = cond (symbol_byte b) b (code " ")

unfoldable pub symbol_places : List ℕ
symbol_places = values symbol_place 0 128

-- The pieces of n bytes in a row that has one byte behind each of them: k more bytes belong to the piece that begins with w.
abbrev pub pieces : ℕ → ℕ → List ℕ → List ℕ → List (List ℕ)
pieces n k w [] = []
pieces n zero w (b ∷ r) = w ∷ pieces n n [] r
pieces n (suc k) w (b ∷ r) = pieces n k (w ++ (b ∷ [])) r

-- A word is one of the words listed.
abbrev pub one_of : List ℕ → List (List ℕ) → Bool
one_of w [] = false
one_of w (v ∷ vs) = same w v || one_of w vs

-- A word is one of the pieces of its length in a row.
abbrev pub in_row : List ℕ → List ℕ → Bool
in_row w r = one_of w (pieces (length w) (length w) [] r)
