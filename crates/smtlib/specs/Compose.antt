-- What a part of a text spells, whatever stands behind it: how a writer's text is taken apart.
use Rattle.std.specs.Prelude.{cond, List, [], ◌∷◌, ◌++◌, ℕ, zero, suc, ◌+◌, ◌-◌, ◌*◌, ◌/◌, ◌%◌, ltb}
use Prim.Native.Char.{code}
use Rattle.smtlib.specs.Read.{Item, Parted, Lexes, Sexps, end, atom, list, items, Command, Reading}

-- One row of S-expressions behind another.
abbrev pub append : Sexps → Sexps → Sexps
append end ys = ys
append (atom k xs) ys = atom k (append xs ys)
append (list us xs) ys = list us (append xs ys)

-- `Says w xs`: before anything that may stand behind a token, w is these S-expressions.
pub record Says (w : List ℕ) (xs : Sexps) : Type 0 where
  pub says : (t : List ℕ) (is : List Item) → Parted t → Lexes t is → Lexes (w ++ t) (items xs is)

-- `Follows w xs`: the same, and w itself may stand behind a token.
pub record Follows (w : List ℕ) (xs : Sexps) : Type 0 where
  pub parted : (t : List ℕ) → Parted t → Parted (w ++ t)
  pub follows : (t : List ℕ) (is : List Item) → Parted t → Lexes t is → Lexes (w ++ t) (items xs is)

-- `Writes w cs`: before any script, w is these commands.
pub record Writes (w : List ℕ) (cs : List Command) : Type 0 where
  pub writes : (t : List ℕ) (ds : List Command) → Reading t ds → Reading (w ++ t) (cs ++ ds)

-- w in parentheses
abbrev pub paren : List ℕ → List ℕ
paren w = code "(" ∷ w ++ (code ")" ∷ [])

-- w in quotation marks
abbrev pub quotes : List ℕ → List ℕ
quotes w = code "\"" ∷ w ++ (code "\"" ∷ [])

-- w and a line feed
abbrev pub line : List ℕ → List ℕ
line w = w ++ (code "\n" ∷ [])

-- The decimal digits of n, the last f of them at the most.
abbrev pub digits : ℕ → ℕ → List ℕ
digits zero n = []
digits (suc f) n = cond (ltb n 10) ((code "0" + n) ∷ []) (digits f (n / 10) ++ ((code "0" + n % 10) ∷ []))

-- The decimal of n, without leading zeros: n has at most n + 1 digits.
unfoldable pub decimal : ℕ → List ℕ
decimal n = digits (suc n) n

-- The number that decimal digits stand for, behind the number read so far.
abbrev pub value : ℕ → List ℕ → ℕ
value n [] = n
value n (b ∷ w) = value (10 * n + (b - code "0")) w
