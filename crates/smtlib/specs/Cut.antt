-- Where a text may be cut, and how many commands have closed there: one pass over the bytes, which knows no tokens.
use Rattle.std.specs.Prelude.{◌≡◌, cond, List, [], ◌∷◌, ℕ, zero, suc, eqb, take}
use Prim.Native.Char.{code}
use Rattle.smtlib.specs.Lexicon.{Class, blank, semicolon, left_paren, right_paren, quote, bar, plain, class}

-- What is open besides parentheses: nothing, a comment, a string, or a quoted symbol.
pub data Mode : Type 0 where
  in_code in_comment in_string in_quoted : Mode

-- What is open, how many parentheses are open, and how many commands have closed.
pub data Scan : Type 0 where
  at : Mode → ℕ → ℕ → Scan

-- A byte where only parentheses are open. Rule 6: a command has closed behind its last parenthesis, the one that leaves none open.
abbrev pub meet : Class → ℕ → ℕ → Scan
meet blank d n = at in_code d n
meet semicolon d n = at in_comment d n
meet left_paren d n = at in_code (suc d) n
meet right_paren zero n = at in_code zero n
meet right_paren (suc zero) n = at in_code zero (suc n)
meet right_paren (suc (suc d)) n = at in_code (suc d) n
meet quote d n = at in_string d n
meet bar d n = at in_quoted d n
meet plain d n = at in_code d n

-- Any byte. (A `"` written twice in a string closes it and opens it again.)
abbrev pub step : Scan → ℕ → Scan
step (at in_code d n) b = meet (class b) d n
step (at in_comment d n) b = at (cond (eqb b (code "\n")) in_code in_comment) d n
step (at in_string d n) b = at (cond (eqb b (code "\"")) in_code in_string) d n
step (at in_quoted d n) b = at (cond (eqb b (code "|")) in_code in_quoted) d n

-- The bytes of a text, one after the other.
abbrev pub scan : Scan → List ℕ → Scan
scan s [] = s
scan s (b ∷ t) = scan (step s b) t

-- Behind the first k bytes.
abbrev pub scanned : List ℕ → ℕ → Scan
scanned text k = scan (at in_code zero zero) (take k text)

-- The parentheses that are open there, and the commands that have closed.
abbrev pub depth : Scan → ℕ
depth (at m d n) = d

abbrev pub commands : Scan → ℕ
commands (at m d n) = n

-- Rule 7: a text may be cut at any position where no parenthesis is open. Those in comments, strings and quoted symbols do not count.
abbrev pub IsOutside : List ℕ → ℕ → Type 0
IsOutside text k = depth (scanned text k) ≡ zero

-- How many commands have closed before position k.
abbrev pub closed : List ℕ → ℕ → ℕ
closed text k = commands (scanned text k)
