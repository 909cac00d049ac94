-- The theorems about readings. Each is proved in proofs/ under the name that stands behind it.
use Rattle.std.specs.Prelude.{◌≡◌, List, [], ◌∷◌, ◌++◌, ℕ, suc, ◌^◌, ◌≤◌, ◌<◌, T, length, take}
use Prim.Native.Char.{code}
use Rattle.smtlib.specs.Lexicon.{visible, all, numeral}
use Rattle.smtlib.specs.Read.{Token, word, string, doubled, Spells, Sexps, end, atom, list, Command, Reading}
use Rattle.smtlib.specs.Cut.{IsOutside, closed}
use Rattle.smtlib.specs.Compose.{append, Says, Follows, Writes, paren, quotes, line, digits, decimal, value}

-- READINGS AND CUTS

-- The text has this reading and no other.
pub record OnlyReading (text : List ℕ) (cs : List Command) : Type 0 where
  pub reading : Reading text cs
  pub only : (ds : List Command) → Reading text ds → ds ≡ cs

-- Two readings of a text are equal. (proofs/Cut.antt: unique)
abbrev pub Unique : Type 0
Unique = (text : List ℕ) (cs ds : List Command) → Reading text cs → Reading text ds → cs ≡ ds

-- At every position outside a command the text so far is read as the commands that have closed. (proofs/Cut.antt: prefix)
abbrev pub Prefix : Type 0
Prefix = (text : List ℕ) (cs : List Command) → Reading text cs → (k : ℕ) → IsOutside text k → Reading (take k text) (take (closed text k) cs)

-- At the end all commands have closed. (proofs/Cut.antt: whole)
abbrev pub Whole : Type 0
Whole = (text : List ℕ) (cs : List Command) → Reading text cs → closed text (length text) ≡ length cs

-- What a reader who stops outside a command has read: the commands that have closed, and nothing else. The text's two ends are such
-- places, and at the end all commands have closed.
pub record ReadAtCuts (text : List ℕ) (cs : List Command) : Type 0 where
  pub cut : (k : ℕ) → k ≤ length text → IsOutside text k → OnlyReading (take k text) (take (closed text k) cs)
  pub first : IsOutside text 0
  pub last : IsOutside text (length text)
  pub complete : closed text (length text) ≡ length cs

-- The three together: demand 3 of every text that has a reading. (proofs/Cut.antt: cuts)
abbrev pub Cuts : Type 0
Cuts = (text : List ℕ) (cs : List Command) → Reading text cs → ReadAtCuts text cs

-- A WRITER'S TEXT, PART BY PART

-- How the parts of a text make up what it spells. (proofs/Compose.antt: composition)
pub record Composition : Type 0 where
  -- A token; nothing.
  pub says_token : {w : List ℕ} {k : Token} → Spells w k → Says w (atom k end)
  pub says_nothing : Says [] end
  -- A list is what it holds, in parentheses.
  pub says_list : {w : List ℕ} {xs : Sexps} → Says w xs → Says (paren w) (list xs end)
  -- A row of parts: the first, and what follows it, which is nothing, a space and a part, or a list with no space before it.
  pub says_row : {u v : List ℕ} {xs ys : Sexps} → Says u xs → Follows v ys → Says (u ++ v) (append xs ys)
  pub follows_nothing : Follows [] end
  pub follows_spaced : {u v : List ℕ} {xs ys : Sexps} → Says u xs → Follows v ys → Follows (code " " ∷ u ++ v) (append xs ys)
  pub follows_list : {u v : List ℕ} {xs ys : Sexps} → Says u xs → Follows v ys → Follows (paren u ++ v) (list xs ys)
  -- The lines of a script: none, or some and more; a command, a blank line, or a comment of printable bytes.
  pub writes_nothing : Writes [] []
  pub writes_more : {u v : List ℕ} {cs ds : List Command} → Writes u cs → Writes v ds → Writes (u ++ v) (cs ++ ds)
  pub writes_command : {w : List ℕ} {xs : Sexps} → Says w xs → Writes (line (paren w)) (xs ∷ [])
  pub writes_blank : Writes (line []) []
  pub writes_comment : (c : List ℕ) → T (all visible c) → Writes (line (code ";" ∷ c)) []
  -- A text that writes commands is read as them.
  pub written_read : {w : List ℕ} {cs : List Command} → Writes w cs → Reading w cs

-- A string of printable bytes is written with each `"` twice, in quotation marks. (proofs/Compose.antt: string_spells)
abbrev pub StringSpells : Type 0
StringSpells = (s : List ℕ) → T (all visible s) → Spells (quotes (doubled s)) (string s)

-- The decimal of a number is a numeral. (proofs/Decimal.antt: decimal_spells)
abbrev pub DecimalSpells : Type 0
DecimalSpells = (n : ℕ) → Spells (decimal n) (word numeral (decimal n))

-- For a number of at most f + 1 digits, f + 1 places are enough. (proofs/Decimal.antt: decimal_digits)
abbrev pub DecimalDigits : Type 0
DecimalDigits = (f n : ℕ) → n < 10 ^ suc f → decimal n ≡ digits (suc f) n

-- The decimal of a number means that number: its digits, read back, give it. (proofs/Decimal.antt: decimal_means)
abbrev pub DecimalMeans : Type 0
DecimalMeans = (n : ℕ) → value 0 (decimal n) ≡ n
