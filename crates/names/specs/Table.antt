-- The words of a symbol table, over the bytes s of a file: which entries they hold, and when the buckets' chains are right. Word 0 is left
-- for options, word 1 is the number of entries, the next 1024 are the heads of the buckets, and three belong to each entry.
use Rattle.std.specs.Prelude.{◌≡◌, Option, Some, None, Bool, cond, ◌&&◌, List, [], ◌∷◌, ◌++◌, ℕ, zero, suc, ◌+◌, ◌*◌, ◌%◌, ◌≤◌, ◌<◌, leb, ltb, eqb, length, get_or, take, drop}
use Rattle.smtlib.specs.Lexicon.{same}
use Rattle.names.specs.declared.Kind.{Kind}
use Rattle.names.specs.declared.Kind.TheVariants.{Datatype, KVar, Constructor, Field, Constant, Function, Bound, Occurrence}

-- a kind as it stands in the table
abbrev pub number_of : Kind → ℕ
number_of Datatype = 0
number_of KVar = 1
number_of Constructor = 2
number_of Field = 3
number_of Constant = 4
number_of Function = 5
number_of Bound = 6
number_of Occurrence = 7

-- the name at a place: a length byte, and that many bytes
unfoldable pub name_at : List ℕ → ℕ → List ℕ
name_at s at = take (get_or s at 0) (drop (at + 1) s)

-- a whole name stands there
pub record Named (s : List ℕ) (at : ℕ) : Type 0 where
  pub within : at + get_or s at 0 < length s

-- so it does, and a word has room for the place
unfoldable pub has_name : List ℕ → ℕ → Bool
has_name s at = ltb at 65536 && ltb (at + get_or s at 0) (length s)

-- the bucket of a name
unfoldable pub hash_from : ℕ → List ℕ → ℕ
hash_from h [] = h
hash_from h (b ∷ w) = hash_from ((31 * h + b) % 1024) w

unfoldable pub hash_of : List ℕ → ℕ
hash_of w = hash_from 0 w

-- the number of entries
abbrev pub count_of : List ℕ → ℕ
count_of t = get_or t 1 0

-- the head of a bucket
abbrev pub head_of : List ℕ → ℕ → ℕ
head_of t h = get_or t (2 + h) 0

-- the words of entry k
abbrev pub next_of : List ℕ → ℕ → ℕ
next_of t k = get_or t (1026 + 3 * k) 0

abbrev pub offset_of : List ℕ → ℕ → ℕ
offset_of t k = get_or t (1026 + 3 * k + 1) 0

abbrev pub kind_of : List ℕ → ℕ → ℕ
kind_of t k = get_or t (1026 + 3 * k + 2) 0

-- what an entry stands for
pub record Symbol : Type 0 where
  pub kind : ℕ
  pub name : List ℕ

abbrev pub symbol : ℕ → List ℕ → Symbol
symbol c w = record { kind = c; name = w }

unfoldable pub symbol_of : List ℕ → List ℕ → ℕ → Symbol
symbol_of s t k = symbol (kind_of t k) (name_at s (offset_of t k))

-- the first n entries, in order of number
unfoldable pub first_entries : List ℕ → List ℕ → ℕ → List Symbol
first_entries s t zero = []
first_entries s t (suc n) = first_entries s t n ++ (symbol_of s t n ∷ [])

-- all entries
abbrev pub entries : List ℕ → List ℕ → List Symbol
entries s t = first_entries s t (count_of t)

abbrev pub or_else : Option ℕ → Option ℕ → Option ℕ
or_else (Some k) f = Some k
or_else None f = f

-- the last symbol of a list that passes the test, where the first has the number i
unfoldable pub last_from : (Symbol → Bool) → ℕ → List Symbol → Option ℕ
last_from p i [] = None
last_from p i (e ∷ es) = or_else (last_from p (suc i) es) (cond (p e) (Some i) None)

abbrev pub last_of : (Symbol → Bool) → List Symbol → Option ℕ
last_of p es = last_from p 0 es

-- a kind is in the range
abbrev pub in_range : ℕ → ℕ → ℕ → Bool
in_range lowest highest kind = leb lowest kind && leb kind highest

-- a symbol has the name, and a kind in the range
unfoldable pub fits : List ℕ → ℕ → ℕ → Symbol → Bool
fits name lowest highest e = in_range lowest highest e.kind && same name e.name

-- the names of the symbols whose kind is in the range, in order
unfoldable pub names_of : ℕ → ℕ → List Symbol → List (List ℕ)
names_of lowest highest [] = []
names_of lowest highest (e ∷ es) = cond (in_range lowest highest e.kind) (e.name ∷ names_of lowest highest es) (names_of lowest highest es)

-- a symbol is of the bucket
unfoldable pub in_bucket : ℕ → Symbol → Bool
in_bucket h e = eqb (hash_of e.name) h

-- the word for an entry of a chain, or for its end
abbrev pub link : Option ℕ → ℕ
link (Some k) = suc k
link None = 0

-- The table has n entries, their names stand in s, and each chain's word names the last entry of the bucket below it.
pub record Chains (s t : List ℕ) (n : ℕ) : Type 0 where
  pub room : 1026 + 3 * n ≤ length t
  pub names : (k : ℕ) → k < n → Named s (offset_of t k)
  pub heads : (h : ℕ) → h < 1024 → head_of t h ≡ link (last_of (in_bucket h) (first_entries s t n))
  pub nexts : (k : ℕ) → k < n → next_of t k ≡ link (last_of (in_bucket (hash_of (name_at s (offset_of t k)))) (first_entries s t k))

-- A table that can be searched.
abbrev pub Chained : List ℕ → List ℕ → Type 0
Chained s t = Chains s t (count_of t)

-- a table of that many words has room for entry n
unfoldable pub room_for : ℕ → ℕ → Bool
room_for words n = ltb n 65535 && leb (1026 + 3 * n + 3) words

-- one symbol more, if a table of that many words has room for it
unfoldable pub add : ℕ → List Symbol → Symbol → List Symbol
add words es e = cond (room_for words (length es)) (es ++ (e ∷ [])) es
