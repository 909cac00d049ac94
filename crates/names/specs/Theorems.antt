-- What follows of searches and of changes. Each is proved in proofs/Theorems.antt.
use Rattle.std.specs.Prelude.{◌≡◌, Option, Some, None, Bool, true, false, List, [], ◌∷◌, ℕ, ◌≤◌, ◌<◌, length, replicate, set}
use Rattle.smtlib.specs.Lexicon.{is_one}
use Rattle.names.specs.Table.{has_name, Symbol, symbol, symbol_of, entries, count_of, last_of, fits, names_of, Chained, room_for}
use Rattle.names.specs.Change.{Blank, Pushed, Popped, Restored}

-- a symbol has the name, and a kind in the range
pub record Fits (name : List ℕ) (lowest highest : ℕ) (e : Symbol) : Type 0 where
  pub low : lowest ≤ e.kind
  pub high : e.kind ≤ highest
  pub named : e.name ≡ name

-- A search answers None exactly if no entry fits. Else it answers with an entry that fits, and no later one does. (searches)
pub record Searches (s t : List ℕ) (name : List ℕ) (lowest highest : ℕ) : Type 0 where
  pub nothing_none : last_of (fits name lowest highest) (entries s t) ≡ None → (k : ℕ) → k < count_of t → Fits name lowest highest (symbol_of s t k) → ⊥
  pub none_nothing : ((k : ℕ) → k < count_of t → Fits name lowest highest (symbol_of s t k) → ⊥) → last_of (fits name lowest highest) (entries s t) ≡ None
  pub entry_below : (k : ℕ) → last_of (fits name lowest highest) (entries s t) ≡ Some k → k < count_of t
  pub entry_fits : (k : ℕ) → last_of (fits name lowest highest) (entries s t) ≡ Some k → Fits name lowest highest (symbol_of s t k)
  pub entry_last : (k : ℕ) → last_of (fits name lowest highest) (entries s t) ≡ Some k → (j : ℕ) → k < j → j < count_of t → Fits name lowest highest (symbol_of s t j) → ⊥

-- a constant and a bound name with one name
abbrev pub two : List Symbol
two = symbol 4 (120 ∷ []) ∷ symbol 6 (120 ∷ []) ∷ []

-- Of two entries with one name the later is found, and one whose kind is not in the range is none. (ranges)
pub record Ranges : Type 0 where
  pub later : last_of (fits (120 ∷ []) 0 7) two ≡ Some 1
  pub earlier : last_of (fits (120 ∷ []) 0 5) two ≡ Some 0
  pub lowest : last_of (fits (120 ∷ []) 6 7) two ≡ Some 1
  pub above : last_of (fits (120 ∷ []) 0 3) two ≡ None
  pub below : last_of (fits (120 ∷ []) 7 7) two ≡ None
  pub other : last_of (fits (121 ∷ []) 0 7) two ≡ None

-- a search found an entry
abbrev pub is_found : Option ℕ → Bool
is_found (Some k) = true
is_found None = false

-- It finds an entry exactly if the name is one of the names of the kinds in the range. (members)
abbrev pub Members : Type 0
Members = (name : List ℕ) (lowest highest : ℕ) (es : List Symbol) → is_found (last_of (fits name lowest highest) es) ≡ is_one name (names_of lowest highest es)

-- Zeros are a blank table. A blank table can be searched and has no entries. A push, what leaves the entries alone, and a pop leave the entries
-- alone; so does a change of the options. (changes)
pub record Changes : Type 0 where
  pub zeros : (n : ℕ) → 1026 ≤ n → Blank (replicate n 0)
  pub blank : (s t : List ℕ) → Blank t → Chained s t
  pub none : (s t : List ℕ) → Blank t → entries s t ≡ []
  pub push_pop : (s t : List ℕ) (offset kind : ℕ) (u v w : List ℕ) → has_name s offset ≡ true → room_for (length t) (length (entries s t)) ≡ true → Pushed s t offset kind u
      → Restored s u v → Popped s v 1 w → Restored s t w
  pub options : (s t : List ℕ) (word : ℕ) → Chained s t → Chained s (set t 0 word)
  pub options_entries : (s t : List ℕ) (word : ℕ) → entries s (set t 0 word) ≡ entries s t
