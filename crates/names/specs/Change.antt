-- What push and pop leave behind.
use Rattle.std.specs.Prelude.{◌≡◌, cond, List, ℕ, ◌-◌, ◌≤◌, ◌<◌, length, get_or, take}
use Rattle.names.specs.Table.{name_at, has_name, count_of, head_of, offset_of, symbol, entries, Chained, add}

-- a table without entries, whatever the file
pub record Blank (t : List ℕ) : Type 0 where
  pub room : 1026 ≤ length t
  pub count : count_of t ≡ 0
  pub heads : (h : ℕ) → h < 1024 → head_of t h ≡ 0

-- u has the entries of t at their places, and perhaps more
pub record Kept (t u : List ℕ) : Type 0 where
  pub more : count_of t ≤ count_of u
  pub places : (k : ℕ) → k < count_of t → offset_of u k ≡ offset_of t k

-- t became u: the entries of t, and one more if a name stands at the place and there is room
pub record Pushed (s t : List ℕ) (offset kind : ℕ) (u : List ℕ) : Type 0 where
  pub chained : Chained s u
  pub are : entries s u ≡ cond (has_name s offset) (add (length t) (entries s t) (symbol kind (name_at s offset))) (entries s t)
  pub kept : Kept t u
  pub place : count_of t < count_of u → offset_of u (count_of t) ≡ offset
  pub words : length u ≡ length t
  pub options : get_or u 0 0 ≡ get_or t 0 0

-- t became u: all entries of t but the last n
pub record Popped (s t : List ℕ) (n : ℕ) (u : List ℕ) : Type 0 where
  pub chained : Chained s u
  pub are : entries s u ≡ take (length (entries s t) - n) (entries s t)
  pub kept : Kept u t
  pub words : length u ≡ length t
  pub options : get_or u 0 0 ≡ get_or t 0 0

-- t became u: the same entries at the same places
pub record Restored (s t u : List ℕ) : Type 0 where
  pub chained : Chained s u
  pub are : entries s u ≡ entries s t
  pub kept : Kept t u
  pub words : length u ≡ length t
