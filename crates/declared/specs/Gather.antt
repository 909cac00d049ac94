-- What the walk over the declarations puts into a table.
use Rattle.std.specs.Prelude.{◌≡◌, true, cond, List, [], ◌∷◌, ◌++◌, ℕ, ◌+◌, ◌*◌, ◌≤◌, length, take}
use Rattle.std.proofs.Math.Option.{Option, some}
use Rattle.smtlib.specs.Lexicon.{same, is_one}
use Rattle.task.specs.Ast.{KVarDecl, Task}
use Rattle.task.specs.Decode.{Res, got, Decoder, give, refusal, ◌▹◌, datatype, constant, section}
use Rattle.task.specs.Fault.{sorts_number}
use Rattle.task.specs.Run.{Runs}
use Rattle.task.specs.Scope.{arity_of}
use Rattle.task.specs.Task.{framed, decoded}
use Rattle.item_check.specs.declared.Section.{Section}
use Rattle.item_check.specs.declared.Section.TheVariants.{Comments, Datatypes, Constants, Functions, KVars}
use Rattle.trailer.specs.declared.Bounds.{Bounds}
use Rattle.trailer.specs.Bounds.{bounds_of}
use Rattle.names.specs.declared.Kind.TheVariants.{KVar, Constant}
use Rattle.names.specs.Table.{number_of, Symbol, symbol, entries, names_of, Chained, room_for, add}
use Rattle.names.specs.Change.{Kept}
use Rattle.names.specs.declared.table.Table.{Table}
use Rattle.names.specs.Same.{Same}
use Rattle.declared.specs.Symbols.{together, named, datatype_symbols, data_symbols, kvars_symbols}
use Rattle.declared.specs.Arity.{arity_in}

-- SYMBOLS

-- symbols are added one by one, as long as a table of that many words has room
unfoldable pub adds : ℕ → List Symbol → List Symbol → List Symbol
adds words es [] = es
adds words es (e ∷ rest) = adds words (add words es e) rest

-- t became u. It can be searched; and where a piece was decoded, the walker ended behind it and the piece's symbols were added.
pub record Collects {A : Type 0} (symbols : A → List Symbol) (d : Res A) (s t u : List ℕ) (at : ℕ) : Type 0 where
  pub chained : Chained s u
  pub kept : Kept t u
  pub words : length u ≡ length t
  pub runs : Runs (λ es a. adds (length t) es (symbols a)) d (entries s t) (entries s u) at

-- So it is of a table over its own file, in the same lent words, where the piece stands at a position.
abbrev pub Collected : {A : Type 0} → (A → List Symbol) → Decoder A → ℕ → Table → Table → ℕ → Type 0
Collected symbols d at t u p = Collects symbols (d t.file.now at) t.file.now t.words.now u.words.now p × Same t u

-- the symbols of a datatype or a constant, by the section that it stands in; another item has none
unfoldable pub item_symbols : Section → Decoder (List Symbol)
item_symbols Comments = refusal 2
item_symbols Datatypes = datatype ▹ λ d. give (datatype_symbols d)
item_symbols Constants = constant ▹ λ b. give (named Constant b)
item_symbols Functions = refusal 2
item_symbols KVars = refusal 2

-- symbols as they are
abbrev pub themselves : List Symbol → List Symbol
themselves es = es

-- t became u. It can be searched; and where a section was decoded, what t holds became what u holds, by what its items add to it.
pub record Sweeps {A W : Type 0} (held : List ℕ → W) (all : ℕ → W → List A → W) (d : Decoder A) (file : List ℕ) (at end : ℕ) (t u : List ℕ) : Type 0 where
  pub chained : Chained file u
  pub words : length u ≡ length t
  pub are : (xs : List A) (q : ℕ) → section d (take end file) at ≡ got xs q → held u ≡ all (length t) (held t) xs

-- the symbols of items, one item after another
abbrev pub adds_all : ℕ → List Symbol → List (List Symbol) → List Symbol
adds_all words es xs = adds words es (together xs)

-- the symbols of a section's items were added
abbrev pub Gathers : List ℕ → Section → ℕ → ℕ → List ℕ → List ℕ → Type 0
Gathers file i at end t u = Sweeps (entries file) adds_all (item_symbols i) file at end t u

-- KVARS

-- what a table holds for a walk over KVars: its symbols, and how many sorts the KVars among them have
pub record Holding : Type 0 where
  pub symbols : List Symbol
  pub arity : List ℕ → Option ℕ

-- what a table of names over a file holds
abbrev pub holding : List ℕ → List ℕ → Holding
holding s t = record { symbols = entries s t; arity = arity_in s t }

-- a KVar more
unfoldable pub with_kvar : Holding → KVarDecl → Holding
with_kvar w k = record {
  symbols = w.symbols ++ (symbol (number_of KVar) k.kvid ∷ []);
  arity = λ x. cond (same x k.kvid) (some (sorts_number k.sorts)) (w.arity x);
}

-- so it is if there is none with its name yet, and a table of that many words has room
unfoldable pub add_kvar : ℕ → Holding → KVarDecl → Holding
add_kvar words w k = cond (is_one k.kvid (names_of 1 1 w.symbols)) w (cond (room_for words (length w.symbols)) (with_kvar w k) w)

-- KVars, one after another
unfoldable pub add_kvars : ℕ → Holding → List KVarDecl → Holding
add_kvars words w [] = w
add_kvars words w (k ∷ ks) = add_kvars words (add_kvar words w k) ks

-- t became u. It can be searched; and where a KVar was decoded, the walker ended behind it and the KVar was added.
pub record AddsKVar (d : Res KVarDecl) (s t u : List ℕ) (at : ℕ) : Type 0 where
  pub chained : Chained s u
  pub words : length u ≡ length t
  pub runs : Runs (add_kvar (length t)) d (holding s t) (holding s u) at

-- THE FILE

-- The table can be searched; and where the file decodes, and b is where its sections are, the entries are its datatypes and constants, and
-- three bytes before the functions belong to each.
pub record Declared (file : List ℕ) (b : Bounds) (t u : List ℕ) : Type 0 where
  pub chained : Chained file u
  pub words : length u ≡ length t
  pub are : (task : Task) (end : ℕ) → framed file ≡ true → decoded file ≡ got task end → b ≡ bounds_of file
      → (entries file u ≡ data_symbols task) × (3 * length (entries file u) ≤ b.functions)

-- The table can be searched. Where the file decodes, b is where its sections are, and the table had room and no KVars: the KVars were added,
-- it can be asked how many sorts they have, and three bytes before the constraint belong to each entry.
pub record KVarsDeclared (file : List ℕ) (b : Bounds) (t u : List ℕ) : Type 0 where
  pub chained : Chained file u
  pub words : length u ≡ length t
  pub are : (task : Task) (end : ℕ) → framed file ≡ true → decoded file ≡ got task end → b ≡ bounds_of file
      → names_of 1 1 (entries file t) ≡ [] → 3 * length (entries file t) ≤ b.kvars → 1026 + length file ≤ length t
      → (entries file u ≡ entries file t ++ kvars_symbols [] task.kvars) × (arity_in file u ≡ arity_of task.kvars) × (3 * length (entries file u) ≤ b.constraint)
