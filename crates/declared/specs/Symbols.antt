-- The names that a task declares, each with its kind, in the order of the file.
use Rattle.std.specs.Prelude.{List, [], ◌∷◌, ◌++◌, map, ℕ, ◌≡◌, true, false, cond}
use Rattle.std.proofs.Math.Option.{none}
use Rattle.smtlib.specs.Lexicon.{bytes, is_one}
use Rattle.task.specs.Ast.{Sort, Sorts, Binder, Constraint, Constraints, DataCtor, DataDecl, FunDef, KVarDecl, Task}
use Rattle.task.specs.Scope as scope
use Rattle.names.specs.declared.Kind.{Kind}
use Rattle.names.specs.declared.Kind.TheVariants.{Datatype, KVar, Constructor, Field, Constant, Function}
use Rattle.names.specs.Table.{number_of, Symbol, symbol, names_of}

-- a name of a kind, and nothing else
abbrev pub alone : Kind → List ℕ → List Symbol
alone kind x = symbol (number_of kind) x ∷ []

-- symbols of pieces in a row
abbrev pub together : List (List Symbol) → List Symbol
together [] = []
together (es ∷ rest) = es ++ together rest

-- a name with its sort
abbrev pub named : Kind → Binder → List Symbol
named kind b = alone kind b.name

-- pieces in a row, by the symbols of each
abbrev pub row_symbols : {A : Type 0} → (A → List Symbol) → List A → List Symbol
row_symbols symbols xs = together (map symbols xs)

-- fields
abbrev pub field_symbols : List Binder → List Symbol
field_symbols fs = row_symbols (named Field) fs

-- a constructor: its name, and its fields
abbrev pub ctor_symbols : DataCtor → List Symbol
ctor_symbols c = alone Constructor c.name ++ field_symbols c.fields

-- constructors
abbrev pub ctors_symbols : List DataCtor → List Symbol
ctors_symbols cs = together (map ctor_symbols cs)

-- a datatype: its name, and its constructors
abbrev pub datatype_symbols : DataDecl → List Symbol
datatype_symbols d = alone Datatype d.name ++ ctors_symbols d.ctors

-- a function: its name
abbrev pub function_symbols : FunDef → List Symbol
function_symbols f = alone Function f.name

-- datatypes and constants
unfoldable pub data_symbols : Task → List Symbol
data_symbols t = together (map datatype_symbols t.datatypes) ++ together (map (named Constant) t.constants)

-- KVars, given the names of those before them: of two with one name the first
unfoldable pub kvars_symbols : List (List ℕ) → List KVarDecl → List Symbol
kvars_symbols seen [] = []
kvars_symbols seen (k ∷ ks) = cond (is_one k.kvid seen) (kvars_symbols seen ks) (alone KVar k.kvid ++ kvars_symbols (seen ++ (k.kvid ∷ [])) ks)

-- a task: section by section
unfoldable pub symbols_of : Task → List Symbol
symbols_of t = data_symbols t ++ (together (map function_symbols t.functions) ++ kvars_symbols [] t.kvars)

-- what a task declares that has one piece of each kind: a datatype d with a constructor c of a field f, a constant x, a function g and a KVar k
abbrev pub sample : Task
sample = record {
  comments = [];
  datatypes = record { name = bytes "d"; vars = 0; ctors = record { name = bytes "c"; fields = record { name = bytes "f"; sort = Sort.int } ∷ [] } ∷ [] } ∷ [];
  constants = record { name = bytes "x"; sort = Sort.int } ∷ [];
  functions = record { name = bytes "g"; params = 0; inputs = Sorts.none; output = Sort.int; body = none } ∷ [];
  kvars = record { kvid = bytes "k"; sorts = Sorts.none } ∷ [];
  constraint = Constraint.conj Constraints.none;
}

-- Each name has its own kind. (proofs/Whole.antt: sample_symbols)
abbrev pub SampleSymbols : Type 0
SampleSymbols =
    symbols_of sample
    ≡ symbol 0 (bytes "d") ∷ symbol 2 (bytes "c") ∷ symbol 3 (bytes "f") ∷ symbol 4 (bytes "x") ∷ symbol 5 (bytes "g") ∷ symbol 1 (bytes "k") ∷ []

-- Which names there are of the kinds of a range: among datatypes and constants, and in the whole task. Those of the kinds 1 to 5 are the names
-- that no ForAll may have. (proofs/Ranges.antt: ranges)
pub record Ranges : Type 0 where
  pub everywhere : (t : Task) → names_of 2 6 (data_symbols t) ≡ scope.everywhere t
  pub ctors_first : (t : Task) → names_of 2 2 (data_symbols t) ≡ scope.declared_by true t.datatypes
  pub no_kvars : (t : Task) → names_of 1 1 (data_symbols t) ≡ []
  pub vars : (t : Task) → names_of 2 6 (symbols_of t) ≡ scope.in_constraint t
  pub ctors : (t : Task) → names_of 2 2 (symbols_of t) ≡ scope.declared_by true t.datatypes
  pub datatypes : (t : Task) → names_of 0 0 (symbols_of t) ≡ scope.declared_by false t.datatypes
  pub taken : (t : Task) (x : List ℕ) → is_one x (names_of 1 5 (symbols_of t)) ≡ is_one x (scope.taken_names t)
