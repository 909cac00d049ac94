-- W-205. The seven set functions, a table of their names, and the tables of the two editions.
use Rattle.std.specs.Prelude.{ℕ, zero, suc, ◌≤◌, List, T, length}
use Prim.Native.String.{String}
use Rattle.smtlib.specs.Lexicon.{bytes, is_symbol}
use Rattle.smt_text.specs.declared.Edition.{Edition}
use Rattle.smt_text.specs.declared.Edition.TheVariants.{Z3, Cvc5}

-- the theory functions that solvers call by different names
pub data SetFunction : Type 0 where
  empty : SetFunction
  singleton : SetFunction
  union : SetFunction
  intersection : SetFunction
  difference : SetFunction
  member : SetFunction
  subset : SetFunction

-- a name for each of the seven
abbrev pub NameTable : Type 0
NameTable = SetFunction → List ℕ

-- a name of 1 to 255 bytes that refusal 4 does not cover
pub record Name (w : List ℕ) : Type 0 where
  pub shortest : 1 ≤ length w
  pub longest : length w ≤ 255
  pub symbol : T (is_symbol w)

-- each of the seven has such a name
abbrev pub Valid : NameTable → Type 0
Valid names = (f : SetFunction) → Name (names f)

-- what an edition calls each of the seven
abbrev pub name_in : Edition → SetFunction → String
name_in Z3 SetFunction.empty = "emptyset"
name_in Z3 SetFunction.singleton = "singleton"
name_in Z3 SetFunction.union = "union"
name_in Z3 SetFunction.intersection = "intersection"
name_in Z3 SetFunction.difference = "setminus"
name_in Z3 SetFunction.member = "member"
name_in Z3 SetFunction.subset = "subset"
name_in Cvc5 SetFunction.empty = "set.empty"
name_in Cvc5 SetFunction.singleton = "set.singleton"
name_in Cvc5 SetFunction.union = "set.union"
name_in Cvc5 SetFunction.intersection = "set.inter"
name_in Cvc5 SetFunction.difference = "set.minus"
name_in Cvc5 SetFunction.member = "set.member"
name_in Cvc5 SetFunction.subset = "set.subset"

-- the table of an edition
unfoldable pub names_of : Edition → NameTable
names_of e f = bytes (name_in e f)

-- the edition that a number stands for: 0 is Z3, any other cvc5
abbrev pub edition_of : ℕ → Edition
edition_of zero = Z3
edition_of (suc n) = Cvc5
