-- W-205. What is called for and what is written, for all tables of names at once: each has places for the set functions, and a table fills them
-- in.
use Rattle.std.specs.Prelude.{ℕ, ◌≡◌, List, [], ◌∷◌, ◌++◌}
use Rattle.smtlib.specs.Lexicon.{Kind}
use Rattle.smtlib.specs.Read.{Token, Sexps}
use Rattle.smt_text.specs.Editions.{SetFunction, NameTable}

-- WHAT IS CALLED FOR

-- a token, or the place of a set function
pub data Atom : Type 0 where
  token : Token → Atom
  set : SetFunction → Atom

-- S-expressions in a row, as `Sexps`, with such atoms
pub data Template : Type 0 where
  end : Template
  atom : Atom → Template → Template
  list : Template → Template → Template

-- one row behind another
abbrev pub append : Template → Template → Template
append Template.end ys = ys
append (Template.atom a xs) ys = Template.atom a (append xs ys)
append (Template.list us xs) ys = Template.list us (append xs ys)

-- the name of a set function is a symbol
abbrev pub fill_atom : NameTable → Atom → Token
fill_atom names (Atom.token k) = k
fill_atom names (Atom.set f) = Token.word Kind.symbol (names f)

-- a template filled in from a table
abbrev pub fill : NameTable → Template → Sexps
fill names Template.end = Sexps.end
fill names (Template.atom a xs) = Sexps.atom (fill_atom names a) (fill names xs)
fill names (Template.list us xs) = Sexps.list (fill names us) (fill names xs)

-- the set function of an atom, if it is one
abbrev pub atom_sets : Atom → List SetFunction
atom_sets (Atom.token k) = []
atom_sets (Atom.set f) = f ∷ []

-- the set functions of a template, in order
abbrev pub sets_in : Template → List SetFunction
sets_in Template.end = []
sets_in (Template.atom a xs) = atom_sets a ++ sets_in xs
sets_in (Template.list us xs) = sets_in us ++ sets_in xs

-- those of templates in a row
abbrev pub sets_in_all : List Template → List SetFunction
sets_in_all [] = []
sets_in_all (x ∷ xs) = sets_in x ++ sets_in_all xs

-- WHAT IS WRITTEN

-- bytes that are the same for every table, or the place of a set function
pub data Piece : Type 0 where
  fixed : List ℕ → Piece
  set : SetFunction → Piece

-- pieces filled in from a table
abbrev pub filled : NameTable → List Piece → List ℕ
filled names [] = []
filled names (Piece.fixed w ∷ ps) = w ++ filled names ps
filled names (Piece.set f ∷ ps) = names f ++ filled names ps

-- the set functions among pieces, in order
abbrev pub sets_among : List Piece → List SetFunction
sets_among [] = []
sets_among (Piece.fixed w ∷ ps) = sets_among ps
sets_among (Piece.set f ∷ ps) = f ∷ sets_among ps

-- For every table the text is one and the same list of pieces, filled in from that table; the set functions in it are these.
pub record Filled (text : NameTable → List ℕ) (sets : List SetFunction) : Type 0 where
  pub pieces : List Piece
  pub are : (names : NameTable) → text names ≡ filled names pieces
  pub places : sets_among pieces ≡ sets
