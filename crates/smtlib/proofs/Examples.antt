-- Worked examples. Nothing rests on them: they show what the definitions say of some texts.
use mathlib.Core.Path.{◌≡◌, refl}
use mathlib.Core.Option.{none}
use mathlib.Core.List.{List, [], ◌∷◌, ◌++◌}
use Prim.Native.Nat.{ℕ}
use Prim.Native.Char.{code}
use Prim.Native.String.{String}
use lib.Dec.{T, lit<}
use lib.ListN.{length}
use Rattle.smtlib.specs.Lexicon.{bytes, class, Kind, is_symbol, reserved_words, numeral, hexadecimal, binary, symbol, keyword, reserved}
use Rattle.smtlib.specs.Lexicon.{decimal as decimal_kind}
use Rattle.smtlib.specs.Read.{word, string, quoted, as_word, Sexps, end, atom, list, Command, Reading}
use Rattle.smtlib.specs.Cut.{IsOutside, closed}
use Rattle.smtlib.specs.Compose.{append, Says, Follows, paren, line, decimal}
use Rattle.smtlib.specs.Theorems.{ReadAtCuts}
use Rattle.smtlib.proofs.Bools.{clash}
use Rattle.smtlib.proofs.Compose.{composition}
use Rattle.smtlib.proofs.Cut.{unique, cuts}
use Rattle.smtlib.proofs.Decimal.{decimal_spells, decimal_digits}
use Rattle.smtlib.proofs.OneKind.{kind_of}
use Rattle.smtlib.proofs.Reader.{read, read_sound, unread}
open composition use {says_token, says_list, says_row, follows_nothing, follows_spaced, follows_list, writes_more, writes_command, written_read}

-- a token before more of a row, by its kind
abbrev the : Kind → String → Sexps → Sexps
the k s xs = atom (word k (bytes s)) xs

-- CASE S OF DOCUMENT 01

case_s : List ℕ
case_s =
    bytes "(set-logic HORN)\n\n(declare-const n Int)\n(declare-fun k0 (Int) Bool)\n\n"
    ++ bytes "(assert (forall ((x Int)) (=> (>= x 0) (k0 x))))\n"
    ++ bytes "(assert (forall ((x Int)(y Int)) (=> (and (>= x 0) (k0 y) (not (>= y n))) false)))\n"
    ++ bytes "\n(check-sat)\n"

x_int : Sexps → Sexps
x_int xs = list (the symbol "x" (the symbol "Int" end)) xs

x_at_least_0 : Sexps → Sexps
x_at_least_0 xs = list (the symbol ">=" (the symbol "x" (the numeral "0" end))) xs

case_s_commands : List Command
unfolding x_int x_at_least_0
case_s_commands =
    the reserved "set-logic" (the symbol "HORN" end)
    ∷ the reserved "declare-const" (the symbol "n" (the symbol "Int" end))
    ∷ the reserved "declare-fun" (the symbol "k0" (list (the symbol "Int" end) (the symbol "Bool" end)))
    ∷ the reserved "assert" (list (the reserved "forall" (list (x_int end)
    (list (the symbol "=>" (x_at_least_0 (list (the symbol "k0" (the symbol "x" end)) end))) end))) end)
    ∷ the reserved "assert" (list (the reserved "forall" (list (x_int (list (the symbol "y" (the symbol "Int" end)) end))
    (list (the symbol "=>" (list (the symbol "and" (x_at_least_0 (list (the symbol "k0" (the symbol "y" end))
    (list (the symbol "not" (list (the symbol ">=" (the symbol "y" (the symbol "n" end))) end)) end))))
    (the symbol "false" end))) end))) end)
    ∷ the reserved "check-sat" end ∷ []

-- its text is read as its six commands
case_s_read : Reading case_s case_s_commands
unfolding case_s case_s_commands read class kind_of
case_s_read = read_sound case_s case_s_commands refl

case_s_cuts : ReadAtCuts case_s case_s_commands
case_s_cuts = cuts case_s case_s_commands case_s_read

case_s_length : length case_s ≡ 214
unfolding case_s
case_s_length = refl

-- behind the first command, within the second, and behind the last
case_s_closed : (closed case_s 16 ≡ 1) × IsOutside case_s 16 × ((IsOutside case_s 20 → ⊥) × (closed case_s 214 ≡ 6) × IsOutside case_s 214)
unfolding case_s class
case_s_closed = (refl, refl, (λ e. clash (cc), refl, refl))

-- COMMENTS

-- what stands in a comment is no command
commented : Reading (bytes ";; done (check-sat)\n(exit)\n") (the reserved "exit" end ∷ [])
unfolding read class kind_of
commented = read_sound _ _ refl

-- a line feed ends the comment, and then it is one
pasted : Reading (bytes ";; done\n(check-sat)\n(exit)\n") (the reserved "check-sat" end ∷ the reserved "exit" end ∷ [])
unfolding read class kind_of
pasted = read_sound _ _ refl

-- ONE READING

-- `"a""b"` is one string
doubled_quote : Reading (bytes "(\"a\"\"b\")") (atom (string (bytes "a\"b")) end ∷ [])
unfolding read class kind_of
doubled_quote = read_sound _ _ refl

-- and so it is not two
two_strings : Reading (bytes "(\"a\"\"b\")") (atom (string (bytes "a")) (atom (string (bytes "b")) end) ∷ []) → ⊥
two_strings r = clash (let e = unique _ _ _ r doubled_quote in cc)

-- a token of each kind, with and without blanks where a parenthesis parts
each_kind : Reading (bytes "(set-info :x \"(\") (assert(|x y|(10)1.05 #xAf;|\n#b01 a-b))\n") (
    the reserved "set-info" (the keyword ":x" (atom (string (bytes "(")) end))
    ∷ the reserved "assert" (list (atom (quoted (bytes "x y")) (list (the numeral "10" end)
    (the decimal_kind "1.05" (the hexadecimal "#xAf" (the binary "#b01" (the symbol "a-b" end)))))) end)
    ∷ [])
unfolding read class kind_of
each_kind = read_sound _ _ refl

-- texts with no reading: a list that is not closed, one closed twice, a token outside lists, tokens that nothing parts, a numeral
-- with a leading zero, a string that is not closed
unreadable : (read (bytes "(a") ≡ none) × (read (bytes "(a))") ≡ none) × (read (bytes "a (b)") ≡ none)
    × (read (bytes "(\"a\"b)") ≡ none) × (read (bytes "(01)") ≡ none) × (read (bytes "(\"a)") ≡ none)
unfolding read class kind_of
unreadable = (refl, refl, refl, refl, refl, refl)

no_reading : (cs : List Command) → Reading (bytes "(\"a\"b)") cs → ⊥
no_reading cs = unread _ unreadable.3 cs

-- two lists with no space between them, as the binders of an assertion stand
binders : Says (paren (paren (bytes "x") ++ (paren (bytes "y") ++ []))) (list (list (the symbol "x" end) (list (the symbol "y" end) end)) end)
unfolding reserved_words
binders =
    says_list (says_row (says_list (says_token (as_word symbol (bytes "x") tt)))
    (follows_list (says_token (as_word symbol (bytes "y") tt)) follows_nothing))

-- DECIMALS

decimals : (decimal 0 ≡ bytes "0") × (decimal 1009 ≡ bytes "1009")
unfolding decimal
decimals = (refl, refl)

-- the largest number of 128 bits
largest : decimal 340282366920938463463374607431768211455 ≡ bytes "340282366920938463463374607431768211455"
largest = decimal_digits 38 340282366920938463463374607431768211455 (lit< tt)

-- A WRITER'S TREE

mutual
  data Tree : Type 0 where
    number : ℕ → Tree
    variable : List ℕ → Tree
    negation : Tree → Tree
    conjunction : Trees → Tree

  data Trees : Type 0 where
    none_left : Trees
    more : Tree → Trees → Trees

-- its text
mutual
  text_of : Tree → List ℕ
  text_of (number n) = decimal n
  text_of (variable x) = x
  text_of (negation e) = paren (bytes "not" ++ (code " " ∷ text_of e ++ []))
  text_of (conjunction es) = paren (bytes "and" ++ texts_of es)

  texts_of : Trees → List ℕ
  texts_of none_left = []
  texts_of (more e es) = code " " ∷ text_of e ++ texts_of es

-- its S-expression
mutual
  sexp_of : Tree → Sexps
  sexp_of (number n) = atom (word numeral (decimal n)) end
  sexp_of (variable x) = atom (word symbol x) end
  sexp_of (negation e) = list (the symbol "not" (append (sexp_of e) end)) end
  sexp_of (conjunction es) = list (the symbol "and" (sexps_of es)) end

  sexps_of : Trees → Sexps
  sexps_of none_left = end
  sexps_of (more e es) = append (sexp_of e) (sexps_of es)

-- its variables are symbols
mutual
  Named : Tree → Type 0
  Named (number n) = Unit
  Named (variable x) = T (is_symbol x)
  Named (negation e) = Named e
  Named (conjunction es) = AllNamed es

  AllNamed : Trees → Type 0
  AllNamed none_left = Unit
  AllNamed (more e es) = Named e × AllNamed es

-- the text spells the S-expression: a line for each case
mutual
  unfolding text_of sexp_of Named reserved_words

  spelled : (e : Tree) → Named e → Says (text_of e) (sexp_of e)
  spelled (number n) h = says_token (decimal_spells n)
  spelled (variable x) h = says_token (as_word symbol x h)
  spelled (negation e) h = says_list (says_row (says_token (as_word symbol (bytes "not") tt)) (follows_spaced (spelled e h) follows_nothing))
  spelled (conjunction es) h = says_list (says_row (says_token (as_word symbol (bytes "and") tt)) (all_spelled es h))

  all_spelled : (es : Trees) → AllNamed es → Follows (texts_of es) (sexps_of es)
  all_spelled none_left h = follows_nothing
  all_spelled (more e es) h = follows_spaced (spelled e h.0) (all_spelled es h.1)

-- `(assert E)` and `(check-sat)`, a line each
script_text : Tree → List ℕ
script_text e = line (paren (bytes "assert" ++ (code " " ∷ text_of e ++ []))) ++ line (paren (bytes "check-sat"))

script_read : (e : Tree) → Named e
    → Reading (script_text e) (the reserved "assert" (append (sexp_of e) end) ∷ the reserved "check-sat" end ∷ [])
unfolding script_text reserved_words
script_read e h =
    written_read (writes_more
    (writes_command (says_row (says_token (as_word reserved (bytes "assert") tt)) (follows_spaced (spelled e h) follows_nothing)))
    (writes_command (says_token (as_word reserved (bytes "check-sat") tt))))
