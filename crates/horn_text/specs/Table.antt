-- Document 01's table ("To the testers"): what the calls answer and leave in the buffer, at the files that it names; a string of W-203; and the set functions
-- of W-205.
use Rattle.std.specs.Prelude.{ℕ, ◌+◌, ◌≡◌, List, [], ◌∷◌, ◌++◌, length, replicate}
use Prim.Native.String.{String}
use Rattle.smtlib.specs.Lexicon.{bytes}
use Rattle.smtlib.specs.Compose.{line}
use Rattle.smt_text.specs.declared.Edition.{Edition}
use Rattle.smt_text.specs.declared.Edition.TheVariants.{Z3, Cvc5}
use Rattle.smt_text.specs.Editions.{names_of}
use Rattle.horn_text.specs.Script.{join}
use Rattle.horn_text.specs.Answers.{Answer, values, refused, survey_answer, part_answer, part_buffer, script_answer, script_buffer}

-- CALLS AND TEXTS

-- n zero bytes
abbrev pub zeros : ℕ → List ℕ
zeros n = replicate n 0

-- what part answers, and what it leaves in the buffer
abbrev pub part_call : Edition → List ℕ → ℕ → List ℕ → Answer × List ℕ
part_call e file i buf = (part_answer (names_of e) file i (length buf), part_buffer (names_of e) file i buf)

-- what script answers, and what it leaves in the buffer
abbrev pub script_call : Edition → List ℕ → List ℕ → Answer × List ℕ
script_call e file buf = (script_answer (names_of e) file (length buf), script_buffer (names_of e) file buf)

-- a text by its lines
abbrev pub lines : List String → List ℕ
lines [] = []
lines (s ∷ ss) = line (bytes s) ++ lines ss

-- FILES

-- the four bytes of a number below 256
abbrev pub offset : ℕ → List ℕ
offset n = n ∷ 0 ∷ 0 ∷ 0 ∷ []

-- A file with these comments, datatypes, constants, functions, KVars and constraint. The offsets are below 256.
abbrev pub file_with : List ℕ → List ℕ → List ℕ → List ℕ → List ℕ → List ℕ → List ℕ
file_with comments datatypes constants functions kvars constraint =
    comments ++ datatypes ++ constants ++ functions ++ kvars ++ constraint
    ++ offset 0
    ++ offset (length comments)
    ++ offset (length comments + length datatypes)
    ++ offset (length comments + length datatypes + length constants)
    ++ offset (length comments + length datatypes + length constants + length functions)
    ++ offset (length comments + length datatypes + length constants + length functions + length kvars)
    ++ bytes "HORN"

-- a file with datatypes, constants and a constraint
abbrev pub file_of : List ℕ → List ℕ → List ℕ → List ℕ
file_of datatypes constants constraint = file_with [] datatypes constants [] [] constraint

-- A file that declares nothing. Its parts are 0 the opening, 1 the blank line, the assertions from 2 on, and the closing.
abbrev pub constraint_only : List ℕ → List ℕ
constraint_only = file_of [] []

-- a name: its length and its bytes
abbrev pub named : String → List ℕ
named x = length (bytes x) ∷ bytes x

-- the expression Var
abbrev pub var : String → List ℕ
var x = 5 ∷ named x

-- the expression String
abbrev pub string : String → List ℕ
string t = 3 ∷ length (bytes t) ∷ 0 ∷ bytes t

-- an expression as a predicate
abbrev pub expr_pred : List ℕ → List ℕ
expr_pred e = 1 ∷ e

-- the predicate k(x)
abbrev pub k_of_x : List ℕ
k_of_x = 0 ∷ named "k" ++ 1 ∷ 0 ∷ var "x"

-- a predicate as a constraint: a head
abbrev pub head : List ℕ → List ℕ
head p = 0 ∷ p

-- the head that is Boolean true
abbrev pub true_head : List ℕ
true_head = head (expr_pred (1 ∷ 1 ∷ []))

-- ForAll x Int with these predicates over k(x)
abbrev pub k_under : List (List ℕ) → List ℕ
k_under guards = 2 ∷ named "x" ++ 0 ∷ length guards ∷ 0 ∷ join guards ++ head k_of_x

-- A file with the constants p and q of sort Bool and the KVar k of one Int (W-201: names must be known). Its parts are 0 the opening, 1 and 2 the constants, 3 the
-- KVar, 4 the blank line, the assertions from 5 on, and the closing.
abbrev pub closed : List ℕ → List ℕ
closed constraint = file_with [] [] (named "p" ++ 1 ∷ named "q" ++ 1 ∷ []) [] (named "k" ++ 1 ∷ 0 ∷ 0 ∷ []) constraint

-- the datatype N with `vars` 1 and the constructor c, whose field f is of sort Var 0
abbrev pub datatype_n : List ℕ
datatype_n = named "N" ++ 1 ∷ 0 ∷ 1 ∷ 0 ∷ named "c" ++ 1 ∷ 0 ∷ named "f" ++ 6 ∷ 0 ∷ 0 ∷ []

-- the constant c of sort Data d with the argument Bool
abbrev pub constant_c : List ℕ
constant_c = named "c" ++ 11 ∷ named "d" ++ 1 ∷ 0 ∷ 1 ∷ []

-- Case S. Its parts are 0 the opening, 1 the constant, 2 the KVar, 3 the blank line, 4 and 5 the assertions, 6 the closing.
unfoldable pub case_s : List ℕ
case_s = 1 ∷ 110 ∷ 0 ∷ 2 ∷ 107 ∷ 48 ∷ 1 ∷ 0 ∷ 0 ∷ 2 ∷ 1 ∷ 120 ∷ 0 ∷ 1 ∷ 0 ∷ 1 ∷ 10 ∷ 3 ∷ 5 ∷ 1 ∷ 120 ∷ 0 ∷ 0 ∷ 0 ∷ 0 ∷ 0 ∷ 0 ∷
    0 ∷ 0 ∷ 0 ∷ 0 ∷ 0 ∷ 0 ∷ 0 ∷ 0 ∷ 0 ∷ 0 ∷ 0 ∷ 1 ∷ 3 ∷ 0 ∷ 0 ∷ 0 ∷ 2 ∷ 107 ∷ 48 ∷ 1 ∷ 0 ∷ 5 ∷ 1 ∷ 120 ∷ 0 ∷ 1 ∷ 1 ∷ 1 ∷
    2 ∷ 1 ∷ 121 ∷ 0 ∷ 1 ∷ 0 ∷ 0 ∷ 2 ∷ 107 ∷ 48 ∷ 1 ∷ 0 ∷ 5 ∷ 1 ∷ 121 ∷ 0 ∷ 1 ∷ 10 ∷ 3 ∷ 5 ∷ 1 ∷ 121 ∷ 5 ∷ 1 ∷ 110 ∷ 0 ∷ 0 ∷
    0 ∷ 0 ∷ 0 ∷ 0 ∷ 0 ∷ 0 ∷ 0 ∷ 0 ∷ 0 ∷ 0 ∷ 3 ∷ 0 ∷ 0 ∷ 0 ∷ 3 ∷ 0 ∷ 0 ∷ 0 ∷ 9 ∷ 0 ∷ 0 ∷ 0 ∷ 72 ∷ 79 ∷ 82 ∷ 78 ∷ []

-- its script
abbrev pub script_s : List ℕ
script_s = lines (
    "(set-logic HORN)" ∷
    "" ∷
    "(declare-const n Int)" ∷
    "(declare-fun k0 (Int) Bool)" ∷
    "" ∷
    "(assert (forall ((x Int)) (=> (>= x 0) (k0 x))))" ∷
    "(assert (forall ((x Int)(y Int)) (=> (and (>= x 0) (k0 y) (not (>= y n))) false)))" ∷
    "" ∷
    "(check-sat)" ∷
    [])

-- a theory function by its code, applied to expressions
abbrev pub call : ℕ → List (List ℕ) → List ℕ
call f es = 17 ∷ 0 ∷ 18 ∷ f ∷ length es ∷ 0 ∷ join es

-- the empty set of Int: SetEmpty as a head, with the output sort Set Int
abbrev pub no_ints : List ℕ
no_ints = 17 ∷ 1 ∷ 9 ∷ 1 ∷ 0 ∷ 0 ∷ 18 ∷ 38 ∷ 0 ∷ 0 ∷ []

-- A file with the constants s of sort Set Int and x of sort Int, and one head: the And of two expressions with the seven set functions. Its parts are 0
-- the opening, 1 and 2 the constants, 3 the blank line, 4 the assertion, 5 the closing.
abbrev pub sets_file : List ℕ
sets_file =
    file_of [] (named "s" ++ 9 ∷ 1 ∷ 0 ∷ 0 ∷ named "x" ++ 0 ∷ []) (head (expr_pred (13 ∷ 2 ∷ 0 ∷ (
    call 44 (var "x" ∷ call 40 (call 39 (var "x" ∷ []) ∷ call 41 (var "s" ∷ call 42 (var "s" ∷ no_ints ∷ []) ∷ []) ∷ []) ∷ [])
    ++ call 43 (var "s" ∷ var "s" ∷ [])))))

-- THE TABLE (proofs/Rows.antt: table)

pub record Table : Type 0 where
  -- S has 108 bytes
  pub s_length : length case_s ≡ 108
  -- survey of S: 7 parts, 2 assertions, 214 bytes, 83 of them in the longest part
  pub s_survey : survey_answer (names_of Z3) case_s ≡ values (7 ∷ 2 ∷ 214 ∷ 83 ∷ [])
  -- the script of S, in a buffer of 214 bytes
  pub s_script : script_call Z3 case_s (zeros 214) ≡ (values (214 ∷ []), script_s)
  -- in a buffer of 213 bytes: refused, and the buffer is unchanged
  pub s_short : script_call Z3 case_s (zeros 213) ≡ (refused 9, zeros 213)
  -- S's second assertion
  pub s_second : part_call Z3 case_s 5 (zeros 83)
      ≡ (values (83 ∷ []), line (bytes "(assert (forall ((x Int)(y Int)) (=> (and (>= x 0) (k0 y) (not (>= y n))) false)))"))
  -- in a buffer one byte too short
  pub s_second_short : part_call Z3 case_s 5 (zeros 82) ≡ (refused 9, zeros 82)
  -- S has no part 7
  pub s_no_part : part_call Z3 case_s 7 (zeros 83) ≡ (refused 8, zeros 83)
  -- empty And as a head
  pub empty_and : part_call Z3 (constraint_only (head (expr_pred (13 ∷ 0 ∷ 0 ∷ [])))) 2 (zeros 31)
      ≡ (values (31 ∷ []), line (bytes "(assert (=> (not true) false))"))
  -- empty Or as a head
  pub empty_or : part_call Z3 (constraint_only (head (expr_pred (14 ∷ 0 ∷ 0 ∷ [])))) 2 (zeros 32)
      ≡ (values (32 ∷ []), line (bytes "(assert (=> (not false) false))"))
  -- an expression head without guards
  pub unguarded : part_call Z3 (closed (head (expr_pred (var "p")))) 5 (zeros 28)
      ≡ (values (28 ∷ []), line (bytes "(assert (=> (not p) false))"))
  -- W-203: a string with a quotation mark, as such a head
  pub quoted : part_call Z3 (constraint_only (head (expr_pred (string "a\"b")))) 2 (zeros 33)
      ≡ (values (33 ∷ []), line (bytes "(assert (=> (not \"a\"\"b\") false))"))
  -- a KVar head without guards
  pub guards_0 : part_call Z3 (closed (k_under [])) 5 (zeros 44)
      ≡ (values (44 ∷ []), line (bytes "(assert (forall ((x Int)) (=> true (k x))))"))
  -- a KVar head with one guard
  pub guards_1 : part_call Z3 (closed (k_under (expr_pred (var "p") ∷ []))) 5 (zeros 41)
      ≡ (values (41 ∷ []), line (bytes "(assert (forall ((x Int)) (=> p (k x))))"))
  -- a KVar head with two guards
  pub guards_2 : part_call Z3 (closed (k_under (expr_pred (var "p") ∷ expr_pred (var "q") ∷ []))) 5 (zeros 49)
      ≡ (values (49 ∷ []), line (bytes "(assert (forall ((x Int)) (=> (and p q) (k x))))"))
  -- the `par` datatype
  pub par : part_call Z3 (file_of datatype_n [] true_head) 1 (zeros 54)
      ≡ (values (54 ∷ []), line (bytes "(declare-datatypes ((N 1)) ((par (T0) ((c (f T0))))))"))
  -- a Data sort that no datatype declares
  pub undeclared : part_call Z3 (file_of [] constant_c true_head) 1 (zeros 22) ≡ (values (22 ∷ []), line (bytes "(declare-const c Int)"))
  -- a literally true head: 3 parts and no assertion
  pub true_survey : survey_answer (names_of Z3) (constraint_only true_head) ≡ values (3 ∷ 0 ∷ 32 ∷ 18 ∷ [])
  -- its script
  pub true_script : script_call Z3 (constraint_only true_head) (zeros 32)
      ≡ (values (32 ∷ []), lines ("(set-logic HORN)" ∷ "" ∷ "" ∷ "" ∷ "(check-sat)" ∷ []))
  -- 27 zero bytes
  pub too_short : survey_answer (names_of Z3) (zeros 27) ≡ refused 1
  -- 24 zero bytes and the mark
  pub no_constraint : survey_answer (names_of Z3) (zeros 24 ++ bytes "HORN") ≡ refused 2
  -- W-205: the seven set functions in one head, in each edition
  pub sets_z3 : part_call Z3 sets_file 4 (zeros 132)
      ≡ (values (132 ∷ []), line (bytes "(assert (=> (not (and (member x (union (singleton x) (intersection s (setminus s (as emptyset (Set Int)))))) (subset s s))) false))"))
  pub sets_cvc5 : part_call Cvc5 sets_file 4 (zeros 147)
      ≡ (values (147 ∷ []), line (bytes "(assert (=> (not (and (set.member x (set.union (set.singleton x) (set.inter s (set.minus s (as set.empty (Set Int)))))) (set.subset s s))) false))"))
  -- without set functions both editions are one text
  pub s_cvc5 : script_call Cvc5 case_s (zeros 214) ≡ (values (214 ∷ []), script_s)
