-- For each number that a call can answer a small file that gets it, so that no number is listed for nothing; and that the list has the order of
-- judging. docs/REFUSALS.md shows the first file of each number.
use Rattle.std.specs.Prelude.{ℕ, suc, min, ◌≡◌, Bool, true, false, cond, List, [], ◌∷◌, ◌++◌, map, T, eqb, length, replicate}
use Prim.Native.String.{String}
use Rattle.smtlib.specs.Lexicon.{bytes, any}
use Rattle.task.specs.declared.Fault.{Fault}
use Rattle.task.specs.Fault.{refusal_of, lower}
use Rattle.task.specs.Returns.{every}
use Rattle.smt_text.specs.declared.Edition.TheVariants.{Z3}
use Rattle.smt_text.specs.Editions.{NameTable}
use Rattle.horn_text.specs.Answers.{Answer, values, refused, survey_places, survey_numbers, survey_answer}
use Rattle.horn_text.specs.Table.{zeros, part_call, script_call, offset, file_with, file_of, constraint_only, named, var, string, expr_pred, head, true_head}

-- FILES

-- a Conj without members
abbrev pub nothing : List ℕ
nothing = 1 ∷ 0 ∷ 0 ∷ []

-- the smallest file that is accepted: its parts are 0 the opening, 1 the blank line, 2 the closing
abbrev pub smallest : List ℕ
smallest = constraint_only nothing

-- ForAll x Int without predicates, over a constraint
abbrev pub for_all_x : List ℕ → List ℕ
for_all_x c = 2 ∷ named "x" ++ 0 ∷ 0 ∷ 0 ∷ c

-- a comment with a line feed and a command behind it
abbrev pub accident : List ℕ
accident = 13 ∷ 0 ∷ bytes "x\n(check-sat)"

-- the datatype D without constructors
abbrev pub empty_d : List ℕ
empty_d = named "D" ++ 0 ∷ 0 ∷ 0 ∷ 0 ∷ []

-- a file with the constant c of this sort
abbrev pub constant_of : List ℕ → List ℕ
constant_of sort = file_of [] (named "c" ++ sort) nothing

-- BvSize 8
abbrev pub width8 : List ℕ
width8 = 5 ∷ offset 8

-- SetEmpty
abbrev pub set_empty : List ℕ
set_empty = 18 ∷ 38 ∷ []

-- MapDefault
abbrev pub map_default : List ℕ
map_default = 18 ∷ 45 ∷ []

-- WKVar
abbrev pub wk_var : List ℕ
wk_var = 6 ∷ []

-- a file with this expression as its head
abbrev pub head_of : List ℕ → List ℕ
head_of e = constraint_only (head (expr_pred e))

-- the function f without inputs, with output Int and the body true, which has the argument x
abbrev pub one_argument : List ℕ
one_argument = named "f" ++ 0 ∷ 0 ∷ 0 ∷ 0 ∷ 0 ∷ 1 ∷ 1 ∷ 0 ∷ named "x" ++ 1 ∷ 1 ∷ []

-- the constant lim of sort Int
abbrev pub limit : List ℕ
limit = named "lim" ++ 0 ∷ []

-- ForAll x Int with the guard x < lim, and under it ForAll lim Int with the head lim >= x
abbrev pub merge : List ℕ
merge =
    2 ∷ named "x" ++ 0 ∷ 1 ∷ 0 ∷ expr_pred (10 ∷ 4 ∷ var "x" ++ var "lim")
    ++ 2 ∷ named "lim" ++ 0 ∷ 0 ∷ 0 ∷ head (expr_pred (10 ∷ 3 ∷ var "lim" ++ var "x"))

-- a datatype with a constructor of one field of sort Int
abbrev pub datatype_of : String → String → String → List ℕ
datatype_of d c f = named d ++ 0 ∷ 0 ∷ 1 ∷ 0 ∷ named c ++ 1 ∷ 0 ∷ named f ++ 0 ∷ []

-- a function without parameters from Int to Int, with its argument as its body
abbrev pub identity : String → String → List ℕ
identity f x = named f ++ 0 ∷ 0 ∷ 1 ∷ 0 ∷ 0 ∷ 0 ∷ 1 ∷ 1 ∷ 0 ∷ named x ++ var x

-- a function without inputs, with output Int and this body
abbrev pub defined : String → List ℕ → List ℕ
defined f e = named f ++ 0 ∷ 0 ∷ 0 ∷ 0 ∷ 0 ∷ 1 ∷ 0 ∷ 0 ∷ e

-- a file with these functions, which nothing uses
abbrev pub functions_only : List ℕ → List ℕ
functions_only functions = file_with [] [] [] functions [] nothing

-- a KVar without arguments
abbrev pub kvar_of : String → List ℕ
kvar_of k = named k ++ 0 ∷ 0 ∷ []

-- a KVar with these arguments, behind their number, as a head
abbrev pub kvar_head : String → List ℕ → List ℕ
kvar_head k es = 0 ∷ 0 ∷ named k ++ cond (eqb (length es) 0) (0 ∷ 0 ∷ []) (1 ∷ 0 ∷ es)

-- ForAll x Int over this expression as its head
abbrev pub under_x : List ℕ → List ℕ
under_x e = for_all_x (head (expr_pred e))

-- a number, and a file that is to get it
abbrev pub Row : Type 0
Row = ℕ × List ℕ

-- survey answers each file with its number, whatever the table
abbrev pub Get : List Row → Type 0
Get rows = (names : NameTable) → map (λ r. survey_answer names r.1) rows ≡ map (λ r. refused r.0) rows

-- A file for each number that survey can answer. 1: 27 zero bytes. 2: 24 zero bytes and the mark. 3: an expression head of 254 Nots, whose last
-- operand is due at level 257. 4: a comment with a line feed. 5: a datatype without constructors. 12: a BitVec of Int. 13: a bare SetEmpty as a
-- head. 14: a WKVar as a head. 6: a body with an argument too many. 7: a ForAll named like the one around it. 15: the merge task of W-207, with the
-- constant lim, a guard that speaks of it, and a ForAll lim below. 10: a Var that nothing declares as a head. 11: a KVar of one sort as a head without
-- arguments.
abbrev pub refused_files : List Row
refused_files =
    (1, zeros 27) ∷
    (2, zeros 24 ++ bytes "HORN") ∷
    (3, head_of (replicate 254 8)) ∷
    (4, file_with accident [] [] [] [] nothing) ∷
    (5, file_of empty_d [] nothing) ∷
    (12, constant_of (4 ∷ 0 ∷ [])) ∷
    (13, head_of set_empty) ∷
    (14, head_of wk_var) ∷
    (6, file_with [] [] [] one_argument [] nothing) ∷
    (7, constraint_only (for_all_x (for_all_x nothing))) ∷
    (15, file_of [] limit merge) ∷
    (10, head_of (var "a")) ∷
    (11, file_with [] [] [] [] (named "k" ++ 1 ∷ 0 ∷ 0 ∷ []) (kvar_head "k" [])) ∷
    []

-- Further files of forms that have no text (W-206). 12: a BvSize that is no BitVec's, a BitVec of a BitVec, and three that are never written: a BvSize
-- in a Data sort that no datatype declares, one as the output sort of a Var, and one as the sort of a ForAll without heads. 13: a bare MapDefault,
-- SetEmpty as the head of an App without an output sort, and MapDefault as the argument of an App with one. 14: a WKVar as the head of such an
-- App, and one as a guard of no assertion.
abbrev pub form_files : List Row
form_files =
    (12, constant_of width8) ∷
    (12, constant_of (4 ∷ 4 ∷ width8)) ∷
    (12, constant_of (11 ∷ named "U" ++ 1 ∷ 0 ∷ width8)) ∷
    (12, head_of (17 ∷ 1 ∷ width8 ++ var "x" ++ 0 ∷ 0 ∷ [])) ∷
    (12, constraint_only (2 ∷ named "x" ++ width8 ++ 0 ∷ 0 ∷ nothing)) ∷
    (13, head_of map_default) ∷
    (13, head_of (17 ∷ 0 ∷ set_empty ++ 0 ∷ 0 ∷ [])) ∷
    (13, head_of (17 ∷ 1 ∷ 0 ∷ set_empty ++ 1 ∷ 0 ∷ map_default)) ∷
    (14, head_of (17 ∷ 1 ∷ 0 ∷ wk_var ++ 0 ∷ 0 ∷ [])) ∷
    (14, constraint_only (2 ∷ named "x" ++ 0 ∷ 1 ∷ 0 ∷ expr_pred wk_var ++ true_head)) ∷
    []

-- What 4 covers besides (W-203): a string with a line feed behind a quotation mark, one with the byte 127, and a Var that is named `a"b`.
abbrev pub text_files : List Row
text_files =
    (4, head_of (string "\"\n")) ∷
    (4, head_of (3 ∷ 1 ∷ 0 ∷ 127 ∷ [])) ∷
    (4, head_of (var "a\"b")) ∷
    []

-- Files with a ForAll x that has a declared name (W-207): without heads under it that of a constant, of a function, of a constructor, of a field and of a
-- KVar; and one behind another member of a Conj. With the constant x a repeat of ForAll x is judged first.
abbrev pub clash_files : List Row
clash_files =
    (15, file_of [] (named "x" ++ 0 ∷ []) (for_all_x nothing)) ∷
    (15, file_with [] [] [] (identity "x" "a") [] (for_all_x nothing)) ∷
    (15, file_of (datatype_of "d" "x" "f") [] (for_all_x nothing)) ∷
    (15, file_of (datatype_of "d" "c" "x") [] (for_all_x nothing)) ∷
    (15, file_with [] [] [] [] (kvar_of "x") (for_all_x nothing)) ∷
    (15, file_of [] (named "x" ++ 0 ∷ []) (1 ∷ 2 ∷ 0 ∷ nothing ++ for_all_x nothing)) ∷
    (7, file_of [] (named "x" ++ 0 ∷ []) (for_all_x (for_all_x nothing))) ∷
    []

-- And files with a ForAll x that are not refused: the name is that of a datatype, of a function's argument, of a Let and of a Quantifier.
abbrev pub fine_files : List (List ℕ)
fine_files =
    file_of (datatype_of "x" "c" "f") [] (for_all_x nothing) ∷
    file_with [] [] [] (identity "f" "x") [] (for_all_x nothing) ∷
    constraint_only (under_x (16 ∷ named "x" ++ var "x" ++ var "x")) ∷
    constraint_only (under_x (20 ∷ 1 ∷ 1 ∷ 0 ∷ named "x" ++ 0 ∷ var "x")) ∷
    []

-- Further files with a name that is not known (W-201). In this order: a Let's own name in its first operand; a function in its own body, and in that of one in front
-- of it; an argument in another function's body, and in the constraint; a Quantifier's name and a ForAll's behind them; IsCtor of a field and of a datatype; as a Var a
-- KVar, a datatype and a word of SMT-LIB, and such a word as the head of an App; as a KVar predicate a constant, and a name that nothing has, beside a KVar with a wrong
-- number of arguments. A ForAll with a declared name over a Var that is not known: 15 is judged first. Of two KVars with one name the first counts for 11.
abbrev pub unknown_files : List Row
unknown_files =
    (10, head_of (16 ∷ named "a" ++ var "a" ++ 1 ∷ 1 ∷ [])) ∷
    (10, functions_only (defined "f" (var "f"))) ∷
    (10, functions_only (defined "f" (var "g") ++ identity "g" "a")) ∷
    (10, functions_only (identity "f" "a" ++ defined "g" (var "a"))) ∷
    (10, file_with [] [] [] (identity "f" "a") [] (head (expr_pred (var "a")))) ∷
    (10, head_of (13 ∷ 2 ∷ 0 ∷ 20 ∷ 0 ∷ 1 ∷ 0 ∷ named "a" ++ 0 ∷ var "a" ++ var "a")) ∷
    (10, constraint_only (1 ∷ 2 ∷ 0 ∷ under_x (var "x") ++ head (expr_pred (var "x")))) ∷
    (10, file_of (datatype_of "d" "c" "f") [] (head (expr_pred (19 ∷ named "f" ++ var "c")))) ∷
    (10, file_of (datatype_of "d" "c" "f") [] (head (expr_pred (19 ∷ named "d" ++ var "c")))) ∷
    (10, file_with [] [] [] [] (kvar_of "k") (head (expr_pred (var "k")))) ∷
    (10, file_of (datatype_of "d" "c" "f") [] (head (expr_pred (var "d")))) ∷
    (10, head_of (var "true")) ∷
    (10, head_of (17 ∷ 0 ∷ var "and" ++ 0 ∷ 0 ∷ [])) ∷
    (10, file_of [] (named "k" ++ 1 ∷ []) (kvar_head "k" [])) ∷
    (10, file_with [] [] [] [] (named "k" ++ 1 ∷ 0 ∷ 0 ∷ []) (1 ∷ 2 ∷ 0 ∷ kvar_head "k" [] ++ kvar_head "l" [])) ∷
    (15, file_of [] (named "x" ++ 0 ∷ []) (under_x (var "a"))) ∷
    (11, file_with [] [] [] [] (kvar_of "k" ++ named "k" ++ 1 ∷ 0 ∷ 0 ∷ []) (kvar_head "k" (1 ∷ 1 ∷ []))) ∷
    []

-- And files in which each name is known: a Let's in its second operand; in the constraint a constructor, a field, a constant, a function and a ForAll's name; in a body a
-- constructor, a field, a constant and a function in front, which has an argument; IsCtor of a constructor; of two KVars with one name the first.
abbrev pub known_files : List (List ℕ)
known_files =
    head_of (16 ∷ named "a" ++ 1 ∷ 1 ∷ var "a") ∷
    file_with [] (datatype_of "d" "c" "f") (named "n" ++ 0 ∷ []) (identity "g" "a") [] (under_x (13 ∷ 5 ∷ 0 ∷ var "c" ++ var "f" ++ var "n" ++ var "g" ++ var "x")) ∷
    file_with [] (datatype_of "d" "c" "f") (named "n" ++ 0 ∷ []) (identity "g" "a" ++ defined "h" (13 ∷ 4 ∷ 0 ∷ var "c" ++ var "f" ++ var "n" ++ var "g")) [] nothing ∷
    file_of (datatype_of "d" "c" "f") [] (head (expr_pred (19 ∷ named "c" ++ var "f"))) ∷
    file_with [] [] [] [] (kvar_of "k" ++ named "k" ++ 1 ∷ 0 ∷ 0 ∷ []) (kvar_head "k" []) ∷
    []

-- survey answers with values
abbrev pub accepts : Answer → Bool
accepts (values vs) = true
accepts (refused n) = false

-- THE ORDER

-- the place of a number on the list; a number that is not on it has the place behind all
abbrev pub place : List (List ℕ) → ℕ → ℕ
place [] n = 0
place (ns ∷ places) n = cond (any (eqb n) ns) 0 (suc (place places n))

-- the place of a fault's number
abbrev pub place_of : Fault → ℕ
place_of f = place survey_places (refusal_of f)

-- THE TABLE (proofs/Rows.antt: numbers)

pub record Numbers : Type 0 where
  -- each file gets its number
  pub survey : Get refused_files
  -- and these are the numbers of the list, in its order
  pub listed : map (λ r. r.0) refused_files ≡ survey_numbers
  -- so does each of the further files
  pub forms : Get form_files
  pub texts : Get text_files
  pub clashes : Get clash_files
  pub unknowns : Get unknown_files
  -- and these get none
  pub fine : (names : NameTable) → T (every (λ f. accepts (survey_answer names f)) fine_files)
  pub known : (names : NameTable) → T (every (λ f. accepts (survey_answer names f)) known_files)
  -- the faults are judged in the order of the list: of two the one whose number has the place further in front
  pub order : (f g : Fault) → place_of (lower f g) ≡ min (place_of f) (place_of g)
  -- there is no part 3 of the smallest file
  pub no_part : part_call Z3 smallest 3 (zeros 18) ≡ (refused 8, zeros 18)
  -- its opening has 18 bytes
  pub part_short : part_call Z3 smallest 0 (zeros 17) ≡ (refused 9, zeros 17)
  -- its script has 32 bytes
  pub script_short : script_call Z3 smallest (zeros 31) ≡ (refused 9, zeros 31)
