-- What is written: `smt_horn.rs`, function by function under the source's names, and the parts of the script.
use Rattle.std.specs.Prelude.{ℕ, max, List, [], ◌∷◌, ◌++◌, map, length}
use Rattle.smtlib.specs.Lexicon.{bytes}
use Rattle.smtlib.specs.Compose.{paren, line}
use Rattle.task.specs.Ast.{Binder, Pred, Task}
use Rattle.smt_text.specs.Editions.{NameTable}
use Rattle.smt_text.specs.Encoder.{Encoder, declared, encoder}
use Rattle.smt_text.specs.Text.{sexp_list, write_binders, write_unary, write_binary, write_expr, write_pred, write_datatype_decl, write_const_decl, write_fun_def, write_kvar_decl}
use Rattle.horn_text.specs.Clauses.{HornClause, clauses_of}

-- texts one behind the other
abbrev pub join : List (List ℕ) → List ℕ
join [] = []
join (w ∷ ws) = w ++ join ws

-- predicates
abbrev pub write_preds : Encoder → List Pred → List (List ℕ)
write_preds enc [] = []
write_preds enc (p ∷ ps) = write_pred enc p ∷ write_preds enc ps

-- the guards of a KVar head: `true` for none, one alone, more under `and`
abbrev pub write_guard_conjunction : Encoder → List Pred → List ℕ
write_guard_conjunction enc [] = bytes "true"
write_guard_conjunction enc (g ∷ []) = write_pred enc g
write_guard_conjunction enc (g ∷ h ∷ gs) = sexp_list (bytes "and" ∷ write_preds enc (g ∷ h ∷ gs))

-- the guards of an expression head and its negation, under one `and` if there are guards
abbrev pub write_negation : Encoder → List Pred → List ℕ → List ℕ
write_negation enc [] n = n
write_negation enc (g ∷ gs) n = sexp_list (bytes "and" ∷ (write_preds enc (g ∷ gs) ++ n ∷ []))

-- the guards imply a KVar head, or with the negation of an expression head they imply false
unfoldable pub write_implication : Encoder → List Pred → Pred → List ℕ
write_implication enc gs (Pred.kvar k es) = write_binary (bytes "=>") (write_guard_conjunction enc gs) (write_pred enc (Pred.kvar k es))
write_implication enc gs (Pred.expr e) =
    write_binary (bytes "=>") (write_negation enc gs (write_unary (bytes "not") (write_expr enc e))) (bytes "false")

-- binders follow each other without a space; without binders there is no `forall`
abbrev pub write_forall : Encoder → List Binder → List ℕ → List ℕ
write_forall enc [] w = w
write_forall enc (b ∷ bs) w = sexp_list (bytes "forall" ∷ paren (join (write_binders enc (b ∷ bs))) ∷ w ∷ [])

-- an assertion
unfoldable pub write_assert : Encoder → HornClause → List ℕ
write_assert enc c =
    line (sexp_list (bytes "assert" ∷ write_forall enc c.vars (write_implication enc c.guards c.head) ∷ []))

-- assertions
abbrev pub write_asserts : Encoder → List HornClause → List (List ℕ)
write_asserts enc cs = map (write_assert enc) cs

-- a comment's line
abbrev pub write_comment : List ℕ → List ℕ
write_comment c = line (bytes ";; " ++ c)

-- the comments, and a blank line if there are any
abbrev pub write_comments : List (List ℕ) → List ℕ
write_comments [] = []
write_comments (c ∷ cs) = join (map write_comment (c ∷ cs)) ++ line []

-- THE PARTS

-- the first part goes through the comments
unfoldable pub opening : List (List ℕ) → List ℕ
opening comments = line (line (bytes "(set-logic HORN)")) ++ write_comments comments

-- one for each declaration, in section order
abbrev pub declaration_parts : Encoder → Task → List (List ℕ)
declaration_parts enc t =
    map (write_datatype_decl enc) t.datatypes ++ (map (write_const_decl enc) t.constants
    ++ (map (write_fun_def enc) t.functions ++ map (write_kvar_decl enc) t.kvars))

-- the last part begins with its blank line
unfoldable pub closing : List ℕ
closing = line [] ++ line (bytes "(check-sat)")

-- the encoder of a task, with a table of names
abbrev pub encoder_of : NameTable → Task → Encoder
encoder_of names t = encoder names (declared t.datatypes)

-- the parts: the opening, the declarations, the blank line, the assertions, the closing
abbrev pub parts_of : NameTable → Task → List (List ℕ)
parts_of names t =
    opening t.comments ∷ (declaration_parts (encoder_of names t) t
    ++ line [] ∷ (write_asserts (encoder_of names t) (clauses_of t) ++ closing ∷ []))

-- the script is its parts joined
abbrev pub script_of : NameTable → Task → List ℕ
script_of names t = join (parts_of names t)

-- the length of the longest of texts
abbrev pub longest : List (List ℕ) → ℕ
longest [] = 0
longest (w ∷ ws) = max (length w) (longest ws)
