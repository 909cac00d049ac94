-- What is called for: the commands of a task, from the decoded task, without the writer. They are set out once for all tables of names.
use Rattle.std.specs.Prelude.{Bool, false, cond, List, [], ◌∷◌, ◌++◌, map}
use Rattle.smtlib.specs.Lexicon.{bytes, same}
use Rattle.smtlib.specs.Read.{Token, Sexps, Command}
use Rattle.task.specs.Ast.{Binder, Pred, Task}
use Rattle.smt_text.specs.Editions.{NameTable}
use Rattle.smt_text.specs.Encoder.{Declared, declared}
use Rattle.smt_text.specs.Template.{Template, fill}
use Rattle.smt_text.specs.Sexp.{row, group, symbol, reserved, binders_sexp, expr_sexp, pred_sexp, datatype_command, constant_command, function_command, kvar_command}
use Rattle.horn_text.specs.Clauses.{HornClause, clauses_of}

-- predicates
abbrev pub preds_sexp : Declared → List Pred → List Template
preds_sexp env [] = []
preds_sexp env (p ∷ ps) = pred_sexp env p ∷ preds_sexp env ps

-- the guards before a KVar head
abbrev pub guards_sexp : Declared → List Pred → Template
guards_sexp env [] = symbol "true"
guards_sexp env (g ∷ []) = pred_sexp env g
guards_sexp env (g ∷ h ∷ gs) = group (symbol "and" ∷ preds_sexp env (g ∷ h ∷ gs))

-- the guards of an expression head, and its negation
abbrev pub negation_sexp : Declared → List Pred → Template → Template
negation_sexp env [] n = n
negation_sexp env (g ∷ gs) n = group (symbol "and" ∷ (preds_sexp env (g ∷ gs) ++ n ∷ []))

-- the guards imply a KVar head; an expression head follows by false from its negation
unfoldable pub implication_sexp : Declared → List Pred → Pred → Template
implication_sexp env gs (Pred.kvar k es) = group (symbol "=>" ∷ guards_sexp env gs ∷ pred_sexp env (Pred.kvar k es) ∷ [])
implication_sexp env gs (Pred.expr e) =
    group (symbol "=>" ∷ negation_sexp env gs (group (symbol "not" ∷ expr_sexp env e ∷ [])) ∷ symbol "false" ∷ [])

-- the binders, if there are any
abbrev pub forall_sexp : Declared → List Binder → Template → Template
forall_sexp env [] x = x
forall_sexp env (b ∷ bs) x = group (reserved "forall" ∷ group (binders_sexp env (b ∷ bs)) ∷ x ∷ [])

-- an assertion, from the binders and guards of its path and its head alone
unfoldable pub assertion_command : Declared → HornClause → Template
assertion_command env c = row (reserved "assert" ∷ forall_sexp env c.vars (implication_sexp env c.guards c.head) ∷ [])

-- the declarations in section order
abbrev pub declaration_commands : Declared → Task → List Template
declaration_commands env t =
    map (datatype_command env) t.datatypes ++ (map (constant_command env) t.constants
    ++ (map (function_command env) t.functions ++ map (kvar_command env) t.kvars))

-- `(set-logic HORN)`, the declarations, the assertions, `(check-sat)`
abbrev pub templates_of : Task → List Template
templates_of t =
    row (reserved "set-logic" ∷ symbol "HORN" ∷ []) ∷ (declaration_commands (declared t.datatypes) t
    ++ (map (assertion_command (declared t.datatypes)) (clauses_of t) ++ row (reserved "check-sat" ∷ []) ∷ []))

-- the commands that a task calls for: one list of templates, filled in from the table
abbrev pub commands_of : NameTable → Task → List Command
commands_of names t = map (fill names) (templates_of t)

-- the assertions of clauses
abbrev pub assertions_of : NameTable → Declared → List HornClause → List Command
assertions_of names env cs = map (fill names) (map (assertion_command env) cs)

-- a token is the word `assert`
abbrev pub is_assert : Token → Bool
is_assert (Token.word k w) = same w (bytes "assert")
is_assert (Token.string s) = false
is_assert (Token.quoted s) = false

-- a command is an assertion: it begins with that word
abbrev pub is_assertion : Command → Bool
is_assertion Sexps.end = false
is_assertion (Sexps.atom k xs) = is_assert k
is_assertion (Sexps.list ys xs) = false

-- the assertions among commands
abbrev pub assertions_among : List Command → List Command
assertions_among [] = []
assertions_among (c ∷ cs) = cond (is_assertion c) (c ∷ assertions_among cs) (assertions_among cs)
