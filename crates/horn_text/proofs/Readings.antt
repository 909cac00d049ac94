-- The script is read as the commands that the task calls for: `script_read`; which assertions are among the first commands; and how many among
-- all: `assertions_number`.
use Prim.Native.Nat.{ℕ, zero, suc, ◌+◌, ◌-◌}
use mathlib.Core.Path.{◌≡◌, refl, sym, ap, ◌∙◌}
use mathlib.Core.Bool.{Bool, true, false, cond}
use mathlib.Core.List.{List, [], ◌∷◌, ◌++◌, map, append_assoc, map-append}
use mathlib.Core.Option.{Option, none, some}
use native.Mathlib.Nat.{add_assoc, zero-sub, sub-zero, suc-sub-suc}
use native.Mathlib.Omega.{arith}
use lib.ListN.{length, take, length-append, length-map}
use lib.Seq.{take-nil, take_all, take-length}
use Rattle.smtlib.specs.Lexicon.{bytes, all, visible, reserved_words}
use Rattle.smtlib.specs.Read.{Command, Reading}
use Rattle.smtlib.specs.Compose.{Writes}
use Rattle.smtlib.proofs.Compose.{composition}
use Rattle.smtlib.proofs.Cut.{cuts}
use Rattle.task.specs.declared.Fault.{Fault}
use Rattle.task.specs.declared.Fault.TheVariants.{Sound}
use Rattle.task.specs.Ast.{Binder, Pred, Constraint, Constraints, FunDef, FunBody, Task}
use Rattle.task.specs.Fault.{lower, each, text_fault, binder_fault, pred_fault, constraint_fault, constraints_fault, task_fault}
use Rattle.task.specs.Task.{literally_true, declarations}
use Rattle.task.proofs.Judging.{sound_parts}
use Rattle.smt_text.specs.Editions.{NameTable, Valid}
use Rattle.smt_text.specs.Encoder.{Declared, declared, encoder}
use Rattle.smt_text.specs.Template.{Template, fill, sets_in_all}
use Rattle.smt_text.specs.Text.{write_binder, write_binders}
use Rattle.smt_text.specs.Sexp.{row, reserved, symbol, binder_sexp, binders_sexp, datatype_command, constant_command, body_command, function_command, kvar_command}
use Rattle.smt_text.specs.Theorems.{Spelled, Written}
use Rattle.smt_text.proofs.Spelling.{same, ◌⊕◌, listed, Trailed, trailed_nothing, trailed_list, Each, end, ◌∣◌, first, in_row, listing, form, command, word, kept, text_holds, name_says, sort_says, binder_says, expr_says, pred_says, spelling}
use Rattle.horn_text.specs.Clauses.{HornClause, flatten_constraint, flatten_constraints, clauses_of}
use Rattle.horn_text.specs.Clauses as clauses
use Rattle.horn_text.specs.Script.{join, write_preds, write_guard_conjunction, write_negation, write_implication, write_forall, write_assert, write_comment, write_comments, opening, closing, parts_of, script_of}
use Rattle.horn_text.specs.Commands.{preds_sexp, guards_sexp, negation_sexp, implication_sexp, forall_sexp, assertion_command, assertions_of, declaration_commands, templates_of, commands_of, is_assertion, assertions_among}
use Rattle.horn_text.specs.Theorems.{ScriptRead, ScriptFilled, FirstAssertions, AllAssertions, AssertionsNumber}
use Rattle.horn_text.proofs.Places.{clauses_number}
open composition use {writes_nothing, writes_more, writes_blank, writes_comment, written_read}
open sound_parts use {none_left, none_right, none_both}

-- ASSERTIONS

-- pieces behind others
beside : {vs ws : NameTable → List (List ℕ)} {xs ys : List Template} → Each vs xs → Each ws ys → Each (λ n. vs n ++ ws n) (xs ++ ys)
beside end r = r
beside (s ∣ e) r = s ∣ beside e r

module _ (env : Declared) where
  -- binders without spaces
  binders_follow : (bs : List Binder) → each binder_fault bs ≡ Sound → Trailed (λ n. join (write_binders (encoder n env) bs)) (row (binders_sexp env bs))
  unfolding write_binder binder_sexp binder_fault
  binders_follow [] h = trailed_nothing
  binders_follow (b ∷ bs) h =
      let k = none_left _ _ h in
      trailed_list
      (in_row (name_says b.name (none_left _ _ k) ∣ sort_says env false b.sort (none_right _ _ k) ∣ end))
      (binders_follow bs (none_right _ _ h))

  -- each predicate
  preds_say : (ps : List Pred) → each pred_fault ps ≡ Sound → Each (λ n. write_preds (encoder n env) ps) (preds_sexp env ps)
  preds_say [] h = end
  preds_say (p ∷ ps) h = pred_says env p (none_left _ _ h) ∣ preds_say ps (none_right _ _ h)

  -- the guards before a KVar head
  guards_say : (gs : List Pred) → each pred_fault gs ≡ Sound → Spelled (λ n. write_guard_conjunction (encoder n env) gs) (guards_sexp env gs)
  unfolding reserved_words
  guards_say [] h = word "true" tt
  guards_say (g ∷ []) h = pred_says env g (none_left _ _ h)
  guards_say (g ∷ f ∷ gs) h = form (word "and" tt ∣ preds_say (g ∷ f ∷ gs) h)

  -- the guards of an expression head, and its negation
  negation_says : {w : NameTable → List ℕ} {x : Template} (gs : List Pred) → each pred_fault gs ≡ Sound → Spelled w x
      → Spelled (λ n. write_negation (encoder n env) gs (w n)) (negation_sexp env gs x)
  unfolding reserved_words
  negation_says [] h s = s
  negation_says (g ∷ gs) h s = form (word "and" tt ∣ beside (preds_say (g ∷ gs) h) (s ∣ end))

  -- a head behind its guards
  implication_says : (gs : List Pred) (p : Pred) → each pred_fault gs ≡ Sound → pred_fault p ≡ Sound
      → Spelled (λ n. write_implication (encoder n env) gs p) (implication_sexp env gs p)
  unfolding write_implication implication_sexp pred_fault reserved_words
  implication_says gs (Pred.kvar k es) g h = form (word "=>" tt ∣ guards_say gs g ∣ pred_says env (Pred.kvar k es) h ∣ end)
  implication_says gs (Pred.expr e) g h =
      form (word "=>" tt ∣ negation_says gs g (form (word "not" tt ∣ expr_says env false e h ∣ end)) ∣ word "false" tt ∣ end)

  -- what stands under the binders, if there are any
  forall_says : {w : NameTable → List ℕ} {x : Template} (bs : List Binder) → each binder_fault bs ≡ Sound → Spelled w x
      → Spelled (λ n. write_forall (encoder n env) bs (w n)) (forall_sexp env bs x)
  unfolding reserved_words
  forall_says [] h s = s
  forall_says (b ∷ bs) h s =
      form (kept "forall" tt ∣
      listing (first (binder_says env b (none_left _ _ h)) (binders_follow bs (none_right _ _ h))) ∣ s ∣ end)

-- the fault of a clause
unfoldable pub clause_fault : HornClause → Fault
clause_fault c = lower (each binder_fault c.vars) (lower (each pred_fault c.guards) (pred_fault c.head))

-- the assertion of a clause without fault is its command
assertion_writes : (env : Declared) (c : HornClause) → clause_fault c ≡ Sound → Written (λ n. write_assert (encoder n env) c) (assertion_command env c ∷ [])
unfolding write_assert assertion_command clause_fault reserved_words
assertion_writes env c h =
    let k = none_right _ _ h in
    let i = implication_says env c.guards c.head (none_left _ _ k) (none_right _ _ k) in
    command (kept "assert" tt ∣ forall_says env c.vars (none_left _ _ h) i ∣ end)

-- THE CLAUSES ARE WITHOUT FAULT

module _ {A : Type 0} (fault : A → Fault) where
  -- two lists without fault make one
  each_append : (xs ys : List A) → each fault xs ≡ Sound → each fault ys ≡ Sound → each fault (xs ++ ys) ≡ Sound
  each_append [] ys h k = k
  each_append (x ∷ xs) ys h k = none_both _ _ (none_left _ _ h) (each_append xs ys (none_right _ _ h) k)

  -- so a test picks one
  each_cond : (t : Bool) (xs ys : List A) → each fault xs ≡ Sound → each fault ys ≡ Sound → each fault (cond t xs ys) ≡ Sound
  each_cond true xs ys h k = h
  each_cond false xs ys h k = k

-- the predicates that are kept
kept_sound : (ps : List Pred) → each pred_fault ps ≡ Sound → each pred_fault (clauses.kept ps) ≡ Sound
kept_sound [] h = refl
kept_sound (p ∷ ps) h =
    let k = kept_sound ps (none_right _ _ h) in
    each_cond pred_fault (literally_true p) _ _ k (none_both _ _ (none_left _ _ h) k)

mutual
  unfolding flatten_constraint constraint_fault clause_fault binder_fault

  -- a constraint without fault, on a path without fault
  pub clauses_sound : (around : List (List ℕ)) (c : Constraint) (vars : List Binder) (guards : List Pred) → each binder_fault vars ≡ Sound
      → each pred_fault guards ≡ Sound → constraint_fault around c ≡ Sound → each clause_fault (flatten_constraint c vars guards) ≡ Sound
  clauses_sound around (Constraint.pred p) vars guards v g h =
      each_cond clause_fault (literally_true p) _ _ refl (none_both _ _ (none_both _ _ v (none_both _ _ g h)) refl)
  clauses_sound around (Constraint.conj cs) vars guards v g h = all_sound around cs vars guards v g h
  clauses_sound around (Constraint.for_all x b ps c) vars guards v g h =
      let i = none_right _ _ (none_right _ _ h) in
      let j = none_right _ _ i in
      clauses_sound (around ++ x ∷ []) c _ _
      (each_append binder_fault vars _ v (none_both _ _ (none_both _ _ (none_left _ _ h) (none_left _ _ i)) refl))
      (each_append pred_fault guards _ g (kept_sound ps (none_left _ _ j)))
      (none_right _ _ j)

  -- constraints in a row
  all_sound : (around : List (List ℕ)) (cs : Constraints) (vars : List Binder) (guards : List Pred) → each binder_fault vars ≡ Sound
      → each pred_fault guards ≡ Sound → constraints_fault around cs ≡ Sound → each clause_fault (flatten_constraints cs vars guards) ≡ Sound
  all_sound around Constraints.none vars guards v g h = refl
  all_sound around (Constraints.more c cs) vars guards v g h =
      each_append clause_fault (flatten_constraint c vars guards) _
      (clauses_sound around c vars guards v g (none_left _ _ h))
      (all_sound around cs vars guards v g (none_right _ _ h))

-- THE SCRIPT

-- a text without commands, the same for every table
plain : {w : List ℕ} → Writes w [] → Written (λ n. w) []
plain {w} h = record { writes = λ n v. h; pieces = same w }

-- the set functions of commands and more commands
sets_more : (xs ys : List Template) → sets_in_all xs ++ sets_in_all ys ≡ sets_in_all (xs ++ ys)
sets_more [] ys = refl
sets_more (x ∷ xs) ys = rw (append_assoc, sets_more xs ys)

-- a text and a text behind it
more : {u v : NameTable → List ℕ} {xs ys : List Template} → Written u xs → Written v ys → Written (λ n. u n ++ v n) (xs ++ ys)
more {xs = xs} {ys = ys} h k = record {
  writes = λ n v. rw (map-append (fill n) xs ys) (writes_more (h.writes n v) (k.writes n v));
  pieces = listed (h.pieces ⊕ k.pieces) (sets_more xs ys);
}

-- the parts of two rows, joined
pub join_append : (us vs : List (List ℕ)) → join (us ++ vs) ≡ join us ++ join vs
join_append [] vs = refl
join_append (u ∷ us) vs = rw (join_append us vs, append_assoc)

-- parts that write commands when they are joined
record Parts (ws : NameTable → List (List ℕ)) (xs : List Template) : Type 0 where
  written : Written (λ n. join (ws n)) xs

-- a part alone
one_part : {w : NameTable → List ℕ} {xs : List Template} → Written w xs → Parts (λ n. w n ∷ []) (xs ++ [])
one_part h = record { written = more h (plain writes_nothing) }

-- parts and more parts
infixr 5 ◌then◌
◌then◌ : {us vs : NameTable → List (List ℕ)} {xs ys : List Template} → Parts us xs → Parts vs ys → Parts (λ n. us n ++ vs n) (xs ++ ys)
◌then◌ {us} {vs} {xs} {ys} h k = let w = more h.written k.written in record {
  written = record {
    writes = λ n v. rw (join_append (us n) (vs n)) (w.writes n v);
    pieces = record { pieces = w.pieces.pieces; are = λ n. join_append (us n) (vs n) ∙ w.pieces.are n; places = w.pieces.places };
  };
}

-- a section without fault: a command for each of its items
section : {A : Type 0} {fault : A → Fault} {text : NameTable → A → List ℕ} {says : A → Template}
    → ((a : A) → fault a ≡ Sound → Written (λ n. text n a) (says a ∷ [])) → (xs : List A) → each fault xs ≡ Sound → Parts (λ n. map (text n) xs) (map says xs)
section f [] h = record { written = plain writes_nothing }
section f (x ∷ xs) h = record { written = more (f x (none_left _ _ h)) (section f xs (none_right _ _ h)).written }

-- comments are no commands
comments_write : (cs : List (List ℕ)) → each text_fault cs ≡ Sound → Writes (join (map write_comment cs)) []
unfolding text_fault
comments_write [] h = writes_nothing
comments_write (c ∷ cs) h =
    writes_more
    (writes_comment (bytes "; " ++ c) (text_holds (all visible c) (none_left _ _ h)))
    (comments_write cs (none_right _ _ h))

-- the comments and the blank line, if there are any
heading_writes : (cs : List (List ℕ)) → each text_fault cs ≡ Sound → Writes (write_comments cs) []
heading_writes [] h = writes_nothing
heading_writes (c ∷ cs) h = writes_more (comments_write (c ∷ cs) h) writes_blank

-- the first part is the first command
opening_writes : (cs : List (List ℕ)) → each text_fault cs ≡ Sound
    → Written (λ n. opening cs) (row (reserved "set-logic" ∷ symbol "HORN" ∷ []) ∷ [])
unfolding opening reserved_words
opening_writes cs h = more (more (command (kept "set-logic" tt ∣ word "HORN" tt ∣ end)) (plain writes_blank)) (plain (heading_writes cs h))

-- the last part is the last command
closing_writes : Written (λ n. closing) (row (reserved "check-sat" ∷ []) ∷ [])
unfolding closing reserved_words
closing_writes = more (plain writes_blank) (command (kept "check-sat" tt ∣ end))

-- the parts of a task without fault write its commands
script_parts : (t : Task) → task_fault t ≡ Sound → Parts (λ n. parts_of n t) (templates_of t)
unfolding task_fault
script_parts t h =
    let env = declared t.datatypes in
    let h1 = none_right _ _ h in
    let h2 = none_right _ _ h1 in
    let h3 = none_right _ _ h2 in
    let h4 = none_right _ _ h3 in
    one_part (opening_writes t.comments (none_left _ _ h)) then
    (section (spelling env).datatypes t.datatypes (none_left _ _ h1) then
    section (spelling env).constants t.constants (none_left _ _ h2) then
    section (spelling env).functions t.functions (none_left _ _ h3) then
    section (spelling env).kvars t.kvars (none_left _ _ h4)) then
    one_part (plain writes_blank) then
    section (assertion_writes env) (clauses_of t) (clauses_sound [] t.constraint [] [] refl refl (none_right _ _ h4)) then
    one_part closing_writes

pub script_reading : (names : NameTable) → Valid names → (t : Task) → task_fault t ≡ Sound → Reading (script_of names t) (commands_of names t)
script_reading names v t h = written_read ((script_parts t h).written.writes names v)

pub script_read : ScriptRead
script_read names v t h = cuts _ _ (script_reading names v t h)

pub script_filled : ScriptFilled
script_filled t h = (script_parts t h).written.pieces

-- THE FIRST COMMANDS

-- commands that are no assertions
data Others : List Command → Type 0 where
  nothing : Others []
  other : {c : Command} {cs : List Command} → is_assertion c ≡ false → Others cs → Others (c ∷ cs)

-- a section of such commands
others : (names : NameTable) {A : Type 0} (says : A → Template) → ((a : A) → is_assertion (fill names (says a)) ≡ false) → (xs : List A)
    → Others (map (fill names) (map says xs))
others names says e [] = nothing
others names says e (x ∷ xs) = other (e x) (others names says e xs)

-- two rows of them
infixr 5 ◌and◌
◌and◌ : {cs ds : List Command} → Others cs → Others ds → Others (cs ++ ds)
nothing and o = o
(other e r) and o = other e (r and o)

-- among the first commands they count for their number
passed : {cs : List Command} → Others cs → (rest : List Command) (n : ℕ)
    → assertions_among (take n (cs ++ rest)) ≡ assertions_among (take (n - length cs) rest)
passed nothing rest n = rw (sub-zero n)
passed (other {cs} e o) rest zero = rw (zero-sub (suc (length cs)))
passed (other {cs} e o) rest (suc n) = rw (e, passed o rest n, suc-sub-suc)

-- the first assertions are those of the first clauses, and no other follows
asserted : (names : NameTable) (env : Declared) (cs : List HornClause) (n : ℕ)
    → assertions_among (take n (assertions_of names env cs ++ fill names (row (reserved "check-sat" ∷ [])) ∷ [])) ≡ assertions_of names env (take n cs)
unfolding assertion_command
asserted names env cs zero = refl
asserted names env [] (suc n) = rw (take-nil n)
asserted names env (c ∷ cs) (suc n) = rw (asserted names env cs n)

-- a function with or without a body
function_other : (names : NameTable) (env : Declared) (f : FunDef) (o : Option FunBody) → is_assertion (fill names (body_command env f o)) ≡ false
function_other names env f none = refl
function_other names env f (some b) = refl

-- no declaration is an assertion
declarations_other : (names : NameTable) (env : Declared) (t : Task) → Others (map (fill names) (declaration_commands env t))
unfolding datatype_command constant_command function_command kvar_command
declarations_other names env t =
    rw (map-append (fill names), map-append (fill names), map-append (fill names)) (
    others names (datatype_command env) (λ d. refl) t.datatypes and
    others names (constant_command env) (λ b. refl) t.constants and
    others names (function_command env) (λ f. function_other names env f f.body) t.functions and
    others names (kvar_command env) (λ k. refl) t.kvars)

pub first_assertions : FirstAssertions
first_assertions names t n =
    let env = declared t.datatypes in
    let e : length (map (fill names) (declaration_commands env t)) ≡ declarations t = simp (length-append, length-map, add_assoc) in
    rw (map-append (fill names) (declaration_commands env t), map-append (fill names) (map (assertion_command env) (clauses_of t)))
    (passed (other refl (declarations_other names env t)) _ n ∙ rw e (asserted names env (clauses_of t) (n - suc (declarations t))))

pub all_assertions : AllAssertions
all_assertions names t =
    let env = declared t.datatypes in
    let n = length (commands_of names t) in
    let e : n ≡ suc (declarations t + (length (clauses_of t) + 1)) = simp (length-map, length-append) (omega arith) in
    ap assertions_among (sym (take-length (commands_of names t)))
    ∙ first_assertions names t n ∙ ap (assertions_of names env) (take_all (n - suc (declarations t)) (clauses_of t) (omega arith))

pub assertions_number : AssertionsNumber
assertions_number names t = ap length (all_assertions names t) ∙ simp length-map (clauses_number t)
