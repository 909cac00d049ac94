-- The text of a piece without fault spells its S-expression, and that of a declaration its command: `spelling`.
use Prim.Native.Nat.{ℕ, zero, suc}
use Prim.Native.String.{String}
use Prim.Native.Char.{code}
use mathlib.Core.Path.{◌≡◌, refl, sym, ap, subst, ◌∙◌}
use mathlib.Core.Bool.{Bool, true, false, cond, ◌&&◌}
use mathlib.Core.List.{List, [], ◌∷◌, ◌++◌, append-nil, append_assoc}
use mathlib.Core.Option.{Option, none, some}
use lib.Dec.{T, eqb}
use Rattle.smtlib.specs.Lexicon.{Kind, bytes, all, digit, letter, symbol_byte, visible, is_numeral, is_symbol, is_of, reserved_words}
use Rattle.smtlib.specs.Read.{Token, Spells, as_word, as_string, as_quoted}
use Rattle.smtlib.specs.Compose.{Follows, paren, line, decimal}
use Rattle.smtlib.specs.Compose as sexps
use Rattle.smtlib.proofs.Bools.{clash, and_left, both, or_right, all_map, is_true}
use Rattle.smtlib.proofs.Compose.{composition, string_spells}
use Rattle.smtlib.proofs.Decimal.{decimal_spells}
use Rattle.task.specs.declared.BinOp.{BinOp}
use Rattle.task.specs.declared.BinOp.TheVariants as op
use Rattle.task.specs.declared.BinRel.{BinRel}
use Rattle.task.specs.declared.BinRel.TheVariants as rel
use Rattle.task.specs.declared.Fault.TheVariants.{Text, Sound}
use Rattle.task.specs.declared.Quantifier.{Quantifier}
use Rattle.task.specs.declared.Quantifier.TheVariants as quantifier
use Rattle.task.specs.declared.ThyFunc.{ThyFunc}
use Rattle.task.specs.declared.ThyFunc.TheVariants.{StrLen, StrConcat, StrPrefixOf, StrSuffixOf, StrContains, BvZeroExtend, BvSignExtend, IntToBv8, Bv8ToInt, IntToBv32, Bv32ToInt, IntToBv64, Bv64ToInt, IntToBv128, Bv128ToInt, BvUle, BvSle, BvUge, BvSge, BvUdiv, BvSdiv, BvSrem, BvUrem, BvLshr, BvAshr, BvAnd, BvOr, BvXor, BvNot, BvAdd, BvNeg, BvSub, BvMul, BvShl, BvUgt, BvSgt, BvUlt, BvSlt, SetEmpty, SetSng, SetCup, SetCap, SetDif, SetSub, SetMem, MapDefault, MapSelect, MapStore}
use Rattle.task.specs.Ast.{SortCtor, Sort, Sorts, Binder, Constant, Expr, Exprs, Pred, DataCtor, DataDecl, FunBody, FunDef, KVarDecl}
use Rattle.task.specs.Fault.{unless, each, name_fault, text_fault, ctor_fault, sort_fault, sorts_fault, binder_fault, constant_fault, given_fault, expr_fault, exprs_fault, pred_fault, data_ctor_fault, datatype_fault, body_fault, function_fault, kvar_fault}
use Rattle.task.proofs.Judging.{sound_parts}
use Rattle.smt_text.specs.Editions.{SetFunction, NameTable, Valid}
use Rattle.smt_text.specs.Encoder.{Declared, encoder, is_opaque, is_qualified, zip}
use Rattle.smt_text.specs.Theory.{Identifier, thy_func_name}
use Rattle.smt_text.specs.Text.{spaced, separated, sexp_list, applied, write_name, write_string, write_identifier, write_thy_func, write_sort_ctor, write_sort, write_sorts, write_binder, write_binders, write_constant, write_nary, write_bin_op, write_atom, write_quantifier, write_as, write_application_head, write_expr, write_exprs, write_pred, write_ctor, write_ctors, write_parameters, write_datatype_decl, write_const_decl, write_fun_body, write_fun_def, write_kvar_decl}
use Rattle.smt_text.specs.Template.{Template, append, fill, atom_sets, sets_in, Piece, filled, sets_among, Filled}
use Rattle.smt_text.specs.Sexp.{token, row, group, applied_to, symbol, reserved, name_sexp, string_sexp, numeral, numbered, identifier_sexp, thy_func_sexp, sort_ctor_sexp, sort_sexp, sorts_sexp, binder_sexp, binders_sexp, constant_sexp, bin_op_sexp, atom_sexp, connective_sexp, quantifier_sexp, as_sexp, head_sexp, expr_sexp, exprs_sexp, pred_sexp, ctor_sexp, ctors_sexp, parameters_sexp, datatype_command, constant_command, body_command, function_command, kvar_command}
use Rattle.smt_text.specs.Theorems.{Spelled, Written, Spelling}
open composition use {says_token, says_nothing, says_list, says_row, follows_nothing, follows_spaced, follows_list, writes_command}
open sound_parts use {none_left, none_right}

-- PIECES

-- bytes that no table changes
pub same : (w : List ℕ) → Filled (λ n. w) []
same w = record { pieces = Piece.fixed w ∷ []; are = λ n. sym (append-nil w); places = refl }

-- a set function
place : (f : SetFunction) → Filled (λ n. n f) (f ∷ [])
place f = record { pieces = Piece.set f ∷ []; are = λ n. sym (append-nil (n f)); places = refl }

filled_append : (n : NameTable) (ps qs : List Piece) → filled n (ps ++ qs) ≡ filled n ps ++ filled n qs
filled_append n [] qs = refl
filled_append n (Piece.fixed w ∷ ps) qs = rw (filled_append n ps qs, append_assoc)
filled_append n (Piece.set f ∷ ps) qs = rw (filled_append n ps qs, append_assoc)

sets_append : (ps qs : List Piece) → sets_among (ps ++ qs) ≡ sets_among ps ++ sets_among qs
sets_append [] qs = refl
sets_append (Piece.fixed w ∷ ps) qs = sets_append ps qs
sets_append (Piece.set f ∷ ps) qs = rw (sets_append ps qs)

infixr 5 ◌⊕◌
-- a text and a text behind it
pub ◌⊕◌ : {u v : NameTable → List ℕ} {xs ys : List SetFunction} → Filled u xs → Filled v ys → Filled (λ n. u n ++ v n) (xs ++ ys)
◌⊕◌ p q = record {
  pieces = p.pieces ++ q.pieces;
  are = λ n. rw (p.are n, q.are n) (sym (filled_append n p.pieces q.pieces));
  places = rw (sets_append p.pieces q.pieces, p.places, q.places);
}

-- the set functions, given in another way
pub listed : {u : NameTable → List ℕ} {xs ys : List SetFunction} → Filled u xs → xs ≡ ys → Filled u ys
listed p e = record { pieces = p.pieces; are = p.are; places = p.places ∙ e }

-- a text in parentheses
pub enclosed : {u : NameTable → List ℕ} {xs : List SetFunction} → Filled u xs → Filled (λ n. paren (u n)) xs
enclosed p = listed (same (code "(" ∷ []) ⊕ p ⊕ same (code ")" ∷ [])) (append-nil _)

-- ROWS OF TEMPLATES

fill_append : (n : NameTable) (x y : Template) → fill n (append x y) ≡ sexps.append (fill n x) (fill n y)
fill_append n Template.end y = refl
fill_append n (Template.atom a x) y = rw (fill_append n x y)
fill_append n (Template.list z x) y = rw (fill_append n x y)

sets_behind : (x y : Template) → sets_in x ++ sets_in y ≡ sets_in (append x y)
sets_behind Template.end y = refl
sets_behind (Template.atom a x) y = append_assoc (atom_sets a) (sets_in x) (sets_in y) ∙ ap (λ (fs : List SetFunction). atom_sets a ++ fs) (sets_behind x y)
sets_behind (Template.list z x) y = append_assoc (sets_in z) (sets_in x) (sets_in y) ∙ ap (λ (fs : List SetFunction). sets_in z ++ fs) (sets_behind x y)

-- LISTS

-- a text that may stand behind a token
pub record Trailed (text : NameTable → List ℕ) (x : Template) : Type 0 where
  pub follows : (names : NameTable) → Valid names → Follows (text names) (fill names x)
  pub pieces : Filled text (sets_in x)

-- nothing
pub trailed_nothing : Trailed (λ n. []) Template.end
trailed_nothing = record { follows = λ n v. follows_nothing; pieces = same [] }

-- a list with no space before it
pub trailed_list : {u v : NameTable → List ℕ} {x y : Template} → Spelled u x → Trailed v y → Trailed (λ n. paren (u n) ++ v n) (Template.list x y)
trailed_list s r = record {
  follows = λ n v. follows_list (s.says n v) (r.follows n v);
  pieces = enclosed s.pieces ⊕ r.pieces;
}

infixr 5 ◌∣◌
-- each text says its piece
pub data Each : (NameTable → List (List ℕ)) → List Template → Type 0 where
  end : Each (λ n. []) []
  ◌∣◌ : {w : NameTable → List ℕ} {ws : NameTable → List (List ℕ)} {x : Template} {xs : List Template} → Spelled w x → Each ws xs → Each (λ n. w n ∷ ws n) (x ∷ xs)

-- in a row, a space before each
behind : {ws : NameTable → List (List ℕ)} {xs : List Template} → Each ws xs → Trailed (λ n. spaced (ws n)) (row xs)
behind end = trailed_nothing
behind (◌∣◌ {x = x} {xs = xs} s e) = let r = behind e in record {
  follows = λ n v. rw (fill_append n x (row xs)) (follows_spaced (s.says n v) (r.follows n v));
  pieces = listed (same (code " " ∷ []) ⊕ s.pieces ⊕ r.pieces) (sets_behind x (row xs));
}

-- a piece and what follows it
pub first : {u v : NameTable → List ℕ} {x y : Template} → Spelled u x → Trailed v y → Spelled (λ n. u n ++ v n) (append x y)
first {x = x} {y = y} s r = record {
  says = λ n v. rw (fill_append n x y) (says_row (s.says n v) (r.follows n v));
  pieces = listed (s.pieces ⊕ r.pieces) (sets_behind x y);
}

pub in_row : {ws : NameTable → List (List ℕ)} {xs : List Template} → Each ws xs → Spelled (λ n. separated (ws n)) (row xs)
in_row end = record { says = λ n v. says_nothing; pieces = same [] }
in_row (s ∣ e) = first s (behind e)

-- a list
pub listing : {u : NameTable → List ℕ} {x : Template} → Spelled u x → Spelled (λ n. paren (u n)) (Template.list x Template.end)
listing s = record { says = λ n v. says_list (s.says n v); pieces = listed (enclosed s.pieces) (sym (append-nil _)) }

pub form : {ws : NameTable → List (List ℕ)} {xs : List Template} → Each ws xs → Spelled (λ n. sexp_list (ws n)) (group xs)
form e = listing (in_row e)

pub command : {ws : NameTable → List (List ℕ)} {xs : List Template} → Each ws xs → Written (λ n. line (sexp_list (ws n))) (row xs ∷ [])
command e = let s = in_row e in record {
  writes = λ n v. writes_command (s.says n v);
  pieces = enclosed s.pieces ⊕ same (code "\n" ∷ []);
}

says_applied : {f : NameTable → List ℕ} {x : Template} {ws : NameTable → List (List ℕ)} {xs : List Template}
    → Spelled f x → Each ws xs → Spelled (λ n. applied (f n) (ws n)) (applied_to x xs)
says_applied s end = s
says_applied s (t ∣ e) = form (s ∣ t ∣ e)

says_nary : {f z : NameTable → List ℕ} {x y : Template} {ws : NameTable → List (List ℕ)} {xs : List Template}
    → Spelled f x → Each ws xs → Spelled z y → Spelled (λ n. write_nary (f n) (ws n) (z n)) (connective_sexp x xs y)
says_nary s end e = e
says_nary s (t ∣ r) e = form (s ∣ t ∣ r)

says_cond : (t : Bool) {u v : NameTable → List ℕ} {x y : Template} → Spelled u x → Spelled v y → Spelled (λ n. cond t (u n) (v n)) (cond t x y)
says_cond true a b = a
says_cond false a b = b

-- TOKENS

-- a token that no table changes
says_fixed : {w : List ℕ} {k : Token} → Spells w k → Spelled (λ n. w) (token k)
says_fixed {w} s = record { says = λ n v. says_token s; pieces = same w }

-- a symbol, a reserved word
named : (x : List ℕ) → T (is_symbol x) → Spelled (λ n. x) (name_sexp x)
named x h = says_fixed (as_word Kind.symbol x h)

pub kept : (w : String) → T (is_of Kind.reserved (bytes w)) → Spelled (λ n. bytes w) (reserved w)
kept w h = says_fixed (as_word Kind.reserved (bytes w) h)

pub word : (w : String) → T (is_symbol (bytes w)) → Spelled (λ n. bytes w) (symbol w)
word w h = named (bytes w) h

number : (m : ℕ) → Spelled (λ n. decimal m) (numeral m)
number m = says_fixed (decimal_spells m)

-- a numeral is digits, and these may stand in a symbol
numeral_digits : (w : List ℕ) → T (is_numeral w) → T (all digit w)
numeral_digits [] h = tt
numeral_digits (b ∷ []) h = both (digit b) true h tt
numeral_digits (b ∷ c ∷ w) h = and_left (all digit (b ∷ c ∷ w)) _ h

spelled_digits : {w : List ℕ} {k : Token} → Spells w k → k ≡ Token.word Kind.numeral w → T (all digit w)
spelled_digits (as_word k w h) e = let l : k ≡ Kind.numeral = cc in numeral_digits w (subst (λ (j : Kind). T (is_of j w)) l h)
spelled_digits (as_string s h) e = clash (cc)
spelled_digits (as_quoted s h) e = clash (cc)

digit_symbol : (b : ℕ) → T (digit b) → T (symbol_byte b)
digit_symbol b h = or_right (letter b) _ (rw (is_true (digit b) h) tt)

-- letters and a number are a symbol where no reserved word begins so
lettered : (w : List ℕ) → ((d : List ℕ) → is_symbol (w ++ d) ≡ all symbol_byte d && true) → (m : ℕ)
    → Spelled (λ n. w ++ decimal m) (name_sexp (w ++ decimal m))
lettered w e m =
    let h : T (all symbol_byte (decimal m)) = all_map digit symbol_byte digit_symbol (decimal m) (spelled_digits (decimal_spells m) refl) in
    named (w ++ decimal m) (rw (e (decimal m)) (both (all symbol_byte (decimal m)) true h tt))

parameter : (m : ℕ) → Spelled (λ n. bytes "T" ++ decimal m) (numbered "T" m)
unfolding reserved_words
parameter m = lettered (bytes "T") (λ d. refl) m

-- NAMES AND STRINGS

pub text_holds : (t : Bool) → unless t Text ≡ Sound → T t
text_holds true h = tt
text_holds false h = clash (cc)

pub name_says : (x : List ℕ) → name_fault x ≡ Sound → Spelled (λ n. write_name x) (name_sexp x)
unfolding name_fault write_name
name_says x h = named x (text_holds (is_symbol x) h)

string_says : (t : List ℕ) → text_fault t ≡ Sound → Spelled (λ n. write_string t) (string_sexp t)
unfolding text_fault write_string
string_says t h = says_fixed (string_spells t (text_holds (all visible t) h))

-- THEORY FUNCTIONS

-- what is called so, whatever the table, is a symbol
well_named : Identifier → Bool
well_named (Identifier.plain f) = is_symbol (bytes f)
well_named (Identifier.indexed f m) = is_symbol (bytes f)
well_named (Identifier.set f) = true

identifier : (i : Identifier) → T (well_named i) → Spelled (λ n. write_identifier n i) (identifier_sexp i)
unfolding well_named reserved_words
identifier (Identifier.plain f) h = word f h
identifier (Identifier.indexed f m) h = form (kept "_" tt ∣ word f h ∣ number m ∣ end)
identifier (Identifier.set f) h = record {
  says = λ n v. says_token (as_word Kind.symbol (n f) (v f).symbol);
  pieces = place f;
}

well_named_lem : (f : ThyFunc) → T (well_named (thy_func_name f))
unfolding well_named thy_func_name reserved_words
well_named_lem StrLen = tt
well_named_lem StrConcat = tt
well_named_lem StrPrefixOf = tt
well_named_lem StrSuffixOf = tt
well_named_lem StrContains = tt
well_named_lem (BvZeroExtend w) = tt
well_named_lem (BvSignExtend w) = tt
well_named_lem IntToBv8 = tt
well_named_lem Bv8ToInt = tt
well_named_lem IntToBv32 = tt
well_named_lem Bv32ToInt = tt
well_named_lem IntToBv64 = tt
well_named_lem Bv64ToInt = tt
well_named_lem IntToBv128 = tt
well_named_lem Bv128ToInt = tt
well_named_lem BvUle = tt
well_named_lem BvSle = tt
well_named_lem BvUge = tt
well_named_lem BvSge = tt
well_named_lem BvUdiv = tt
well_named_lem BvSdiv = tt
well_named_lem BvSrem = tt
well_named_lem BvUrem = tt
well_named_lem BvLshr = tt
well_named_lem BvAshr = tt
well_named_lem BvAnd = tt
well_named_lem BvOr = tt
well_named_lem BvXor = tt
well_named_lem BvNot = tt
well_named_lem BvAdd = tt
well_named_lem BvNeg = tt
well_named_lem BvSub = tt
well_named_lem BvMul = tt
well_named_lem BvShl = tt
well_named_lem BvUgt = tt
well_named_lem BvSgt = tt
well_named_lem BvUlt = tt
well_named_lem BvSlt = tt
well_named_lem SetEmpty = tt
well_named_lem SetSng = tt
well_named_lem SetCup = tt
well_named_lem SetCap = tt
well_named_lem SetDif = tt
well_named_lem SetSub = tt
well_named_lem SetMem = tt
well_named_lem MapDefault = tt
well_named_lem MapSelect = tt
well_named_lem MapStore = tt

thy_says : (f : ThyFunc) → Spelled (λ n. write_thy_func n f) (thy_func_sexp f)
unfolding write_thy_func thy_func_sexp
thy_says f = identifier (thy_func_name f) (well_named_lem f)

-- FIXED WORDS

constant_says : (c : Constant) → constant_fault c ≡ Sound → Spelled (λ n. write_constant c) (constant_sexp c)
unfolding reserved_words
constant_says (Constant.numeral m) h = number m
constant_says (Constant.real m) h = number m
constant_says (Constant.boolean true) h = word "true" tt
constant_says (Constant.boolean false) h = word "false" tt
constant_says (Constant.string t) h = string_says t h
constant_says (Constant.bit_vec m w) h = form (kept "_" tt ∣ lettered (bytes "bv") (λ d. refl) m ∣ number w ∣ end)

bin_op : (o : BinOp) → Spelled (λ n. write_bin_op o) (bin_op_sexp o)
unfolding reserved_words
bin_op op.Add = word "+" tt
bin_op op.Sub = word "-" tt
bin_op op.Mul = word "*" tt
bin_op op.Div = word "div" tt
bin_op op.Mod = word "mod" tt

atom_says : (r : BinRel) {u v : NameTable → List ℕ} {x y : Template} → Spelled u x → Spelled v y → Spelled (λ n. write_atom r (u n) (v n)) (atom_sexp r x y)
unfolding reserved_words
atom_says rel.Eq a b = form (word "=" tt ∣ a ∣ b ∣ end)
atom_says rel.Ne a b = form (word "not" tt ∣ form (word "=" tt ∣ a ∣ b ∣ end) ∣ end)
atom_says rel.Gt a b = form (word ">" tt ∣ a ∣ b ∣ end)
atom_says rel.Ge a b = form (word ">=" tt ∣ a ∣ b ∣ end)
atom_says rel.Lt a b = form (word "<" tt ∣ a ∣ b ∣ end)
atom_says rel.Le a b = form (word "<=" tt ∣ a ∣ b ∣ end)

quantifier_says : (q : Quantifier) → Spelled (λ n. write_quantifier q) (quantifier_sexp q)
unfolding reserved_words
quantifier_says quantifier.Exists = kept "exists" tt
quantifier_says quantifier.Forall = kept "forall" tt

ctor_says : (c : SortCtor) → ctor_fault c ≡ Sound → Spelled (λ n. write_sort_ctor c) (sort_ctor_sexp c)
unfolding reserved_words
ctor_says SortCtor.set h = word "Set" tt
ctor_says SortCtor.map h = word "Array" tt
ctor_says (SortCtor.named x) h = name_says x h

parameters_say : (i m : ℕ) → Each (λ n. write_parameters i m) (parameters_sexp i m)
parameters_say i zero = end
parameters_say i (suc m) = parameter i ∣ parameters_say (suc i) m

module _ (env : Declared) where
  -- SORTS

  mutual
    unfolding write_sort sort_sexp sort_fault reserved_words

    pub sort_says : (under : Bool) (b : Sort) → sort_fault under b ≡ Sound → Spelled (λ n. write_sort (encoder n env) b) (sort_sexp env b)
    sort_says under Sort.int h = word "Int" tt
    sort_says under Sort.bool h = word "Bool" tt
    sort_says under Sort.real h = word "Real" tt
    sort_says under Sort.str h = word "String" tt
    sort_says under (Sort.bit_vec b) h = form (kept "_" tt ∣ word "BitVec" tt ∣ sort_says true b (none_right _ _ h) ∣ end)
    sort_says under (Sort.bv_size n) h = number n
    sort_says under (Sort.var i) h = parameter i
    sort_says under (Sort.func a b) h =
        let k = none_right _ _ h in
        form (word "Array" tt ∣ sort_says false a (none_left _ _ k) ∣ sort_says false b (none_right _ _ k) ∣ end)
    sort_says under (Sort.abs n b) h = sort_says false b (none_right _ _ h)
    sort_says under (Sort.app c bs) h =
        let k = none_right _ _ h in
        says_cond (is_opaque env c) (word "Int" tt) (says_applied (ctor_says c (none_left _ _ k)) (sorts_say bs (none_right _ _ k)))

    sorts_say : (bs : Sorts) → sorts_fault bs ≡ Sound → Each (λ n. write_sorts (encoder n env) bs) (sorts_sexp env bs)
    sorts_say Sorts.none h = end
    sorts_say (Sorts.more b bs) h = sort_says false b (none_left _ _ h) ∣ sorts_say bs (none_right _ _ h)

  pub binder_says : (b : Binder) → binder_fault b ≡ Sound → Spelled (λ n. write_binder (encoder n env) b) (binder_sexp env b)
  unfolding write_binder binder_sexp binder_fault
  binder_says b h = form (name_says b.name (none_left _ _ h) ∣ sort_says false b.sort (none_right _ _ h) ∣ end)

  binders_say : (bs : List Binder) → each binder_fault bs ≡ Sound → Each (λ n. write_binders (encoder n env) bs) (binders_sexp env bs)
  binders_say [] h = end
  binders_say (b ∷ bs) h = binder_says b (none_left _ _ h) ∣ binders_say bs (none_right _ _ h)

  -- a function's arguments with their sorts
  zipped_say : (xs : List (List ℕ)) (bs : Sorts) → each name_fault xs ≡ Sound → sorts_fault bs ≡ Sound
      → Each (λ n. write_binders (encoder n env) (zip xs bs)) (binders_sexp env (zip xs bs))
  unfolding write_binder binder_sexp sort_fault
  zipped_say [] bs h k = end
  zipped_say (x ∷ xs) Sorts.none h k = end
  zipped_say (x ∷ xs) (Sorts.more b bs) h k =
      form (name_says x (none_left _ _ h) ∣ sort_says false b (none_left _ _ k) ∣ end) ∣
      zipped_say xs bs (none_right _ _ h) (none_right _ _ k)

  -- EXPRESSIONS

  as_says : {w : NameTable → List ℕ} {x : Template} (o : Option Sort) → given_fault o ≡ Sound → Spelled w x → Spelled (λ n. write_as (encoder n env) (w n) o) (as_sexp env x o)
  unfolding reserved_words
  as_says none h s = s
  as_says (some b) h s = form (kept "as" tt ∣ s ∣ sort_says false b h ∣ end)

  head_says : (h : Expr) {w : NameTable → List ℕ} {x : Template} (o : Option Sort) → given_fault o ≡ Sound → Spelled w x
      → Spelled (λ n. write_application_head (encoder n env) h (w n) o) (head_sexp env h x o)
  unfolding write_application_head head_sexp
  head_says h o k s = says_cond (is_qualified env h) (as_says o k s) s

  mutual
    unfolding write_expr expr_sexp expr_fault reserved_words

    -- whether or not the expression is an application's head
    pub expr_says : (head : Bool) (e : Expr) → expr_fault head e ≡ Sound → Spelled (λ n. write_expr (encoder n env) e) (expr_sexp env e)
    expr_says head (Expr.constant c) h = constant_says c h
    expr_says head (Expr.var x) h = name_says x h
    expr_says head (Expr.app f es o) h =
        let k = none_right _ _ h in
        says_applied (head_says f o (none_left _ _ h) (expr_says _ f (none_left _ _ k))) (exprs_say es (none_right _ _ k))
    expr_says head (Expr.neg e) h = form (word "-" tt ∣ expr_says false e h ∣ end)
    expr_says head (Expr.binary_op o a b) h =
        form (bin_op o ∣ expr_says false a (none_left _ _ h) ∣ expr_says false b (none_right _ _ h) ∣ end)
    expr_says head (Expr.if_then_else c a b) h =
        let k = none_right _ _ h in
        form (word "ite" tt ∣ expr_says false c (none_left _ _ h) ∣ expr_says false a (none_left _ _ k) ∣
        expr_says false b (none_right _ _ k) ∣ end)
    expr_says head (Expr.and es) h = says_nary (word "and" tt) (exprs_say es h) (word "true" tt)
    expr_says head (Expr.or es) h = says_nary (word "or" tt) (exprs_say es h) (word "false" tt)
    expr_says head (Expr.not e) h = form (word "not" tt ∣ expr_says false e h ∣ end)
    expr_says head (Expr.imp a b) h =
        form (word "=>" tt ∣ expr_says false a (none_left _ _ h) ∣ expr_says false b (none_right _ _ h) ∣ end)
    expr_says head (Expr.iff a b) h =
        form (word "=" tt ∣ expr_says false a (none_left _ _ h) ∣ expr_says false b (none_right _ _ h) ∣ end)
    expr_says head (Expr.atom r a b) h = atom_says r (expr_says false a (none_left _ _ h)) (expr_says false b (none_right _ _ h))
    expr_says head (Expr.let_in x a b) h =
        let k = none_right _ _ h in
        form (kept "let" tt ∣ form (form (name_says x (none_left _ _ h) ∣ expr_says false a (none_left _ _ k) ∣ end) ∣ end) ∣
        expr_says false b (none_right _ _ k) ∣ end)
    expr_says head (Expr.thy_func f) h = thy_says f
    expr_says head (Expr.is_ctor x e) h =
        form (form (kept "_" tt ∣ word "is" tt ∣ name_says x (none_left _ _ h) ∣ end) ∣ expr_says false e (none_right _ _ h) ∣ end)
    expr_says head (Expr.quantifier q bs e) h =
        form (quantifier_says q ∣ form (binders_say bs (none_left _ _ h)) ∣ expr_says false e (none_right _ _ h) ∣ end)
    expr_says head Expr.wk_var h = clash (cc)

    exprs_say : (es : Exprs) → exprs_fault es ≡ Sound → Each (λ n. write_exprs (encoder n env) es) (exprs_sexp env es)
    exprs_say Exprs.none h = end
    exprs_say (Exprs.more e es) h = expr_says false e (none_left _ _ h) ∣ exprs_say es (none_right _ _ h)

  pub pred_says : (p : Pred) → pred_fault p ≡ Sound → Spelled (λ n. write_pred (encoder n env) p) (pred_sexp env p)
  unfolding write_pred pred_sexp pred_fault
  pred_says (Pred.kvar k es) h = says_applied (name_says k (none_left _ _ h)) (exprs_say es (none_right _ _ h))
  pred_says (Pred.expr e) h = expr_says false e h

  -- DECLARATIONS

  ctors_say : (cs : List DataCtor) → each data_ctor_fault cs ≡ Sound → Each (λ n. write_ctors (encoder n env) cs) (ctors_sexp env cs)
  unfolding write_ctor ctor_sexp data_ctor_fault
  ctors_say [] h = end
  ctors_say (c ∷ cs) h =
      let k = none_left _ _ h in
      form (name_says c.name (none_left _ _ k) ∣ binders_say c.fields (none_right _ _ k)) ∣ ctors_say cs (none_right _ _ h)

  datatype_writes : (d : DataDecl) → datatype_fault d ≡ Sound → Written (λ n. write_datatype_decl (encoder n env) d) (datatype_command env d ∷ [])
  unfolding write_datatype_decl datatype_command datatype_fault reserved_words
  datatype_writes d h =
      let cs = form (ctors_say d.ctors (none_right _ _ (none_right _ _ h))) in
      command (kept "declare-datatypes" tt ∣
      form (form (name_says d.name (none_left _ _ h) ∣ number d.vars ∣ end) ∣ end) ∣
      form (says_cond (eqb d.vars 0) cs (form (kept "par" tt ∣ form (parameters_say 0 d.vars) ∣ cs ∣ end)) ∣ end) ∣ end)

  constant_writes : (b : Binder) → binder_fault b ≡ Sound → Written (λ n. write_const_decl (encoder n env) b) (constant_command env b ∷ [])
  unfolding write_const_decl constant_command binder_fault reserved_words
  constant_writes b h =
      command (kept "declare-const" tt ∣ name_says b.name (none_left _ _ h) ∣ sort_says false b.sort (none_right _ _ h) ∣ end)

  -- a function with or without a body
  body_writes : (f : FunDef) (n : ℕ) (o : Option FunBody) → name_fault f.name ≡ Sound → sorts_fault f.inputs ≡ Sound
      → sort_fault false f.output ≡ Sound → body_fault n o ≡ Sound → Written (λ n. write_fun_body (encoder n env) f o) (body_command env f o ∷ [])
  unfolding body_fault reserved_words
  body_writes f n none x i o h =
      command (kept "declare-fun" tt ∣ name_says f.name x ∣ form (sorts_say f.inputs i) ∣ sort_says false f.output o ∣ end)
  body_writes f n (some b) x i o h =
      let k = none_right _ _ h in
      command (kept "define-fun" tt ∣ name_says f.name x ∣ form (zipped_say b.args f.inputs (none_left _ _ k) i) ∣
      sort_says false f.output o ∣ expr_says false b.expr (none_right _ _ k) ∣ end)

  function_writes : (f : FunDef) → function_fault f ≡ Sound → Written (λ n. write_fun_def (encoder n env) f) (function_command env f ∷ [])
  unfolding write_fun_def function_command function_fault
  function_writes f h =
      let k = none_right _ _ h in
      let l = none_right _ _ k in
      body_writes f _ f.body (none_left _ _ h) (none_left _ _ k) (none_left _ _ l) (none_right _ _ l)

  kvar_writes : (k : KVarDecl) → kvar_fault k ≡ Sound → Written (λ n. write_kvar_decl (encoder n env) k) (kvar_command env k ∷ [])
  unfolding write_kvar_decl kvar_command kvar_fault reserved_words
  kvar_writes k h =
      command (kept "declare-fun" tt ∣ name_says k.kvid (none_left _ _ h) ∣ form (sorts_say k.sorts (none_right _ _ h)) ∣
      word "Bool" tt ∣ end)

pub spelling : (env : Declared) → Spelling env
spelling env = record {
  names = name_says;
  strings = string_says;
  thy_funcs = thy_says;
  sorts = sort_says env false;
  exprs = expr_says env false;
  preds = pred_says env;
  datatypes = datatype_writes env;
  constants = constant_writes env;
  functions = function_writes env;
  kvars = kvar_writes env;
}
