-- The number of every refusal of a file is on the list: `refusals`.
use Prim.Native.Nat.{ℕ, zero, suc, ◌+◌}
use mathlib.Core.Path.{◌≡◌, ap}
use mathlib.Core.Bool.{Bool, true, false, cond}
use mathlib.Core.List.{List, [], ◌∷◌}
use lib.Dec.{T, leb, eqb}
use lib.ListN.{length, take, get_or}
use Rattle.smtlib.specs.Lexicon.{any}
use Rattle.task.specs.declared.Fault.{Fault}
use Rattle.task.specs.declared.Fault.TheVariants.{Text, NoConstructors, BitVecWidth, Unqualified, WKVar, Arity, Shadowed, Clash, Unknown, Arguments, Sound}
use Rattle.task.specs.Ast.{Sorts, Exprs, Constraints}
use Rattle.task.specs.Decode.{Res, got, refuse, bind, Decoder, give, refusal, ◌▹◌, raw, number, many, counted, name, text, coded, flag, sort_forms, dec_sort, binder, bin_ops, bin_rels, quantifiers, thy_funcs, given, expr_forms, dec_expr, dec_pred, dec_constraint, deepest, datatype, body, function, kvar, items, section}
use Rattle.task.specs.Fault.{refusal_of}
use Rattle.task.specs.Task.{bound, framed, within, decoded, first_fault, judged, task_of}
use Rattle.task.proofs.Reading.{got_refuse}
use Rattle.horn_text.specs.Answers.{survey_numbers}

-- ANSWERS

-- an answer, if it is a refusal, has a number of the list
record Numbered {A : Type 0} (x : Res A) : Type 0 where
  numbered : (n : ℕ) → x ≡ refuse n → T (any (eqb n) survey_numbers)

module _ {A : Type 0} where
  -- no refusal
  fine : {a : A} {p : ℕ} → Numbered (got a p)
  fine = record { numbered = λ n e. got_refuse e }

  -- a refusal with a known number
  refused : {k : ℕ} → T (any (eqb k) survey_numbers) → Numbered {A = A} (refuse k)
  refused {k} h = record { numbered = λ n e. let z : k ≡ n = cc in rw (← z) h }

  -- one of two answers
  either : (t : Bool) {x y : Res A} → Numbered x → Numbered y → Numbered (cond t x y)
  either true h g = h
  either false h g = g

-- what follows an answer
follows : {A B : Type 0} {x : Res A} {k : A → ℕ → Res B} → Numbered x → ((a : A) (p : ℕ) → Numbered (k a p)) → Numbered (bind x k)
follows {x = got a p} h g = g a p
follows {x = refuse n} h g = record { numbered = λ m e. h.numbered m (let z : n ≡ m = cc in ap refuse z) }

-- DECODERS

-- all that a decoder answers
record Refuses {A : Type 0} (d : Decoder A) : Type 0 where
  answers : (s : List ℕ) (at : ℕ) → Numbered (d s at)

module _ {A : Type 0} where
  -- nothing is read
  gives : {a : A} → Refuses (give a)
  gives = record { answers = λ s at. fine }

  -- too few bytes or a wrong one
  malformed : Refuses {A = A} (refusal 2)
  malformed = record { answers = λ s at. refused tt }

  -- too many levels
  too_deep : Refuses {A = A} (refusal 3)
  too_deep = record { answers = λ s at. refused tt }

infixr 2 ◌⟫◌
-- one piece, then what follows it
◌⟫◌ : {A B : Type 0} {d : Decoder A} {k : A → Decoder B} → Refuses d → ((a : A) → Refuses (k a)) → Refuses (d ▹ k)
◌⟫◌ f g = record { answers = λ s at. follows (f.answers s at) (λ a p. (g a).answers s p) }

-- one of two decoders
one_of : {A : Type 0} (t : Bool) {d e : Decoder A} → Refuses d → Refuses e → Refuses (cond t d e)
one_of true f g = f
one_of false f g = g

-- bytes
raws : (n : ℕ) → Refuses (raw n)
unfolding raw
raws n = record { answers = λ s at. either (leb (at + n) (length s)) fine (refused tt) }

-- a number
numbers : (n : ℕ) → Refuses (number n)
numbers n = raws n ⟫ λ w. gives

-- a name
names : Refuses name
names = numbers 1 ⟫ λ n. one_of (eqb n 0) malformed (raws n)

-- a text
texts : Refuses text
texts = numbers 2 ⟫ raws

module _ {A B : Type 0} (end : B) (more : A → B → B) {d : Decoder A} (f : Refuses d) where
  -- pieces in a row
  row : (n : ℕ) → Refuses (many end more d n)
  row zero = gives
  row (suc n) = f ⟫ λ a. row n ⟫ λ b. gives

  -- with their number before them
  rows : Refuses (counted end more d)
  rows = numbers 2 ⟫ row

infixr 5 ◌∣◌
-- each of the decoders listed
data Forms {A : Type 0} : List (Decoder A) → Type 0 where
  none : Forms []
  ◌∣◌ : {d : Decoder A} {ds : List (Decoder A)} → Refuses d → Forms ds → Forms (d ∷ ds)

-- the one that a code stands for
form : {A : Type 0} {ds : List (Decoder A)} → Forms ds → (c : ℕ) → Refuses (get_or ds c (refusal 2))
form none c = malformed
form (f ∣ fs) zero = f
form (f ∣ fs) (suc c) = form fs c

-- a code and what it stands for
codes : {A : Type 0} {ds : List (Decoder A)} → Forms ds → Refuses (coded ds)
codes fs = numbers 1 ⟫ form fs

-- PIECES

-- a flag
flags : Refuses flag
flags = codes (gives ∣ gives ∣ none)

-- the codes of BinaryOp
bin_ops_lem : Refuses (coded bin_ops)
unfolding bin_ops
bin_ops_lem = codes (gives ∣ gives ∣ gives ∣ gives ∣ gives ∣ none)

-- the codes of Atom
bin_rels_lem : Refuses (coded bin_rels)
unfolding bin_rels
bin_rels_lem = codes (gives ∣ gives ∣ gives ∣ gives ∣ gives ∣ gives ∣ none)

-- the codes of Quantifier
quantifier_codes : Refuses (coded quantifiers)
unfolding quantifiers
quantifier_codes = codes (gives ∣ gives ∣ none)

-- the codes of ThyFunc
thys : Refuses (coded thy_funcs)
unfolding thy_funcs
thys =
    codes (
    gives ∣ gives ∣ gives ∣ gives ∣ gives ∣ (numbers 1 ⟫ λ w. gives) ∣ (numbers 1 ⟫ λ w. gives) ∣ gives ∣ gives ∣ gives ∣ gives ∣ gives ∣
    gives ∣ gives ∣ gives ∣ gives ∣ gives ∣ gives ∣ gives ∣ gives ∣ gives ∣ gives ∣ gives ∣ gives ∣ gives ∣ gives ∣ gives ∣ gives ∣ gives ∣
    gives ∣ gives ∣ gives ∣ gives ∣ gives ∣ gives ∣ gives ∣ gives ∣ gives ∣ gives ∣ gives ∣ gives ∣ gives ∣ gives ∣ gives ∣ gives ∣ gives ∣
    gives ∣ gives ∣ none)

-- sorts
sorts : (l : ℕ) → Refuses (dec_sort l)
unfolding dec_sort sort_forms
sorts zero = too_deep
sorts (suc l) =
    let b = sorts l in
    let bs = rows Sorts.none Sorts.more b in
    codes (
    gives ∣ gives ∣ gives ∣ gives ∣ (b ⟫ λ x. gives) ∣ (numbers 4 ⟫ λ n. gives) ∣ (numbers 2 ⟫ λ n. gives) ∣ (b ⟫ λ x. b ⟫ λ y. gives) ∣
    (numbers 2 ⟫ λ n. b ⟫ λ x. gives) ∣ (bs ⟫ λ x. gives) ∣ (bs ⟫ λ x. gives) ∣ (names ⟫ λ n. bs ⟫ λ x. gives) ∣ none)

-- names with sorts
binders : (l : ℕ) → Refuses (binder l)
binders l = names ⟫ λ n. sorts l ⟫ λ b. gives

-- output sorts
outputs : (l : ℕ) (b : Bool) → Refuses (given l b)
outputs l false = gives
outputs l true = sorts l ⟫ λ b. gives

-- expressions
exprs : (l : ℕ) → Refuses (dec_expr l)
unfolding dec_expr expr_forms
exprs zero = too_deep
exprs (suc l) =
    let e = exprs l in
    let es = rows Exprs.none Exprs.more e in
    codes (
    (numbers 16 ⟫ λ n. gives) ∣ (flags ⟫ λ b. gives) ∣ (numbers 4 ⟫ λ n. gives) ∣ (texts ⟫ λ t. gives) ∣
    (numbers 16 ⟫ λ n. numbers 4 ⟫ λ w. gives) ∣ (names ⟫ λ x. gives) ∣ gives ∣ (e ⟫ λ a. gives) ∣ (e ⟫ λ a. gives) ∣
    (bin_ops_lem ⟫ λ o. e ⟫ λ a. e ⟫ λ b. gives) ∣ (bin_rels_lem ⟫ λ r. e ⟫ λ a. e ⟫ λ b. gives) ∣ (e ⟫ λ a. e ⟫ λ b. gives) ∣
    (e ⟫ λ a. e ⟫ λ b. gives) ∣ (es ⟫ λ x. gives) ∣ (es ⟫ λ x. gives) ∣ (e ⟫ λ c. e ⟫ λ a. e ⟫ λ b. gives) ∣
    (names ⟫ λ x. e ⟫ λ a. e ⟫ λ b. gives) ∣ (flags ⟫ λ b. outputs l b ⟫ λ o. e ⟫ λ h. es ⟫ λ x. gives) ∣ (thys ⟫ λ f. gives) ∣
    (names ⟫ λ x. e ⟫ λ a. gives) ∣ (quantifier_codes ⟫ λ q. rows [] ◌∷◌ (binders l) ⟫ λ bs. e ⟫ λ a. gives) ∣ none)

-- predicates
preds : (l : ℕ) → Refuses (dec_pred l)
unfolding dec_pred
preds zero = too_deep
preds (suc l) = codes ((names ⟫ λ k. rows Exprs.none Exprs.more (exprs l) ⟫ λ x. gives) ∣ (exprs l ⟫ λ e. gives) ∣ none)

-- constraints
constraints : (l : ℕ) → Refuses (dec_constraint l)
unfolding dec_constraint
constraints zero = too_deep
constraints (suc l) =
    codes (
    (preds l ⟫ λ p. gives) ∣ (rows Constraints.none Constraints.more (constraints l) ⟫ λ cs. gives) ∣
    (names ⟫ λ x. sorts l ⟫ λ b. rows [] ◌∷◌ (preds l) ⟫ λ ps. constraints l ⟫ λ c. gives) ∣ none)

-- ITEMS

-- datatypes
datatypes : Refuses datatype
datatypes = names ⟫ λ n. numbers 2 ⟫ λ vars. rows [] ◌∷◌ (names ⟫ λ m. rows [] ◌∷◌ (binders deepest) ⟫ λ fs. gives) ⟫ λ cs. gives

-- bodies
bodies : (b : Bool) → Refuses (body b)
bodies false = gives
bodies true = rows [] ◌∷◌ names ⟫ λ xs. exprs deepest ⟫ λ e. gives

-- functions
functions : Refuses function
functions =
    names ⟫ λ n. numbers 2 ⟫ λ params. rows Sorts.none Sorts.more (sorts deepest) ⟫ λ ins. sorts deepest ⟫ λ out. flags ⟫ λ b. bodies b ⟫ λ o. gives

-- KVars
kvars : Refuses kvar
kvars = names ⟫ λ n. rows Sorts.none Sorts.more (sorts deepest) ⟫ λ x. gives

-- items up to the section's end
walks : {A : Type 0} {d : Decoder A} → Refuses d → (n : ℕ) → Refuses (items n d)
unfolding items
walks f zero = record { answers = λ s at. fine }
walks f (suc n) = record {
  answers = λ s at. either (leb (length s) at) fine ((f ⟫ λ a. walks f n ⟫ λ b. gives).answers s at);
}

-- a section
sections : {A : Type 0} {d : Decoder A} → Refuses d → Refuses (section d)
sections f = record { answers = λ s at. (walks f (length s)).answers s at }

-- THE FILE

-- what stands between two offsets
between : {A : Type 0} {d : Decoder A} → Refuses d → (file : List ℕ) (i : ℕ) → Numbered (within file i d)
between f file i = f.answers (take (bound file (i + 1)) file) (bound file i)

-- the sections, and what is left behind the constraint
decoded_numbered : (file : List ℕ) → Numbered (decoded file)
unfolding decoded
decoded_numbered file =
    follows (between (sections texts) file 0) (λ comments _.
    follows (between (sections datatypes) file 1) (λ ds _.
    follows (between (sections (binders deepest)) file 2) (λ bs _.
    follows (between (sections functions) file 3) (λ fs _.
    follows (between (sections kvars) file 4) (λ ks _.
    follows (between (constraints deepest) file 5) (λ c end.
    either (eqb end (bound file 6)) fine (refused tt)))))))

-- a fault has a number of the list, and what is sound is not refused
fault_numbered : {A : Type 0} (a : A) (p : ℕ) (f : Fault) → Numbered (cond (eqb (refusal_of f) 0) (got a p) (refuse (refusal_of f)))
fault_numbered a p Text = refused tt
fault_numbered a p NoConstructors = refused tt
fault_numbered a p BitVecWidth = refused tt
fault_numbered a p Unqualified = refused tt
fault_numbered a p WKVar = refused tt
fault_numbered a p Arity = refused tt
fault_numbered a p Shadowed = refused tt
fault_numbered a p Clash = refused tt
fault_numbered a p Unknown = refused tt
fault_numbered a p Arguments = refused tt
fault_numbered a p Sound = fine

pub refusals : (file : List ℕ) (n : ℕ) → task_of file ≡ refuse n → T (any (eqb n) survey_numbers)
unfolding task_of judged
refusals file n e =
    (either (framed file) (follows (decoded_numbered file) (λ t p. fault_numbered t p (first_fault t))) (refused tt)).numbered n e
