-- The pieces of a file cover their bytes, each as it is put together.
use mathlib.Core.Bool.{Bool, true, false, cond}
use mathlib.Core.List.{List, [], ◌∷◌}
use Prim.Native.Nat.{ℕ, zero, suc, ◌+◌, ◌-◌, ◌≤◌}
use native.Mathlib.Omega.{arith}
use lib.Dec.{eqb}
use borrow.Author.Tests.{ne_eqb}
use Rattle.task.specs.Ast.{Sort, Sorts, Expr, Exprs, Constraint, Constraints}
use Rattle.task.specs.Decode.{Decoder, give, refusal, ◌▹◌, raw, number, many, counted, name, text, coded, flags, flag, sort_forms, dec_sort, binder, bin_ops, bin_rels, quantifiers, thy_funcs, extends, given, expr_forms, dec_expr, pred_forms, dec_pred, constraint_forms, dec_constraint, deepest, data_ctor, body, function, kvar}
use Rattle.task.specs.Task.{literally_true, pred_heads, heads_of, heads_in}
use Rattle.task.specs.Covers.{Covers, CoversSome, EachCovers}
use Rattle.task.proofs.Covering.{covers_less, covers_refusal, covers_give, covers_cond, covers_raw, covers_bind, covers_many, covers_number, CoverAll, covers_coded}

infixr 2 ◌⟫◌
abbrev pub CoversAny : {A : Type 0} → Decoder A → Type 0
CoversAny = Covers (λ a. 0)

module _ {A : Type 0} where
  pub any : {d : Decoder A} → CoversSome d → CoversAny d
  any {d} c = covers_less (λ a. 1) (λ a. 0) d (λ a. omega arith) c

  pub nothing : {a : A} → CoversAny (give a)
  nothing {a} = covers_give (λ b. 0) a (omega arith)

module _ {A B : Type 0} {d : Decoder A} {k : A → Decoder B} where
  pub ◌⟫◌ : CoversAny d → ((a : A) → CoversAny (k a)) → CoversAny (d ▹ k)
  ◌⟫◌ c f = covers_bind (λ b. 0) (λ a. 0) d k c f

  some_then : CoversSome d → ((a : A) → CoversAny (k a)) → CoversSome (d ▹ k)
  some_then c f = covers_bind (λ b. 1) (λ a. 1) d k c f

pub any_number : (n : ℕ) → CoversAny (number n)
any_number n = covers_less (λ a. n) (λ a. 0) (number n) (λ a. omega arith) (covers_number n)

any_raw : (n : ℕ) → CoversAny (raw n)
any_raw n = covers_less (λ a. n) (λ a. 0) (raw n) (λ a. omega arith) (covers_raw n)

pub any_many : {A B : Type 0} (end : B) (more : A → B → B) {d : Decoder A} → CoversAny d → (n : ℕ) → CoversAny (many end more d n)
any_many end more {d} c n = covers_many (λ b. 0) (λ a. 0) end more d (omega arith) (λ a b. omega arith) c n

pub any_counted : {A B : Type 0} (end : B) (more : A → B → B) {d : Decoder A} → CoversAny d → CoversAny (counted end more d)
any_counted end more c = any_number 2 ⟫ λ n. any_many end more c n

names : CoversSome name
names = some_then (covers_number 1) (λ n. covers_cond (λ w. 0) (eqb n 0) (refusal 2) (raw n) (covers_refusal (λ w. 0) 2) (any_raw n))

texts : CoversSome text
texts = some_then (covers_less (λ a. 2) (λ a. 1) (number 2) (λ a. omega arith) (covers_number 2)) any_raw

-- codes
infixr 5 ◌∣◌
◌∣◌ : {A : Type 0} {d : Decoder A} {ds : List (Decoder A)} → CoversAny d → CoverAll (λ a. 0) ds → CoverAll (λ a. 0) (d ∷ ds)
◌∣◌ c cs = CoverAll.more c cs

end : {A : Type 0} → CoverAll {A = A} (λ a. 0) []
end = CoverAll.none

coded_some : {A : Type 0} (ds : List (Decoder A)) → CoverAll (λ a. 0) ds → CoversSome (coded ds)
coded_some ds c = covers_coded (λ a. 1) ds c

pub flags_cover : CoversAny flag
flags_cover = any (coded_some flags (nothing ∣ nothing ∣ end))

sort_forms_lem : (sort : Decoder Sort) → CoversAny sort → CoverAll (λ a. 0) (sort_forms sort)
unfolding sort_forms
sort_forms_lem sort c =
    nothing ∣ nothing ∣ nothing ∣ nothing ∣
    (c ⟫ λ b. nothing) ∣
    (any_number 4 ⟫ λ n. nothing) ∣
    (any_number 2 ⟫ λ n. nothing) ∣
    (c ⟫ λ a. c ⟫ λ b. nothing) ∣
    (any_number 2 ⟫ λ n. c ⟫ λ b. nothing) ∣
    (any_counted Sorts.none Sorts.more c ⟫ λ bs. nothing) ∣
    (any_counted Sorts.none Sorts.more c ⟫ λ bs. nothing) ∣
    (any names ⟫ λ n. any_counted Sorts.none Sorts.more c ⟫ λ bs. nothing) ∣
    end

sorts : (l : ℕ) → CoversSome (dec_sort l)
unfolding dec_sort
sorts zero = covers_refusal (λ a. 1) 3
sorts (suc l) = coded_some (sort_forms (dec_sort l)) (sort_forms_lem (dec_sort l) (any (sorts l)))

binders : (l : ℕ) → CoversSome (binder l)
binders l = some_then names (λ n. any (sorts l) ⟫ λ b. nothing)

pub ops : CoversSome (coded bin_ops)
unfolding bin_ops
ops = coded_some bin_ops (nothing ∣ nothing ∣ nothing ∣ nothing ∣ nothing ∣ end)

pub rels : CoversSome (coded bin_rels)
unfolding bin_rels
rels = coded_some bin_rels (nothing ∣ nothing ∣ nothing ∣ nothing ∣ nothing ∣ nothing ∣ end)

pub quants : CoversSome (coded quantifiers)
unfolding quantifiers
quants = coded_some quantifiers (nothing ∣ nothing ∣ end)

extend : (b : Bool) → CoversAny (extends b)
extend b = any_number 1 ⟫ λ w. nothing

pub thys : CoversSome (coded thy_funcs)
unfolding thy_funcs
thys =
    coded_some thy_funcs
    (nothing ∣ nothing ∣ nothing ∣ nothing ∣ nothing ∣ extend false ∣ extend true ∣ nothing ∣ nothing ∣ nothing ∣ nothing ∣ nothing ∣
    nothing ∣ nothing ∣ nothing ∣ nothing ∣ nothing ∣ nothing ∣ nothing ∣ nothing ∣ nothing ∣ nothing ∣ nothing ∣ nothing ∣
    nothing ∣ nothing ∣ nothing ∣ nothing ∣ nothing ∣ nothing ∣ nothing ∣ nothing ∣ nothing ∣ nothing ∣ nothing ∣ nothing ∣
    nothing ∣ nothing ∣ nothing ∣ nothing ∣ nothing ∣ nothing ∣ nothing ∣ nothing ∣ nothing ∣ nothing ∣ nothing ∣ nothing ∣ end)

pub givens : (l : ℕ) (b : Bool) → CoversAny (given l b)
givens l false = nothing
givens l true = any (sorts l) ⟫ λ b. nothing

expr_forms_lem : (l : ℕ) (expr : Decoder Expr) → CoversAny expr → CoverAll (λ a. 0) (expr_forms l expr)
unfolding expr_forms
expr_forms_lem l expr c =
    (any_number 16 ⟫ λ n. nothing) ∣
    (flags_cover ⟫ λ b. nothing) ∣
    (any_number 4 ⟫ λ n. nothing) ∣
    (any texts ⟫ λ t. nothing) ∣
    (any_number 16 ⟫ λ n. any_number 4 ⟫ λ w. nothing) ∣
    (any names ⟫ λ x. nothing) ∣
    nothing ∣
    (c ⟫ λ e. nothing) ∣
    (c ⟫ λ e. nothing) ∣
    (any ops ⟫ λ o. c ⟫ λ a. c ⟫ λ b. nothing) ∣
    (any rels ⟫ λ o. c ⟫ λ a. c ⟫ λ b. nothing) ∣
    (c ⟫ λ a. c ⟫ λ b. nothing) ∣
    (c ⟫ λ a. c ⟫ λ b. nothing) ∣
    (any_counted Exprs.none Exprs.more c ⟫ λ es. nothing) ∣
    (any_counted Exprs.none Exprs.more c ⟫ λ es. nothing) ∣
    (c ⟫ λ a. c ⟫ λ b. c ⟫ λ d. nothing) ∣
    (any names ⟫ λ x. c ⟫ λ a. c ⟫ λ b. nothing) ∣
    (flags_cover ⟫ λ b. givens l b ⟫ λ o. c ⟫ λ h. any_counted Exprs.none Exprs.more c ⟫ λ es. nothing) ∣
    (any thys ⟫ λ f. nothing) ∣
    (any names ⟫ λ x. c ⟫ λ e. nothing) ∣
    (any quants ⟫ λ q. any_counted [] ◌∷◌ (any (binders l)) ⟫ λ bs. c ⟫ λ e. nothing) ∣
    end

exprs : (l : ℕ) → CoversSome (dec_expr l)
unfolding dec_expr
exprs zero = covers_refusal (λ a. 1) 3
exprs (suc l) = coded_some (expr_forms l (dec_expr l)) (expr_forms_lem l (dec_expr l) (any (exprs l)))

preds : (l : ℕ) → CoversSome (dec_pred l)
unfolding dec_pred
preds zero = covers_refusal (λ a. 1) 3
preds (suc l) =
    coded_some (pred_forms (dec_expr l))
    ((any names ⟫ λ k. any_counted Exprs.none Exprs.more (any (exprs l)) ⟫ λ es. nothing) ∣ (any (exprs l) ⟫ λ e. nothing) ∣ end)

-- a constraint takes more bytes than it has heads that are not literally true
heads_size : Constraint → ℕ
heads_size c = suc (heads_of c)

pred_heads_lem : (t : Bool) → cond t 0 1 ≤ 1
pred_heads_lem true = omega arith
pred_heads_lem false = omega arith

-- pieces before the constraint take bytes of their own
rest : {A : Type 0} (size : Constraint → ℕ) {d : Decoder A} {k : A → Decoder Constraint} → CoversAny d → ((a : A) → Covers size (k a)) → Covers size (d ▹ k)
rest size {d} {k} c f = covers_bind size (λ a. 0) d k c (λ a. covers_less size (λ b. size b - 0) (k a) (λ b. omega arith) (f a))

module _ (l : ℕ) (constraint : Decoder Constraint) (c : Covers heads_size constraint) where
  left : Constraint → ℕ
  unfolding heads_size
  left x = heads_size x - 1

  members : (n : ℕ) → Covers heads_in (many Constraints.none Constraints.more constraint n)
  unfolding heads_of heads_size
  members n = covers_many heads_in heads_size Constraints.none Constraints.more constraint (omega arith) (λ a b. omega arith) c n

  pred_form : Covers left (dec_pred l ▹ λ p. give (Constraint.pred p))
  unfolding heads_of pred_heads heads_size left
  pred_form =
      covers_bind left (λ a. 1) (dec_pred l) (λ p. give (Constraint.pred p)) (preds l)
      (λ p. covers_give (λ x. left x - 1) (Constraint.pred p) (let h = pred_heads_lem (literally_true p) in omega arith))

  conj_form : Covers left (counted Constraints.none Constraints.more constraint ▹ λ cs. give (Constraint.conj cs))
  unfolding heads_of heads_size left
  conj_form =
      covers_bind left heads_in (counted Constraints.none Constraints.more constraint) (λ cs. give (Constraint.conj cs))
      (covers_bind heads_in (λ n. 0) (number 2) (many Constraints.none Constraints.more constraint) (any_number 2)
      (λ n. covers_less heads_in (λ b. heads_in b - 0) (many Constraints.none Constraints.more constraint n) (λ b. omega arith) (members n)))
      (λ cs. covers_give (λ x. left x - heads_in cs) (Constraint.conj cs) (omega arith))

  for_all_form : Covers left (name ▹ λ x. dec_sort l ▹ λ b. counted [] ◌∷◌ (dec_pred l) ▹ λ ps. constraint ▹ λ c. give (Constraint.for_all x b ps c))
  unfolding heads_of heads_size left
  for_all_form =
      rest left (any names) (λ x. rest left (any (sorts l)) (λ b. rest left (any_counted [] ◌∷◌ (any (preds l))) (λ ps.
      covers_bind left heads_size constraint (λ y. give (Constraint.for_all x b ps y)) c
      (λ y. covers_give (λ z. left z - heads_size y) (Constraint.for_all x b ps y) (omega arith)))))

constraints : (l : ℕ) → Covers heads_size (dec_constraint l)
unfolding dec_constraint left
constraints zero = covers_refusal heads_size 3
constraints (suc l) =
    let c = constraints l in
    let d = dec_constraint l in
    covers_coded heads_size (constraint_forms l d)
    (CoverAll.more (pred_form l d c) (CoverAll.more (conj_form l d c) (CoverAll.more (for_all_form l d c) CoverAll.none)))

data_ctors : CoversSome data_ctor
data_ctors = some_then names (λ n. any_counted [] ◌∷◌ (any (binders deepest)) ⟫ λ fs. nothing)

bodies : (b : Bool) → CoversAny (body b)
bodies false = nothing
bodies true = any_counted [] ◌∷◌ (any names) ⟫ λ xs. any (exprs deepest) ⟫ λ e. nothing

pub each_covers : EachCovers
unfolding heads_size
each_covers = record {
  names = names;
  texts = texts;
  sorts = sorts;
  binders = binders;
  exprs = exprs;
  preds = preds;
  constraints = λ l. covers_less heads_size (λ c. 1) (dec_constraint l) (λ c. omega arith) (constraints l);
  heads = λ l. covers_less heads_size heads_of (dec_constraint l) (λ c. omega arith) (constraints l);
  comments = texts;
  datatypes = some_then names (λ n. any_number 2 ⟫ λ v. any_counted [] ◌∷◌ (any data_ctors) ⟫ λ cs. nothing);
  constants = binders deepest;
  functions = some_then names (λ n. any_number 2 ⟫ λ v. any_counted Sorts.none Sorts.more (any (sorts deepest)) ⟫ λ bs. any (sorts deepest) ⟫ λ b. flags_cover ⟫ λ f. bodies f ⟫ λ o. nothing);
  kvars = some_then names (λ n. any_counted Sorts.none Sorts.more (any (sorts deepest)) ⟫ λ bs. nothing);
}

-- WITH A DECLARED NAME

-- a name takes two bytes at least
pub wide_names : Covers (λ x. 2) name
wide_names = covers_bind (λ x. 2) (λ n. 1) (number 1) (λ n. cond (eqb n 0) (refusal 2) (raw n)) (covers_number 1) rest
  where
    rest : (n : ℕ) → Covers (λ w. 1) (cond (eqb n 0) (refusal 2) (raw n))
    rest zero = covers_refusal (λ w. 1) 2
    rest (suc n) = rw (ne_eqb (suc n) 0 (λ e. omega arith)) (covers_less (λ w. suc n) (λ w. 1) (raw (suc n)) (λ w. omega arith) (covers_raw (suc n)))

-- counted pieces take two bytes besides their own
pub wide_counted : {A B : Type 0} (size : B → ℕ) (end : B) (more : A → B → B) (d : Decoder A) → ((n : ℕ) → Covers size (many end more d n)) → Covers (λ b. 2 + size b) (counted end more d)
wide_counted size end more d c =
    covers_bind (λ b. 2 + size b) (λ n. 2) (number 2) (many end more d) (covers_number 2)
    (λ n. covers_less size (λ b. 2 + size b - 2) (many end more d n) (λ b. omega arith) (c n))

-- a function and a KVar take three
pub wide_functions : Covers (λ f. 3) function
wide_functions =
    covers_bind (λ f. 3) (λ x. 2) name _ wide_names (λ n. covers_bind (λ f. 1) (λ p. 2) (number 2) _ (covers_number 2) (λ v.
    any_counted Sorts.none Sorts.more (any (sorts deepest)) ⟫ λ bs. any (sorts deepest) ⟫ λ b. flags_cover ⟫ λ f. bodies f ⟫ λ o. nothing))

pub wide_kvars : Covers (λ k. 3) kvar
wide_kvars =
    covers_bind (λ k. 3) (λ x. 2) name _ wide_names (λ n.
    covers_bind (λ k. 1) (λ bs. 2) (counted Sorts.none Sorts.more (dec_sort deepest)) _ (wide_counted (λ bs. 0) Sorts.none Sorts.more (dec_sort deepest) (any_many Sorts.none Sorts.more (any (sorts deepest)))) (λ bs. nothing))
