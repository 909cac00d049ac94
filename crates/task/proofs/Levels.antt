-- What decodes with some levels left decodes alike with more: `deeper`.
use Prim.Native.Nat.{ℕ, zero, suc, ◌≤◌}
use mathlib.Core.Path.{sym, ◌∙◌, ap}
use mathlib.Core.Bool.{Bool, true, false}
use mathlib.Core.List.{List, [], ◌∷◌}
use native.Mathlib.Nat.{le_of_suc-le-suc, not-suc-le-zero}
use lib.ListN.{get_or}
use Rattle.task.specs.Ast.{Sorts, Exprs}
use Rattle.task.specs.Decode.{Res, bind, Decoder, refusal, ◌▹◌, number, many, counted, name, coded, flag, sort_forms, dec_sort, binder, bin_ops, bin_rels, quantifiers, given, expr_forms, dec_expr, dec_pred}
use Rattle.task.specs.Laws.{Agrees, Deeper}
use Rattle.task.proofs.Reading.{bind_got, got_refuse}

infixr 2 ◌⟫◌
alike : {A : Type 0} (d : Decoder A) → Agrees d d
alike d = record { agrees = λ s at a p e. e }

same : {A : Type 0} {d : Decoder A} → Agrees d d
same {d = d} = alike d

never : {A : Type 0} {n : ℕ} {d : Decoder A} → Agrees (refusal n) d
never = record { agrees = λ s at a p e. got_refuse (sym e) }

-- one piece, then what follows it
◌⟫◌ : {A B : Type 0} {d e : Decoder A} {k j : A → Decoder B} → Agrees d e → ((a : A) → Agrees (k a) (j a)) → Agrees (d ▹ k) (e ▹ j)
◌⟫◌ {A} {B} {d = d} {e = e} {k = k} {j = j} f g = record {
  agrees = λ s at b q h.
      let x = bind_got (d s at) (λ a p. k a s p) b q h in
      ap (λ (r : Res A). bind r (λ a p. j a s p)) (f.agrees s at x.value x.next x.first) ∙ (g x.value).agrees s x.next b q x.then;
}

module _ {A B : Type 0} (end : B) (more : A → B → B) {d e : Decoder A} (f : Agrees d e) where
  row : (n : ℕ) → Agrees (many end more d n) (many end more e n)
  row zero = same
  row (suc n) = f ⟫ λ a. row n ⟫ λ b. same

  counts : Agrees (counted end more d) (counted end more e)
  counts = alike (number 2) ⟫ row

infixr 5 ◌∣◌
-- forms one by one
data Forms {A : Type 0} : List (Decoder A) → List (Decoder A) → Type 0 where
  none : Forms [] []
  ◌∣◌ : {d e : Decoder A} {ds es : List (Decoder A)} → Agrees d e → Forms ds es → Forms (d ∷ ds) (e ∷ es)

form : {A : Type 0} {ds es : List (Decoder A)} → Forms ds es → (c : ℕ) → Agrees (get_or ds c (refusal 2)) (get_or es c (refusal 2))
form none c = same
form (f ∣ fs) zero = f
form (f ∣ fs) (suc c) = form fs c

codes : {A : Type 0} {ds es : List (Decoder A)} → Forms ds es → Agrees (coded ds) (coded es)
codes fs = alike (number 1) ⟫ form fs

sorts : (l m : ℕ) → l ≤ m → Agrees (dec_sort l) (dec_sort m)
unfolding dec_sort sort_forms
sorts zero m h = never
sorts (suc l) zero h = absurd (not-suc-le-zero h)
sorts (suc l) (suc m) h =
    let b = sorts l m (le_of_suc-le-suc h) in
    let bs = counts Sorts.none Sorts.more b in
    codes (
    same ∣ same ∣ same ∣ same ∣ (b ⟫ λ x. same) ∣ same ∣ same ∣ (b ⟫ λ x. b ⟫ λ y. same) ∣ (alike (number 2) ⟫ λ n. b ⟫ λ x. same) ∣
    (bs ⟫ λ x. same) ∣ (bs ⟫ λ x. same) ∣ (alike name ⟫ λ n. bs ⟫ λ x. same) ∣ none)

binders : (l m : ℕ) → l ≤ m → Agrees (binder l) (binder m)
binders l m h = alike name ⟫ λ x. sorts l m h ⟫ λ b. same

outputs : (l m : ℕ) → l ≤ m → (b : Bool) → Agrees (given l b) (given m b)
outputs l m h false = same
outputs l m h true = sorts l m h ⟫ λ b. same

exprs : (l m : ℕ) → l ≤ m → Agrees (dec_expr l) (dec_expr m)
unfolding dec_expr expr_forms
exprs zero m h = never
exprs (suc l) zero h = absurd (not-suc-le-zero h)
exprs (suc l) (suc m) h =
    let k = le_of_suc-le-suc h in
    let e = exprs l m k in
    let es = counts Exprs.none Exprs.more e in
    codes (
    same ∣ same ∣ same ∣ same ∣ same ∣ same ∣ same ∣ (e ⟫ λ a. same) ∣ (e ⟫ λ a. same) ∣ (alike (coded bin_ops) ⟫ λ o. e ⟫ λ a. e ⟫ λ b. same) ∣
    (alike (coded bin_rels) ⟫ λ r. e ⟫ λ a. e ⟫ λ b. same) ∣ (e ⟫ λ a. e ⟫ λ b. same) ∣ (e ⟫ λ a. e ⟫ λ b. same) ∣ (es ⟫ λ x. same) ∣
    (es ⟫ λ x. same) ∣ (e ⟫ λ c. e ⟫ λ a. e ⟫ λ b. same) ∣ (alike name ⟫ λ x. e ⟫ λ a. e ⟫ λ b. same) ∣
    (alike flag ⟫ λ b. outputs l m k b ⟫ λ o. e ⟫ λ f. es ⟫ λ x. same) ∣ same ∣ (alike name ⟫ λ x. e ⟫ λ a. same) ∣
    (alike (coded quantifiers) ⟫ λ q. counts [] ◌∷◌ (binders l m k) ⟫ λ bs. e ⟫ λ a. same) ∣ none)

preds : (l m : ℕ) → l ≤ m → Agrees (dec_pred l) (dec_pred m)
unfolding dec_pred
preds zero m h = never
preds (suc l) zero h = absurd (not-suc-le-zero h)
preds (suc l) (suc m) h =
    let e = exprs l m (le_of_suc-le-suc h) in
    codes ((alike name ⟫ λ k. counts Exprs.none Exprs.more e ⟫ λ es. same) ∣ (e ⟫ λ a. same) ∣ none)

pub deeper : Deeper
deeper = record { binders = binders; preds = λ l m h. row [] ◌∷◌ (preds l m h) }
