-- The edition that a table is for, by its word 0.
use mathlib.Core.Path.{◌≡◌, refl, ap, ◌∙◌}
use mathlib.Core.List.{List, [], ◌∷◌}
use Prim.Native.Nat.{ℕ}
use native.Mathlib.Omega.{arith}
use lib.ListN.{length, get_or}
use Rattle.smt_text.specs.declared.Edition.{Edition}
use Rattle.smt_text.specs.declared.Edition.TheVariants.{Z3, Cvc5}
use Rattle.smt_text.specs.Editions.{edition_of}
use Rattle.smt_text.proofs.Texts.{zero_edition, other_edition}
use Rattle.smt_sort.specs.Section.{edition_in, number_of}

pub no_words : (enc : List ℕ) → length enc ≡ 0 → Z3 ≡ edition_in enc
unfolding edition_in
no_words [] h = refl
no_words (w ∷ enc) h = absurd (omega arith)

pub zero_word : (enc : List ℕ) → get_or enc 0 0 ≡ 0 → Z3 ≡ edition_in enc
unfolding edition_in
zero_word enc h = zero_edition (get_or enc 0 0) h

pub other_word : (enc : List ℕ) → (get_or enc 0 0 ≡ 0 → ⊥) → Cvc5 ≡ edition_in enc
unfolding edition_in
other_word enc h = other_edition (get_or enc 0 0) h

-- a table with the number of an edition is for that edition
pub numbered : (enc : List ℕ) (e : Edition) → get_or enc 0 0 ≡ number_of e → edition_in enc ≡ e
unfolding edition_in
numbered enc e h = ap edition_of h ∙ back e
  where
    back : (e : Edition) → edition_of (number_of e) ≡ e
    back Z3 = refl
    back Cvc5 = refl
