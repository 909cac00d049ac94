-- The texts of the theory functions and of strings, and the valid tables: `thy_func_texts`, `string_texts` and `tables`.
use mathlib.Core.Path.{◌≡◌, refl, sym, ap, ◌∙◌}
use mathlib.Core.Bool.{Bool, true, false, cond, ◌||◌}
use mathlib.Core.List.{List, [], ◌∷◌, ◌++◌, append-nil, append_assoc}
use Prim.Native.Nat.{ℕ, zero, suc}
use native.Mathlib.Omega.{arith}
use lib.Dec.{lit≤}
use Rattle.smtlib.specs.Lexicon.{any, reserved_words}
use Rattle.smtlib.specs.Read.{doubled}
use Rattle.smtlib.specs.Compose.{quotes, decimal}
use Rattle.smtlib.proofs.Bools.{clash}
use Rattle.smtlib.proofs.Lexer.{doubled_append}
use Rattle.task.specs.Decode.{raw, thy_funcs}
use Rattle.task.specs.Fault.{needs_sort}
use Rattle.smt_text.specs.declared.Edition.{Edition}
use Rattle.smt_text.specs.declared.Edition.TheVariants.{Z3, Cvc5}
use Rattle.smt_text.specs.Editions.{SetFunction, Valid, names_of, edition_of}
use Rattle.smt_text.specs.Encoder.{encoder}
use Rattle.smt_text.specs.Theory.{thy_func_name}
use Rattle.smt_text.specs.Text.{write_string, write_thy_func, write_sort, write_application_head, write_expr}
use Rattle.smt_text.specs.Table.{ThyFuncTexts, Tables, is_quote, StringTexts}

pub thy_func_texts : ThyFuncTexts
unfolding decimal raw thy_funcs names_of needs_sort thy_func_name write_thy_func write_application_head write_expr
thy_func_texts = record {
  texts = refl;
  zero_extend = λ names w. rw (append-nil (decimal w));
  sign_extend = λ names w. rw (append-nil (decimal w));
  set_empty = λ env b. rw (append-nil (write_sort (encoder (names_of Z3) env) b));
  map_default = λ enc b. rw (append-nil (write_sort enc b));
}

-- each of the seven
editions_valid : (e : Edition) → Valid (names_of e)
unfolding names_of reserved_words
editions_valid Z3 SetFunction.empty = record { shortest = lit≤ tt; longest = lit≤ tt; symbol = tt }
editions_valid Z3 SetFunction.singleton = record { shortest = lit≤ tt; longest = lit≤ tt; symbol = tt }
editions_valid Z3 SetFunction.union = record { shortest = lit≤ tt; longest = lit≤ tt; symbol = tt }
editions_valid Z3 SetFunction.intersection = record { shortest = lit≤ tt; longest = lit≤ tt; symbol = tt }
editions_valid Z3 SetFunction.difference = record { shortest = lit≤ tt; longest = lit≤ tt; symbol = tt }
editions_valid Z3 SetFunction.member = record { shortest = lit≤ tt; longest = lit≤ tt; symbol = tt }
editions_valid Z3 SetFunction.subset = record { shortest = lit≤ tt; longest = lit≤ tt; symbol = tt }
editions_valid Cvc5 SetFunction.empty = record { shortest = lit≤ tt; longest = lit≤ tt; symbol = tt }
editions_valid Cvc5 SetFunction.singleton = record { shortest = lit≤ tt; longest = lit≤ tt; symbol = tt }
editions_valid Cvc5 SetFunction.union = record { shortest = lit≤ tt; longest = lit≤ tt; symbol = tt }
editions_valid Cvc5 SetFunction.intersection = record { shortest = lit≤ tt; longest = lit≤ tt; symbol = tt }
editions_valid Cvc5 SetFunction.difference = record { shortest = lit≤ tt; longest = lit≤ tt; symbol = tt }
editions_valid Cvc5 SetFunction.member = record { shortest = lit≤ tt; longest = lit≤ tt; symbol = tt }
editions_valid Cvc5 SetFunction.subset = record { shortest = lit≤ tt; longest = lit≤ tt; symbol = tt }

pub tables : Tables
unfolding decimal raw thy_funcs names_of thy_func_name write_thy_func reserved_words
tables = record {
  cvc5 = refl;
  before = λ names names'. refl;
  behind = λ names names'. refl;
  editions = editions_valid;
  shortest = λ f. record { shortest = lit≤ tt; longest = lit≤ tt; symbol = tt };
  longest = λ f. record { shortest = lit≤ tt; longest = lit≤ tt; symbol = tt };
  empty = λ v. omega (arith, (v SetFunction.empty).shortest);
  too_long = λ v. omega (arith, (v SetFunction.empty).longest);
  reserved = λ v. (v SetFunction.empty).symbol;
  numeral = λ v. (v SetFunction.empty).symbol;
  blank = λ v. (v SetFunction.empty).symbol;
}

-- the edition of a number
pub zero_edition : (n : ℕ) → n ≡ 0 → Z3 ≡ edition_of n
zero_edition n h = sym (ap edition_of h)

pub other_edition : (n : ℕ) → (n ≡ 0 → ⊥) → Cvc5 ≡ edition_of n
other_edition zero h = absurd (h refl)
other_edition (suc n) h = refl

-- without a quotation mark nothing is doubled
pub unquoted : (t : List ℕ) → any is_quote t ≡ false → doubled t ≡ t
unquoted [] h = refl
unquoted (b ∷ t) h = go (is_quote b) (λ e. unquoted t e) h
  where
    go : (v : Bool) → (any is_quote t ≡ false → doubled t ≡ t) → (v || any is_quote t) ≡ false → (cond v (b ∷ []) [] ++ (b ∷ doubled t)) ≡ b ∷ t
    go true f e = clash (cc)
    go false f e = ap (λ (l : List ℕ). b ∷ l) (f e)

pub string_texts : StringTexts
unfolding write_string
string_texts = record {
  plain = λ t h. ap quotes (unquoted t h);
  quoted = λ t u h.
      ap quotes (doubled_append t (34 ∷ u) ∙ ap (λ (l : List ℕ). l ++ (34 ∷ 34 ∷ doubled u)) (unquoted t h))
      ∙ ap (λ (l : List ℕ). 34 ∷ l) (append_assoc t (34 ∷ 34 ∷ doubled u) (34 ∷ []));
  alone = refl;
  two = refl;
  middle = refl;
  ends = refl;
}
