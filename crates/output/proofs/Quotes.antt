-- Strings: their bytes sent at once or one by one.
use mathlib.Core.Path.{◌≡◌, sym, ap, ◌∙◌}
use mathlib.Core.Bool.{Bool, false}
use mathlib.Core.List.{List, [], ◌∷◌, ◌++◌}
use Prim.Native.Nat.{ℕ, suc, ◌+◌, ◌<◌, ◌≤◌}
use native.Mathlib.Numerals.{add-one}
use lib.ListN.{length, drop, get_or, drop_of_length-le}
use lib.Seq.{drop-cons}
use Rattle.smtlib.specs.Lexicon.{any}
use Rattle.smtlib.specs.Read.{doubled}
use Rattle.smtlib.proofs.Lexer.{doubled_append}
use Rattle.smt_text.specs.Table.{is_quote}
use Rattle.smt_text.proofs.Texts.{unquoted}
use Rattle.output.specs.Emit.{Output, emits}
use Rattle.output.proofs.Sent.{emits_append}

-- without a quotation mark the bytes are sent as they are
pub sent_plain : (t : List ℕ) (o o' : Output) (found : Bool) → found ≡ any is_quote t → found ≡ false → o' ≡ emits o t → o' ≡ emits o (doubled t)
sent_plain t o o' found u v e = rw (unquoted t (sym u ∙ v)) e

-- `doubled`: what is left to be sent, from i on, leads to what the whole string leads to
module _ (t : List ℕ) (i : ℕ) (o whole : Output) where
  pub doubled_more : (o' : Output) → i < length t → o' ≡ emits o (doubled (get_or t i 0 ∷ [])) → emits o (doubled (drop i t)) ≡ whole
      → emits o' (doubled (drop (i + 1) t)) ≡ whole
  doubled_more o' h e z =
      let f : doubled (drop i t) ≡ doubled (get_or t i 0 ∷ []) ++ doubled (drop (i + 1) t) = rw (add-one i, drop-cons t i 0 h) (doubled_append (get_or t i 0 ∷ []) (drop (suc i) t)) in
      rw e (sym (emits_append o _ (doubled (drop (i + 1) t))) ∙ ap (emits o) (sym f) ∙ z)

  pub doubled_end : length t ≤ i → emits o (doubled (drop i t)) ≡ whole → o ≡ whole
  unfolding emits
  doubled_end h z = rw (drop_of_length-le t h) at z
