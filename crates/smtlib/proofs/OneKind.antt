-- A word is of at most one kind: `kind_of_lem`.
use mathlib.Core.Path.{◌≡◌, refl, sym, ap, ◌∙◌, subst}
use mathlib.Core.Bool.{Bool, true, false, not, cond, ◌&&◌}
use mathlib.Core.Option.{Option, none, some}
use mathlib.Core.List.{List, [], ◌∷◌}
use Prim.Native.Nat.{ℕ}
use native.Mathlib.Omega.{arith}
use lib.Dec.{T, eqb, eqb→eq, T_not}
use Rattle.smtlib.specs.Lexicon.{all, digit, hex_digit, between, symbol_byte, is_numeral, before_point, behind_point, is_decimal, run, is_radix, is_reserved, reserved_words, is_simple, is_symbol, is_keyword}
use Rattle.smtlib.specs.Lexicon.{Kind, numeral, decimal, hexadecimal, binary, reserved, symbol, keyword, is_of}
use borrow.Author.Tests.{eq-eqb}
use Rattle.smtlib.proofs.Plain.{numeral_digits}
use Rattle.smtlib.proofs.Bools.{choice, is_true, is_false, never, true_holds, and_left, and_right, all_head, all_tail, among_each}

-- WHAT THE FIRST BYTE SAYS

-- with what a word of a kind begins: 0 a digit, 1 `#`, 2 `:`, 3 anything else
abbrev lead : Kind → ℕ
lead numeral = 0
lead decimal = 0
lead hexadecimal = 1
lead binary = 1
lead reserved = 3
lead symbol = 3
lead keyword = 2

abbrev lead_of : List ℕ → ℕ
lead_of [] = 3
lead_of (b ∷ w) = cond (digit b) 0 (cond (eqb b 35) 1 (cond (eqb b 58) 2 3))

digit_leads : (b : ℕ) (w : List ℕ) → T (digit b) → lead_of (b ∷ w) ≡ 0
digit_leads b w h = rw (is_true (digit b) h)

byte_leads : (b x : ℕ) (w : List ℕ) → T (eqb b x) → lead_of (b ∷ w) ≡ lead_of (x ∷ w)
byte_leads b x w h = ap (λ (n : ℕ). lead_of (n ∷ w)) (eqb→eq b x h)

numeral_leads : (w : List ℕ) → T (is_numeral w) → lead_of w ≡ 0
numeral_leads [] h = absurd h
numeral_leads (b ∷ w) h = digit_leads b w (all_head digit b w (numeral_digits (b ∷ w) h))

decimal_leads : (w : List ℕ) → T (is_decimal w) → lead_of w ≡ 0
decimal_leads [] h = absurd h
decimal_leads (b ∷ w) h = go (eqb b 46) refl (and_left (is_numeral (before_point (b ∷ w))) _ h)
  where
    go : (v : Bool) → eqb b 46 ≡ v → T (is_numeral (cond v [] (b ∷ before_point w))) → lead_of (b ∷ w) ≡ 0
    go true e k = absurd k
    go false e k = numeral_leads (b ∷ before_point w) k

radix_leads : (x : ℕ) (p : ℕ → Bool) (w : List ℕ) → T (is_radix x p w) → lead_of w ≡ 1
radix_leads x p [] h = absurd h
radix_leads x p (a ∷ []) h = absurd h
radix_leads x p (a ∷ b ∷ w) h = byte_leads a 35 (b ∷ w) (and_left (eqb a 35) _ (and_left (eqb a 35 && eqb b x) _ h))

reserved_leads : (w : List ℕ) → T (is_reserved w) → lead_of w ≡ 3
unfolding reserved_words
reserved_leads w h = eqb→eq (lead_of w) 3 (among_each (λ v. eqb (lead_of v) 3) w reserved_words h tt)

symbol_leads : (w : List ℕ) → T (is_symbol w) → lead_of w ≡ 3
symbol_leads [] h = absurd h
symbol_leads (b ∷ w) h =
    let s : T (is_simple (b ∷ w)) = and_left (is_simple (b ∷ w)) _ h in
    let t : T (symbol_byte b) = all_head symbol_byte b w (and_right (not (digit b)) _ s) in
    rw (is_false (digit b) (and_left (not (digit b)) _ s), apart 35 t (λ k. k), apart 58 t (λ k. k))
  where
    apart : (x : ℕ) → T (symbol_byte b) → (T (symbol_byte x) → ⊥) → eqb b x ≡ false
    apart x t n = never (eqb b x) (λ e. n (subst (λ (y : ℕ). T (symbol_byte y)) (eqb→eq b x e) t))

keyword_leads : (w : List ℕ) → T (is_keyword w) → lead_of w ≡ 2
keyword_leads [] h = absurd h
keyword_leads (b ∷ w) h = byte_leads b 58 w (and_left (eqb b 58) _ h)

leads : (k : Kind) (w : List ℕ) → T (is_of k w) → lead_of w ≡ lead k
leads numeral w h = numeral_leads w h
leads decimal w h = decimal_leads w h
leads hexadecimal w h = radix_leads 120 hex_digit w h
leads binary w h = radix_leads 98 (between "0" "1") w h
leads reserved w h = reserved_leads w h
leads symbol w h = symbol_leads w h
leads keyword w h = keyword_leads w h

-- a word of one kind is of no other that begins otherwise
other : (k j : Kind) (w : List ℕ) → T (is_of k w) → T (not (eqb (lead k) (lead j))) → is_of j w ≡ false
other k j w h n =
    never (is_of j w) (λ t. T_not (eqb (lead k) (lead j)) n (true_holds (eq-eqb (lead k) (lead j) (sym (leads k w h) ∙ leads j w t))))

-- KINDS THAT BEGIN ALIKE

no_point : (w : List ℕ) → T (all digit w) → behind_point w ≡ []
no_point [] h = refl
no_point (b ∷ w) h = go (eqb b 46) refl (no_point w (all_tail digit b w h))
  where
    go : (v : Bool) → eqb b 46 ≡ v → behind_point w ≡ [] → cond v w (behind_point w) ≡ []
    go false e ih = ih
    go true e ih = absurd (subst (λ (n : ℕ). T (digit n)) (eqb→eq b 46 (true_holds e)) (all_head digit b w h))

decimal_no_numeral : (w : List ℕ) → T (is_decimal w) → is_numeral w ≡ false
decimal_no_numeral w h =
    let k : T (run digit (behind_point w)) = and_right (is_numeral (before_point w)) _ h in
    never (is_numeral w) (λ t. subst (λ (l : List ℕ). T (run digit l)) (no_point w (numeral_digits w t)) k)

second : (x : ℕ) (p : ℕ → Bool) (a b : ℕ) (w : List ℕ) → T (is_radix x p (a ∷ b ∷ w)) → b ≡ x
second x p a b w h = eqb→eq b x (and_right (eqb a 35) _ (and_left (eqb a 35 && eqb b x) _ h))

binary_no_hexadecimal : (w : List ℕ) → T (is_of binary w) → is_of hexadecimal w ≡ false
binary_no_hexadecimal [] h = refl
binary_no_hexadecimal (a ∷ []) h = refl
binary_no_hexadecimal (a ∷ b ∷ w) h =
    let y : b ≡ 98 = second 98 (between "0" "1") a b w h in
    never (is_of hexadecimal (a ∷ b ∷ w)) (λ t. let x : b ≡ 120 = second 120 hex_digit a b w t in omega arith)

-- THE KIND OF A WORD

unfoldable pub kind_of : List ℕ → Option Kind
unfolding reserved_words
kind_of w =
    cond (is_of numeral w) (some numeral) (
    cond (is_of decimal w) (some decimal) (
    cond (is_of hexadecimal w) (some hexadecimal) (
    cond (is_of binary w) (some binary) (
    cond (is_of reserved w) (some reserved) (
    cond (is_of symbol w) (some symbol) (
    cond (is_of keyword w) (some keyword) none))))))

pub kind_of_lem : (k : Kind) (w : List ℕ) → T (is_of k w) → kind_of w ≡ some k
unfolding kind_of
kind_of_lem numeral w h = rw (is_true (is_of numeral w) h)
kind_of_lem decimal w h = rw (decimal_no_numeral w h, is_true (is_of decimal w) h)
kind_of_lem hexadecimal w h =
    rw (other hexadecimal numeral w h tt, other hexadecimal decimal w h tt, is_true (is_of hexadecimal w) h)
kind_of_lem binary w h =
    rw (other binary numeral w h tt, other binary decimal w h tt, binary_no_hexadecimal w h, is_true (is_of binary w) h)
kind_of_lem reserved w h =
    rw (other reserved numeral w h tt, other reserved decimal w h tt, other reserved hexadecimal w h tt, other reserved binary w h tt, is_true (is_of reserved w) h)
kind_of_lem symbol w h =
    rw (other symbol numeral w h tt, other symbol decimal w h tt, other symbol hexadecimal w h tt, other symbol binary w h tt, is_true (is_of symbol w) h, is_false (is_reserved w) (and_right (is_simple w) _ h))
kind_of_lem keyword w h =
    rw (other keyword numeral w h tt, other keyword decimal w h tt, other keyword hexadecimal w h tt, other keyword binary w h tt, other keyword symbol w h tt, other keyword reserved w h tt, is_true (is_of keyword w) h)

-- a word that has a kind is of it
abbrev pub is_some : Option Kind → Bool
is_some none = false
is_some (some k) = true

abbrev pub kind_or : Kind → Option Kind → Kind
kind_or j none = j
kind_or j (some k) = k

pub of_kind : (w : List ℕ) → T (is_some (kind_of w)) → T (is_of (kind_or symbol (kind_of w)) w)
unfolding kind_of
of_kind w =
    let P : Option Kind → Type 0 = λ o. T (is_some o) → T (is_of (kind_or symbol o) w) in
    choice P (is_of numeral w) (some numeral) _ (λ h t. h) (
    choice P (is_of decimal w) (some decimal) _ (λ h t. h) (
    choice P (is_of hexadecimal w) (some hexadecimal) _ (λ h t. h) (
    choice P (is_of binary w) (some binary) _ (λ h t. h) (
    choice P (is_of reserved w) (some reserved) _ (λ h t. h) (
    choice P (is_of symbol w) (some symbol) _ (λ h t. h) (
    choice P (is_of keyword w) (some keyword) none (λ h t. h) (λ t. absurd t)))))))
