-- What the class of a byte says of it, and that a word has plain bytes only.
use mathlib.Core.Path.{◌≡◌, refl, subst, subst⁻¹}
use mathlib.Core.Bool.{Bool, true, false, not, ◌&&◌, ◌||◌}
use mathlib.Core.Logic.{◌⊎◌, inl, inr}
use mathlib.Core.List.{List, [], ◌∷◌}
use Prim.Native.Nat.{ℕ}
use lib.Dec.{T, eqb, eqb→eq, T_not}
use Rattle.smtlib.specs.Lexicon.{bytes, Class, blank, semicolon, left_paren, right_paren, quote, bar, plain, class, all, any, run}
use Rattle.smtlib.specs.Lexicon.{between, digit, hex_digit, symbol_byte, is_numeral, before_point, behind_point, is_decimal, is_radix, is_reserved, reserved_words, is_simple, is_symbol, is_keyword, Kind, numeral, decimal, hexadecimal, binary, reserved, symbol, keyword, is_of}
use Rattle.smtlib.proofs.Bools.{choice, true_holds, and_left, and_right, both, either, all_head, all_tail, all_map, any_all, among_each}

-- the bytes of a class
abbrev pub Is : Class → ℕ → Type 0
Is blank b = T (any (eqb b) (bytes " \n"))
Is semicolon b = b ≡ 59
Is left_paren b = b ≡ 40
Is right_paren b = b ≡ 41
Is quote b = b ≡ 34
Is bar b = b ≡ 124
Is plain b = Unit

either_listed : (a b : Bool) → T (a || b) → T (a || (b || false))
either_listed true b t = tt
either_listed false true t = tt
either_listed false false t = t

classified : (b : ℕ) → Is (class b) b
unfolding class
classified b =
    let P : Class → Type 0 = λ c. Is c b in
    choice P (eqb b 32 || eqb b 10) blank _ (either_listed (eqb b 32) (eqb b 10)) (
    choice P (eqb b 59) semicolon _ (eqb→eq b 59) (
    choice P (eqb b 40) left_paren _ (eqb→eq b 40) (
    choice P (eqb b 41) right_paren _ (eqb→eq b 41) (
    choice P (eqb b 34) quote _ (eqb→eq b 34) (
    choice P (eqb b 124) bar plain (eqb→eq b 124) tt)))))

-- what the class of a byte says of it
pub class_says : (b : ℕ) {c : Class} → class b ≡ c → Is c b
class_says b e = subst (λ (x : Class). Is x b) e (classified b)

-- a byte of words
abbrev pub is_plain : Class → Bool
is_plain blank = false
is_plain semicolon = false
is_plain left_paren = false
is_plain right_paren = false
is_plain quote = false
is_plain bar = false
is_plain plain = true

abbrev pub plain_byte : ℕ → Bool
plain_byte b = is_plain (class b)

pub is_plain_lem : (c : Class) → T (is_plain c) → c ≡ plain
is_plain_lem blank t = absurd t
is_plain_lem semicolon t = absurd t
is_plain_lem left_paren t = absurd t
is_plain_lem right_paren t = absurd t
is_plain_lem quote t = absurd t
is_plain_lem bar t = absurd t
is_plain_lem plain t = refl

-- the bytes that are not plain
special : List ℕ
special = bytes " \n;()\"|"

listed : (b x : ℕ) → b ≡ x → T (any (eqb x) special) → T (any (eqb b) special)
listed b x e h = subst⁻¹ (λ (n : ℕ). T (any (eqb n) special)) e h

special_or_plain : (b : ℕ) → T (any (eqb b) special) ⊎ T (plain_byte b)
unfolding special
special_or_plain b = go (class b) (classified b)
  where
    blanks : T (eqb b 32) ⊎ T (eqb b 10 || false) → T (any (eqb b) special)
    blanks (inl h) = listed b 32 (eqb→eq b 32 h) tt
    blanks (inr h) = last (either (eqb b 10) false h)
      where
        last : T (eqb b 10) ⊎ T false → T (any (eqb b) special)
        last (inl k) = listed b 10 (eqb→eq b 10 k) tt
        last (inr k) = absurd k

    go : (c : Class) → Is c b → T (any (eqb b) special) ⊎ T (is_plain c)
    go blank h = inl (blanks (either (eqb b 32) _ h))
    go semicolon h = inl (listed b 59 h tt)
    go left_paren h = inl (listed b 40 h tt)
    go right_paren h = inl (listed b 41 h tt)
    go quote h = inl (listed b 34 h tt)
    go bar h = inl (listed b 124 h tt)
    go plain h = inr tt

-- Bytes that pass a test are plain, if none of the seven special ones passes it.
plain_of : (p : ℕ → Bool) → T (all (λ x. not (p x)) special) → (b : ℕ) → T (p b) → T (plain_byte b)
plain_of p h b t = go (special_or_plain b)
  where
    go : T (any (eqb b) special) ⊎ T (plain_byte b) → T (plain_byte b)
    go (inl s) = absurd (T_not (p b) (any_all (λ x. not (p x)) b special s h) t)
    go (inr s) = s

plains : (p : ℕ → Bool) → T (all (λ x. not (p x)) special) → (w : List ℕ) → T (all p w) → T (all plain_byte w)
plains p h = all_map p plain_byte (plain_of p h)

runs : (p : ℕ → Bool) → T (all (λ x. not (p x)) special) → (w : List ℕ) → T (run p w) → T (all plain_byte w)
runs p h [] t = tt
runs p h (b ∷ w) t = plains p h (b ∷ w) t

is : (b n : ℕ) → T (eqb b n) → T (plain_byte n) → T (plain_byte b)
is b n e h = subst⁻¹ (λ (x : ℕ). T (plain_byte x)) (eqb→eq b n e) h

-- the words of each kind
pub numeral_digits : (w : List ℕ) → T (is_numeral w) → T (all digit w)
numeral_digits [] h = absurd h
numeral_digits (b ∷ []) h = both (digit b) true h tt
numeral_digits (b ∷ c ∷ w) h = and_left (all digit (b ∷ c ∷ w)) _ h

numeral_plain : (w : List ℕ) → T (is_numeral w) → T (all plain_byte w)
unfolding special
numeral_plain w h = plains digit tt w (numeral_digits w h)

apart : (w : List ℕ) → T (all plain_byte (before_point w)) → T (all plain_byte (behind_point w)) → T (all plain_byte w)
unfolding class
apart [] h g = tt
apart (b ∷ w) h g = go (eqb b 46) refl (apart w)
  where
    go : (v : Bool) → eqb b 46 ≡ v → (T (all plain_byte (before_point w)) → T (all plain_byte (behind_point w)) → T (all plain_byte w))
        → T (all plain_byte (b ∷ w))
    go true e f = both (plain_byte b) _ (is b 46 (true_holds e) tt) (rw e at g)
    go false e f =
        let k : T (all plain_byte (b ∷ before_point w)) = rw e at h in
        both (plain_byte b) _ (all_head plain_byte b (before_point w) k) (f (all_tail plain_byte b (before_point w) k) (rw e at g))

decimal_plain : (w : List ℕ) → T (is_decimal w) → T (all plain_byte w)
unfolding special
decimal_plain w h =
    apart w (numeral_plain (before_point w) (and_left (is_numeral (before_point w)) _ h))
    (runs digit tt (behind_point w) (and_right (is_numeral (before_point w)) _ h))

radix_plain : (x : ℕ) (p : ℕ → Bool) → T (plain_byte x) → T (all (λ x. not (p x)) special) → (w : List ℕ) → T (is_radix x p w)
    → T (all plain_byte w)
unfolding class
radix_plain x p f g [] h = absurd h
radix_plain x p f g (a ∷ []) h = absurd h
radix_plain x p f g (a ∷ b ∷ w) h =
    let k : T (eqb a 35 && eqb b x) = and_left (eqb a 35 && eqb b x) _ h in
    both (plain_byte a) _ (is a 35 (and_left (eqb a 35) _ k) tt)
    (both (plain_byte b) _ (is b x (and_right (eqb a 35) _ k) f) (runs p g w (and_right (eqb a 35 && eqb b x) _ h)))

reserved_plain : (w : List ℕ) → T (is_reserved w) → T (all plain_byte w)
unfolding class reserved_words
reserved_plain w h = among_each (all plain_byte) w reserved_words h tt

symbol_plain : (w : List ℕ) → T (is_symbol w) → T (all plain_byte w)
unfolding special
symbol_plain [] h = absurd h
symbol_plain (b ∷ w) h =
    plains symbol_byte tt (b ∷ w) (and_right (not (digit b)) _ (and_left (is_simple (b ∷ w)) _ h))

keyword_plain : (w : List ℕ) → T (is_keyword w) → T (all plain_byte w)
unfolding class
keyword_plain [] h = absurd h
keyword_plain (b ∷ w) h = both (plain_byte b) _ (is b 58 (and_left (eqb b 58) _ h) tt) (symbol_plain w (and_right (eqb b 58) _ h))

pub kind_plain : (k : Kind) (w : List ℕ) → T (is_of k w) → T (all plain_byte w)
unfolding class special
kind_plain numeral w h = numeral_plain w h
kind_plain decimal w h = decimal_plain w h
kind_plain hexadecimal w h = radix_plain 120 hex_digit tt tt w h
kind_plain binary w h = radix_plain 98 (between "0" "1") tt tt w h
kind_plain reserved w h = reserved_plain w h
kind_plain symbol w h = symbol_plain w h
kind_plain keyword w h = keyword_plain w h
