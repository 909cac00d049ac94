-- Laws of the decoders' primitives, with premises in the form in which the code's tests give them.
use mathlib.Core.Path.{◌≡◌, refl, sym, ap, ◌∙◌}
use mathlib.Core.Logic.{◌⊎◌, inl, inr, ⊎_elim}
use mathlib.Core.List.{List}
use mathlib.Core.Bool.{Bool, true, false}
use Prim.Native.Nat.{ℕ, ◌+◌, ◌<◌, ◌≤◌}
use native.Mathlib.Omega.{arith}
use lib.Dec.{leb}
use lib.ListN.{length, take, drop, get_or, get_or-eq_default}
use lib.Seq.{drop-cons}
use borrow.Author.Tests.{le-leb, lt-leb, leb-true, leb-false}
use Rattle.task.specs.Decode.{Res, got, refuse, Decoder, refusal, bind, raw, little, number, coded}

pub raw_fits : (n : ℕ) (s : List ℕ) (at : ℕ) → at + n ≤ length s → raw n s at ≡ got (take n (drop at s)) (at + n)
unfolding raw
raw_fits n s at h = rw (le-leb _ _ h)

pub raw_short : (n : ℕ) (s : List ℕ) (at : ℕ) → length s < at + n → raw n s at ≡ refuse 2
unfolding raw
raw_short n s at h = rw (lt-leb _ _ h)

pub number_fits : (n : ℕ) (s : List ℕ) (at : ℕ) → at + n ≤ length s → number n s at ≡ got (little (take n (drop at s))) (at + n)
number_fits n s at h = rw (raw_fits n s at h)

pub number_short : (n : ℕ) (s : List ℕ) (at : ℕ) → length s < at + n → number n s at ≡ refuse 2
number_short n s at h = rw (raw_short n s at h)

-- a comparison comes out one way or the other
sides : (a b : ℕ) (t : Bool) → leb a b ≡ t → (a ≤ b) ⊎ (b < a)
sides a b true e = inl (leb-true a b e)
sides a b false e = inr (leb-false a b e)

pub le_or_lt : (a b : ℕ) → (a ≤ b) ⊎ (b < a)
le_or_lt a b = sides a b (leb a b) refl

-- an answer is not both kinds
pub got_refuse : {A C : Type 0} {a : A} {p k : ℕ} → got a p ≡ refuse k → C
got_refuse e = absurd (let z : ◌≡◌ {A = ℕ} 0 1 = cc in omega arith)

-- two answers that are the same hold the same
pub same_value : {A : Type 0} {a b : A} {p q : ℕ} → got a p ≡ got b q → a ≡ b
same_value e = cc

-- what came before, where there is an answer
pub record Before {A B : Type 0} (x : Res A) (k : A → ℕ → Res B) (b : B) (q : ℕ) : Type 0 where
  pub value : A
  pub next : ℕ
  pub first : x ≡ got value next
  pub then : k value next ≡ got b q

pub bind_got : {A B : Type 0} (x : Res A) (k : A → ℕ → Res B) (b : B) (q : ℕ) → bind x k ≡ got b q → Before x k b q
bind_got (got a p) k b q e = record { value = a; next = p; first = refl; then = e }
bind_got (refuse n) k b q e = got_refuse (sym e)

-- what an answer tells of the bytes
pub record Fits (n : ℕ) (s : List ℕ) (at : ℕ) (w : List ℕ) (p : ℕ) : Type 0 where
  pub fits : at + n ≤ length s
  pub end : p ≡ at + n
  pub are : w ≡ take n (drop at s)

raw_is : {n : ℕ} {s : List ℕ} {at : ℕ} {w : List ℕ} {p : ℕ} → at + n ≤ length s → got (take n (drop at s)) (at + n) ≡ got w p → Fits n s at w p
raw_is h e = record { fits = h; end = cc; are = cc }

pub raw_got : (n : ℕ) (s : List ℕ) (at : ℕ) (w : List ℕ) (p : ℕ) → raw n s at ≡ got w p → Fits n s at w p
raw_got n s at w p e =
    ⊎_elim
    (λ h. raw_is h (sym (raw_fits n s at h) ∙ e))
    (λ h. got_refuse (sym e ∙ raw_short n s at h))
    (le_or_lt (at + n) (length s))

-- what a number tells of the bytes
pub record Reads (n : ℕ) (s : List ℕ) (at v p : ℕ) : Type 0 where
  pub fits : at + n ≤ length s
  pub end : p ≡ at + n
  pub value : v ≡ little (take n (drop at s))

number_is : {n : ℕ} {s : List ℕ} {at v p : ℕ} → at + n ≤ length s → got (little (take n (drop at s))) (at + n) ≡ got v p → Reads n s at v p
number_is h e = record { fits = h; end = cc; value = cc }

pub number_got : (n : ℕ) (s : List ℕ) (at v p : ℕ) → number n s at ≡ got v p → Reads n s at v p
number_got n s at v p e =
    ⊎_elim
    (λ h. number_is h (sym (number_fits n s at h) ∙ e))
    (λ h. got_refuse (sym e ∙ number_short n s at h))
    (le_or_lt (at + n) (length s))

pub number_refused : (n : ℕ) (s : List ℕ) (at k : ℕ) → number n s at ≡ refuse k → length s < at + n
number_refused n s at k e =
    ⊎_elim
    (λ h. got_refuse (sym (number_fits n s at h) ∙ e))
    (λ h. h)
    (le_or_lt (at + n) (length s))

-- a code
pub byte_short : (s : List ℕ) (at : ℕ) → length s ≤ at → number 1 s at ≡ refuse 2
byte_short s at h = number_short 1 s at (omega arith)

pub byte_fits : (s : List ℕ) (at : ℕ) → at < length s → number 1 s at ≡ got (get_or s at 0) (at + 1)
byte_fits s at h =
    let e : little (take 1 (drop at s)) ≡ get_or s at 0 = rw (drop-cons s at 0 h) (omega arith) in
    rw (number_fits 1 s at (omega arith), e)

module _ {A : Type 0} (ds : List (Decoder A)) (s : List ℕ) (at : ℕ) where
  pub coded_short : length s ≤ at → coded ds s at ≡ refuse 2
  coded_short h = rw (byte_short s at h)

  pub coded_at : (k : ℕ) → at < length s → get_or s at 0 ≡ k → coded ds s at ≡ get_or ds k (refusal 2) s (at + 1)
  coded_at k h e = rw (byte_fits s at h, e)

  pub coded_beyond : at < length s → length ds ≤ get_or s at 0 → coded ds s at ≡ refuse 2
  coded_beyond h l = coded_at (get_or s at 0) h refl ∙ ap (λ (d : Decoder A). d s (at + 1)) (get_or-eq_default ds (refusal 2) {n = get_or s at 0} l)
