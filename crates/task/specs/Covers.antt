-- What is decoded depends on the bytes that it covers and on nothing else.
use Rattle.std.specs.Prelude.{ℕ, ◌+◌, ◌≤◌, ◌<◌, ◌≡◌, List, length, take, drop}
use Rattle.task.specs.Decode.{Decoder, got, name, text, binder, dec_sort, dec_expr, dec_pred, dec_constraint, comment, datatype, constant, function, kvar}
use Rattle.task.specs.Task.{heads_of}

-- What was decoded at a position takes n bytes, no fewer than its size. They stand inside the section, and the same n bytes at any
-- position of any section are decoded to the same.
pub record Covered {A : Type 0} (size : A → ℕ) (d : Decoder A) (s : List ℕ) (at : ℕ) (a : A) (p : ℕ) : Type 0 where
  pub n : ℕ
  pub end : p ≡ at + n
  pub inside : 0 < n → p ≤ length s
  pub room : size a ≤ n
  pub again : (s' : List ℕ) (at' : ℕ) → at' + n ≤ length s' → take n (drop at s) ≡ take n (drop at' s') → d s' at' ≡ got a (at' + n)

-- whatever a decoder gives covers its bytes
pub record Covers {A : Type 0} (size : A → ℕ) (d : Decoder A) : Type 0 where
  pub covered : (s : List ℕ) (at : ℕ) (a : A) (p : ℕ) → d s at ≡ got a p → Covered size d s at a p

-- it takes a byte at least
abbrev pub CoversSome : {A : Type 0} → Decoder A → Type 0
CoversSome = Covers (λ a. 1)

-- the pieces of a file; a constraint takes a byte at least for each head that is not literally true
pub record EachCovers : Type 0 where
  pub names : CoversSome name
  pub texts : CoversSome text
  pub sorts : (l : ℕ) → CoversSome (dec_sort l)
  pub binders : (l : ℕ) → CoversSome (binder l)
  pub exprs : (l : ℕ) → CoversSome (dec_expr l)
  pub preds : (l : ℕ) → CoversSome (dec_pred l)
  pub constraints : (l : ℕ) → CoversSome (dec_constraint l)
  pub heads : (l : ℕ) → Covers heads_of (dec_constraint l)
  pub comments : CoversSome comment
  pub datatypes : CoversSome datatype
  pub constants : CoversSome constant
  pub functions : CoversSome function
  pub kvars : CoversSome kvar
