-- Every decoder covers its bytes: shown for what reads nothing and for bytes, kept by each way of putting decoders together.
use mathlib.Core.Path.{◌≡◌, refl, sym, ap, ◌∙◌, subst}
use mathlib.Core.Logic.{⊎_elim}
use mathlib.Core.Bool.{Bool, true, false, cond}
use mathlib.Core.List.{List, [], ◌∷◌}
use Prim.Native.Nat.{ℕ, zero, suc, ◌+◌, ◌-◌, ◌≤◌}
use native.Mathlib.Omega.{arith}
use native.Mathlib.Nat.{suc-add, zero-add, add-zero, add_assoc}
use lib.ListN.{take, drop, get_or}
use lib.Seq.{drop-drop, take-nil}
use Rattle.task.specs.Decode.{got, Decoder, give, refusal, ◌▹◌, raw, little, number, many, coded}
use Rattle.task.specs.Covers.{Covers}
use Rattle.task.proofs.Reading.{raw_fits, raw_got, bind_got, got_refuse, le_or_lt}

-- parts of equal parts
take_front : (m n : ℕ) (xs : List ℕ) → take m (take (m + n) xs) ≡ take m xs
take_front zero n xs = refl
take_front (suc m) n [] = rw (suc-add m n)
take_front (suc m) n (x ∷ xs) = rw (suc-add m n, take_front m n xs)

drop_front : (m n : ℕ) (xs : List ℕ) → drop m (take (m + n) xs) ≡ take n (drop m xs)
drop_front zero n xs = rw (zero-add n)
drop_front (suc m) n [] = rw (suc-add m n) (sym (take-nil n))
drop_front (suc m) n (x ∷ xs) = rw (suc-add m n) (drop_front m n xs)

same_front : (m n : ℕ) (xs ys : List ℕ) → take (m + n) xs ≡ take (m + n) ys → take m xs ≡ take m ys
same_front m n xs ys e = sym (take_front m n xs) ∙ ap (take m) e ∙ take_front m n ys

same_back : (m n : ℕ) (xs ys : List ℕ) → take (m + n) xs ≡ take (m + n) ys → take n (drop m xs) ≡ take n (drop m ys)
same_back m n xs ys e = sym (drop_front m n xs) ∙ ap (drop m) e ∙ drop_front m n ys

same_rest : (m n p : ℕ) (s s' : List ℕ) (at at' : ℕ) → p ≡ at + m → take (m + n) (drop at s) ≡ take (m + n) (drop at' s')
    → take n (drop p s) ≡ take n (drop (at' + m) s')
same_rest m n p s s' at at' u h = rw (u, ← drop-drop m at s, ← drop-drop m at' s') (same_back m n (drop at s) (drop at' s') h)

module _ {A : Type 0} where
  pub covers_less : (size size' : A → ℕ) (d : Decoder A) → ((a : A) → size' a ≤ size a) → Covers size d → Covers size' d
  covers_less size size' d h c = record {
    covered = λ s at a p e.
        let x = c.covered s at a p e in
        let r = x.room in
        let l = h a in
        record { n = x.n; end = x.end; inside = x.inside; room = omega arith; again = x.again };
  }

  pub covers_refusal : (size : A → ℕ) (k : ℕ) → Covers size (refusal k)
  covers_refusal size k = record { covered = λ s at a p e. got_refuse (sym e) }

  pub covers_give : (size : A → ℕ) (a : A) → size a ≤ 0 → Covers size (give a)
  covers_give size a h = record {
    covered = λ s at b p e.
        let l : a ≡ b = cc in
        let z : p ≡ at = cc in
        record {
          n = 0;
          end = omega arith;
          inside = λ g. absurd (omega arith);
          room = subst (λ (x : A). size x ≤ 0) l h;
          again = λ s' at' g f. rw (l, add-zero at');
        };
  }

  pub covers_cond : (size : A → ℕ) (t : Bool) (d e : Decoder A) → Covers size d → Covers size e → Covers size (cond t d e)
  covers_cond size true d e c c' = c
  covers_cond size false d e c c' = c'

pub covers_raw : (n : ℕ) → Covers (λ w. n) (raw n)
covers_raw n = record {
  covered = λ s at w p e.
      let f = raw_got n s at w p e in
      record {
        n = n;
        end = f.end;
        inside = λ g. omega (arith, f.end, f.fits);
        room = omega arith;
        again = λ s' at' g h. rw (raw_fits n s' at' g, ← h, f.are);
      };
}

module _ {A B : Type 0} where
  -- one piece and what follows it, which owes what is left of the size
  pub covers_bind : (size : B → ℕ) (size' : A → ℕ) (d : Decoder A) (k : A → Decoder B) → Covers size' d
      → ((a : A) → Covers (λ b. size b - size' a) (k a)) → Covers size (d ▹ k)
  covers_bind size size' d k c c' = record {
    covered = λ s at b q e.
        let x = bind_got (d s at) (λ a p. k a s p) b q e in
        let y = c.covered s at x.value x.next x.first in
        let z = (c' x.value).covered s x.next b q x.then in
        let i = y.inside in
        let j = z.inside in
        let u : x.next ≡ at + y.n = y.end in
        let v : q ≡ x.next + z.n = z.end in
        record {
          n = y.n + z.n;
          end = omega arith;
          inside = λ g. ⊎_elim (λ h. let m : q ≡ x.next = omega arith in rw m (y.inside (omega arith))) (λ h. z.inside h) (le_or_lt z.n 0);
          room = omega (arith, y.room, z.room);
          again = λ s' at' g h.
              let a : d s' at' ≡ got x.value (at' + y.n) = y.again s' at' (omega arith) (same_front y.n z.n (drop at s) (drop at' s') h) in
              let l : k x.value s' (at' + y.n) ≡ got b (at' + y.n + z.n) =
              z.again s' (at' + y.n) (omega arith) (same_rest y.n z.n x.next s s' at at' u h) in
              rw (a, l, add_assoc at' y.n z.n);
        };
  }

module _ {A B : Type 0} where
  -- n pieces in a row, where a step adds sizes
  pub covers_many : (size : B → ℕ) (size' : A → ℕ) (end : B) (more : A → B → B) (d : Decoder A) → size end ≤ 0
      → ((a : A) (b : B) → size (more a b) ≤ size' a + size b) → Covers size' d → (n : ℕ) → Covers size (many end more d n)
  covers_many size size' end more d h g c zero = covers_give size end h
  covers_many size size' end more d h g c (suc n) =
      covers_bind size size' d (λ a. many end more d n ▹ λ b. give (more a b)) c (λ a.
      covers_bind (λ x. size x - size' a) size (many end more d n) (λ b. give (more a b)) (covers_many size size' end more d h g c n) (λ b.
      covers_give (λ x. size x - size' a - size b) (more a b) (let l = g a b in omega arith)))

pub covers_number : (n : ℕ) → Covers (λ w. n) (number n)
covers_number n = covers_bind (λ w. n) (λ w. n) (raw n) (λ w. give (little w)) (covers_raw n) (λ w. covers_give (λ v. n - n) (little w) (omega arith))

module _ {A : Type 0} where
  -- each of the decoders listed
  pub data CoverAll (size : A → ℕ) : List (Decoder A) → Type 0 where
    none : CoverAll size []
    more : {d : Decoder A} {ds : List (Decoder A)} → Covers size d → CoverAll size ds → CoverAll size (d ∷ ds)

  cover_at : (size : A → ℕ) (ds : List (Decoder A)) (k : ℕ) → CoverAll size ds → Covers size (get_or ds k (refusal 2))
  cover_at size [] k CoverAll.none = covers_refusal size 2
  cover_at size (d ∷ ds) zero (CoverAll.more c cs) = c
  cover_at size (d ∷ ds) (suc k) (CoverAll.more c cs) = cover_at size ds k cs

  pub covers_coded : (size : A → ℕ) (ds : List (Decoder A)) → CoverAll (λ a. size a - 1) ds → Covers size (coded ds)
  covers_coded size ds c =
      covers_bind size (λ k. 1) (number 1) (λ k. get_or ds k (refusal 2)) (covers_number 1) (λ k. cover_at (λ a. size a - 1) ds k c)

-- what is decoded ends no earlier than it begins
pub forward : {A : Type 0} {size : A → ℕ} (d : Decoder A) → Covers size d → (s : List ℕ) (at : ℕ) (a : A) (p : ℕ) → d s at ≡ got a p → at ≤ p
forward d c s at a p e = let z = (c.covered s at a p e).end in omega arith
