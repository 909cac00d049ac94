-- The walk over a section's items.
use mathlib.Core.Path.{◌≡◌, refl, ap, ◌∙◌}
use mathlib.Core.Bool.{Bool, true, false, cond}
use mathlib.Core.List.{List, [], ◌∷◌}
use Prim.Native.Nat.{ℕ, zero, suc, ◌+◌, ◌<◌, ◌≤◌}
use native.Mathlib.Omega.{arith}
use lib.Dec.{leb}
use lib.ListN.{length, get_or}
use borrow.Author.Tests.{leb-true}
use Rattle.task.specs.Decode.{Res, got, bind, Decoder, items}
use Rattle.task.specs.Covers.{CoversSome}
use Rattle.task.specs.Laws.{item_at, Walks, SectionWalks}
use Rattle.task.proofs.Reading.{bind_got}

-- a position before others
abbrev following : ℕ → (ℕ → ℕ) → ℕ → ℕ
following p next zero = p
following p next (suc n) = next n

module _ {A : Type 0} (d : Decoder A) (s : List ℕ) where
  -- no item
  no_item : (at : ℕ) (xs : List A) (q : ℕ) → length s ≡ at → got [] at ≡ got xs q → Walks d s at xs q
  no_item at [] q h e = record { next = λ n. 0; nth = λ n x l. absurd (omega arith); end = let z : at ≡ q = cc in omega arith }
  no_item at (x ∷ xs) q h e = absurd (let z : ◌≡◌ {A = ℕ} 0 1 = cc in omega arith)

  -- an item before others
  one_item : (at : ℕ) (a : A) (p : ℕ) (xs : List A) (q : ℕ) → d s at ≡ got a p → Walks d s p xs q → Walks d s at (a ∷ xs) q
  one_item at a p xs q e w = record { next = following p w.next; nth = numbered; end = w.end }
    where
      numbered : (n : ℕ) (x : A) → n < length (a ∷ xs) → item_at n d s at ≡ got (get_or (a ∷ xs) n x) (following p w.next n)
      numbered zero x l = e
      numbered (suc n) x l = ap (λ (y : Res A). bind y (λ b r. item_at n d s r)) e ∙ w.nth n x (omega arith)

  walks : CoversSome d → (n at : ℕ) (xs : List A) (q : ℕ) → at ≤ length s → length s ≤ at + n → items n d s at ≡ got xs q → Walks d s at xs q
  unfolding items
  walks c zero at xs q l m e = no_item at xs q (omega arith) e
  walks c (suc n) at xs q l m e = go (leb (length s) at) refl e (λ p ys r u v w. walks c n p ys r u v w)
    where
      consed : (a : A) (p : ℕ) (ys : List A) (r : ℕ) → d s at ≡ got a p → got (a ∷ ys) r ≡ got xs q
          → ((p : ℕ) (ys : List A) (r : ℕ) → p ≤ length s → length s ≤ p + n → items n d s p ≡ got ys r → Walks d s p ys r) → items n d s p ≡ got ys r → Walks d s at xs q
      consed a p ys r f g rec h =
          let x = c.covered s at a p f in
          let u = x.end in
          let v = x.room in
          let i = x.inside (omega arith) in
          let y : (a ∷ ys) ≡ xs = cc in
          let z : r ≡ q = cc in
          rw (← y, ← z) (one_item at a p ys r f (rec p ys r i (omega arith) h))

      go : (t : Bool) → leb (length s) at ≡ t → cond t (got [] at) (bind (d s at) (λ a p. bind (items n d s p) (λ b r. got (a ∷ b) r))) ≡ got xs q
          → ((p : ℕ) (ys : List A) (r : ℕ) → p ≤ length s → length s ≤ p + n → items n d s p ≡ got ys r → Walks d s p ys r) → Walks d s at xs q
      go true b e rec = no_item at xs q (let h : length s ≤ at = leb-true (length s) at b in omega arith) e
      go false b e rec =
          let x = bind_got (d s at) (λ a p. bind (items n d s p) (λ b r. got (a ∷ b) r)) xs q e in
          let y = bind_got (items n d s x.next) (λ b r. got (x.value ∷ b) r) xs q x.then in
          consed x.value x.next y.value y.next x.first y.then rec y.first

pub section_walks : SectionWalks
section_walks = record { walks = λ {A} d s at xs q c l e. walks d s c (length s) at xs q l (omega arith) e }
