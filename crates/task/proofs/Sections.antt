-- The items of a section: read in the whole file, made of others, and run one by one in a loop that ends at the section's end.
use mathlib.Core.Path.{◌≡◌, refl, sym, ap, ◌∙◌}
use mathlib.Core.Logic.{⊎_elim}
use mathlib.Core.Bool.{Bool, true, false, cond}
use mathlib.Core.List.{List, [], ◌∷◌, map}
use Prim.Native.Nat.{ℕ, zero, suc, ◌+◌, ◌-◌, ◌<◌, ◌≤◌}
use native.Mathlib.Omega.{arith}
use lib.Dec.{leb}
use lib.ListN.{length, take, drop, length-take}
use lib.Seq.{take-take}
use borrow.Author.Tests.{le-leb, lt-leb}
use Rattle.task.specs.Decode.{Res, got, refuse, bind, Decoder, give, ◌▹◌, items, section}
use Rattle.task.specs.Covers.{Covered, CoversSome}
use Rattle.task.proofs.Reading.{bind_got, le_or_lt}
use Rattle.task.specs.Run.{Runs}
use Rattle.task.proofs.Running.{Steps, Owing, owing_start, owing_more, owing_end, runs_refused}

-- what follows is alike where there is an answer
bind_same : {A B : Type 0} (x : Res A) (k l : A → ℕ → Res B) → ((a : A) (p : ℕ) → x ≡ got a p → k a p ≡ l a p) → bind x k ≡ bind x l
bind_same (got a p) k l h = h a p refl
bind_same (refuse n) k l h = refl

-- what follows two pieces, taken as following the second
bind_assoc : {A B C : Type 0} (x : Res A) (k : A → ℕ → Res B) (l : B → ℕ → Res C) → bind (bind x k) l ≡ bind x (λ a p. bind (k a p) l)
bind_assoc (got a p) k l = refl
bind_assoc (refuse n) k l = refl

-- what follows either of two answers
cond_bind : {A B : Type 0} (t : Bool) (x y : Res A) (k : A → ℕ → Res B) {z : Res B} → z ≡ bind y k → cond t (bind x k) z ≡ bind (cond t x y) k
cond_bind true x y k e = refl
cond_bind false x y k e = e

-- THE WHOLE FILE

-- a part before the end of a cut is the same in the whole
cut_same : (n at end : ℕ) (l : List ℕ) → at + n ≤ end → take n (drop at (take end l)) ≡ take n (drop at l)
cut_same n zero end l h = take-take n end l (omega arith)
cut_same n (suc at) zero l h = absurd (omega arith)
cut_same n (suc at) (suc end) [] h = refl
cut_same n (suc at) (suc end) (x ∷ l) h = cut_same n at end l (omega arith)

-- what is decoded up to an end is decoded in the whole
pub in_whole : {A : Type 0} (d : Decoder A) → CoversSome d → (s : List ℕ) (end at : ℕ) (a : A) (p : ℕ) → d (take end s) at ≡ got a p → d s at ≡ got a p
in_whole d c s end at a p e =
    let x = c.covered (take end s) at a p e in
    let r = x.room in
    let u = x.end in
    let i = x.inside (omega arith) in
    let l = length-take end s in
    x.again s at (omega arith) (cut_same x.n at end s (omega arith)) ∙ ap (got a) (sym u)

-- so a walker of the whole has run it
pub runs_whole : {A W : Type 0} (run : W → A → W) (d : Decoder A) → CoversSome d → (s : List ℕ) (end at : ℕ) (w w' : W) (r : ℕ) → Runs run (d s at) w w' r
    → Runs run (d (take end s) at) w w' r
runs_whole run d c s end at w w' r u a p e = u a p (in_whole d c s end at a p e)

-- MAPPED ITEMS

module _ {A B : Type 0} (d : Decoder A) (f : A → B) where
  -- items made of others are made of what the others are
  items_map : (n : ℕ) (s : List ℕ) (at : ℕ) → items n (d ▹ λ a. give (f a)) s at ≡ bind (items n d s at) (λ xs q. got (map f xs) q)
  unfolding items
  items_map zero s at = refl
  items_map (suc n) s at =
      let e : Decoder B = d ▹ λ a. give (f a) in
      let mapped : List A → ℕ → Res (List B) = λ xs q. got (map f xs) q in
      cond_bind (leb (length s) at) (got [] at) (bind (d s at) (λ a p. bind (items n d s p) (λ xs q. got (a ∷ xs) q))) mapped
      (bind_assoc (d s at) (λ a p. got (f a) p) (λ b p. bind (items n e s p) (λ ys q. got (b ∷ ys) q))
      ∙ bind_same (d s at) (λ a p. bind (items n e s p) (λ ys q. got (f a ∷ ys) q)) (λ a p. bind (bind (items n d s p) (λ xs q. got (a ∷ xs) q)) mapped)
      (λ a p h. ap (λ (y : Res (List B)). bind y (λ ys q. got (f a ∷ ys) q)) (items_map n s p)
      ∙ bind_assoc (items n d s p) mapped (λ ys q. got (f a ∷ ys) q)
      ∙ sym (bind_assoc (items n d s p) (λ xs q. got (a ∷ xs) q) mapped))
      ∙ sym (bind_assoc (d s at) (λ a p. bind (items n d s p) (λ xs q. got (a ∷ xs) q)) mapped))

  -- a section of items made of others
  section_map : (s : List ℕ) (at : ℕ) → section (d ▹ λ a. give (f a)) s at ≡ bind (section d s at) (λ xs q. got (map f xs) q)
  section_map s at = items_map (length s) s at

  -- the items of one that decodes
  pub section_made : (s : List ℕ) (at : ℕ) (xs : List A) (q : ℕ) → section d s at ≡ got xs q → section (d ▹ λ a. give (f a)) s at ≡ got (map f xs) q
  section_made s at xs q e = section_map s at ∙ ap (λ x. bind x (λ ys p. got (map f ys) p)) e

  -- an item made of another covers the same bytes
  pub covers_map : CoversSome d → CoversSome (d ▹ λ a. give (f a))
  covers_map c = record { covered = covered }
    where
      covered : (s : List ℕ) (at : ℕ) (b : B) (p : ℕ) → bind (d s at) (λ a q. got (f a) q) ≡ got b p → Covered (λ b. 1) (d ▹ λ a. give (f a)) s at b p
      covered s at b p e =
          let i = bind_got (d s at) (λ a q. got (f a) q) b p e in
          let x = c.covered s at i.value i.next i.first in
          let eb : f i.value ≡ b = cc in
          let ep : i.next ≡ p = cc in
          record {
            n = x.n;
            end = sym ep ∙ x.end;
            inside = λ h. rw (← ep) (x.inside h);
            room = x.room;
            again = λ s' at' h g. rw (x.again s' at' h g, eb);
          }

-- THE LOOP

module _ {A : Type 0} (d : Decoder A) (s : List ℕ) where
  -- at the section's end there is no item
  items_end : (k q : ℕ) → length s ≤ q → items k d s q ≡ got [] q
  unfolding items
  items_end zero q h = refl
  items_end (suc k) q h = rw (le-leb (length s) q h)

  -- before it there is one
  items_more : (k q : ℕ) → q < length s → items (suc k) d s q ≡ bind (d s q) (λ a p. bind (items k d s p) (λ b r. got (a ∷ b) r))
  unfolding items
  items_more k q h = rw (lt-leb (length s) q h)

  -- Each item takes a byte at least: any numbers that are no less than that of the bytes left lead to the same.
  items_enough : CoversSome d → (k m q : ℕ) → length s ≤ q + k → length s ≤ q + m → items k d s q ≡ items m d s q
  items_enough c zero m q h g = items_end zero q (omega arith) ∙ sym (items_end m q (omega arith))
  items_enough c (suc k) zero q h g = items_end (suc k) q (omega arith) ∙ sym (items_end zero q (omega arith))
  items_enough c (suc k) (suc m) q h g =
      ⊎_elim
      (λ (e : length s ≤ q). items_end (suc k) q e ∙ sym (items_end (suc m) q e))
      (λ (l : q < length s). items_more k q l
      ∙ bind_same (d s q) (λ a p. bind (items k d s p) (λ b r. got (a ∷ b) r)) (λ a p. bind (items m d s p) (λ b r. got (a ∷ b) r))
      (λ a p e. let x = c.covered s q a p e in let u = x.end in let v = x.room in
      ap (λ (y : Res (List A)). bind y (λ b r. got (a ∷ b) r)) (items_enough c k m p (omega arith) (omega arith)))
      ∙ sym (items_more m q l))
      (le_or_lt (length s) q)

module _ {A W : Type 0} {one : W → A → W} {all : W → List A → W} (steps : Steps [] ◌∷◌ one all) (d : Decoder A) (c : CoversSome d) (s : List ℕ) (at : ℕ) (first : W) where
  -- the loop: the items from q on are left, and what there was at first has become w
  pub Over : ℕ → W → Type 0
  Over q w = Owing steps (section d s at) first (items (length s - q) d s q) w

  -- at first all are left
  pub over_start : Over at first
  unfolding Over
  over_start = rw (items_enough d s c (length s - at) (length s) at (omega arith) (omega arith)) (owing_start steps (section d s at) first)

  -- an item is left before the section's end
  split : (q : ℕ) (w : W) → q < length s → Over q w
      → Owing steps (section d s at) first (bind (d s q) (λ a p. bind (items (length s - q - 1) d s p) (λ b r. got (a ∷ b) r))) w
  unfolding Over
  split q w l h =
      let e : length s - q ≡ suc (length s - q - 1) = omega arith in
      rw (e, items_more d s (length s - q - 1) q l) at h

  -- an item was run, and the walker is behind it
  pub over_more : (q : ℕ) (w w' : W) (p : ℕ) → q < length s → Over q w → Runs one (d s q) w w' p → q < p → Over p w'
  unfolding Over
  over_more q w w' p l h u g =
      rw (items_enough d s c (length s - p) (length s - q - 1) p (omega arith) (omega arith))
      (owing_more steps (section d s at) first (d s q) (items (length s - q - 1) d s) w w' p (split q w l h) u)

  -- A walker that is not behind where it began ran no item: there was none, so the section is refused and nothing is asked.
  pub over_stuck : (q : ℕ) (w w' w'' : W) (p r : ℕ) → q < length s → Over q w → Runs one (d s q) w w' p → p ≤ q → Runs all (section d s at) first w'' r
  over_stuck q w w' w'' p r l h u g = go (d s q) refl (split q w l h)
    where
      go : (x : Res A) → d s q ≡ x → Owing steps (section d s at) first (bind x (λ a p. bind (items (length s - q - 1) d s p) (λ b r. got (a ∷ b) r))) w
          → Runs all (section d s at) first w'' r
      go (got a p1) e o = let x = c.covered s q a p1 e in let i = x.end in let v = x.room in let z = (u a p1 e).0 in absurd (omega arith)
      go (refuse k) e o =
          owing_end steps (section d s at) first r w''
          (owing_more steps (section d s at) first (refuse k) (λ p1. got [] r) w w'' 0 o (runs_refused one w w'' 0 k))

  -- at the section's end all were run
  pub over_end : (q : ℕ) (w : W) → length s ≤ q → Over q w → Runs all (section d s at) first w q
  unfolding Over
  over_end q w l h = owing_end steps (section d s at) first q w (rw (items_end d s (length s - q) q l) at h)
