-- The last number below n that passes a test, and what it tells of a narrower test.
use mathlib.Core.Path.{◌≡◌, refl, sym, ap, subst, ◌∙◌}
use mathlib.Core.Bool.{Bool, true, false, cond}
use mathlib.Core.List.{List, [], ◌∷◌, ◌++◌}
use Prim.Native.Nat.{ℕ, zero, suc, ◌+◌, ◌≤◌, ◌<◌}
use native.Mathlib.Omega.{arith}
use lib.ListN.{length, length-append}
use Rattle.std.specs.Prelude.{Option, Some, None}
use Rattle.names.specs.Table.{Symbol, symbol_of, first_entries, or_else, last_from, last_of, link}
use Rattle.names.proofs.Bytes.{not_true}

unfoldable pub last : (ℕ → Bool) → ℕ → Option ℕ
last p zero = None
last p (suc n) = cond (p n) (Some n) (last p n)

pub last_zero : (p : ℕ → Bool) → last p zero ≡ None
unfolding last
last_zero p = refl

pub last_suc : (p : ℕ → Bool) (n : ℕ) → last p (suc n) ≡ cond (p n) (Some n) (last p n)
unfolding last
last_suc p n = refl

-- the last of two
choose : (a b : Bool) (k i : ℕ) (f : Option ℕ) → or_else (cond a (Some k) f) (cond b (Some i) None) ≡ cond a (Some k) (or_else f (cond b (Some i) None))
choose true b k i f = refl
choose false b k i f = refl

-- one symbol more at the end of a list
pub snoc_from : (p : Symbol → Bool) (i : ℕ) (es : List Symbol) (e : Symbol) → last_from p i (es ++ (e ∷ [])) ≡ cond (p e) (Some (i + length es)) (last_from p i es)
unfolding last_from
snoc_from p i [] e =
    let z : i + 0 ≡ i = omega arith in
    ap (λ (k : ℕ). cond (p e) (Some k) None) (sym z)
snoc_from p i (x ∷ es) e =
    let z : suc i + length es ≡ i + suc (length es) = omega arith in
    ap (λ (f : Option ℕ). or_else f (cond (p x) (Some i) None)) (snoc_from p (suc i) es e)
    ∙ choose (p e) (p x) (suc i + length es) i (last_from p (suc i) es)
    ∙ ap (λ (k : ℕ). cond (p e) (Some k) (or_else (last_from p (suc i) es) (cond (p x) (Some i) None))) z

pub entries_length : (s t : List ℕ) (n : ℕ) → length (first_entries s t n) ≡ n
unfolding first_entries
entries_length s t zero = refl
entries_length s t (suc n) =
    let h = entries_length s t n in
    length-append (first_entries s t n) (symbol_of s t n ∷ []) ∙ omega arith

pub entries_zero : (s t : List ℕ) → first_entries s t zero ≡ []
unfolding first_entries
entries_zero s t = refl

pub entries_suc : (s t : List ℕ) (n : ℕ) → first_entries s t (suc n) ≡ first_entries s t n ++ (symbol_of s t n ∷ [])
unfolding first_entries
entries_suc s t n = refl

-- a search of the first_entries is one of their numbers
pub last_is : (p : Symbol → Bool) (s t : List ℕ) (n : ℕ) → last_of p (first_entries s t n) ≡ last (λ k. p (symbol_of s t k)) n
unfolding first_entries last_from last
last_is p s t zero = refl
last_is p s t (suc n) =
    let h = entries_length s t n in
    let z : 0 + length (first_entries s t n) ≡ n = omega arith in
    snoc_from p 0 (first_entries s t n) (symbol_of s t n)
    ∙ ap (λ (k : ℕ). cond (p (symbol_of s t n)) (Some k) (last_of p (first_entries s t n))) z
    ∙ ap (λ (f : Option ℕ). cond (p (symbol_of s t n)) (Some n) f) (last_is p s t n)

pub empty_last : (p : Symbol → Bool) (s t : List ℕ) → last_of p (first_entries s t 0) ≡ None
empty_last p s t = last_is p s t zero ∙ last_zero (λ k. p (symbol_of s t k))

pub last_entries : (p : Symbol → Bool) (s t : List ℕ) (n : ℕ)
    → last_of p (first_entries s t (suc n)) ≡ cond (p (symbol_of s t n)) (Some n) (last_of p (first_entries s t n))
last_entries p s t n =
    last_is p s t (suc n)
    ∙ last_suc (λ k. p (symbol_of s t k)) n
    ∙ ap (λ (f : Option ℕ). cond (p (symbol_of s t n)) (Some n) f) (sym (last_is p s t n))

link_last : (p : ℕ → Bool) (n : ℕ) → link (last p n) ≤ n
unfolding last
link_last p zero = omega arith
link_last p (suc n) = go (p n) (link_last p n)
  where
    go : (b : Bool) → link (last p n) ≤ n → link (cond b (Some n) (last p n)) ≤ suc n
    go true h = omega arith
    go false h = omega arith

pub link_below : (p : Symbol → Bool) (s t : List ℕ) (n : ℕ) → link (last_of p (first_entries s t n)) ≤ n
link_below p s t n = rw (last_is p s t n) (link_last (λ k. p (symbol_of s t k)) n)

-- k is the last below n that passes p: then a search by q, which is narrower, is at k or below k
pub record Last (p q : ℕ → Bool) (n k : ℕ) : Type 0 where
  pub below : k < n
  pub passes : p k ≡ true
  pub on : last q n ≡ cond (q k) (Some k) (last q k)

found_clash : {A : Type 0} {k : ℕ} → None ≡ Some k → A
found_clash e = let z : ◌≡◌ {A = ℕ} 0 1 = cc in let w : ⊥ = omega arith in absurd w

module _ (p q : ℕ → Bool) (narrower : (k : ℕ) → q k ≡ true → p k ≡ true) where
  skipped : (n : ℕ) → p n ≡ false → q n ≡ false
  skipped n e = not_true (q n) (λ h. let z : true ≡ false = sym (narrower n h) ∙ e in let w : ◌≡◌ {A = ℕ} 0 1 = cc in omega arith)

  pub last_entry : (n k : ℕ) → last p n ≡ Some k → Last p q n k
  unfolding last
  last_entry zero k e = found_clash e
  last_entry (suc n) k e = go (p n) refl e (λ h. last_entry n k h)
    where
      go : (b : Bool) → p n ≡ b → cond b (Some n) (last p n) ≡ Some k → (last p n ≡ Some k → Last p q n k) → Last p q (suc n) k
      go true h e rec =
          let z : n ≡ k = cc in
          subst (λ (j : ℕ). Last p q (suc n) j) z (record { below = omega arith; passes = h; on = refl })
      go false h e rec =
          let x = rec e in
          let b = x.below in
          record { below = omega arith; passes = x.passes; on = ap (λ (c : Bool). cond c (Some n) (last q n)) (skipped n h) ∙ x.on }

  pub last_nothing : (n : ℕ) → last p n ≡ None → last q n ≡ None
  unfolding last
  last_nothing zero e = refl
  last_nothing (suc n) e = go (p n) refl e (λ h. last_nothing n h)
    where
      go : (b : Bool) → p n ≡ b → cond b (Some n) (last p n) ≡ None → (last p n ≡ None → last q n ≡ None) → cond (q n) (Some n) (last q n) ≡ None
      go true h e rec = found_clash (sym e)
      go false h e rec = ap (λ (c : Bool). cond c (Some n) (last q n)) (skipped n h) ∙ rec e

-- nothing is found exactly if no number passes
pub none_passes : (p : ℕ → Bool) (n : ℕ) → last p n ≡ None → (k : ℕ) → k < n → p k ≡ true → ⊥
none_passes p zero e k h t = omega arith
none_passes p (suc n) e k h t = go (p n) refl (sym (last_suc p n) ∙ e) (none_passes p n)
  where
    go : (b : Bool) → p n ≡ b → cond b (Some n) (last p n) ≡ None → (last p n ≡ None → (k : ℕ) → k < n → p k ≡ true → ⊥) → ⊥
    go true u e rec = found_clash (sym e)
    go false u e rec =
        let d : k ≡ n → ⊥ = λ z. let w : true ≡ false = sym t ∙ ap p z ∙ u in let v : ◌≡◌ {A = ℕ} 0 1 = cc in omega arith in
        rec e k (omega arith) t

-- none behind the last one passes
pub none_above : (p : ℕ → Bool) (n k : ℕ) → last p n ≡ Some k → (j : ℕ) → k < j → j < n → p j ≡ true → ⊥
none_above p zero k e j h g t = omega arith
none_above p (suc n) k e j h g t = go (p n) refl (sym (last_suc p n) ∙ e) (none_above p n k)
  where
    go : (b : Bool) → p n ≡ b → cond b (Some n) (last p n) ≡ Some k → (last p n ≡ Some k → (j : ℕ) → k < j → j < n → p j ≡ true → ⊥) → ⊥
    go true u e rec = let z : n ≡ k = cc in omega arith
    go false u e rec =
        let d : j ≡ n → ⊥ = λ z. let w : true ≡ false = sym t ∙ ap p z ∙ u in let v : ◌≡◌ {A = ℕ} 0 1 = cc in omega arith in
        rec e j h (omega arith) t

pub nothing_last : (p : ℕ → Bool) (n : ℕ) → ((k : ℕ) → k < n → p k ≡ true → ⊥) → last p n ≡ None
nothing_last p zero f = last_zero p
nothing_last p (suc n) f =
    last_suc p n
    ∙ ap (λ (c : Bool). cond c (Some n) (last p n)) (not_true (p n) (f n (omega arith)))
    ∙ nothing_last p n (λ k h. f k (omega arith))
