-- The names on a path: one more at the end, and the comparison of a name with each of them. The test for a head.
use mathlib.Core.Path.{◌≡◌, refl, sym, ap, ◌∙◌}
use mathlib.Core.Bool.{Bool, true, false, cond, ◌||◌, ◌&&◌}
use mathlib.Core.List.{List, [], ◌∷◌, ◌++◌}
use Prim.Native.Nat.{ℕ, ◌<◌, ◌≤◌}
use native.Mathlib.Omega.{arith}
use lib.Dec.{ltb, eqb}
use lib.ListN.{length, get_or, take, drop}
use borrow.Author.Tests.{ltb-true, eqb-true}
use Rattle.std.specs.List.{list_any}
use Rattle.std.proofs.lemmas.List.{take_all}
use Rattle.smtlib.specs.Lexicon.{same, is_one}
use Rattle.smtlib.proofs.Bools.{clash}
use Rattle.task.specs.declared.Fault.TheVariants.{Sound, Shadowed}
use Rattle.task.specs.Decode.{Res, got, refuse, refusal, number, raw, name}
use Rattle.task.specs.Fault.{shadow_fault}
use Rattle.task.proofs.Reading.{bind_got, number_got}
use Rattle.task_check.specs.Walk.{named, named_at}
use Rattle.constraint_check.specs.Around.{names_on, is_head}

-- one offset, and then the others
or_assoc : (a b : Bool) → (a || b) ≡ ((a || false) || b)
or_assoc true b = refl
or_assoc false b = refl

is_one_named : (w : List ℕ) (x : Res (List ℕ)) (xs : List (List ℕ)) → is_one w (named x xs) ≡ (is_one w (named x []) || is_one w xs)
is_one_named w (got y p) xs = or_assoc (same w y) (is_one w xs)
is_one_named w (refuse k) xs = refl

pub names_append : (s os : List ℕ) (o : ℕ) (x : List ℕ) (p : ℕ) → name s o ≡ got x p → names_on s (os ++ o ∷ []) ≡ names_on s os ++ x ∷ []
names_append s [] o x p e = rw e
names_append s (a ∷ os) o x p e = ap (named (name s a)) (names_append s os o x p e) ∙ front (name s a) (names_on s os)
  where
    front : (y : Res (List ℕ)) (xs : List (List ℕ)) → named y (xs ++ x ∷ []) ≡ named y xs ++ x ∷ []
    front (got z q) xs = refl
    front (refuse k) xs = refl

-- none is left out
pub none_out : (k n : ℕ) (os : List ℕ) → n ≡ 0 → length os ≤ k → take k (drop n os) ≡ os
none_out k n os e h = rw e (take_all k os h)

-- the comparison with each name on a path
module _ (s w : List ℕ) where
  any_named : (os : List ℕ) → list_any (λ o. is_one w (named_at s o)) os ≡ is_one w (names_on s os)
  any_named [] = refl
  any_named (o ∷ os) = ap (λ (b : Bool). is_one w (named_at s o) || b) (any_named os) ∙ sym (is_one_named w (name s o) (names_on s os))

  module _ (os : List ℕ) (b : Bool) where
    pub shadow_repeats : b ≡ true → b ≡ list_any (λ o. is_one w (named_at s o)) os → Shadowed ≡ shadow_fault (names_on s os) w
    unfolding shadow_fault
    shadow_repeats t e = let y : true ≡ is_one w (names_on s os) = sym t ∙ e ∙ any_named os in rw (← y)

    pub shadow_free : b ≡ false → b ≡ list_any (λ o. is_one w (named_at s o)) os → Sound ≡ shadow_fault (names_on s os) w
    unfolding shadow_fault
    shadow_free t e = let y : false ≡ is_one w (names_on s os) = sym t ∙ e ∙ any_named os in rw (← y)

-- what the answer of is_head tells
module _ (levels : ℕ) (s : List ℕ) (at : ℕ) where
  tests : (a b c : Bool) → ltb 0 levels ≡ a → ltb at (length s) ≡ b → eqb (get_or s at 0) 0 ≡ c → (a && b && c) ≡ true
      → (0 < levels) × (at < length s) × (get_or s at 0 ≡ 0)
  tests true true true ea eb ec t = (ltb-true 0 levels ea, ltb-true at (length s) eb, eqb-true (get_or s at 0) 0 ec)
  tests false b c ea eb ec t = clash (cc)
  tests true false c ea eb ec t = clash (cc)
  tests true true false ea eb ec t = clash (cc)

  pub head_stands : (b : Bool) → b ≡ is_head levels s at → b ≡ true → (0 < levels) × (at < length s) × (get_or s at 0 ≡ 0)
  head_stands b e t = tests _ _ _ refl refl refl (sym e ∙ t)

-- a name begins in the section
pub name_inside : (s : List ℕ) (at : ℕ) (w : List ℕ) (p : ℕ) → name s at ≡ got w p → at < length s
name_inside s at w p e =
    let b = bind_got (number 1 s at) (λ n q. cond (eqb n 0) (refusal 2) (raw n) s q) w p e in
    let f = (number_got 1 s at b.value b.next b.first).fits in
    omega arith
