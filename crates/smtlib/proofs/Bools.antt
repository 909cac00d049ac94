-- Tests that compute, as facts.
use mathlib.Core.Path.{◌≡◌, refl, sym, ap, ◌∙◌, subst⁻¹}
use mathlib.Core.Bool.{Bool, true, false, not, cond, ◌&&◌, ◌||◌, and_assoc}
use mathlib.Core.Logic.{◌⊎◌, inl, inr}
use mathlib.Core.List.{List, [], ◌∷◌, ◌++◌}
use Prim.Native.String.{String}
use Prim.Native.Nat.{ℕ}
use native.Mathlib.Omega.{arith}
use lib.Dec.{T, eqb, eqb→eq, not_T}
use borrow.Author.Tests.{eq-eqb}
use Rattle.smtlib.specs.Lexicon.{bytes, all, any, same, among}

pub is_true : (v : Bool) → T v → v ≡ true
is_true true t = refl
is_true false t = absurd t

pub is_false : (v : Bool) → T (not v) → v ≡ false
is_false true t = absurd t
is_false false t = refl

-- a test that cannot hold is false
pub never : (v : Bool) → (T v → ⊥) → v ≡ false
never v f = is_false v (not_T v f)

pub true_holds : {v : Bool} → v ≡ true → T v
true_holds e = subst⁻¹ T e tt

pub false_fails : {v : Bool} → v ≡ false → T (not v)
false_fails e = subst⁻¹ (λ (v : Bool). T (not v)) e tt

-- what holds of both values that a test picks from
pub choice : {A : Type 0} (P : A → Type 0) (v : Bool) (x y : A) → (T v → P x) → P y → P (cond v x y)
choice P true x y f g = f tt
choice P false x y f g = g

pub and_left : (a b : Bool) → T (a && b) → T a
and_left true b t = tt
and_left false b t = t

pub and_right : (a b : Bool) → T (a && b) → T b
and_right true b t = t
and_right false b t = absurd t

pub both : (a b : Bool) → T a → T b → T (a && b)
both true b s t = t
both false b s t = absurd s

pub or_right : (a b : Bool) → T b → T (a || b)
or_right true b t = tt
or_right false b t = t

pub either : (a b : Bool) → T (a || b) → T a ⊎ T b
either true b t = inl tt
either false b t = inr t

-- 0 is not 1
pub clash : {A : Type 0} → ◌≡◌ {A = ℕ} 0 1 → A
clash e = let z : ⊥ = omega arith in absurd z

pub all_head : (p : ℕ → Bool) (b : ℕ) (w : List ℕ) → T (all p (b ∷ w)) → T (p b)
all_head p b w h = and_left (p b) (all p w) h

pub all_tail : (p : ℕ → Bool) (b : ℕ) (w : List ℕ) → T (all p (b ∷ w)) → T (all p w)
all_tail p b w h = and_right (p b) (all p w) h

pub all_append : (p : ℕ → Bool) (v w : List ℕ) → all p (v ++ w) ≡ (all p v && all p w)
all_append p [] w = refl
all_append p (b ∷ v) w = ap (λ (x : Bool). p b && x) (all_append p v w) ∙ sym (and_assoc (p b) (all p v) (all p w))

pub all_snoc : (p : ℕ → Bool) (w : List ℕ) (b : ℕ) → T (all p w) → T (p b) → T (all p (w ++ (b ∷ [])))
all_snoc p [] b h t = both (p b) true t tt
all_snoc p (a ∷ w) b h t = both (p a) _ (all_head p a w h) (all_snoc p w b (all_tail p a w h) t)

pub all_map : (p q : ℕ → Bool) → ((b : ℕ) → T (p b) → T (q b)) → (w : List ℕ) → T (all p w) → T (all q w)
all_map p q f [] h = tt
all_map p q f (b ∷ w) h = both (q b) (all q w) (f b (all_head p b w h)) (all_map p q f w (all_tail p b w h))

-- what holds of each byte listed holds of one that is listed
pub any_all : (p : ℕ → Bool) (b : ℕ) (l : List ℕ) → T (any (eqb b) l) → T (all p l) → T (p b)
any_all p b [] h g = absurd h
any_all p b (x ∷ l) h g = go (either (eqb b x) (any (eqb b) l) h) (λ k. any_all p b l k (all_tail p x l g))
  where
    go : T (eqb b x) ⊎ T (any (eqb b) l) → (T (any (eqb b) l) → T (p b)) → T (p b)
    go (inl e) f = subst⁻¹ (λ (n : ℕ). T (p n)) (eqb→eq b x e) (all_head p x l g)
    go (inr k) f = f k

pub same_self : (w : List ℕ) → same w w ≡ true
same_self [] = refl
same_self (b ∷ w) = simp (eq-eqb b b refl) (same_self w)

pub same→eq : (v w : List ℕ) → T (same v w) → v ≡ w
same→eq [] [] h = refl
same→eq [] (b ∷ w) h = absurd h
same→eq (a ∷ v) [] h = absurd h
same→eq (a ∷ v) (b ∷ w) h =
    let e : a ≡ b = eqb→eq a b (and_left (eqb a b) (same v w) h) in
    let f : v ≡ w = same→eq v w (and_right (eqb a b) (same v w) h) in
    cc

-- every word listed passes the test
abbrev pub each : (List ℕ → Bool) → List String → Bool
each p [] = true
each p (s ∷ ss) = p (bytes s) && each p ss

pub among_each : (p : List ℕ → Bool) (w : List ℕ) (ss : List String) → T (among w ss) → T (each p ss) → T (p w)
among_each p w [] h g = absurd h
among_each p w (s ∷ ss) h g =
    go (either (same w (bytes s)) (among w ss) h) (λ k. among_each p w ss k (and_right (p (bytes s)) (each p ss) g))
  where
    go : T (same w (bytes s)) ⊎ T (among w ss) → (T (among w ss) → T (p w)) → T (p w)
    go (inl e) f = subst⁻¹ (λ (x : List ℕ). T (p x)) (same→eq w (bytes s) e) (and_left (p (bytes s)) (each p ss) g)
    go (inr k) f = f k
