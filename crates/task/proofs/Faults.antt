-- The faults are declared in the order in which they are judged: of two the lesser by the derived order is the one of lower rank. Both are
-- computed for every pair.
use mathlib.Core.Path.{◌≡◌, refl, sym, ap, ◌∙◌, subst}
use mathlib.Core.Bool.{Bool}
use mathlib.Core.List.{List, [], ◌∷◌}
use Prim.Native.Nat.{ℕ, ◌-◌, ◌<◌}
use native.Mathlib.Omega.{arith}
use lib.Dec.{T, eqb, eqb→eq}
use lib.ListN.{get_or}
use Rattle.std.specs.Ordering.{ord_min}
use Rattle.smtlib.proofs.Entries.{below, at_below}
use Rattle.task.specs.declared.Fault.{Fault}
use Rattle.task.specs.declared.Fault.TheVariants.{Text, NoConstructors, BitVecWidth, Unqualified, WKVar, Arity, Shadowed, Clash, Unknown, Arguments, Sound}
use Rattle.task.specs.contracts.FaultOrd.TheImpl.{cmp-value}
use Rattle.task.specs.Fault.{rank, lower}

abbrev faults : List Fault
faults = Text ∷ NoConstructors ∷ BitVecWidth ∷ Unqualified ∷ WKVar ∷ Arity ∷ Shadowed ∷ Clash ∷ Unknown ∷ Arguments ∷ Sound ∷ []

abbrev ranked : ℕ → Fault
ranked k = get_or faults (k - 1) Sound

is_ranked : (f : Fault) → ranked (rank f) ≡ f
is_ranked Text = refl
is_ranked NoConstructors = refl
is_ranked BitVecWidth = refl
is_ranked Unqualified = refl
is_ranked WKVar = refl
is_ranked Arity = refl
is_ranked Shadowed = refl
is_ranked Clash = refl
is_ranked Unknown = refl
is_ranked Arguments = refl
is_ranked Sound = refl

rank_small : (f : Fault) → rank f < 12
rank_small Text = omega arith
rank_small NoConstructors = omega arith
rank_small BitVecWidth = omega arith
rank_small Unqualified = omega arith
rank_small WKVar = omega arith
rank_small Arity = omega arith
rank_small Shadowed = omega arith
rank_small Clash = omega arith
rank_small Unknown = omega arith
rank_small Arguments = omega arith
rank_small Sound = omega arith

abbrev min : Fault → Fault → Fault
min = ord_min cmp-value.it

abbrev alike : Fault → Fault → Bool
alike f g = eqb (rank (min f g)) (rank (lower f g))

computed : T (below 12 (λ i. below 12 (λ j. alike (ranked i) (ranked j))))
unfolding lower
computed = tt

pub min_is_lower : (f g : Fault) → ord_min cmp-value.it f g ≡ lower f g
min_is_lower f g =
    let t : T (alike (ranked (rank f)) (ranked (rank g))) =
    at_below 12 (λ j. alike (ranked (rank f)) (ranked j)) (at_below 12 (λ i. below 12 (λ j. alike (ranked i) (ranked j))) computed (rank f) (rank_small f)) (rank g) (rank_small g) in
    let u : T (alike f g) = subst (λ x. T (alike x g)) (is_ranked f) (subst (λ y. T (alike (ranked (rank f)) y)) (is_ranked g) t) in
    sym (is_ranked (min f g)) ∙ ap ranked (eqb→eq (rank (min f g)) (rank (lower f g)) u) ∙ is_ranked (lower f g)
