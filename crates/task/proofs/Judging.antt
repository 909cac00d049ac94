-- The order of faults: which of several is judged first does not depend on how they are put together, and none is met exactly if
-- there is none in any part.
use mathlib.Core.Path.{◌≡◌, refl, sym, ap, ◌∙◌}
use mathlib.Core.Logic.{⊎_elim}
use Prim.Native.Nat.{ℕ, ◌<◌, ◌≤◌}
use mathlib.Core.List.{[], ◌∷◌}
use native.Mathlib.Omega.{arith}
use lib.ListN.{get_or}
use borrow.Author.Tests.{le-leb, lt-leb}
use Rattle.task.specs.declared.Fault.{Fault}
use Rattle.task.specs.declared.Fault.TheVariants.{Text, NoConstructors, BitVecWidth, Unqualified, WKVar, Arity, Shadowed, Clash, Unknown, Arguments, Sound}
use Rattle.task.specs.Fault.{rank, lower}
use Rattle.task.specs.Laws.{SoundParts}
use Rattle.task.proofs.Reading.{le_or_lt}

module _ (f g : Fault) where
  pub lower_left : rank f ≤ rank g → lower f g ≡ f
  unfolding lower
  lower_left h = rw (le-leb _ _ h)

  pub lower_right : rank g < rank f → lower f g ≡ g
  unfolding lower
  lower_right h = rw (lt-leb _ _ h)

-- nothing is judged behind a sound piece
pub rank_most : (f : Fault) → rank f ≤ rank Sound
rank_most Text = omega arith
rank_most NoConstructors = omega arith
rank_most BitVecWidth = omega arith
rank_most Unqualified = omega arith
rank_most WKVar = omega arith
rank_most Arity = omega arith
rank_most Shadowed = omega arith
rank_most Clash = omega arith
rank_most Unknown = omega arith
rank_most Arguments = omega arith
rank_most Sound = omega arith

pub sound_last : (f : Fault) → rank Sound ≤ rank f → f ≡ Sound
sound_last Text h = absurd (omega arith)
sound_last NoConstructors h = absurd (omega arith)
sound_last BitVecWidth h = absurd (omega arith)
sound_last Unqualified h = absurd (omega arith)
sound_last WKVar h = absurd (omega arith)
sound_last Arity h = absurd (omega arith)
sound_last Shadowed h = absurd (omega arith)
sound_last Clash h = absurd (omega arith)
sound_last Unknown h = absurd (omega arith)
sound_last Arguments h = absurd (omega arith)
sound_last Sound h = refl

pub lower_sound : (f : Fault) → lower f Sound ≡ f
lower_sound f = lower_left f Sound (rank_most f)

pub sound_lower : (f : Fault) → lower Sound f ≡ f
sound_lower f =
    ⊎_elim (λ h. lower_left Sound f h ∙ sym (sound_last f h)) (λ h. lower_right Sound f h) (le_or_lt (rank Sound) (rank f))

pub lower_assoc : (f g h : Fault) → lower (lower f g) h ≡ lower f (lower g h)
lower_assoc f g h =
    ⊎_elim
    (λ a. ⊎_elim
    (λ b. rw (lower_left f g a, lower_left g h b, lower_left f g a, lower_left f h (omega arith)))
    (λ b. rw (lower_left f g a, lower_right g h b))
    (le_or_lt (rank g) (rank h)))
    (λ a. ⊎_elim
    (λ b. rw (lower_right f g a, lower_left g h b, lower_right f g a))
    (λ b. rw (lower_right f g a, lower_right g h b, lower_right f h (omega arith)))
    (le_or_lt (rank g) (rank h)))
    (le_or_lt (rank f) (rank g))

-- the faults by their ranks, which begin with 1
abbrev pub ranked : ℕ → Fault
ranked n = get_or (Sound ∷ Text ∷ NoConstructors ∷ BitVecWidth ∷ Unqualified ∷ WKVar ∷ Arity ∷ Shadowed ∷ Clash ∷ Unknown ∷ Arguments ∷ []) n Sound

pub rank_ranked : (f : Fault) → ranked (rank f) ≡ f
rank_ranked Text = refl
rank_ranked NoConstructors = refl
rank_ranked BitVecWidth = refl
rank_ranked Unqualified = refl
rank_ranked WKVar = refl
rank_ranked Arity = refl
rank_ranked Shadowed = refl
rank_ranked Clash = refl
rank_ranked Unknown = refl
rank_ranked Arguments = refl
rank_ranked Sound = refl

-- a fault is known by its rank
pub by_rank : (f g : Fault) → rank f ≡ rank g → f ≡ g
by_rank f g e = sym (rank_ranked f) ∙ ap ranked e ∙ rank_ranked g

pub lower_comm : (f g : Fault) → lower f g ≡ lower g f
lower_comm f g =
    ⊎_elim
    (λ a. ⊎_elim
    (λ b. let e : f ≡ g = by_rank f g (omega arith) in rw e)
    (λ b. lower_left f g a ∙ sym (lower_right g f b))
    (le_or_lt (rank g) (rank f)))
    (λ a. lower_right f g a ∙ sym (lower_left g f (omega arith)))
    (le_or_lt (rank f) (rank g))

pub sound_parts : SoundParts
sound_parts = record {
  none_left = λ f g e.
      ⊎_elim (λ h. sym (lower_left f g h) ∙ e) (λ h. absurd (let r = rank_most f in let z : rank g ≡ rank Sound = ap rank (sym (lower_right f g h) ∙ e) in omega arith)) (le_or_lt (rank f) (rank g));
  none_right = λ f g e.
      ⊎_elim (λ h. sound_last g (let z : rank f ≡ rank Sound = ap rank (sym (lower_left f g h) ∙ e) in omega arith)) (λ h. sym (lower_right f g h) ∙ e) (le_or_lt (rank f) (rank g));
  none_both = λ f g e e'. rw (e, e') (lower_sound Sound);
}
