-- Tests of a text's bytes: the loop of all_visible.
use mathlib.Core.Path.{◌≡◌, ◌∙◌}
use mathlib.Core.Bool.{Bool, ◌&&◌, and-true, and_assoc}
use mathlib.Core.List.{List}
use Prim.Native.Nat.{ℕ, ◌+◌, ◌<◌, ◌≤◌}
use native.Mathlib.Numerals.{add-one}
use lib.ListN.{length, drop, get_or, drop_of_length-le}
use lib.Seq.{drop-cons}
use Rattle.smtlib.specs.Lexicon.{all}

-- what was seen so far and the bytes from i on decide it; b is what the test answers for the byte at i
module _ (p : ℕ → Bool) (t : List ℕ) (i : ℕ) (f x : Bool) where
  pub bytes_go : (b : Bool) → i < length t → b ≡ p (get_or t i 0) → (f && all p (drop i t)) ≡ x → ((f && b) && all p (drop (i + 1) t)) ≡ x
  bytes_go b h e z =
      let next : all p (drop i t) ≡ (p (get_or t i 0) && all p (drop (i + 1) t)) = rw (add-one i, drop-cons t i 0 h) in
      and_assoc f b (all p (drop (i + 1) t)) ∙ rw (next, ← e) at z

  pub bytes_end : length t ≤ i → (f && all p (drop i t)) ≡ x → f ≡ x
  bytes_end h z = rw (drop_of_length-le t h, and-true f) at z
