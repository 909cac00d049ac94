-- Names at a place: hashing them, and whether one stands there.
use mathlib.Core.Path.{◌≡◌, refl, sym, ap, ◌∙◌}
use mathlib.Core.Bool.{Bool, true, false}
use mathlib.Core.List.{List}
use Prim.Native.Nat.{ℕ, ◌+◌, ◌*◌, ◌-◌, ◌%◌, ◌≤◌, ◌<◌}
use native.Mathlib.Numerals.{add-one}
use native.Mathlib.Omega.{arith}
use lib.Dec.{leb, ltb}
use lib.ListN.{length, get_or, drop, drop_of_length-le}
use lib.Seq.{drop-cons}
use borrow.Author.Tests.{lt-ltb, le-ltb, ltb-true, ltb-false, leb-true}
use Rattle.smtlib.proofs.Bools.{never, true_holds, and_left, and_right, is_true}
use Rattle.names.specs.Table.{Named, has_name, hash_from, hash_of, room_for}

-- a test that cannot hold is false
pub not_true : (v : Bool) → (v ≡ true → ⊥) → v ≡ false
not_true v f = never v (λ t. f (is_true v t))

-- hash: the rest of the name makes of h what the whole makes of 0
pub record Hashing (w : List ℕ) (h i : ℕ) : Type 0 where
  pub small : h < 1024
  pub within : i ≤ length w
  pub rest : hash_from h (drop i w) ≡ hash_of w

pub hash_start : (w : List ℕ) → Hashing w 0 0
unfolding hash_of
hash_start w = record { small = omega arith; within = omega arith; rest = refl }

pub hash_step : (w : List ℕ) (h i b : ℕ) → Hashing w h i → i < length w → b ≡ get_or w i 0 → Hashing w ((31 * h + b) % 1024) (i + 1)
unfolding hash_from
hash_step w h i b s l e =
    record {
      small = omega arith;
      within = omega arith;
      rest = rw (e, add-one i) (sym (ap (hash_from h) (drop-cons w i 0 l)) ∙ s.rest);
    }

pub hash_end : (w : List ℕ) (h i : ℕ) → Hashing w h i → length w ≤ i → (h ≡ hash_of w) × (h < 1024)
unfolding hash_from
hash_end w h i s l = (rw (drop_of_length-le w l) at s.rest, s.small)

-- has_name: the place has no room in a word, stands behind the end, or stands before it
module _ (s : List ℕ) (at : ℕ) where
  pub name_far : 65535 < at → false ≡ has_name s at
  unfolding has_name
  name_far h = simp (le-ltb at 65536 (omega arith))

  pub name_behind : at ≤ 65535 → length s ≤ at → false ≡ has_name s at
  unfolding has_name
  name_behind h g = simp (lt-ltb at 65536 (omega arith), le-ltb (at + get_or s at 0) (length s) (omega arith))

  pub name_before : (b : ℕ) (r : Bool) → at ≤ 65535 → at < length s → b ≡ get_or s at 0 → r ≡ ltb b (length s - at) → r ≡ has_name s at
  unfolding has_name
  name_before b r h g e f = f ∙ simp (lt-ltb at 65536 (omega arith)) (moved (ltb b (length s - at)) refl)
    where
      moved : (v : Bool) → ltb b (length s - at) ≡ v → ltb b (length s - at) ≡ ltb (at + get_or s at 0) (length s)
      moved true u = let k = ltb-true b (length s - at) u in u ∙ sym (lt-ltb (at + get_or s at 0) (length s) (omega arith))
      moved false u = let k = ltb-false b (length s - at) u in u ∙ sym (le-ltb (at + get_or s at 0) (length s) (omega arith))

  -- what it tells
  pub name_named : has_name s at ≡ true → (at < 65536) × Named s at
  unfolding has_name
  name_named h =
      let t = true_holds h in (
        ltb-true at 65536 (is_true _ (and_left (ltb at 65536) (ltb (at + get_or s at 0) (length s)) t)),
        record { within = ltb-true (at + get_or s at 0) (length s) (is_true _ (and_right (ltb at 65536) (ltb (at + get_or s at 0) (length s)) t)) },
      )

-- room_for
module _ (words n : ℕ) where
  pub room_most : 65535 ≤ n → false ≡ room_for words n
  unfolding room_for
  room_most h = simp (le-ltb n 65535 h)

  pub room_rest : (r : Bool) → n < 65535 → r ≡ leb (1026 + 3 * n + 3) words → r ≡ room_for words n
  unfolding room_for
  room_rest r h e = e ∙ simp (lt-ltb n 65535 h)

  pub room_there : room_for words n ≡ true → (n < 65535) × (1026 + 3 * n + 3 ≤ words)
  unfolding room_for
  room_there h =
      let t = true_holds h in (
        ltb-true n 65535 (is_true _ (and_left (ltb n 65535) (leb (1026 + 3 * n + 3) words) t)),
        leb-true (1026 + 3 * n + 3) words (is_true _ (and_right (ltb n 65535) (leb (1026 + 3 * n + 3) words) t)),
      )
