-- The theorems on searches and changes.
use mathlib.Core.Path.{◌≡◌, refl, sym, ap, ◌∙◌}
use mathlib.Core.Bool.{Bool, true, false, cond, ◌&&◌, ◌||◌}
use mathlib.Core.List.{List, [], ◌∷◌, ◌++◌}
use Prim.Native.Nat.{ℕ, suc, ◌+◌, ◌-◌, ◌*◌, ◌≤◌, ◌<◌}
use native.Mathlib.Omega.{arith}
use lib.Dec.{leb}
use lib.ListN.{length, get_or, take, set, replicate, length-append, length-set, length-replicate, get_or-replicate}
use lib.Seq.{get_or-set_other, take_at}
use borrow.Author.Tests.{le-leb, leb-true}
use Rattle.smtlib.specs.Lexicon.{same, is_one}
use Rattle.smtlib.proofs.Bools.{true_holds, is_true, and_left, and_right, same_self, same→eq}
use Rattle.std.specs.Prelude.{Option, Some, None}
use Rattle.names.specs.Table.{name_at, has_name, count_of, Symbol, symbol, symbol_of, first_entries, entries, or_else, last_from, last_of, in_range, fits, names_of, in_bucket, link, Chained, room_for, add}
use Rattle.names.specs.Change.{Blank, Kept, Pushed, Popped, Restored}
use Rattle.names.specs.Theorems.{Fits, Searches, Ranges, is_found, Members, Changes}
use Rattle.names.proofs.Lasts.{last_is, last_entry, none_passes, none_above, nothing_last, entries_length, entries_zero, empty_last}
use Rattle.names.proofs.Chains.{kept_all, kept_entries, kept_nexts, kept_names}

-- SEARCHES

-- the test is the rule
module _ (name : List ℕ) (lowest highest : ℕ) (e : Symbol) where
  fits_true : Fits name lowest highest e → fits name lowest highest e ≡ true
  unfolding fits
  fits_true f =
      simp (le-leb lowest e.kind f.low, le-leb e.kind highest f.high)
      (ap (same name) f.named ∙ same_self name)

  true_fits : fits name lowest highest e ≡ true → Fits name lowest highest e
  unfolding fits
  true_fits h =
      let t = true_holds h in
      let k = and_left (leb lowest e.kind && leb e.kind highest) (same name e.name) t in
      record {
        low = leb-true lowest e.kind (is_true _ (and_left (leb lowest e.kind) (leb e.kind highest) k));
        high = leb-true e.kind highest (is_true _ (and_right (leb lowest e.kind) (leb e.kind highest) k));
        named = sym (same→eq name e.name (and_right (leb lowest e.kind && leb e.kind highest) (same name e.name) t));
      }

module _ (s t : List ℕ) (name : List ℕ) (lowest highest : ℕ) where
  abbrev p : ℕ → Bool
  p k = fits name lowest highest (symbol_of s t k)

  pub searches : Searches s t name lowest highest
  searches =
      let n = count_of t in
      let is = last_is (fits name lowest highest) s t n in
      record {
        nothing_none = λ e k h f. none_passes p n (sym is ∙ e) k h (fits_true name lowest highest (symbol_of s t k) f);
        none_nothing = λ f. is ∙ nothing_last p n (λ k h g. f k h (true_fits name lowest highest (symbol_of s t k) g));
        entry_below = λ k e. (last_entry p p (λ j h. h) n k (sym is ∙ e)).below;
        entry_fits = λ k e. true_fits name lowest highest (symbol_of s t k) (last_entry p p (λ j h. h) n k (sym is ∙ e)).passes;
        entry_last = λ k e j h g f. none_above p n k (sym is ∙ e) j h g (fits_true name lowest highest (symbol_of s t j) f);
      }

pub ranges : Ranges
unfolding last_from fits
ranges = record { later = refl; earlier = refl; lowest = refl; above = refl; below = refl; other = refl }

-- NAMES OF A RANGE OF KINDS

-- the later of two is found, or the earlier
either_found : (f : Option ℕ) (b : Bool) (i : ℕ) → is_found (or_else f (cond b (Some i) None)) ≡ b || is_found f
either_found (Some k) true i = refl
either_found (Some k) false i = refl
either_found None true i = refl
either_found None false i = refl

module _ (lowest highest : ℕ) where
  -- a symbol of a kind in the range is one by its name, and another is none
  one_chosen : (name x : List ℕ) (b : Bool) (ws : List (List ℕ)) → (b && same name x) || is_one name ws ≡ is_one name (cond b (x ∷ ws) ws)
  one_chosen name x true ws = refl
  one_chosen name x false ws = refl

  members_from : (name : List ℕ) (i : ℕ) (es : List Symbol) → is_found (last_from (fits name lowest highest) i es) ≡ is_one name (names_of lowest highest es)
  unfolding last_from names_of fits
  members_from name i [] = refl
  members_from name i (e ∷ es) =
      either_found (last_from (fits name lowest highest) (suc i) es) (fits name lowest highest e) i
      ∙ ap (λ (b : Bool). fits name lowest highest e || b) (members_from name (suc i) es)
      ∙ one_chosen name e.name (in_range lowest highest e.kind) (names_of lowest highest es)

  -- the names in two lists
  pub names_append : (es fs : List Symbol) → names_of lowest highest (es ++ fs) ≡ names_of lowest highest es ++ names_of lowest highest fs
  unfolding names_of
  names_append [] fs = refl
  names_append (e ∷ es) fs = chosen (in_range lowest highest e.kind) (names_append es fs)
    where
      chosen : (b : Bool) → names_of lowest highest (es ++ fs) ≡ names_of lowest highest es ++ names_of lowest highest fs
          → cond b (e.name ∷ names_of lowest highest (es ++ fs)) (names_of lowest highest (es ++ fs)) ≡ cond b (e.name ∷ names_of lowest highest es) (names_of lowest highest es) ++ names_of lowest highest fs
      chosen true h = ap (λ (ws : List (List ℕ)). e.name ∷ ws) h
      chosen false h = h

pub members : Members
members name lowest highest es = members_from lowest highest name 0 es

-- CHANGES

empty : {A : Type 0} (k : ℕ) → k < 0 → A
empty k h = let z : ⊥ = omega arith in absurd z

-- an array of zeros is a table without entries
pub zeros_blank : (n : ℕ) → 1026 ≤ n → Blank (replicate n 0)
zeros_blank n h =
    record {
      room = let l = length-replicate {A = ℕ} n 0 in omega arith;
      count = get_or-replicate n 1 0 0 (omega arith);
      heads = λ k g. get_or-replicate n (2 + k) 0 0 (omega arith);
    }

pub blank_chained : (s t : List ℕ) → Blank t → Chained s t
blank_chained s t b =
    rw b.count
    (record {
      room = b.room;
      names = λ k h. empty k h;
      heads = λ h l. b.heads h l ∙ sym (ap link (empty_last (in_bucket h) s t));
      nexts = λ k h. empty k h;
    })

pub blank_entries : (s t : List ℕ) → Blank t → entries s t ≡ []
blank_entries s t b = ap (first_entries s t) b.count ∙ entries_zero s t

-- entries that are there, behind others
pub kept_both : (t u v : List ℕ) → Kept t u → Kept u v → Kept t v
kept_both t u v a b =
    let m = a.more in
    let n = b.more in
    record { more = omega arith; places = λ k g. b.places k (omega arith) ∙ a.places k g }

pub restored_all : (s t : List ℕ) → Chained s t → Restored s t t
restored_all s t c = record { chained = c; are = refl; kept = kept_all t; words = refl }

pub restored_both : (s t u v : List ℕ) → Restored s t u → Restored s u v → Restored s t v
restored_both s t u v a b =
    record { chained = b.chained; are = b.are ∙ a.are; kept = kept_both t u v a.kept b.kept; words = b.words ∙ a.words }

-- the number of entries
pub count_is : (s t u : List ℕ) → entries s t ≡ entries s u → count_of t ≡ count_of u
count_is s t u e = sym (entries_length s t (count_of t)) ∙ ap length e ∙ entries_length s u (count_of u)

-- n entries more, what leaves the entries alone, and n entries less
pub scope_ends : (s t u v w : List ℕ) (fs : List Symbol) (n : ℕ) → entries s u ≡ entries s t ++ fs → length fs ≡ n → Kept t u → length u ≡ length t
    → Restored s u v → Popped s v n w → Restored s t w
scope_ends s t u v w fs n e l k a r p =
    let y : entries s v ≡ entries s t ++ fs = r.are ∙ e in
    let m = length-append (entries s t) fs in
    let z : length (entries s v) ≡ length (entries s t ++ fs) = ap length y in
    let q : entries s w ≡ entries s t =
    p.are ∙ ap (take (length (entries s v) - n)) y ∙ take_at (entries s t) fs (length (entries s v) - n) (omega arith) in
    let c : count_of w ≡ count_of t = count_is s w t q in
    let i = k.more in
    record {
      chained = p.chained;
      are = q;
      kept = record { more = omega arith; places = λ j g. sym (p.kept.places j (omega arith)) ∙ r.kept.places j (omega arith) ∙ k.places j g };
      words = p.words ∙ r.words ∙ a;
    }

pushed_popped : (s t : List ℕ) (o d : ℕ) (u v w : List ℕ) → has_name s o ≡ true → room_for (length t) (length (entries s t)) ≡ true → Pushed s t o d u
    → Restored s u v → Popped s v 1 w → Restored s t w
unfolding add
pushed_popped s t o d u v w h r g e p =
    scope_ends s t u v w (symbol d (name_at s o) ∷ []) 1 (g.are ∙ rw (h, r)) refl g.kept g.words e p

-- another word for options
module _ (s t : List ℕ) (word : ℕ) where
  abbrev u : List ℕ
  u = set t 0 word

  behind : (i : ℕ) → 1 ≤ i → get_or u i 0 ≡ get_or t i 0
  behind i h = get_or-set_other t 0 i word 0 (λ e. omega arith)

  keeps : (m i : ℕ) → 1026 ≤ i → i < 1026 + 3 * m → get_or u i 0 ≡ get_or t i 0
  keeps m i g h = behind i (omega arith)

  first_same : (m : ℕ) → first_entries s u m ≡ first_entries s t m
  first_same m = kept_entries s t u m m (keeps m) (omega arith)

  options_entries : entries s u ≡ entries s t
  options_entries = ap (first_entries s u) (behind 1 (omega arith)) ∙ first_same (count_of t)

  options_chained : Chained s t → Chained s u
  options_chained c =
      let n = count_of t in
      rw (behind 1 (omega arith))
      (record {
        room = rw (length-set t 0 word) c.room;
        names = λ k h. kept_names s t u n n k c (omega arith) (keeps n) h;
        heads = λ h l. behind (2 + h) (omega arith) ∙ c.heads h l ∙ ap (λ (es : List Symbol). link (last_of (in_bucket h) es)) (sym (first_same n));
        nexts = λ k h. kept_nexts s t u n n k c (omega arith) (keeps n) h;
      })

pub changes : Changes
changes = record {
  zeros = zeros_blank;
  blank = blank_chained;
  none = blank_entries;
  push_pop = pushed_popped;
  options = options_chained;
  options_entries = options_entries;
}
