-- The chains of a table: following one, and what is left of them after a push and a pop.
use mathlib.Core.Path.{◌≡◌, refl, sym, ap, subst, subst⁻¹, ◌∙◌}
use mathlib.Core.Bool.{Bool, true, false, cond, ◌&&◌}
use mathlib.Core.List.{List, [], ◌∷◌, ◌++◌}
use Prim.Native.Nat.{ℕ, zero, suc, ◌+◌, ◌*◌, ◌-◌, ◌≤◌, ◌<◌}
use native.Mathlib.Numerals.{add-one}
use native.Mathlib.Omega.{arith}
use lib.Dec.{leb, eqb}
use lib.ListN.{length, get_or, take, set, length-set}
use lib.Seq.{get_or-set_same, get_or-set_other, take_at}
use borrow.Author.Tests.{eq-eqb, ne_eqb, eqb-true, eqb-false, le-leb, lt-leb, lt-ltb}
use Rattle.smtlib.specs.Lexicon.{same}
use Rattle.smtlib.proofs.Bools.{true_holds, and_right, same→eq}
use Rattle.std.specs.Prelude.{Option, Some, None}
use Rattle.names.specs.Table.{name_at, Named, has_name, hash_of, count_of, head_of, next_of, offset_of, kind_of, Symbol, symbol, symbol_of, first_entries, entries, last_of, fits, in_bucket, link, Chains, Chained, room_for, add}
use Rattle.names.specs.Change.{Kept, Pushed, Popped}
use Rattle.names.proofs.Bytes.{name_named, room_there}
use Rattle.names.proofs.Lasts.{Last, last_is, last_entries, last_entry, last_nothing, entries_length, entries_zero, entries_suc, link_below}

-- is_entry

module _ (s t name : List ℕ) (k lowest highest : ℕ) where
  pub entry_low : kind_of t k < lowest → false ≡ fits name lowest highest (symbol_of s t k)
  unfolding fits symbol_of
  entry_low h = simp (lt-leb lowest (kind_of t k) h)

  pub entry_high : lowest ≤ kind_of t k → highest < kind_of t k → false ≡ fits name lowest highest (symbol_of s t k)
  unfolding fits symbol_of
  entry_high h g = simp (le-leb lowest (kind_of t k) h, lt-leb (kind_of t k) highest g)

  pub entry_named : lowest ≤ kind_of t k → kind_of t k ≤ highest → (o : ℕ) → o ≡ offset_of t k → (r : Bool) → r ≡ same name (name_at s o) → r ≡ fits name lowest highest (symbol_of s t k)
  unfolding fits symbol_of
  entry_named h g o e r f = f ∙ simp (le-leb lowest (kind_of t k) h, le-leb (kind_of t k) highest g, e)

pub word_named : (s : List ℕ) (o w : ℕ) → w ≡ o → Named s o → Named s w
word_named s o w e h = subst⁻¹ (λ (x : ℕ). Named s x) e h

-- find: the entries from m on do not fit, and the link is that of the bucket's last entry below m

-- a symbol that fits is of the name's bucket
fits_bucket : (name : List ℕ) (lowest highest : ℕ) (e : Symbol) → fits name lowest highest e ≡ true → in_bucket (hash_of name) e ≡ true
unfolding fits in_bucket
fits_bucket name lowest highest e h =
    let z : name ≡ e.name = same→eq name e.name (and_right (leb lowest e.kind && leb e.kind highest) (same name e.name) (true_holds h)) in
    eq-eqb (hash_of e.name) (hash_of name) (ap hash_of (sym z))

bucket_hash : (h : ℕ) (s t : List ℕ) (k : ℕ) → in_bucket h (symbol_of s t k) ≡ true → hash_of (name_at s (offset_of t k)) ≡ h
unfolding in_bucket symbol_of
bucket_hash h s t k e = eqb-true _ _ e

link_entry : (f : Option ℕ) (l : ℕ) → l ≡ link f → 0 < l → f ≡ Some (l - 1)
link_entry (Some k) l e h = let z : k ≡ l - 1 = omega arith in ap Some z
link_entry None l e h = let z : ⊥ = omega arith in absurd z

link_nothing : (f : Option ℕ) (l : ℕ) → l ≡ link f → l ≤ 0 → f ≡ None
link_nothing (Some k) l e h = let z : ⊥ = omega arith in absurd z
link_nothing None l e h = refl

module _ (s t : List ℕ) (n : ℕ) (name : List ℕ) (lowest highest : ℕ) where
  pub record Following (l : ℕ) : Type 0 where
    pub below : ℕ
    pub within : below ≤ n
    pub linked : l ≡ link (last_of (in_bucket (hash_of name)) (first_entries s t below))
    pub rest : last_of (fits name lowest highest) (first_entries s t below) ≡ last_of (fits name lowest highest) (first_entries s t n)

  module _ (c : Chains s t n) where
    pub follow_start : (h l : ℕ) → (h ≡ hash_of name) × (h < 1024) → l ≡ get_or t (2 + h) 0 → Following l
    follow_start h l e g =
        record { below = n; within = omega arith; linked = g ∙ c.heads h e.1 ∙ ap (λ (x : ℕ). link (last_of (in_bucket x) (first_entries s t n))) e.0; rest = refl }

    module _ (l : ℕ) (f : Following l) where
      p : ℕ → Bool
      p k = in_bucket (hash_of name) (symbol_of s t k)

      q : ℕ → Bool
      q k = fits name lowest highest (symbol_of s t k)

      -- a link's entry is the last of the bucket
      at : 0 < l → Last p q f.below (l - 1)
      unfolding p q
      at h =
          last_entry p q (λ k e. fits_bucket name lowest highest (symbol_of s t k) e) f.below (l - 1)
          (sym (last_is (in_bucket (hash_of name)) s t f.below) ∙ link_entry (last_of (in_bucket (hash_of name)) (first_entries s t f.below)) l f.linked h)

      pub follow_below : 0 < l → l - 1 < n
      follow_below h = let a = (at h).below in let b = f.within in omega arith

      pub follow_room : 0 < l → 1026 + 3 * (l - 1) + 2 < length t
      follow_room h = let a = follow_below h in let b = c.room in omega arith

      pub follow_named : 0 < l → Named s (get_or t (1026 + 3 * (l - 1) + 1) 0)
      follow_named h = c.names (l - 1) (follow_below h)

      -- the search goes on from the link's entry
      on : 0 < l → cond (q (l - 1)) (Some (l - 1)) (last_of (fits name lowest highest) (first_entries s t (l - 1))) ≡ last_of (fits name lowest highest) (first_entries s t n)
      unfolding p q
      on h =
          ap (λ (g : Option ℕ). cond (q (l - 1)) (Some (l - 1)) g) (last_is (fits name lowest highest) s t (l - 1))
          ∙ sym (at h).on
          ∙ sym (last_is (fits name lowest highest) s t f.below)
          ∙ f.rest

      pub follow_found : 0 < l → (r : Bool) → r ≡ fits name lowest highest (symbol_of s t (l - 1)) → r ≡ true
          → Some (l - 1) ≡ last_of (fits name lowest highest) (first_entries s t n)
      unfolding q
      follow_found h r e v = ap (λ (b : Bool). cond b (Some (l - 1)) (last_of (fits name lowest highest) (first_entries s t (l - 1)))) (sym v ∙ e) ∙ on h

      pub follow_on : 0 < l → (m : ℕ) → m ≡ get_or t (1026 + 3 * (l - 1)) 0 → (r : Bool) → r ≡ fits name lowest highest (symbol_of s t (l - 1)) → r ≡ false → Following m
      unfolding p q
      follow_on h m g r e v =
          let a = follow_below h in
          record {
            below = l - 1;
            within = omega arith;
            linked =
                g ∙ c.nexts (l - 1) a
                ∙ ap (λ (x : ℕ). link (last_of (in_bucket x) (first_entries s t (l - 1)))) (bucket_hash (hash_of name) s t (l - 1) (at h).passes);
            rest = ap (λ (b : Bool). cond b (Some (l - 1)) (last_of (fits name lowest highest) (first_entries s t (l - 1)))) (sym v ∙ e) ∙ on h;
          }

      pub follow_down : 0 < l → (m : ℕ) → m ≡ get_or t (1026 + 3 * (l - 1)) 0 → m < l
      follow_down h m g =
          let a = c.nexts (l - 1) (follow_below h) in
          let b = link_below (in_bucket (hash_of (name_at s (offset_of t (l - 1))))) s t (l - 1) in
          omega arith

      pub follow_end : l ≤ 0 → None ≡ last_of (fits name lowest highest) (first_entries s t n)
      unfolding p q
      follow_end h =
          sym (last_is (fits name lowest highest) s t f.below
          ∙ last_nothing p q (λ k e. fits_bucket name lowest highest (symbol_of s t k) e) f.below
          (sym (last_is (in_bucket (hash_of name)) s t f.below) ∙ link_nothing (last_of (in_bucket (hash_of name)) (first_entries s t f.below)) l f.linked h))
          ∙ f.rest

-- the range by its kinds
pub by_kinds : (name : List ℕ) (low high low' high' : ℕ) (es : List Symbol) (f : Option ℕ) → low ≡ low' → high ≡ high' → f ≡ last_of (fits name low high) es
    → f ≡ last_of (fits name low' high') es
by_kinds name low high low' high' es f e g h = rw (← e, ← g) h

-- KEPT WORDS

-- the words of the first n entries are the same
abbrev Keeps : List ℕ → List ℕ → ℕ → Type 0
Keeps t u n = (i : ℕ) → 1026 ≤ i → i < 1026 + 3 * n → get_or u i 0 ≡ get_or t i 0

-- a table in which they are has the same first entries
kept_symbol : (s t u : List ℕ) (n k : ℕ) → Keeps t u n → k < n → symbol_of s u k ≡ symbol_of s t k
unfolding symbol_of
kept_symbol s t u n k f h = rw (f (1026 + 3 * k + 1) (omega arith) (omega arith), f (1026 + 3 * k + 2) (omega arith) (omega arith))

pub kept_entries : (s t u : List ℕ) (n m : ℕ) → Keeps t u n → m ≤ n → first_entries s u m ≡ first_entries s t m
kept_entries s t u n zero f h = entries_zero s u ∙ sym (entries_zero s t)
kept_entries s t u n (suc m) f h =
    entries_suc s u m
    ∙ ap (λ (es : List Symbol). es ++ (symbol_of s u m ∷ [])) (kept_entries s t u n m f (omega arith))
    ∙ ap (λ (e : Symbol). first_entries s t m ++ (e ∷ [])) (kept_symbol s t u n m f h)
    ∙ sym (entries_suc s t m)

-- the links below n are the same
pub kept_nexts : (s t u : List ℕ) (n m k : ℕ) → Chains s t m → n ≤ m → Keeps t u n → k < n
    → next_of u k ≡ link (last_of (in_bucket (hash_of (name_at s (offset_of u k)))) (first_entries s u k))
kept_nexts s t u n m k c l f h =
    f (1026 + 3 * k) (omega arith) (omega arith)
    ∙ c.nexts k (omega arith)
    ∙ ap (λ (o : ℕ). link (last_of (in_bucket (hash_of (name_at s o))) (first_entries s t k))) (sym (f (1026 + 3 * k + 1) (omega arith) (omega arith)))
    ∙ ap (λ (es : List Symbol). link (last_of (in_bucket (hash_of (name_at s (offset_of u k)))) es)) (sym (kept_entries s t u n k f (omega arith)))

pub kept_names : (s t u : List ℕ) (n m k : ℕ) → Chains s t m → n ≤ m → Keeps t u n → k < n → Named s (offset_of u k)
kept_names s t u n m k c l f h = subst⁻¹ (λ (o : ℕ). Named s o) (f (1026 + 3 * k + 1) (omega arith) (omega arith)) (c.names k (omega arith))

-- a bucket's last entry, with the last entry of all or without it
bucket_in : (h : ℕ) (s t : List ℕ) (n : ℕ) → hash_of (name_at s (offset_of t n)) ≡ h → link (last_of (in_bucket h) (first_entries s t (suc n))) ≡ suc n
unfolding in_bucket symbol_of
bucket_in h s t n e =
    ap link (last_entries (in_bucket h) s t n)
    ∙ ap (λ (b : Bool). link (cond b (Some n) (last_of (in_bucket h) (first_entries s t n)))) (eq-eqb (hash_of (name_at s (offset_of t n))) h e)

bucket_out : (h : ℕ) (s t : List ℕ) (n : ℕ) → (hash_of (name_at s (offset_of t n)) ≡ h → ⊥)
    → link (last_of (in_bucket h) (first_entries s t (suc n))) ≡ link (last_of (in_bucket h) (first_entries s t n))
unfolding in_bucket symbol_of
bucket_out h s t n e =
    ap link (last_entries (in_bucket h) s t n)
    ∙ ap (λ (b : Bool). link (cond b (Some n) (last_of (in_bucket h) (first_entries s t n)))) (ne_eqb (hash_of (name_at s (offset_of t n))) h e)

-- PUSH

-- what the stores of a push come to
record Stored (t u : List ℕ) (n h o d : ℕ) : Type 0 where
  size : length u ≡ length t
  room : 1026 + 3 * suc n ≤ length u
  options : get_or u 0 0 ≡ get_or t 0 0
  count : count_of u ≡ suc n
  next : next_of u n ≡ head_of t h
  offset : offset_of u n ≡ o
  kind : kind_of u n ≡ d
  head : head_of u h ≡ suc n
  heads : (i : ℕ) → i < 1024 → (i ≡ h → ⊥) → head_of u i ≡ head_of t i
  keeps : Keeps t u n

module _ (t : List ℕ) (n h o d : ℕ) (l : h < 1024) (r : 1026 + 3 * n + 3 ≤ length t) where
  u1 : List ℕ
  u1 = set t (1026 + 3 * n) (get_or t (2 + h) 0)

  u2 : List ℕ
  u2 = set u1 (1026 + 3 * n + 1) o

  u3 : List ℕ
  u3 = set u2 (1026 + 3 * n + 2) d

  u4 : List ℕ
  u4 = set u3 (2 + h) (n + 1)

  u5 : List ℕ
  u5 = set u4 1 (n + 1)

  lengths : (length u1 ≡ length t) × (length u2 ≡ length t) × (length u3 ≡ length t) × (length u4 ≡ length t) × (length u5 ≡ length t)
  unfolding u1 u2 u3 u4 u5
  lengths = (simp length-set, simp length-set, simp length-set, simp length-set, simp length-set)

  -- the words before the new entry's, but for the count and the head
  others : (i : ℕ) → i < 1026 + 3 * n → (i ≡ 1 → ⊥) → (i ≡ 2 + h → ⊥) → get_or u5 i 0 ≡ get_or t i 0
  unfolding u1 u2 u3 u4 u5
  others i k y z =
      get_or-set_other u4 1 i (n + 1) 0 y
      ∙ get_or-set_other u3 (2 + h) i (n + 1) 0 z
      ∙ get_or-set_other u2 (1026 + 3 * n + 2) i d 0 (λ e. omega arith)
      ∙ get_or-set_other u1 (1026 + 3 * n + 1) i o 0 (λ e. omega arith)
      ∙ get_or-set_other t (1026 + 3 * n) i (get_or t (2 + h) 0) 0 (λ e. omega arith)

  -- the new entry's
  owns : (i : ℕ) → 1026 + 3 * n ≤ i → get_or u5 i 0 ≡ get_or u3 i 0
  unfolding u4 u5
  owns i k = get_or-set_other u4 1 i (n + 1) 0 (λ e. omega arith) ∙ get_or-set_other u3 (2 + h) i (n + 1) 0 (λ e. omega arith)

  stored : Stored t u5 n h o d
  unfolding u1 u2 u3 u4 u5
  stored =
      let a = lengths.0 in
      let b = lengths.1 in
      let c = lengths.2 in
      let f = lengths.3 in
      let g = lengths.4 in
      record {
        size = g;
        room = omega arith;
        options = others 0 (omega arith) (λ e. omega arith) (λ e. omega arith);
        count = get_or-set_same u4 1 (n + 1) 0 (omega arith) ∙ add-one n;
        next =
            owns (1026 + 3 * n) (omega arith)
            ∙ get_or-set_other u2 (1026 + 3 * n + 2) (1026 + 3 * n) d 0 (λ e. omega arith)
            ∙ get_or-set_other u1 (1026 + 3 * n + 1) (1026 + 3 * n) o 0 (λ e. omega arith)
            ∙ get_or-set_same t (1026 + 3 * n) (get_or t (2 + h) 0) 0 (omega arith);
        offset =
            owns (1026 + 3 * n + 1) (omega arith)
            ∙ get_or-set_other u2 (1026 + 3 * n + 2) (1026 + 3 * n + 1) d 0 (λ e. omega arith)
            ∙ get_or-set_same u1 (1026 + 3 * n + 1) o 0 (omega arith);
        kind = owns (1026 + 3 * n + 2) (omega arith) ∙ get_or-set_same u2 (1026 + 3 * n + 2) d 0 (omega arith);
        head = get_or-set_other u4 1 (2 + h) (n + 1) 0 (λ e. omega arith) ∙ get_or-set_same u3 (2 + h) (n + 1) 0 (omega arith) ∙ add-one n;
        heads = λ i k z. others (2 + i) (omega arith) (λ e. omega arith) (λ e. z (omega arith));
        keeps = λ i j k. others i k (λ e. omega arith) (λ e. omega arith);
      }

module _ (s t u : List ℕ) (n h o d : ℕ) (c : Chains s t n) (named : Named s o) (e : h ≡ hash_of (name_at s o)) (l : h < 1024) (x : Stored t u n h o d) where
  same_entries : (m : ℕ) → m ≤ n → first_entries s u m ≡ first_entries s t m
  same_entries m k = kept_entries s t u n m x.keeps k

  new_hash : hash_of (name_at s (offset_of u n)) ≡ h
  new_hash = ap (λ (at : ℕ). hash_of (name_at s at)) x.offset ∙ sym e

  grown_head : (i : ℕ) → i < 1024 → head_of u i ≡ link (last_of (in_bucket i) (first_entries s u (suc n)))
  grown_head i k = go (eqb i h) refl
    where
      go : (b : Bool) → eqb i h ≡ b → head_of u i ≡ link (last_of (in_bucket i) (first_entries s u (suc n)))
      go true b =
          let z : i ≡ h = eqb-true i h b in
          ap (λ (j : ℕ). head_of u j) z ∙ x.head ∙ sym (bucket_in i s u n (new_hash ∙ sym z))
      go false b =
          let z : i ≡ h → ⊥ = eqb-false i h b in
          x.heads i k z
          ∙ c.heads i k
          ∙ ap (λ (es : List Symbol). link (last_of (in_bucket i) es)) (sym (same_entries n (omega arith)))
          ∙ sym (bucket_out i s u n (λ y. z (sym y ∙ new_hash)))

  grown_next : (k : ℕ) → k < suc n → next_of u k ≡ link (last_of (in_bucket (hash_of (name_at s (offset_of u k)))) (first_entries s u k))
  grown_next k g = go (eqb k n) refl
    where
      go : (b : Bool) → eqb k n ≡ b → next_of u k ≡ link (last_of (in_bucket (hash_of (name_at s (offset_of u k)))) (first_entries s u k))
      go true b =
          let z : k ≡ n = eqb-true k n b in
          subst⁻¹ (λ (j : ℕ). next_of u j ≡ link (last_of (in_bucket (hash_of (name_at s (offset_of u j)))) (first_entries s u j))) z
          (x.next
          ∙ c.heads h l
          ∙ ap (λ (es : List Symbol). link (last_of (in_bucket h) es)) (sym (same_entries n (omega arith)))
          ∙ ap (λ (j : ℕ). link (last_of (in_bucket j) (first_entries s u n))) (sym new_hash))
      go false b =
          let z : k ≡ n → ⊥ = eqb-false k n b in
          kept_nexts s t u n n k c (omega arith) x.keeps (omega arith)

  grown_name : (k : ℕ) → k < suc n → Named s (offset_of u k)
  grown_name k g = go (eqb k n) refl
    where
      go : (b : Bool) → eqb k n ≡ b → Named s (offset_of u k)
      go true b =
          let z : k ≡ n = eqb-true k n b in
          subst⁻¹ (λ (j : ℕ). Named s (offset_of u j)) z (subst⁻¹ (λ (at : ℕ). Named s at) x.offset named)
      go false b =
          let z : k ≡ n → ⊥ = eqb-false k n b in
          kept_names s t u n n k c (omega arith) x.keeps (omega arith)

  new_symbol : symbol_of s u n ≡ symbol d (name_at s o)
  unfolding symbol_of
  new_symbol = rw (x.offset, x.kind)

  grown : Chains s u (suc n)
  grown = record { room = x.room; names = grown_name; heads = grown_head; nexts = grown_next }

  longer : first_entries s u (suc n) ≡ first_entries s t n ++ (symbol d (name_at s o) ∷ [])
  longer =
      entries_suc s u n
      ∙ ap (λ (es : List Symbol). es ++ (symbol_of s u n ∷ [])) (same_entries n (omega arith))
      ∙ ap (λ (y : Symbol). first_entries s t n ++ (y ∷ [])) new_symbol

-- there is room, and a name
added : (s t : List ℕ) (n o : ℕ) (e : Symbol) → n ≡ count_of t → (n < 65535) × (1026 + 3 * n + 3 ≤ length t) × (o < 65536) × Named s o
    → cond (has_name s o) (add (length t) (entries s t) e) (entries s t) ≡ first_entries s t n ++ (e ∷ [])
unfolding has_name room_for add
added s t n o e z h =
    let k : length (first_entries s t n) ≡ n = entries_length s t n in
    rw (← z) (simp (lt-ltb o 65536 h.2, lt-ltb (o + get_or s o 0) (length s) h.3.within, k, lt-ltb n 65535 h.0, le-leb (1026 + 3 * n + 3) (length t) h.1))

pub placed : (s t : List ℕ) (n h o d : ℕ) → Chained s t × (n ≡ count_of t) → (n < 65535) × (1026 + 3 * n + 3 ≤ length t) × (o < 65536) × Named s o
    → (h ≡ hash_of (name_at s o)) × (h < 1024)
    → Pushed s t o d (set (set (set (set (set t (1026 + 3 * n) (get_or t (2 + h) 0)) (1026 + 3 * n + 1) o) (1026 + 3 * n + 2) d) (2 + h) (n + 1)) 1 (n + 1))
unfolding u1 u2 u3 u4 u5
placed s t n h o d c r e =
    let u = u5 t n h o d e.1 r.1 in
    let x = stored t n h o d e.1 r.1 in
    let b : Chains s t n = subst⁻¹ (λ (k : ℕ). Chains s t k) c.1 c.0 in
    record {
      chained = subst⁻¹ (λ (k : ℕ). Chains s u k) x.count (grown s t u n h o d b r.3 e.0 e.1 x);
      are =
          ap (first_entries s u) x.count
          ∙ longer s t u n h o d b r.3 e.0 e.1 x
          ∙ sym (added s t n o (symbol d (name_at s o)) c.1 r);
      kept = record { more = let k = x.count in let m = c.1 in omega arith; places = λ k g. x.keeps (1026 + 3 * k + 1) (omega arith) (let m = c.1 in omega arith) };
      place = λ g. ap (λ (k : ℕ). offset_of u k) (sym c.1) ∙ x.offset;
      words = x.size;
      options = x.options;
    }

-- nothing goes
pub kept_all : (t : List ℕ) → Kept t t
kept_all t = record { more = omega arith; places = λ k g. refl }

-- nothing was placed: there is no name, or no room
module _ (s t : List ℕ) (o d : ℕ) (c : Chained s t) where
  unchanged : entries s t ≡ cond (has_name s o) (add (length t) (entries s t) (symbol d (name_at s o))) (entries s t) → Pushed s t o d t
  unchanged e = record { chained = c; are = e; kept = kept_all t; place = λ g. absurd (omega arith); words = refl; options = refl }

  pub push_unnamed : (r : Bool) → r ≡ has_name s o → r ≡ false → Pushed s t o d t
  push_unnamed r e f = unchanged (rw (← e, f))

  pub push_full : (n : ℕ) (r v : Bool) → n ≡ count_of t → r ≡ has_name s o → r ≡ true → v ≡ room_for (length t) n → v ≡ false → Pushed s t o d t
  unfolding add
  push_full n r v z e f g h =
      let k : length (entries s t) ≡ n = entries_length s t (count_of t) ∙ sym z in
      unchanged (rw (← e, f, k, ← g, h))

-- there are both: what is asked of the place
pub to_place : (s : List ℕ) (o words n : ℕ) (r v : Bool) → r ≡ has_name s o → r ≡ true → v ≡ room_for words n → v ≡ true
    → (n < 65535) × (1026 + 3 * n + 3 ≤ words) × (o < 65536) × Named s o
to_place s o words n r v e f g h =
    let x = name_named s o (sym e ∙ f) in
    let y = room_there words n (sym g ∙ h) in
    (y.0, y.1, x.0, x.1)

-- POP

module _ (s t : List ℕ) (m h : ℕ) (c : Chains s t (suc m)) (count : count_of t ≡ suc m) (e : h ≡ hash_of (name_at s (offset_of t m))) (l : h < 1024) where
  v1 : List ℕ
  v1 = set t (2 + h) (next_of t m)

  v : List ℕ
  v = set v1 1 m

  -- the words but for the count and the head
  left_as : (i : ℕ) → (i ≡ 1 → ⊥) → (i ≡ 2 + h → ⊥) → get_or v i 0 ≡ get_or t i 0
  unfolding v v1
  left_as i y z = get_or-set_other v1 1 i m 0 y ∙ get_or-set_other t (2 + h) i (next_of t m) 0 z

  sizes : (length v1 ≡ length t) × (length v ≡ length t)
  unfolding v v1
  sizes = (length-set t (2 + h) (next_of t m), length-set v1 1 m ∙ length-set t (2 + h) (next_of t m))

  pop_keeps : Keeps t v (suc m)
  pop_keeps i j k = left_as i (λ z. omega arith) (λ z. omega arith)

  pop_below : Keeps t v m
  pop_below i j k = pop_keeps i j (omega arith)

  popped_count : count_of v ≡ m
  unfolding v
  popped_count = let r = c.room in let w = sizes.0 in get_or-set_same v1 1 m 0 (omega arith)

  popped_head : (i : ℕ) → i < 1024 → head_of v i ≡ link (last_of (in_bucket i) (first_entries s v m))
  unfolding v v1
  popped_head i k = go (eqb i h) refl ∙ ap (λ (es : List Symbol). link (last_of (in_bucket i) es)) (sym (kept_entries s t v (suc m) m pop_keeps (omega arith)))
    where
      go : (b : Bool) → eqb i h ≡ b → head_of v i ≡ link (last_of (in_bucket i) (first_entries s t m))
      go true b =
          let z : i ≡ h = eqb-true i h b in
          let r = c.room in
          ap (λ (j : ℕ). head_of v j) z
          ∙ get_or-set_other v1 1 (2 + h) m 0 (λ y. omega arith)
          ∙ get_or-set_same t (2 + h) (next_of t m) 0 (omega arith)
          ∙ c.nexts m (omega arith)
          ∙ ap (λ (j : ℕ). link (last_of (in_bucket j) (first_entries s t m))) (sym e ∙ sym z)
      go false b =
          let z : i ≡ h → ⊥ = eqb-false i h b in
          left_as (2 + i) (λ y. omega arith) (λ y. z (omega arith))
          ∙ c.heads i k
          ∙ bucket_out i s t m (λ y. z (sym y ∙ sym e))

  shorter : Chains s v m
  shorter =
      let r = c.room in
      let w = sizes.1 in
      record {
        room = omega arith;
        names = λ k g. kept_names s t v m (suc m) k c (omega arith) pop_below g;
        heads = popped_head;
        nexts = λ k g. kept_nexts s t v m (suc m) k c (omega arith) pop_below g;
      }

  popped : Popped s t 1 v
  popped =
      let a : length (entries s t) ≡ suc m = entries_length s t (count_of t) ∙ count in
      let b : length (entries s t) - 1 ≡ m = omega arith in
      record {
        chained = subst⁻¹ (λ (k : ℕ). Chains s v k) popped_count shorter;
        are =
            ap (first_entries s v) popped_count
            ∙ kept_entries s t v (suc m) m pop_keeps (omega arith)
            ∙ sym (take_at (first_entries s t m) (symbol_of s t m ∷ []) m (entries_length s t m))
            ∙ ap (take m) (sym (entries_suc s t m) ∙ ap (first_entries s t) (sym count))
            ∙ ap (λ (k : ℕ). take k (entries s t)) (sym b);
        kept = record { more = let k = popped_count in omega arith; places = λ k g. sym (pop_keeps (1026 + 3 * k + 1) (omega arith) (let m = popped_count in omega arith)) };
        words = sizes.1;
        options = left_as 0 (λ z. omega arith) (λ z. omega arith);
      }

pub pop_pops : (s t : List ℕ) (n h o : ℕ) → Chained s t → n ≡ count_of t → (n ≡ 0 → ⊥) → o ≡ get_or t (1026 + 3 * (n - 1) + 1) 0 → (h ≡ hash_of (name_at s o)) × (h < 1024)
    → Popped s t 1 (set (set t (2 + h) (get_or t (1026 + 3 * (n - 1)) 0)) 1 (n - 1))
unfolding v v1
pop_pops s t n h o c z l w e =
    let y : count_of t ≡ suc (n - 1) = omega arith in
    popped s t (n - 1) h (subst (λ (k : ℕ). Chains s t k) y c) y (e.0 ∙ ap (λ (x : ℕ). hash_of (name_at s x)) w) e.1

-- no entry goes
pub pop_none : (s t : List ℕ) (n : ℕ) → Chained s t → n ≡ count_of t → n ≡ 0 → Popped s t 1 t
pop_none s t n c z y =
    let a : count_of t ≡ 0 = sym z ∙ y in
    let b : entries s t ≡ [] = ap (first_entries s t) a ∙ entries_zero s t in
    record { chained = c; are = rw b refl; kept = kept_all t; words = refl; options = refl }

-- the last entry's name stands in the file
pub last_named : (s t : List ℕ) (n o : ℕ) → Chained s t → n ≡ count_of t → (n ≡ 0 → ⊥) → o ≡ get_or t (1026 + 3 * (n - 1) + 1) 0 → Named s o
last_named s t n o c z l w = word_named s (offset_of t (n - 1)) o w (c.names (n - 1) (omega arith))
