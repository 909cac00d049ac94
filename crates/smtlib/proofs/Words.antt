-- What the code's functions are proved with: a law for each way through, over plain variables.
use mathlib.Core.Path.{◌≡◌, refl, sym, ap, ◌∙◌, subst, subst⁻¹}
use mathlib.Core.Bool.{Bool, true, false, not, cond, ◌&&◌, ◌||◌}
use mathlib.Core.Logic.{◌⊎◌, inl, inr}
use mathlib.Core.List.{List, [], ◌∷◌, ◌++◌, append_assoc, append-nil}
use Prim.Native.Nat.{ℕ, zero, suc, ◌+◌, ◌-◌, ◌≤◌, ◌<◌}
use Prim.Native.String.{String}
use native.Mathlib.Numerals.{add-one}
use native.Mathlib.Nat.{le_of_suc-le-suc, not-suc-le-zero}
use native.Mathlib.Omega.{arith}
use lib.Dec.{T, leb, eqb, eqb→eq, leb→le}
use lib.ListN.{length, get_or, take, drop, length-append}
use lib.Seq.{take_at, drop_at}
use borrow.Author.Tests.{eqb-false, leb-true, leb-false, le-leb}
use lib.Pointwise.{pointwise}
use Rattle.std.specs.List.{list_all, list_any}
use Rattle.std.proofs.lemmas.List.{take_all}
use Rattle.std.specs.declared.slice.ChunksExact.{ChunksExact}
use Rattle.std.specs.Iterator.{AlwaysYields}
use Rattle.std.proofs.lemmas.Iterator.{YieldsList}
use Rattle.std.specs.Slice.Iter.{chunks_exact_rest, chunks_exact_size, chunks_exact_steps}
use Rattle.smtlib.specs.Lexicon.{bytes, all, same, among, reserved_words, is_reserved, symbol_byte}
use Rattle.smtlib.specs.Table.{symbol_place, symbol_places, pieces, one_of, in_row}
use Rattle.smtlib.proofs.Bools.{never, true_holds, and_left, and_right, either, same→eq, among_each}
use Rattle.smtlib.proofs.Entries.{value_at}

-- same_bytes

pub same_lengths : (a b : List ℕ) → (length a ≡ length b → ⊥) → false ≡ same a b
same_lengths a b n = sym (never (same a b) (λ t. n (ap length (same→eq a b t))))

-- of two slices of one length one begins with the other only if they are the same
pub prefix_same : (r : Bool) (a b : List ℕ) → length a ≡ length b → r ≡ pointwise eqb a (take (length a) b) → r ≡ same a b
prefix_same r a b l e = e ∙ rw (take_all (length a) b (omega arith)) (go a b)
  where
    go : (x y : List ℕ) → pointwise eqb x y ≡ same x y
    go [] [] = refl
    go [] (c ∷ y) = refl
    go (a ∷ x) [] = refl
    go (a ∷ x) (c ∷ y) = ap (λ (z : Bool). eqb a c && z) (go x y)

-- in_row

piece : (n k : ℕ) (v r : List ℕ) → k < length r → pieces n k v r ≡ (v ++ take k r) ∷ pieces n n [] (drop (suc k) r)
piece n k v [] h = absurd (not-suc-le-zero h)
piece n zero v (b ∷ r) h = ap (λ (x : List ℕ). x ∷ pieces n n [] r) (sym (append-nil v))
piece n (suc k) v (b ∷ r) h =
    piece n k (v ++ (b ∷ [])) r (le_of_suc-le-suc h)
    ∙ ap (λ (x : List ℕ). x ∷ pieces n n [] (drop (suc k) r)) (append_assoc v (b ∷ []) (take k r))

row_first : (w r : List ℕ) → length w < length r → in_row w r ≡ same w (take (length w) r) || in_row w (drop (suc (length w)) r)
row_first w r h = ap (one_of w) (piece (length w) (length w) [] r h)

-- the pieces with the byte behind each
abbrev pub wholes : ℕ → ℕ → List ℕ → List ℕ → List (List ℕ)
wholes n k v [] = []
wholes n zero v (b ∷ r) = (v ++ (b ∷ [])) ∷ wholes n n [] r
wholes n (suc k) v (b ∷ r) = wholes n k (v ++ (b ∷ [])) r

-- a piece without the byte behind it is the word
abbrev pub own_is : List ℕ → List ℕ → Bool
own_is w p = cond (leb 1 (length p)) (pointwise eqb w (take (length p - 1) p)) false

begun : (w v : List ℕ) (b : ℕ) → length v ≡ length w → own_is w (v ++ (b ∷ [])) ≡ same w v
begun w v b e =
    let l : length (v ++ (b ∷ [])) ≡ length v + 1 = length-append v (b ∷ []) in
    let m : length (v ++ (b ∷ [])) - 1 ≡ length v = omega (arith, l) in
    rw (le-leb 1 (length (v ++ (b ∷ []))) (omega (arith, l)), m, take_at v (b ∷ []) (length v) refl) (go w v)
  where
    go : (x y : List ℕ) → pointwise eqb x y ≡ same x y
    go [] [] = refl
    go [] (c ∷ y) = refl
    go (a ∷ x) [] = refl
    go (a ∷ x) (c ∷ y) = ap (λ (z : Bool). eqb a c && z) (go x y)

pub begins_one : (w : List ℕ) (k : ℕ) (v r : List ℕ) → length v + k ≡ length w
    → list_any (own_is w) (wholes (length w) k v r) ≡ one_of w (pieces (length w) k v r)
begins_one w k v [] e = refl
begins_one w zero v (b ∷ r) e =
    rw (begun w v b (omega arith)) (ap (λ (x : Bool). same w v || x) (begins_one w (length w) [] r (omega arith)))
begins_one w (suc k) v (b ∷ r) e = begins_one w k (v ++ (b ∷ [])) r (omega (arith, length-append v (b ∷ [])))

whole : (n k : ℕ) (v r : List ℕ) → k < length r → wholes n k v r ≡ (v ++ take (suc k) r) ∷ wholes n n [] (drop (suc k) r)
whole n k v [] h = absurd (not-suc-le-zero h)
whole n zero v (b ∷ r) h = refl
whole n (suc k) v (b ∷ r) h =
    whole n k (v ++ (b ∷ [])) r (le_of_suc-le-suc h)
    ∙ ap (λ (x : List ℕ). x ∷ wholes n n [] (drop (suc k) r)) (append_assoc v (b ∷ []) (take (suc k) r))

no_whole : (n k : ℕ) (v r : List ℕ) → length r ≤ k → wholes n k v r ≡ []
no_whole n k v [] h = refl
no_whole n zero v (b ∷ r) h = absurd (not-suc-le-zero h)
no_whole n (suc k) v (b ∷ r) h = no_whole n k (v ++ (b ∷ [])) r (le_of_suc-le-suc h)

-- they are what `chunks_exact` gives
abbrev pub Gives : ℕ → ChunksExact ℕ → Type 0
Gives n s = AlwaysYields chunks_exact_steps (λ x. x.now) s (wholes n n [] (chunks_exact_rest s))

no_chunk : (n : ℕ) (s : ChunksExact ℕ) → chunks_exact_size s ≡ suc n → length (chunks_exact_rest s) ≤ n → Gives n s
no_chunk n s e h =
    subst⁻¹ (AlwaysYields chunks_exact_steps (λ x. x.now) s) (no_whole n n [] (chunks_exact_rest s) h)
    (λ x j k. let a = ap length k.1.0 ∙ length-append x.now (chunks_exact_rest j) in let b = k.1.1 in omega arith)

one_chunk : (n : ℕ) (s : ChunksExact ℕ) → chunks_exact_size s ≡ suc n → n < length (chunks_exact_rest s)
    → ((j : ChunksExact ℕ) → length (chunks_exact_rest j) < length (chunks_exact_rest s) → chunks_exact_size j ≡ suc n → Gives n j) → Gives n s
one_chunk n s e h g =
    subst⁻¹ (AlwaysYields chunks_exact_steps (λ x. x.now) s) (whole n n [] (chunks_exact_rest s) h) (
      (λ j k. let a = k.1.0 in omega arith),
      λ x j k.
          let a = k.1.1 ∙ e in
          let d = k.1.0 in
          let f = ap length d ∙ length-append x.now (chunks_exact_rest j) in (
            sym (ap (take (suc n)) d ∙ take_at x.now (chunks_exact_rest j) (suc n) a),
            subst⁻¹ (λ (r : List ℕ). AlwaysYields chunks_exact_steps (λ x. x.now) j (wholes n n [] r))
                (ap (drop (suc n)) d ∙ drop_at x.now (chunks_exact_rest j) (suc n) a) (g j (omega arith) (k.0 ∙ e)),
          ),
    )

chunks : (m n : ℕ) (s : ChunksExact ℕ) → length (chunks_exact_rest s) ≤ m → chunks_exact_size s ≡ suc n → Gives n s
chunks zero n s h e = no_chunk n s e (omega arith)
chunks (suc m) n s h e = go (leb (length (chunks_exact_rest s)) n) refl (chunks m n)
  where
    go : (v : Bool) → leb (length (chunks_exact_rest s)) n ≡ v
        → ((j : ChunksExact ℕ) → length (chunks_exact_rest j) ≤ m → chunks_exact_size j ≡ suc n → Gives n j) → Gives n s
    go true g f = no_chunk n s e (leb-true _ _ g)
    go false g f = one_chunk n s e (leb-false _ _ g) (λ j l. f j (omega arith))

pub chunks_yield : (n : ℕ) (r : List ℕ) (s : ChunksExact ℕ) → chunks_exact_rest s ≡ r → chunks_exact_size s ≡ n + 1
    → YieldsList chunks_exact_steps (λ x. x.now) s (wholes n n [] r)
chunks_yield n r s h e =
    record { runs = subst (λ (l : List ℕ). AlwaysYields chunks_exact_steps (λ x. x.now) s (wholes n n [] l)) h (chunks (length (chunks_exact_rest s)) n s (omega arith) (e ∙ add-one n)) }

-- is_reserved

-- the words of n bytes, with a space behind each
abbrev pub row_of : ℕ → List String → List ℕ
row_of n [] = []
row_of n (s ∷ ss) = cond (eqb (length (bytes s)) n) (bytes s ++ (32 ∷ [])) [] ++ row_of n ss

-- a word of w's length, and a space, before the rest of a row
row_word : (w u r : List ℕ) → length u ≡ length w → in_row w ((u ++ (32 ∷ [])) ++ r) ≡ same w u || in_row w r
row_word w u r e =
    let k : length (u ++ (32 ∷ [])) ≡ suc (length w) = length-append u (32 ∷ []) ∙ omega arith in
    row_first w ((u ++ (32 ∷ [])) ++ r) (omega (arith, length-append (u ++ (32 ∷ [])) r))
    ∙ ap (λ (x : List ℕ). same w x || in_row w (drop (suc (length w)) ((u ++ (32 ∷ [])) ++ r)))
    (ap (take (length w)) (append_assoc u (32 ∷ []) r) ∙ take_at u (32 ∷ r) (length w) e)
    ∙ ap (λ (x : List ℕ). same w u || in_row w x) (drop_at (u ++ (32 ∷ [])) r (suc (length w)) k)

-- the row of the words of w's length has w exactly if the list has it
row_among : (w : List ℕ) (ss : List String) → in_row w (row_of (length w) ss) ≡ among w ss
row_among w [] = refl
row_among w (s ∷ ss) = go (eqb (length (bytes s)) (length w)) refl (row_among w ss)
  where
    rest : Bool → List ℕ
    rest v = cond v (bytes s ++ (32 ∷ [])) [] ++ row_of (length w) ss

    go : (v : Bool) → eqb (length (bytes s)) (length w) ≡ v → in_row w (row_of (length w) ss) ≡ among w ss
        → in_row w (rest v) ≡ same w (bytes s) || among w ss
    go true e ih =
        row_word w (bytes s) (row_of (length w) ss) (eqb→eq (length (bytes s)) (length w) (true_holds e))
        ∙ ap (λ (v : Bool). same w (bytes s) || v) ih
    go false e ih =
        ih
        ∙ ap (λ (v : Bool). v || among w ss) (same_lengths w (bytes s) (λ l. eqb-false (length (bytes s)) (length w) e (sym l)))

-- the row of the words of w's length, which is n, is searched
pub reserved_row : (n : ℕ) (w : List ℕ) (v : Bool) → length w ≡ n → v ≡ in_row w (row_of n reserved_words) → v ≡ is_reserved w
reserved_row n w v l e = e ∙ ap (λ (k : ℕ). in_row w (row_of k reserved_words)) (sym l) ∙ row_among w reserved_words

-- a reserved word has from 1 to 18 bytes, or 21
pub reserved_other : (w : List ℕ) → (1 ≤ length w → length w ≤ 18 → ⊥) → (length w ≡ 21 → ⊥) → false ≡ is_reserved w
unfolding reserved_words
reserved_other w f g = sym (never (is_reserved w) (λ t. go (either _ _ (among_each (λ x. (leb 1 (length x) && leb (length x) 18) || eqb (length x) 21) w reserved_words t tt))))
  where
    go : T (leb 1 (length w) && leb (length w) 18) ⊎ T (eqb (length w) 21) → ⊥
    go (inl t) = f (leb→le 1 (length w) (and_left (leb 1 (length w)) _ t)) (leb→le (length w) 18 (and_right (leb 1 (length w)) _ t))
    go (inr t) = g (eqb→eq (length w) 21 t)

-- all_symbol_bytes

pub all_listed : (p : ℕ → Bool) (w : List ℕ) → list_all p w ≡ all p w
all_listed p [] = refl
all_listed p (b ∷ w) = ap (λ (x : Bool). p b && x) (all_listed p w)

-- is_symbol_byte

-- a place that holds a space is no symbol byte's
pub byte_low : (places : List ℕ) (b : ℕ) → places ≡ symbol_places → b ≤ 127 → not (eqb (get_or places b 0) 32) ≡ symbol_byte b
unfolding symbol_places
byte_low places b e h =
    ap (λ (l : List ℕ). not (eqb (get_or l b 0) 32)) e ∙ ap (λ (x : ℕ). not (eqb x 32)) (value_at symbol_place 128 b (omega arith))
    ∙ go (symbol_byte b) refl
  where
    space : (v : Bool) → eqb b 32 ≡ v → symbol_byte b ≡ true → not v ≡ true
    space false i f = refl
    space true i f = absurd (subst (λ (n : ℕ). T (symbol_byte n)) (eqb→eq b 32 (true_holds i)) (true_holds f))

    go : (v : Bool) → symbol_byte b ≡ v → not (eqb (cond v b 32) 32) ≡ v
    go true f = space (eqb b 32) refl f
    go false f = refl
