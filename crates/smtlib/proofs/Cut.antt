-- The scan beside a text's items, and from it the theorems `unique`, `prefix`, `whole` and `cuts`.
use mathlib.Core.Path.{◌≡◌, refl, sym, ap, ◌∙◌, subst, subst⁻¹}
use mathlib.Core.Bool.{Bool, true, false, cond}
use mathlib.Core.Logic.{◌⊎◌, inl, inr}
use mathlib.Core.List.{List, [], ◌∷◌, ◌++◌, append-nil}
use Prim.Native.Nat.{ℕ, zero, suc, ◌+◌, ◌-◌, ◌≤◌}
use native.Mathlib.Omega.{arith}
use native.Mathlib.Decide.{dec_le}
use lib.Dec.{T, eqb, eqb→eq}
use lib.ListN.{length, take}
use lib.Seq.{take-append-le, take-append-add, take-length}
use Rattle.smtlib.specs.Lexicon.{Class, right_paren, quote, class, all, quoted_byte}
use Rattle.smtlib.specs.Read.{Token, doubled, Spells, as_word, as_string, as_quoted, Item, opening, closing, token, Parted, no_line_feed, LineEnds}
use Rattle.smtlib.specs.Read.{Lexes, done, skip, comment, opens, closes, spells, Command, script, Reading}
use Rattle.smtlib.specs.Cut.{Mode, in_code, in_comment, in_string, in_quoted, Scan, at, meet, step, scan, closed}
use Rattle.smtlib.specs.Theorems.{Unique, Prefix, Whole, Cuts}
use Rattle.smtlib.proofs.Bools.{is_true, is_false, true_holds, all_head, all_tail}
use Rattle.smtlib.proofs.Plain.{plain_byte, is_plain_lem, kind_plain}
use Rattle.smtlib.proofs.Lexer.{quoted_no_bar, line_feed_blank, unique_items}
use Rattle.smtlib.proofs.Nest.{Level, lev, level, down, up, pasts, Nested, script_injective, pasts_script, nested_script, First, cut_script}

-- THE SCAN'S LEVEL

abbrev on : Mode → Level → Scan
on m l = at m l.depth l.commands

-- behind a closing parenthesis nothing else is open
meet_right : (d n : ℕ) → meet right_paren d n ≡ on in_code (up (lev d n))
meet_right zero n = refl
meet_right (suc zero) n = refl
meet_right (suc (suc d)) n = refl

-- a byte of a known class
met : (b : ℕ) {c : Class} → class b ≡ c → (l : Level) → step (on in_code l) b ≡ meet c l.depth l.commands
met b e l = ap (λ (c : Class). meet c l.depth l.commands) e

-- BYTES THAT LEAVE THE LEVEL AS IT IS

-- over these bytes the scan goes from one mode to another, and the level never changes
data Flat : Mode → List ℕ → Mode → Type 0 where
  stay : {m : Mode} → Flat m [] m
  move : (b : ℕ) (m n : Mode) {o : Mode} {w : List ℕ} → ((l : Level) → step (on m l) b ≡ on n l) → Flat n w o → Flat m (b ∷ w) o

flat_append : {m n o : Mode} {u v : List ℕ} → Flat m u n → Flat n v o → Flat m (u ++ v) o
flat_append stay g = g
flat_append (move b m n e f) g = move b m n e (flat_append f g)

flat_past : {m n : Mode} {w : List ℕ} → Flat m w n → (l : Level) (t : List ℕ) → scan (on m l) (w ++ t) ≡ scan (on n l) t
flat_past stay l t = refl
flat_past (move b m n {w} e f) l t = ap (λ (s : Scan). scan s (w ++ t)) (e l) ∙ flat_past f l t

flat_level : {m n : Mode} {w : List ℕ} → Flat m w n → (l : Level) (j : ℕ) → level (scan (on m l) (take j w)) ≡ l
flat_level stay l zero = refl
flat_level stay l (suc j) = refl
flat_level (move b m n e f) l zero = refl
flat_level (move b m n {w} e f) l (suc j) = ap (λ (s : Scan). level (scan s (take j w))) (e l) ∙ flat_level f l j

-- bytes that pass a test and keep the mode
flat_all : (m : Mode) (p : ℕ → Bool) → ((b : ℕ) → T (p b) → (l : Level) → step (on m l) b ≡ on m l) → (w : List ℕ) → T (all p w) → Flat m w m
flat_all m p f [] h = stay
flat_all m p f (b ∷ w) h = move b m m (f b (all_head p b w h)) (flat_all m p f w (all_tail p b w h))

flat_string : (s : List ℕ) → Flat in_string (doubled s) in_string
unfolding class
flat_string [] = stay
flat_string (b ∷ s) = go (eqb b 34) refl (flat_string s)
  where
    go : (v : Bool) → eqb b 34 ≡ v → Flat in_string (doubled s) in_string → Flat in_string (doubled (b ∷ s)) in_string
    go false e f = rw e (move b in_string in_string (λ l. rw e) f)
    go true e f =
        let q : class b ≡ quote = subst⁻¹ (λ (n : ℕ). class n ≡ quote) (eqb→eq b 34 (true_holds e)) refl in
        rw e (move b in_string in_code (λ l. rw e) (move b in_code in_string (λ l. rw q) f))

flat_token : {w : List ℕ} {k : Token} → Spells w k → Flat in_code w in_code
unfolding class
flat_token (as_word k w h) = flat_all in_code plain_byte (λ b g l. rw (is_plain_lem (class b) g)) w (kind_plain k w h)
flat_token (as_string s h) =
    move 34 in_code in_string (λ l. refl) (flat_append (flat_string s) (move 34 in_string in_code (λ l. refl) stay))
flat_token (as_quoted s h) =
    move 124 in_code in_quoted (λ l. refl)
    (flat_append (flat_all in_quoted quoted_byte (λ b g l. rw (quoted_no_bar b g)) s h) (move 124 in_quoted in_code (λ l. refl) stay))

flat_comment : (b : ℕ) (c : List ℕ) → ((l : Level) → step (on in_code l) b ≡ on in_comment l) → T (all no_line_feed c) → Flat in_code (b ∷ c) in_comment
flat_comment b c e h = move b in_code in_comment e (flat_all in_comment no_line_feed (λ x g l. rw (is_false (eqb x 10) g)) c h)

-- where a comment ends, the level is what it would be had it ended before
comment_ends : (t : List ℕ) (l : Level) (j : ℕ) → LineEnds t → level (scan (on in_comment l) (take j t)) ≡ level (scan (on in_code l) (take j t))
comment_ends t l zero h = refl
comment_ends [] l (suc j) h = refl
comment_ends (b ∷ t) l (suc j) h =
    ap (λ (v : Bool). level (scan (on (cond v in_code in_comment) l) (take j t))) (is_true (eqb b 10) h)
    ∙ sym (ap (λ (c : Class). level (scan (meet c l.depth l.commands) (take j t))) (line_feed_blank b h))

-- PREFIXES OF A TEXT

parted_take : (t : List ℕ) (j : ℕ) → Parted t → Parted (take j t)
parted_take t zero h = tt
parted_take [] (suc j) h = tt
parted_take (b ∷ t) (suc j) h = h

line_ends_take : (t : List ℕ) (j : ℕ) → LineEnds t → LineEnds (take j t)
line_ends_take t zero h = tt
line_ends_take [] (suc j) h = tt
line_ends_take (b ∷ t) (suc j) h = h

all_take : (p : ℕ → Bool) (c : List ℕ) (j : ℕ) → T (all p c) → T (all p (take j c))
all_take p c zero h = tt
all_take p [] (suc j) h = tt
all_take p (b ∷ c) (suc j) h = rw (is_true (p b) (all_head p b c h)) (all_take p c j (all_tail p b c h))

-- a place within w, or behind it
Placed : ℕ → List ℕ → Type 0
Placed k w = (k ≤ length w) ⊎ ((i : ℕ) × (k ≡ length w + i))

placed : (k : ℕ) (w : List ℕ) → Placed k w
unfolding Placed
placed k w = elim (dec_le k (length w)) [ yes h ↦ inl h | no h ↦ inr (k - length w, omega arith) ]

-- the first k bytes are some of the first items, and the scan's level is theirs
CutAt : List ℕ → List Item → Level → ℕ → Type 0
CutAt t is l k = (j : ℕ) × Lexes (take k t) (take j is) × (level (scan (on in_code l) (take k t)) ≡ pasts l (take j is))

Outer : List ℕ → Level → ℕ → Type 0
Outer t l k = (level (scan (on in_code l) (take k t))).depth ≡ zero

-- a byte that is no item, or the item before the rest
cut_byte : (b : ℕ) (t : List ℕ) (before is : List Item) (l m : Level) (k : ℕ)
    → ((u : List ℕ) (js : List Item) → Lexes u js → Lexes (b ∷ u) (before ++ js))
    → step (on in_code l) b ≡ on in_code m → ((js : List Item) → pasts l (before ++ js) ≡ pasts m js)
    → (Outer t m k → CutAt t is m k) → Outer (b ∷ t) l (suc k) → CutAt (b ∷ t) (before ++ is) l (suc k)
unfolding CutAt Outer
cut_byte b t before is l m k front e past-before rest h =
    let q : level (scan (step (on in_code l) b) (take k t)) ≡ level (scan (on in_code m) (take k t)) =
    ap (λ (s : Scan). level (scan s (take k t))) e in
    let g = rest (sym (ap (λ (x : Level). x.depth) q) ∙ h) in
    let z : take (length before + g.0) (before ++ is) ≡ before ++ take g.0 is = take-append-add before is g.0 in (
      length before + g.0,
      rw z (front (take k t) (take g.0 is) g.1),
      rw z (q ∙ g.2 ∙ sym (past-before (take g.0 is))),
    )

cut : {t : List ℕ} {is : List Item} → Lexes t is → (l : Level) → Nested l is → (k : ℕ) → Outer t l k → CutAt t is l k
unfolding CutAt Outer Placed
cut done l n zero h = (zero, done, refl)
cut done l n (suc k) h = (zero, done, refl)
cut (skip e r) l n zero h = (zero, done, refl)
cut (skip {b} {t} {is} e r) l n (suc k) h =
    cut_byte b t [] is l l k (λ u js x. skip e x) (met b e l) (λ js. refl) (λ o. cut r l n k o) h
cut (opens e r) l n zero h = (zero, done, refl)
cut (opens {b} {t} {is} e r) l n (suc k) h =
    cut_byte b t (opening ∷ []) is l (down l) k (λ u js x. opens e x) (met b e l) (λ js. refl) (λ o. cut r (down l) n.1 k o) h
cut (closes e r) l n zero h = (zero, done, refl)
cut (closes {b} {t} {is} e r) l n (suc k) h =
    cut_byte b t (closing ∷ []) is l (up l) k (λ u js x. closes e x) (met b e l ∙ meet_right l.depth l.commands) (λ js. refl) (λ o. cut r (up l) n.1 k o) h
cut (comment c e q f r) l n zero h = (zero, done, refl)
cut (comment {b} c {t} {is} e q f r) l n (suc k) h = go (placed k c) (λ j o. cut r l n j o)
  where
    flat : Flat in_code (b ∷ c) in_comment
    flat = flat_comment b c (met b e) q

    go : Placed k c → ((j : ℕ) → Outer t l j → CutAt t is l j) → CutAt (b ∷ c ++ t) is l (suc k)
    go (inl p) ih =
        let a : take k (c ++ t) ≡ take k c = take-append-le k c t p in (
          zero,
          rw a (rw append-nil at (comment (take k c) {t = []} e (all_take no_line_feed c k q) tt done)),
          rw a (flat_level flat l (suc k)),
        )
    go (inr p) ih =
        let i = p.0 in
        let a : take k (c ++ t) ≡ c ++ take i t = ap (λ (x : ℕ). take x (c ++ t)) p.1 ∙ take-append-add c t i in
        let u : level (scan (on in_code l) (b ∷ take k (c ++ t))) ≡ level (scan (on in_code l) (take i t)) =
        ap (λ (x : List ℕ). level (scan (on in_code l) (b ∷ x))) a ∙ ap level (flat_past flat l (take i t)) ∙ comment_ends t l i f in
        let g = ih i (sym (ap (λ (x : Level). x.depth) u) ∙ h) in
        (g.0, subst⁻¹ (λ (x : List ℕ). Lexes (b ∷ x) (take g.0 is)) a (comment c e q (line_ends_take t i f) g.1), u ∙ g.2)
cut (spells {w} {k = v} {t} {is} s p r) l n k h = go (placed k w) (λ j o. cut r l n.1 j o)
  where
    go : Placed k w → ((j : ℕ) → Outer t l j → CutAt t is l j) → CutAt (w ++ t) (token v ∷ is) l k
    go (inl q) ih =
        let a : l.depth ≡ zero = sym (ap (λ (x : Level). x.depth) (flat_level (flat_token s) l k)) ∙ (rw (take-append-le k w t q) at h) in
        let z : ⊥ = omega (arith, n.0) in
        absurd z
    go (inr q) ih =
        let i = q.0 in
        let a : take k (w ++ t) ≡ w ++ take i t = ap (λ (x : ℕ). take x (w ++ t)) q.1 ∙ take-append-add w t i in
        let u : level (scan (on in_code l) (take k (w ++ t))) ≡ level (scan (on in_code l) (take i t)) =
        ap (λ (x : List ℕ). level (scan (on in_code l) x)) a ∙ ap level (flat_past (flat_token s) l (take i t)) in
        let g = ih i (sym (ap (λ (x : Level). x.depth) u) ∙ h) in
        (suc g.0, subst⁻¹ (λ (x : List ℕ). Lexes x (token v ∷ take g.0 is)) a (spells s (parted_take t i p) g.1), u ∙ g.2)

-- the level behind the whole text
scan_all : {t : List ℕ} {is : List Item} → Lexes t is → (l : Level) → level (scan (on in_code l) t) ≡ pasts l is
scan_all done l = refl
scan_all (skip {b} {t} e r) l = ap (λ (s : Scan). level (scan s t)) (met b e l) ∙ scan_all r l
scan_all (comment {b} c {t} e q f r) l =
    ap level (flat_past (flat_comment b c (met b e) q) l t)
    ∙ (rw (take-length t) at (comment_ends t l (length t) f)) ∙ scan_all r l
scan_all (opens {b} {t} e r) l = ap (λ (s : Scan). level (scan s t)) (met b e l) ∙ scan_all r (down l)
scan_all (closes {b} {t} e r) l = ap (λ (s : Scan). level (scan s t)) (met b e l ∙ meet_right l.depth l.commands) ∙ scan_all r (up l)
scan_all (spells {t} s p r) l = ap level (flat_past (flat_token s) l t) ∙ scan_all r l

-- THE THEOREMS

pub unique : Unique
unique text cs ds r s = script_injective cs ds (unique_items r.reads s.reads)

pub prefix : Prefix
unfolding CutAt Outer First
prefix text cs r k h =
    let p : CutAt text (script cs) (lev zero zero) k = cut r.reads (lev zero zero) (nested_script cs zero) k h in
    let q : First cs zero p.0 = cut_script cs zero p.0 (sym (ap (λ (x : Level). x.depth) p.2) ∙ h) in
    let n : q.0 ≡ closed text k = omega (arith, q.2, ap (λ (x : Level). x.commands) p.2) in
    subst (λ (i : ℕ). Reading (take k text) (take i cs)) n (record { reads = subst (Lexes (take k text)) q.1 p.1 })

level_at_end : (text : List ℕ) (cs : List Command) → Reading text cs
    → level (scan (on in_code (lev zero zero)) (take (length text) text)) ≡ lev zero (zero + length cs)
level_at_end text cs r = rw (take-length text) (scan_all r.reads (lev zero zero) ∙ pasts_script cs zero)

pub whole : Whole
whole text cs r = ap (λ (x : Level). x.commands) (level_at_end text cs r) ∙ omega arith

pub cuts : Cuts
cuts text cs r = record {
  cut = λ k h o. record { reading = prefix text cs r k o; only = λ ds s. unique (take k text) ds (take (closed text k) cs) s (prefix text cs r k o) };
  first = refl;
  last = ap (λ (x : Level). x.depth) (level_at_end text cs r);
  complete = whole text cs r;
}
