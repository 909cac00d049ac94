-- A lexer: one pass over the bytes that gives the items and says whether the text is made of them. `complete`: it finds the items of
-- every text that has any, so no text has two lists of items. `sound`: what it finds is there.
use mathlib.Core.Path.{◌≡◌, refl, sym, ap, ◌∙◌, subst, subst⁻¹}
use mathlib.Core.Bool.{Bool, true, false, not, cond, ◌&&◌, ◌||◌}
use mathlib.Core.Option.{some, none-ne-some}
use mathlib.Core.List.{List, [], ◌∷◌, ◌++◌, append_assoc, append-nil}
use Prim.Native.Nat.{ℕ}
use lib.Dec.{T, eqb, eqb→eq}
use Rattle.smtlib.specs.Lexicon.{Class, blank, semicolon, left_paren, right_paren, quote, bar, plain, class, Kind, symbol, all, string_byte, quoted_byte}
use Rattle.smtlib.specs.Read.{Token, word, string, quoted, doubled, Spells, as_word, as_string, as_quoted, Item, opening, closing, token, parts, Parted, no_line_feed, LineEnds}
use Rattle.smtlib.specs.Read.{Lexes, done, skip, comment, opens, closes, spells}
use Rattle.smtlib.proofs.Bools.{is_true, is_false, never, true_holds, false_fails, and_left, and_right, all_head, all_tail, all_snoc}
use Rattle.smtlib.proofs.Plain.{class_says, is_plain, plain_byte, is_plain_lem, kind_plain}
use Rattle.smtlib.proofs.OneKind.{kind_of, is_some, kind_or, kind_of_lem, of_kind}

-- BYTES THAT END A TOKEN OR A COMMENT

parts_not_plain : (c : Class) → T (parts c) → is_plain c ≡ false
parts_not_plain blank t = refl
parts_not_plain semicolon t = refl
parts_not_plain left_paren t = refl
parts_not_plain right_paren t = refl
parts_not_plain quote t = absurd t
parts_not_plain bar t = absurd t
parts_not_plain plain t = absurd t

parts_no_quote : (b : ℕ) → T (parts (class b)) → eqb b 34 ≡ false
unfolding class
parts_no_quote b h = never (eqb b 34) (λ t. subst (λ (n : ℕ). T (parts (class n))) (eqb→eq b 34 t) h)

pub line_feed_blank : (b : ℕ) → T (eqb b 10) → class b ≡ blank
unfolding class
line_feed_blank b h = subst⁻¹ (λ (n : ℕ). class n ≡ blank) (eqb→eq b 10 h) refl

pub quoted_no_bar : (b : ℕ) → T (quoted_byte b) → eqb b 124 ≡ false
quoted_no_bar b h = go (eqb b 124) (and_right (string_byte b) _ h)
  where
    go : (v : Bool) → T (not (v || (eqb b 92 || false))) → v ≡ false
    go false e = refl
    go true e = absurd e

-- THE LEXER

-- What is open: nothing, a comment, a token with the bytes so far; or nothing behind a quoted symbol, where a token may not follow.
pub data Mode : Type 0 where
  base in_comment gap : Mode
  in_word in_string after_string in_quoted : List ℕ → Mode

-- the mode behind a byte that begins something, and the item that it is
begins : Class → ℕ → Mode
begins blank b = base
begins semicolon b = in_comment
begins left_paren b = base
begins right_paren b = base
begins quote b = in_string []
begins bar b = in_quoted []
begins plain b = in_word (b ∷ [])

gives : Class → List Item
gives blank = []
gives semicolon = []
gives left_paren = opening ∷ []
gives right_paren = closing ∷ []
gives quote = []
gives bar = []
gives plain = []

word_of : List ℕ → Token
word_of w = word (kind_or symbol (kind_of w)) w

-- one byte: the next mode, the items that end before it or with it, and whether it may stand there
next : Mode → ℕ → Mode
unfolding begins
next base b = begins (class b) b
next in_comment b = cond (eqb b 10) base in_comment
next gap b = begins (class b) b
next (in_word a) b = cond (is_plain (class b)) (in_word (a ++ (b ∷ []))) (begins (class b) b)
next (in_string a) b = cond (eqb b 34) (after_string a) (in_string (a ++ (b ∷ [])))
next (after_string a) b = cond (eqb b 34) (in_string (a ++ (b ∷ []))) (begins (class b) b)
next (in_quoted a) b = cond (eqb b 124) gap (in_quoted (a ++ (b ∷ [])))

emits : Mode → ℕ → List Item
unfolding gives word_of
emits base b = gives (class b)
emits in_comment b = []
emits gap b = gives (class b)
emits (in_word a) b = cond (is_plain (class b)) [] (token (word_of a) ∷ gives (class b))
emits (in_string a) b = []
emits (after_string a) b = cond (eqb b 34) [] (token (string a) ∷ gives (class b))
emits (in_quoted a) b = cond (eqb b 124) (token (quoted a) ∷ []) []

allowed : Mode → ℕ → Bool
allowed base b = true
allowed in_comment b = true
allowed gap b = parts (class b)
allowed (in_word a) b = is_plain (class b) || (parts (class b) && is_some (kind_of a))
allowed (in_string a) b = string_byte b
allowed (after_string a) b = eqb b 34 || parts (class b)
allowed (in_quoted a) b = eqb b 124 || quoted_byte b

-- the end of the text: the item that ends there, and whether it may
last_items : Mode → List Item
unfolding word_of
last_items base = []
last_items in_comment = []
last_items gap = []
last_items (in_word a) = token (word_of a) ∷ []
last_items (in_string a) = []
last_items (after_string a) = token (string a) ∷ []
last_items (in_quoted a) = []

ends : Mode → Bool
ends base = true
ends in_comment = true
ends gap = true
ends (in_word a) = is_some (kind_of a)
ends (in_string a) = false
ends (after_string a) = true
ends (in_quoted a) = false

lex : Mode → List ℕ → Bool × List Item
unfolding next emits allowed last_items ends
lex m [] = (ends m, last_items m)
lex m (b ∷ t) = let r = lex (next m b) t in (allowed m b && r.0, emits m b ++ r.1)

-- a token in front of what was found
with_token : Token → Bool × List Item → Bool × List Item
with_token k r = (r.0, token k ∷ r.1)

-- COMPLETE

comment_run : (c t : List ℕ) → T (all no_line_feed c) → LineEnds t → lex in_comment (c ++ t) ≡ lex base t
unfolding lex
comment_run [] [] h e = refl
comment_run [] (b ∷ t) h e = rw (is_true (eqb b 10) e, line_feed_blank b e)
comment_run (b ∷ c) t h e =
    rw (is_false (eqb b 10) (all_head no_line_feed b c h)) (comment_run c t (all_tail no_line_feed b c h) e)

word_run : (a w t : List ℕ) → T (all plain_byte w) → lex (in_word a) (w ++ t) ≡ lex (in_word (a ++ w)) t
unfolding lex
word_run a [] t h = rw append-nil
word_run a (b ∷ w) t h =
    rw (is_true (is_plain (class b)) (all_head plain_byte b w h))
    (word_run (a ++ (b ∷ [])) w t (all_tail plain_byte b w h) ∙ rw append_assoc)

word_end : (a t : List ℕ) (k : Kind) → kind_of a ≡ some k → Parted t → lex (in_word a) t ≡ with_token (word k a) (lex base t)
unfolding lex with_token
word_end a [] k e h = rw e
word_end a (b ∷ t) k e h = rw (parts_not_plain (class b) h, is_true (parts (class b)) h, e)

string_run : (a s t : List ℕ) → T (all string_byte s) → lex (in_string a) (doubled s ++ t) ≡ lex (in_string (a ++ s)) t
unfolding lex
string_run a [] t h = rw append-nil
string_run a (b ∷ s) t h = go (eqb b 34) refl (string_run (a ++ (b ∷ [])) s t (all_tail string_byte b s h) ∙ rw append_assoc)
  where
    go : (v : Bool) → eqb b 34 ≡ v → lex (in_string (a ++ (b ∷ []))) (doubled s ++ t) ≡ lex (in_string (a ++ (b ∷ s))) t
        → lex (in_string a) (doubled (b ∷ s) ++ t) ≡ lex (in_string (a ++ (b ∷ s))) t
    go true e ih = simp (e, is_true (string_byte b) (all_head string_byte b s h)) ih
    go false e ih = simp (e, is_true (string_byte b) (all_head string_byte b s h)) ih

string_end : (a t : List ℕ) → Parted t → lex (after_string a) t ≡ with_token (string a) (lex base t)
unfolding lex with_token
string_end a [] h = refl
string_end a (b ∷ t) h = rw (parts_no_quote b h, is_true (parts (class b)) h)

quoted_run : (a s t : List ℕ) → T (all quoted_byte s) → lex (in_quoted a) (s ++ t) ≡ lex (in_quoted (a ++ s)) t
unfolding lex
quoted_run a [] t h = rw append-nil
quoted_run a (b ∷ s) t h =
    rw (is_true (quoted_byte b) (all_head quoted_byte b s h), quoted_no_bar b (all_head quoted_byte b s h))
    (quoted_run (a ++ (b ∷ [])) s t (all_tail quoted_byte b s h) ∙ rw append_assoc)

gap_end : (t : List ℕ) → Parted t → lex gap t ≡ lex base t
unfolding lex
gap_end [] h = refl
gap_end (b ∷ t) h = rw (is_true (parts (class b)) h)

lex_word : (w : List ℕ) (k : Kind) (t : List ℕ) → kind_of w ≡ some k → Parted t → T (all plain_byte w)
    → lex base (w ++ t) ≡ with_token (word k w) (lex base t)
unfolding lex kind_of
lex_word [] k t e p h = absurd (none-ne-some k e)
lex_word (b ∷ w) k t e p h =
    rw (is_plain_lem (class b) (all_head plain_byte b w h))
    (word_run (b ∷ []) w t (all_tail plain_byte b w h) ∙ word_end (b ∷ w) t k e p)

lex_token : {w : List ℕ} {k : Token} → Spells w k → (t : List ℕ) → Parted t → lex base (w ++ t) ≡ with_token k (lex base t)
unfolding lex with_token class
lex_token (as_word k w h) t p = lex_word w k t (kind_of_lem k w h) p (kind_plain k w h)
lex_token (as_string s h) t p =
    ap (lex (in_string [])) (append_assoc (doubled s) (34 ∷ []) t) ∙ string_run [] s (34 ∷ t) h ∙ string_end s t p
lex_token (as_quoted s h) t p =
    ap (lex (in_quoted [])) (append_assoc s (124 ∷ []) t) ∙ quoted_run [] s (124 ∷ t) h ∙ ap (with_token (quoted s)) (gap_end t p)

complete : {text : List ℕ} {is : List Item} → Lexes text is → lex base text ≡ (true, is)
unfolding lex with_token
complete done = refl
complete (skip e r) = rw e (complete r)
complete (comment c {t} e h f r) = rw e (comment_run c t h f ∙ complete r)
complete (opens e r) = rw e (ap (λ (x : Bool × List Item). (x.0, opening ∷ x.1)) (complete r))
complete (closes e r) = rw e (ap (λ (x : Bool × List Item). (x.0, closing ∷ x.1)) (complete r))
complete (spells {k} {t} s p r) = lex_token s t p ∙ ap (with_token k) (complete r)

-- A text has at most one list of items.
pub unique_items : {text : List ℕ} {is js : List Item} → Lexes text is → Lexes text js → is ≡ js
unique_items r s = ap (λ (x : Bool × List Item). x.1) (sym (complete r) ∙ complete s)

-- SOUND

-- What the lexer has found from a mode on, with the bytes that it has yet to turn into a token in front.
Sound : Mode → List ℕ → Type 0
unfolding lex
Sound base t = T (lex base t).0 → Lexes t (lex base t).1
Sound in_comment t = T (lex in_comment t).0 → (b : ℕ) (c : List ℕ) → class b ≡ semicolon → T (all no_line_feed c)
    → Lexes (b ∷ c ++ t) (lex in_comment t).1
Sound gap t = T (lex gap t).0 → Parted t × Lexes t (lex gap t).1
Sound (in_word a) t = T (lex (in_word a) t).0 → Lexes (a ++ t) (lex (in_word a) t).1
Sound (in_string a) t = T (lex (in_string a) t).0 → T (all string_byte a) → Lexes (34 ∷ doubled a ++ t) (lex (in_string a) t).1
Sound (after_string a) t = T (lex (after_string a) t).0 → T (all string_byte a)
    → Lexes (34 ∷ doubled a ++ (34 ∷ t)) (lex (after_string a) t).1
Sound (in_quoted a) t = T (lex (in_quoted a) t).0 → T (all quoted_byte a) → Lexes (124 ∷ a ++ t) (lex (in_quoted a) t).1

spells_word : (a t : List ℕ) {is : List Item} → T (is_some (kind_of a)) → Parted t → Lexes t is → Lexes (a ++ t) (token (word_of a) ∷ is)
unfolding word_of
spells_word a t h p r = spells (as_word (kind_or symbol (kind_of a)) a (of_kind a h)) p r

pub doubled_append : (a t : List ℕ) → doubled (a ++ t) ≡ doubled a ++ doubled t
doubled_append [] t = refl
doubled_append (x ∷ a) t =
    ap (λ (l : List ℕ). cond (eqb x 34) (x ∷ []) [] ++ (x ∷ l)) (doubled_append a t)
    ∙ sym (append_assoc (cond (eqb x 34) (x ∷ []) []) (x ∷ doubled a) (doubled t))

doubled_snoc : (a : List ℕ) (b : ℕ) (t : List ℕ) → doubled (a ++ (b ∷ [])) ++ t ≡ doubled a ++ (cond (eqb b 34) (b ∷ []) [] ++ (b ∷ t))
doubled_snoc a b t =
    ap (λ (l : List ℕ). l ++ t) (doubled_append a (b ∷ []))
    ∙ append_assoc (doubled a) (doubled (b ∷ [])) t
    ∙ ap (λ (l : List ℕ). doubled a ++ l) (append_assoc (cond (eqb b 34) (b ∷ []) []) (b ∷ []) t)

spells_string : (a t : List ℕ) {is : List Item} → T (all string_byte a) → Parted t → Lexes t is
    → Lexes (34 ∷ doubled a ++ (34 ∷ t)) (token (string a) ∷ is)
spells_string a t h p r = rw append_assoc at (spells (as_string a h) p r)

spells_quoted : (a t : List ℕ) {is : List Item} → T (all quoted_byte a) → Parted t → Lexes t is
    → Lexes (124 ∷ a ++ (124 ∷ t)) (token (quoted a) ∷ is)
spells_quoted a t h p r = rw append_assoc at (spells (as_quoted a h) p r)

begun : (b : ℕ) (t : List ℕ) → ((m : Mode) → Sound m t) → Sound base (b ∷ t)
unfolding Sound
begun b t ih = go (class b) refl
  where
    go : (c : Class) → class b ≡ c → T (lex (begins c b) t).0 → Lexes (b ∷ t) (gives c ++ (lex (begins c b) t).1)
    go blank e v = skip e (ih base v)
    go semicolon e v = ih in_comment v b [] e tt
    go left_paren e v = opens e (ih base v)
    go right_paren e v = closes e (ih base v)
    go quote e v = subst⁻¹ (λ (x : ℕ). Lexes (x ∷ t) (lex (in_string []) t).1) (class_says b e) (ih (in_string []) v tt)
    go bar e v = subst⁻¹ (λ (x : ℕ). Lexes (x ∷ t) (lex (in_quoted []) t).1) (class_says b e) (ih (in_quoted []) v tt)
    go plain e v = ih (in_word (b ∷ [])) v

sound : (t : List ℕ) (m : Mode) → Sound m t
unfolding Sound
sound [] base = λ v. done
sound [] in_comment = λ v b c e h. comment c e h tt done
sound [] gap = λ v. (tt, done)
sound [] (in_word a) = λ v. spells_word a [] v tt done
sound [] (in_string a) = λ v h. absurd v
sound [] (after_string a) = λ v h. spells_string a [] h tt done
sound [] (in_quoted a) = λ v h. absurd v
sound (b ∷ t) base = begun b t (sound t)
sound (b ∷ t) in_comment = go (eqb b 10) refl (sound t base) (sound t in_comment)
  where
    go : (i : Bool) → eqb b 10 ≡ i → Sound base t → Sound in_comment t → T (lex (cond i base in_comment) t).0
        → (x : ℕ) (c : List ℕ) → class x ≡ semicolon → T (all no_line_feed c) → Lexes (x ∷ c ++ (b ∷ t)) (lex (cond i base in_comment) t).1
    go true i f g v x c e h = let k : T (eqb b 10) = true_holds i in comment c e h k (skip (line_feed_blank b k) (f v))
    go false i f g v x c e h = rw append_assoc at (g v x (c ++ (b ∷ [])) e (all_snoc no_line_feed c b h (false_fails i)))
sound (b ∷ t) gap = λ v. (and_left (parts (class b)) _ v, begun b t (sound t) (and_right (parts (class b)) _ v))
sound (b ∷ t) (in_word a) = go (is_plain (class b)) (sound t (in_word (a ++ (b ∷ [])))) (begun b t (sound t))
  where
    go : (i : Bool) → Sound (in_word (a ++ (b ∷ []))) t → Sound base (b ∷ t)
        → T ((i || (parts (class b) && is_some (kind_of a))) && (lex (cond i (in_word (a ++ (b ∷ []))) (begins (class b) b)) t).0)
        → Lexes (a ++ (b ∷ t)) (cond i [] (token (word_of a) ∷ gives (class b)) ++ (lex (cond i (in_word (a ++ (b ∷ []))) (begins (class b) b)) t).1)
    go true f g v = rw append_assoc at (f v)
    go false f g v =
        let p = and_left (parts (class b) && is_some (kind_of a)) _ v in
        spells_word a (b ∷ t) (and_right (parts (class b)) _ p) (and_left (parts (class b)) _ p)
        (g (and_right (parts (class b) && is_some (kind_of a)) _ v))
sound (b ∷ t) (in_string a) = go (eqb b 34) refl (sound t (after_string a)) (sound t (in_string (a ++ (b ∷ []))))
  where
    go : (i : Bool) → eqb b 34 ≡ i → Sound (after_string a) t → Sound (in_string (a ++ (b ∷ []))) t
        → T (string_byte b && (lex (cond i (after_string a) (in_string (a ++ (b ∷ [])))) t).0) → T (all string_byte a)
        → Lexes (34 ∷ doubled a ++ (b ∷ t)) (lex (cond i (after_string a) (in_string (a ++ (b ∷ [])))) t).1
    go true i f g v h =
        subst⁻¹ (λ (x : ℕ). Lexes (34 ∷ doubled a ++ (x ∷ t)) (lex (after_string a) t).1) (eqb→eq b 34 (true_holds i))
        (f (and_right (string_byte b) _ v) h)
    go false i f g v h =
        rw (doubled_snoc a b t, i) at (g (and_right (string_byte b) _ v) (all_snoc string_byte a b h (and_left (string_byte b) _ v)))
sound (b ∷ t) (after_string a) = go (eqb b 34) refl (sound t (in_string (a ++ (b ∷ [])))) (begun b t (sound t))
  where
    go : (i : Bool) → eqb b 34 ≡ i → Sound (in_string (a ++ (b ∷ []))) t → Sound base (b ∷ t)
        → T ((i || parts (class b)) && (lex (cond i (in_string (a ++ (b ∷ []))) (begins (class b) b)) t).0) → T (all string_byte a)
        → Lexes (34 ∷ doubled a ++ (34 ∷ b ∷ t)) (cond i [] (token (string a) ∷ gives (class b)) ++ (lex (cond i (in_string (a ++ (b ∷ []))) (begins (class b) b)) t).1)
    go true i f g v h =
        let q : b ≡ 34 = eqb→eq b 34 (true_holds i) in
        subst (λ (x : ℕ). Lexes (34 ∷ doubled a ++ (x ∷ b ∷ t)) (lex (in_string (a ++ (b ∷ []))) t).1) q
        (rw (doubled_snoc a b t, i) at (f v (all_snoc string_byte a b h (subst⁻¹ (λ (x : ℕ). T (string_byte x)) q tt))))
    go false i f g v h = spells_string a (b ∷ t) h (and_left (parts (class b)) _ v) (g (and_right (parts (class b)) _ v))
sound (b ∷ t) (in_quoted a) = go (eqb b 124) refl (sound t gap) (sound t (in_quoted (a ++ (b ∷ []))))
  where
    go : (i : Bool) → eqb b 124 ≡ i → Sound gap t → Sound (in_quoted (a ++ (b ∷ []))) t
        → T ((i || quoted_byte b) && (lex (cond i gap (in_quoted (a ++ (b ∷ [])))) t).0) → T (all quoted_byte a)
        → Lexes (124 ∷ a ++ (b ∷ t)) (cond i (token (quoted a) ∷ []) [] ++ (lex (cond i gap (in_quoted (a ++ (b ∷ [])))) t).1)
    go true i f g v h =
        subst⁻¹ (λ (x : ℕ). Lexes (124 ∷ a ++ (x ∷ t)) (token (quoted a) ∷ (lex gap t).1)) (eqb→eq b 124 (true_holds i))
        (spells_quoted a t h (f v).0 (f v).1)
    go false i f g v h = rw append_assoc at (g (and_right (quoted_byte b) _ v) (all_snoc quoted_byte a b h (and_left (quoted_byte b) _ v)))

-- the lexer's answer for a whole text
unfoldable pub lexed : List ℕ → Bool × List Item
unfolding lex
lexed t = lex base t

pub lexed_sound : (t : List ℕ) → T (lexed t).0 → Lexes t (lexed t).1
unfolding Sound lexed
lexed_sound t = sound t base

pub lexed_complete : {t : List ℕ} {is : List Item} → Lexes t is → lexed t ≡ (true, is)
unfolding lexed
lexed_complete r = complete r
