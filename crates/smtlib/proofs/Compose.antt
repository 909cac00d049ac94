-- The parts of a writer's text: `composition` and `string_spells`.
use mathlib.Core.Path.{◌≡◌, refl, ap, subst}
use mathlib.Core.List.{List, [], ◌∷◌, ◌++◌, append_assoc, append-nil}
use Prim.Native.Nat.{ℕ}
use lib.Dec.{T, eqb, eqb→eq, not_T}
use Rattle.smtlib.specs.Lexicon.{class, visible, string_byte}
use Rattle.smtlib.specs.Read.{as_string, Item, closing, token, opening, no_line_feed, done, skip, comment, opens, closes, spells, Sexps, end, atom, list, items, script}
use Rattle.smtlib.specs.Compose.{append}
use Rattle.smtlib.specs.Theorems.{Composition, StringSpells}
use Rattle.smtlib.proofs.Bools.{is_true, all_map}

items_append : (xs ys : Sexps) (r : List Item) → items (append xs ys) r ≡ items xs (items ys r)
items_append end ys r = refl
items_append (atom k xs) ys r = ap (λ (l : List Item). token k ∷ l) (items_append xs ys r)
items_append (list us xs) ys r = ap (λ (l : List Item). opening ∷ items us (closing ∷ l)) (items_append xs ys r)

-- a printable byte is no line feed, and may stand in a string
visible_no_break : (b : ℕ) → T (visible b) → T (no_line_feed b)
visible_no_break b h = not_T (eqb b 10) (λ e. subst (λ (n : ℕ). T (visible n)) (eqb→eq b 10 e) h)

visible_string : (b : ℕ) → T (visible b) → T (string_byte b)
visible_string b h = rw (is_true (visible b) h) tt

pub composition : Composition
unfolding class
composition = record {
  says_token = λ s. record { says = λ t is p r. spells s p r };
  says_nothing = record { says = λ t is p r. r };
  says_list = λ {w} a. record
      { says = λ t is p r. rw (append_assoc w (41 ∷ []) t) (opens refl (a.says (41 ∷ t) (closing ∷ is) tt (closes refl r))) };
  says_row = λ {u} {v} {xs} {ys} a b. record {
    says = λ t is p r. rw (append_assoc u v t, items_append xs ys is) (a.says (v ++ t) (items ys is) (b.parted t p) (b.follows t is p r));
  };
  follows_nothing = record { parted = λ t p. p; follows = λ t is p r. r };
  follows_spaced = λ {u} {v} {xs} {ys} a b. record {
    parted = λ t p. tt;
    follows = λ t is p r. rw (append_assoc u v t, items_append xs ys is)
        (skip refl (a.says (v ++ t) (items ys is) (b.parted t p) (b.follows t is p r)));
  };
  follows_list = λ {u} {v} {xs} {ys} a b. record {
    parted = λ t p. tt;
    follows = λ t is p r. simp append_assoc
        (opens refl (a.says (41 ∷ (v ++ t)) (closing ∷ items ys is) tt (closes refl (b.follows t is p r))));
  };
  writes_nothing = record { writes = λ t ds r. r };
  writes_more = λ {u} {v} {cs} {ds} a b. record
      { writes = λ t es r. rw (append_assoc u v t, append_assoc cs ds es) (a.writes (v ++ t) (ds ++ es) (b.writes t es r)) };
  writes_command = λ {w} {xs} a. record {
    writes = λ t ds r. record {
      reads = simp append_assoc
          (opens refl (a.says (41 ∷ 10 ∷ t) (closing ∷ script ds) tt (closes refl (skip refl r.reads))));
    };
  };
  writes_blank = record { writes = λ t ds r. record { reads = skip refl r.reads } };
  writes_comment = λ c h. record {
    writes = λ t ds r. record {
      reads = rw (append_assoc c (10 ∷ []) t)
          (comment c refl (all_map visible no_line_feed visible_no_break c h) tt (skip refl r.reads));
    };
  };
  written_read = λ {w} {cs} a. rw (append-nil w, append-nil cs) at (a.writes [] [] (record { reads = done }));
}

pub string_spells : StringSpells
string_spells s h = as_string s (all_map visible string_byte visible_string s h)
