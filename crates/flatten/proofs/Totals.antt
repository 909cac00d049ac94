-- What the parts of a row add up to when they are put one by one: those before the range and behind it are counted, those in it are written one
-- behind the other, and their lengths go into the first places of the table.
use mathlib.Core.Path.{◌≡◌, sym, ap, ◌∙◌}
use mathlib.Core.Bool.{Bool, true, false, cond}
use mathlib.Core.List.{List, [], ◌∷◌, ◌++◌, map}
use Prim.Native.Nat.{ℕ, suc, ◌+◌, ◌-◌, ◌<◌, ◌≤◌, min, max}
use native.Mathlib.Omega.{arith}
use lib.ListN.{length, take, drop, set, length-append, length-take, length-drop, take-append-drop}
use lib.Seq.{sets}
use borrow.Author.Tests.{le-leb, lt-leb, lt-ltb, le-ltb}
use Rattle.horn_text.specs.Script.{join, longest}
use Rattle.output.specs.Emit.{most}
use Rattle.flatten.specs.declared.Range.{Range}
use Rattle.flatten.specs.Parts.{Writing, most32, has, place, pass, put, puts}
use Rattle.flatten.proofs.Lending.{puts_append}

-- a text stored behind another
sets_append : (u v b : List ℕ) (n : ℕ) → sets b n (u ++ v) ≡ sets (sets b n u) (n + length u) v
sets_append [] v b n = let e : n + 0 ≡ n = omega arith in rw e
sets_append (a ∷ u) v b n =
    let e : n + suc (length u) ≡ suc n + length u = omega arith in
    rw e (sets_append u v (set b n a) (suc n))

-- a part is put or passed over by whether its number is in the range
one_put : (w : Writing) (t : List ℕ) (x : Bool) → has w.range w.seen ≡ x → put w t ≡ cond x (place w t) (pass w)
unfolding put
one_put w t x h = rw h

-- PARTS OUTSIDE THE RANGE

-- what there is once k parts more were met
abbrev over : Writing → ℕ → Writing
over w k = record { range = w.range; seen = w.seen + k; len = w.len; longest = w.longest; buf = w.buf; lengths = w.lengths }

-- they are counted
puts_over : (ts : List (List ℕ)) (w : Writing) → w.seen + length ts ≤ most → ((k : ℕ) → w.seen ≤ k → k < w.seen + length ts → has w.range k ≡ false) → puts w ts ≡ over w (length ts)
unfolding puts pass
puts_over [] w h g = let s : w.seen + 0 ≡ w.seen = omega arith in rw s
puts_over (t ∷ ts) w h g =
    let s : min (w.seen + 1) most + length ts ≡ w.seen + suc (length ts) = omega arith in
    ap (λ (v : Writing). puts v ts) (one_put w t false (g w.seen (omega arith) (omega arith)))
    ∙ puts_over ts (pass w) (omega arith) (λ k a b. g k (omega arith) (omega arith))
    ∙ rw s

-- PARTS IN THE RANGE

-- what there is once those of a row were written, their lengths from a place of the table on
abbrev after : Writing → ℕ → List (List ℕ) → Writing
after w i cs = record {
  range = w.range;
  seen = w.seen + length cs;
  len = w.len + length (join cs);
  longest = max w.longest (longest cs);
  buf = sets w.buf w.len (join cs);
  lengths = sets w.lengths i (map length cs);
}

-- a part, and then those of a row
next_after : (w : Writing) (t : List ℕ) (cs : List (List ℕ)) → w.seen < most → w.len + length (t ++ join cs) ≤ most → length t ≤ most32
    → after (place w t) (suc (w.seen - w.range.from)) cs ≡ after w (w.seen - w.range.from) (t ∷ cs)
unfolding place
next_after w t cs h g m =
    let l : length (t ++ join cs) ≡ length t + length (join cs) = length-append t (join cs) in
    let e : min (length t) most ≡ length t = omega arith in
    let e32 : min (length t) most32 ≡ length t = omega arith in
    let f : min (w.len + length t) most ≡ w.len + length t = omega arith in
    let s : min (w.seen + 1) most + length cs ≡ w.seen + suc (length cs) = omega arith in
    let n : w.len + (length t + length (join cs)) ≡ w.len + length t + length (join cs) = omega arith in
    let x : max (max w.longest (length t)) (longest cs) ≡ max w.longest (max (length t) (longest cs)) = omega arith in
    rw (e, e32, f, s, l, n, x, sets_append t (join cs) w.buf w.len)

-- they are written
puts_after : (ts : List (List ℕ)) (w : Writing) → w.range.from ≤ w.seen → w.seen + length ts ≤ w.range.to → w.seen + length ts ≤ most → w.len + length (join ts) ≤ most → longest ts ≤ most32
    → puts w ts ≡ after w (w.seen - w.range.from) ts
unfolding puts place
puts_after [] w a b h g m =
    let s : w.seen + 0 ≡ w.seen = omega arith in
    let l : w.len + 0 ≡ w.len = omega arith in
    let x : max w.longest 0 ≡ w.longest = omega arith in
    rw (s, l, x)
puts_after (t ∷ ts) w a b h g m =
    let l : length (t ++ join ts) ≡ length t + length (join ts) = length-append t (join ts) in
    let i : min (w.seen + 1) most - w.range.from ≡ suc (w.seen - w.range.from) = omega arith in
    ap (λ (v : Writing). puts v ts) (one_put w t true (rw (le-leb w.range.from w.seen a, lt-ltb w.seen w.range.to (omega arith))))
    ∙ puts_after ts (place w t) (omega arith) (omega arith) (omega arith) (omega arith) (omega arith)
    ∙ ap (λ (j : ℕ). after (place w t) j ts) i
    ∙ next_after w t ts (omega arith) (omega arith) (omega arith)

-- ALL PARTS

-- those in a range
abbrev pub ranged : Range → List (List ℕ) → List (List ℕ)
ranged r ts = take (r.to - r.from) (drop r.from ts)

-- what there is from the start once n parts were met and some were written
abbrev pub finished : Range → ℕ → List (List ℕ) → List ℕ → List ℕ → Writing
finished r n us b ls = record { range = r; seen = n; len = length (join us); longest = longest us; buf = sets b 0 (join us); lengths = sets ls 0 (map length us) }

module _ (r : Range) (h : r.from ≤ r.to) where
  before : (k : ℕ) → k < r.from → has r k ≡ false
  before k a = rw (lt-leb r.from k a)

  behind : (k : ℕ) → r.to ≤ k → has r k ≡ false
  behind k a = rw (le-leb r.from k (omega arith), le-ltb k r.to a)

  pub totals : (ts : List (List ℕ)) (b ls : List ℕ) → r.from ≤ length ts → length ts ≤ most → length (join (ranged r ts)) ≤ most → longest (ranged r ts) ≤ most32
      → puts (record { range = r; seen = 0; len = 0; longest = 0; buf = b; lengths = ls }) ts ≡ finished r (length ts) (ranged r ts) b ls
  totals ts b ls f m g x =
      let w : Writing = record { range = r; seen = 0; len = 0; longest = 0; buf = b; lengths = ls } in
      let xs = take r.from ts in
      let us = ranged r ts in
      let vs = drop (r.to - r.from) (drop r.from ts) in
      let n1 = length-take r.from ts in
      let n2 = length-drop r.from ts in
      let n3 = length-take (r.to - r.from) (drop r.from ts) in
      let n4 = length-drop (r.to - r.from) (drop r.from ts) in
      let w1 = over w (length xs) in
      let w2 = after w1 0 us in
      let i : 0 + length xs - r.from ≡ 0 = omega arith in
      let e1 : puts w xs ≡ w1 = puts_over xs w (omega arith) (λ k a c. before k (omega arith)) in
      let e2 : puts w1 us ≡ w2 = puts_after us w1 (omega arith) (omega arith) (omega arith) (omega arith) x ∙ ap (λ (j : ℕ). after w1 j us) i in
      let e3 : puts w2 vs ≡ over w2 (length vs) = puts_over vs w2 (omega arith) (λ k a c. behind k (omega arith)) in
      let s : 0 + length xs + length us + length vs ≡ length ts = omega arith in
      let l : 0 + length (join us) ≡ length (join us) = omega arith in
      let y : max 0 (longest us) ≡ longest us = omega arith in
      ap (puts w) (sym (take-append-drop r.from ts) ∙ ap (λ (zs : List (List ℕ)). xs ++ zs) (sym (take-append-drop (r.to - r.from) (drop r.from ts))))
      ∙ puts_append w xs (us ++ vs)
      ∙ ap (λ (v : Writing). puts v (us ++ vs)) e1
      ∙ puts_append w1 us vs
      ∙ ap (λ (v : Writing). puts v vs) e2
      ∙ e3
      ∙ rw (s, l, y)
