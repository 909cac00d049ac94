-- Items and commands: the items say what the commands are, and a prefix of them that leaves no parenthesis open is the first commands.
use mathlib.Core.Path.{◌≡◌, refl, ap, ap₂, ◌∙◌}
use mathlib.Core.Logic.{◌⊎◌, inl, inr}
use mathlib.Core.List.{List, [], ◌∷◌}
use Prim.Native.Nat.{ℕ, zero, suc, ◌+◌, ◌≤◌, ◌<◌}
use native.Mathlib.Omega.{arith}
use lib.ListN.{length, take}
use Rattle.smtlib.specs.Read.{Item, opening, closing, token, Sexps, end, atom, list, items, Command, script}
use Rattle.smtlib.specs.Lexicon.{left_paren, right_paren}
use Rattle.smtlib.specs.Cut.{Scan, meet, depth, commands}
use Rattle.smtlib.proofs.Bools.{clash}

-- THE ITEMS SAY WHAT THE COMMANDS ARE

-- `closing` ends a row, so the items say where it ends
items_injective : (xs ys : Sexps) (r s : List Item) → items xs (closing ∷ r) ≡ items ys (closing ∷ s) → (xs ≡ ys) × (r ≡ s)
items_injective end end r s e = (refl, cc)
items_injective end (atom k ys) r s e = clash (cc)
items_injective end (list zs ys) r s e = clash (cc)
items_injective (atom k xs) end r s e = clash (cc)
items_injective (atom k xs) (atom j ys) r s e =
    let p : items xs (closing ∷ r) ≡ items ys (closing ∷ s) = cc in
    let q : k ≡ j = cc in
    let h = items_injective xs ys r s p in
    (ap₂ atom q h.0, h.1)
items_injective (atom k xs) (list zs ys) r s e = clash (cc)
items_injective (list us xs) end r s e = clash (cc)
items_injective (list us xs) (atom k ys) r s e = clash (cc)
items_injective (list us xs) (list zs ys) r s e =
    let p : items us (closing ∷ items xs (closing ∷ r)) ≡ items zs (closing ∷ items ys (closing ∷ s)) = cc in
    let h = items_injective us zs (items xs (closing ∷ r)) (items ys (closing ∷ s)) p in
    let g = items_injective xs ys r s h.1 in
    (ap₂ list h.0 g.0, g.1)

pub script_injective : (cs ds : List Command) → script cs ≡ script ds → cs ≡ ds
script_injective [] [] e = refl
script_injective [] (d ∷ ds) e = clash (cc)
script_injective (c ∷ cs) [] e = clash (cc)
script_injective (c ∷ cs) (d ∷ ds) e =
    let p : items c (closing ∷ script cs) ≡ items d (closing ∷ script ds) = cc in
    let h = items_injective c d (script cs) (script ds) p in
    ap₂ {C = List Command} (λ (x : Command) (xs : List Command). x ∷ xs) h.0 (script_injective cs ds h.1)

-- LEVELS

-- how many parentheses are open, and how many commands have closed
pub record Level : Type 0 where
  pub depth : ℕ
  pub commands : ℕ

abbrev pub lev : ℕ → ℕ → Level
lev d n = record { depth = d; commands = n }

-- the level of a scan, and behind a parenthesis as the scan counts it
abbrev pub level : Scan → Level
level s = lev (depth s) (commands s)

abbrev pub down : Level → Level
down l = level (meet left_paren l.depth l.commands)

abbrev pub up : Level → Level
up l = level (meet right_paren l.depth l.commands)

-- the level behind an item, and behind several
abbrev pub past : Item → Level → Level
past opening l = down l
past closing l = up l
past (token k) l = l

abbrev pub pasts : Level → List Item → Level
pasts l [] = l
pasts l (i ∷ is) = pasts (past i l) is

-- a row leaves the level as it was, and a script's commands are counted
pasts_items : (xs : Sexps) (d n : ℕ) (r : List Item) → pasts (lev (suc d) n) (items xs r) ≡ pasts (lev (suc d) n) r
pasts_items end d n r = refl
pasts_items (atom k xs) d n r = pasts_items xs d n r
pasts_items (list us xs) d n r = pasts_items us (suc d) n (closing ∷ items xs r) ∙ pasts_items xs d n r

pub pasts_script : (cs : List Command) (n : ℕ) → pasts (lev zero n) (script cs) ≡ lev zero (n + length cs)
pasts_script [] n = ap (lev zero) (omega arith)
pasts_script (c ∷ cs) n = pasts_items c zero n (closing ∷ script cs) ∙ pasts_script cs (suc n) ∙ ap (lev zero) (omega arith)

-- tokens stand inside commands
abbrev pub Inner : Item → Level → Type 0
Inner opening l = Unit
Inner closing l = Unit
Inner (token k) l = zero < l.depth

abbrev pub Nested : Level → List Item → Type 0
Nested l [] = Unit
Nested l (i ∷ is) = Inner i l × Nested (past i l) is

nested_items : (xs : Sexps) (d n : ℕ) (r : List Item) → Nested (lev (suc d) n) r → Nested (lev (suc d) n) (items xs r)
nested_items end d n r h = h
nested_items (atom k xs) d n r h = (omega arith, nested_items xs d n r h)
nested_items (list us xs) d n r h = (tt, nested_items us (suc d) n (closing ∷ items xs r) (tt, nested_items xs d n r h))

pub nested_script : (cs : List Command) (n : ℕ) → Nested (lev zero n) (script cs)
nested_script [] n = tt
nested_script (c ∷ cs) n = (tt, nested_items c zero n (closing ∷ script cs) (tt, nested_script cs (suc n)))

-- PREFIXES

-- a prefix of a row's items stays inside the row, or goes past its end
Within : Sexps → List Item → ℕ → ℕ → ℕ → Type 0
Within xs r j d n = suc d ≤ (pasts (lev (suc d) n) (take j (items xs r))).depth

Beyond : Sexps → List Item → ℕ → Type 0
Beyond xs r j = (i : ℕ) × (take j (items xs r) ≡ items xs (take i r))

cut_items : (xs : Sexps) (d n : ℕ) (r : List Item) (j : ℕ) → Within xs r j d n ⊎ Beyond xs r j
unfolding Beyond Within
cut_items end d n r j = inr (j, refl)
cut_items (atom k xs) d n r zero = inl (omega arith)
cut_items (atom k xs) d n r (suc j) = go (cut_items xs d n r j)
  where
    go : Within xs r j d n ⊎ Beyond xs r j → Within (atom k xs) r (suc j) d n ⊎ Beyond (atom k xs) r (suc j)
    go (inl h) = inl h
    go (inr p) = inr (p.0, ap (λ (l : List Item). token k ∷ l) p.1)
cut_items (list us xs) d n r zero = inl (omega arith)
cut_items (list us xs) d n r (suc j) = go (cut_items us (suc d) n (closing ∷ items xs r) j) (λ i. cut_items xs d n r i)
  where
    inner : (i : ℕ) → take j (items us (closing ∷ items xs r)) ≡ items us (take i (closing ∷ items xs r))
        → ((i : ℕ) → Within xs r i d n ⊎ Beyond xs r i) → Within (list us xs) r (suc j) d n ⊎ Beyond (list us xs) r (suc j)
    inner zero e f = inl (rw (e, pasts_items us (suc d) n []) (omega arith))
    inner (suc i) e f = last (f i)
      where
        last : Within xs r i d n ⊎ Beyond xs r i → Within (list us xs) r (suc j) d n ⊎ Beyond (list us xs) r (suc j)
        last (inl h) = inl (rw (e, pasts_items us (suc d) n (closing ∷ take i (items xs r))) h)
        last (inr p) = inr (p.0, ap (λ (l : List Item). opening ∷ l) (e ∙ ap (λ (l : List Item). items us (closing ∷ l)) p.1))

    go : Within us (closing ∷ items xs r) j (suc d) n ⊎ Beyond us (closing ∷ items xs r) j
        → ((i : ℕ) → Within xs r i d n ⊎ Beyond xs r i) → Within (list us xs) r (suc j) d n ⊎ Beyond (list us xs) r (suc j)
    go (inl h) f = inl (omega (arith, h))
    go (inr p) f = inner p.0 p.1 f

-- the first j items are those of the first m commands, and the level counts these
unfoldable pub First : List Command → ℕ → ℕ → Type 0
First cs n j = (m : ℕ) × (take j (script cs) ≡ script (take m cs)) × ((pasts (lev zero n) (take j (script cs))).commands ≡ n + m)

pub cut_script : (cs : List Command) (n j : ℕ) → (pasts (lev zero n) (take j (script cs))).depth ≡ zero → First cs n j
unfolding First Beyond Within
cut_script [] n zero h = (zero, refl, omega arith)
cut_script [] n (suc j) h = (zero, refl, omega arith)
cut_script (c ∷ cs) n zero h = (zero, refl, omega arith)
cut_script (c ∷ cs) n (suc j) h = go (cut_items c zero n (closing ∷ script cs) j) (λ i. cut_script cs (suc n) i)
  where
    inner : (i : ℕ) → take j (items c (closing ∷ script cs)) ≡ items c (take i (closing ∷ script cs))
        → ((i : ℕ) → (pasts (lev zero (suc n)) (take i (script cs))).depth ≡ zero → First cs (suc n) i) → First (c ∷ cs) n (suc j)
    inner zero e f = clash (omega (arith, rw (e, pasts_items c zero n []) at h))
    inner (suc i) e f =
        let g : First cs (suc n) i = f i (rw (e, pasts_items c zero n (closing ∷ take i (script cs))) at h) in (
          suc g.0,
          ap (λ (l : List Item). opening ∷ l) (e ∙ ap (λ (l : List Item). items c (closing ∷ l)) g.1),
          rw (e, pasts_items c zero n (closing ∷ take i (script cs))) (g.2 ∙ omega arith),
        )

    go : Within c (closing ∷ script cs) j zero n ⊎ Beyond c (closing ∷ script cs) j
        → ((i : ℕ) → (pasts (lev zero (suc n)) (take i (script cs))).depth ≡ zero → First cs (suc n) i) → First (c ∷ cs) n (suc j)
    go (inl g) f = clash (omega (arith, g, h))
    go (inr p) f = inner p.0 p.1 f
