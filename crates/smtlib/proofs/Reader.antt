-- A reader that computes: `read` gives the commands of a text if it has a reading (`read_complete`), and only then (`read_sound`).
use mathlib.Core.Path.{◌≡◌, refl, sym, ap, ◌∙◌, subst}
use mathlib.Core.Bool.{Bool, true, false, cond}
use mathlib.Core.Option.{Option, none, some, none-ne-some}
use mathlib.Core.List.{List, [], ◌∷◌}
use Prim.Native.Nat.{ℕ}
use Rattle.smtlib.specs.Read.{Item, opening, closing, token, Lexes, Sexps, end, atom, list, items, Command, script, Reading}
use Rattle.smtlib.specs.Compose.{append}
use Rattle.smtlib.proofs.Bools.{true_holds}
use Rattle.smtlib.proofs.Lexer.{lexed, lexed_sound, lexed_complete}

-- Items are read from the right: a row for each list that is open there, the innermost first. No row at all is a failure.
put : Item → List Sexps → List Sexps
put i [] = []
put (token k) (x ∷ s) = atom k x ∷ s
put closing (x ∷ s) = end ∷ x ∷ s
put opening (x ∷ []) = []
put opening (x ∷ y ∷ s) = list x y ∷ s

build : List Item → List Sexps
unfolding put
build [] = end ∷ []
build (i ∷ is) = put i (build is)

more : Command → Option (List Command) → Option (List Command)
more c none = none
more c (some cs) = some (c ∷ cs)

-- a row of lists is commands
commands : Sexps → Option (List Command)
unfolding more
commands end = some []
commands (atom k xs) = none
commands (list c xs) = more c (commands xs)

top : List Sexps → Option (List Command)
unfolding commands
top [] = none
top (x ∷ []) = commands x
top (x ∷ y ∷ s) = none

unfoldable pub read : List ℕ → Option (List Command)
unfolding lexed build top
read t = cond (lexed t).0 (top (build (lexed t).1)) none

-- SOUND

rows : List Sexps → List Item
rows [] = []
rows (x ∷ []) = items x []
rows (x ∷ y ∷ s) = items x (closing ∷ rows (y ∷ s))

rows_put : (i : Item) (s : List Sexps) → (put i s ≡ [] → ⊥) → rows (put i s) ≡ i ∷ rows s
unfolding put rows
rows_put i [] h = absurd (h refl)
rows_put (token k) (x ∷ []) h = refl
rows_put (token k) (x ∷ y ∷ s) h = refl
rows_put closing (x ∷ s) h = refl
rows_put opening (x ∷ []) h = absurd (h refl)
rows_put opening (x ∷ y ∷ []) h = refl
rows_put opening (x ∷ y ∷ z ∷ s) h = refl

build_sound : (is : List Item) → (build is ≡ [] → ⊥) → rows (build is) ≡ is
unfolding build rows
build_sound [] h = refl
build_sound (i ∷ is) h = rows_put i (build is) h ∙ ap (λ (l : List Item). i ∷ l) (build_sound is (λ e. h (ap (put i) e)))

commands_sound : (x : Sexps) (cs : List Command) → commands x ≡ some cs → items x [] ≡ script cs
unfolding commands
commands_sound end cs e = let f : [] ≡ cs = cc in ap script f
commands_sound (atom k xs) cs e = absurd (none-ne-some cs e)
commands_sound (list c xs) cs e = go (commands xs) e (commands_sound xs)
  where
    go : (o : Option (List Command)) → more c o ≡ some cs → ((ds : List Command) → o ≡ some ds → items xs [] ≡ script ds)
        → items (list c xs) [] ≡ script cs
    go none g f = absurd (none-ne-some cs g)
    go (some ds) g f =
        let q : c ∷ ds ≡ cs = cc in
        ap (λ (l : List Item). opening ∷ items c (closing ∷ l)) (f ds refl) ∙ ap script q

top_sound : (s : List Sexps) (cs : List Command) → top s ≡ some cs → rows s ≡ script cs
unfolding top rows
top_sound [] cs e = absurd (none-ne-some cs e)
top_sound (x ∷ []) cs e = commands_sound x cs e
top_sound (x ∷ y ∷ s) cs e = absurd (none-ne-some cs e)

pub read_sound : (t : List ℕ) (cs : List Command) → read t ≡ some cs → Reading t cs
unfolding read
read_sound t cs e = go (lexed t).0 refl e
  where
    go : (v : Bool) → (lexed t).0 ≡ v → cond v (top (build (lexed t).1)) none ≡ some cs → Reading t cs
    go false i g = absurd (none-ne-some cs g)
    go true i g =
        let h : build (lexed t).1 ≡ [] → ⊥ = λ z. none-ne-some cs (sym (ap top z) ∙ g) in
        let q : (lexed t).1 ≡ script cs = sym (build_sound (lexed t).1 h) ∙ top_sound (build (lexed t).1) cs g in
        record { reads = subst (Lexes t) q (lexed_sound t (true_holds i)) }

-- COMPLETE

append_end : (xs : Sexps) → append xs end ≡ xs
append_end end = refl
append_end (atom k xs) = ap (atom k) (append_end xs)
append_end (list us xs) = ap (list us) (append_end xs)

build_items : (xs y : Sexps) (s : List Sexps) (r : List Item) → build r ≡ y ∷ s → build (items xs r) ≡ append xs y ∷ s
unfolding build
build_items end y s r e = e
build_items (atom k xs) y s r e = ap (put (token k)) (build_items xs y s r e)
build_items (list us xs) y s r e =
    ap (put opening) (build_items us end (append xs y ∷ s) (closing ∷ items xs r) (ap (put closing) (build_items xs y s r e)))
    ∙ ap (λ (x : Sexps). list x (append xs y) ∷ s) (append_end us)

row : List Command → Sexps
row [] = end
row (c ∷ cs) = list c (row cs)

build_script : (cs : List Command) → build (script cs) ≡ row cs ∷ []
unfolding build row
build_script [] = refl
build_script (c ∷ cs) =
    ap (put opening) (build_items c end (row cs ∷ []) (closing ∷ script cs) (ap (put closing) (build_script cs)))
    ∙ ap (λ (x : Sexps). list x (row cs) ∷ []) (append_end c)

commands_row : (cs : List Command) → commands (row cs) ≡ some cs
unfolding commands row
commands_row [] = refl
commands_row (c ∷ cs) = ap (more c) (commands_row cs)

pub read_complete : {t : List ℕ} {cs : List Command} → Reading t cs → read t ≡ some cs
unfolding read
read_complete {t} {cs} r =
    ap (λ (x : Bool × List Item). cond x.0 (top (build x.1)) none) (lexed_complete r.reads)
    ∙ ap top (build_script cs) ∙ commands_row cs

-- A text that the reader does not take has no reading.
pub unread : (t : List ℕ) → read t ≡ none → (cs : List Command) → Reading t cs → ⊥
unread t e cs r = none-ne-some cs (sym e ∙ read_complete r)
