-- What the steps of a writer add up to: laws over the decoder's answers and the texts.
use mathlib.Core.Path.{◌≡◌, refl, sym, ap, ◌∙◌}
use mathlib.Core.List.{List, [], ◌∷◌}
use Prim.Native.Nat.{ℕ, zero, suc, ◌-◌}
use native.Mathlib.Omega.{arith}
use Rattle.task.specs.Decode.{Res, got, refuse, bind, Decoder, many}
use Rattle.task.proofs.Reading.{bind_got}
use Rattle.task.proofs.Running.{runs_refused, runs_end, runs_then}
use Rattle.smt_text.specs.Text.{spaced, sexp_list}
use Rattle.output.specs.Emit.{Output, emit, emits, Sends}
use Rattle.output.proofs.Sent.{emits_append}

-- what is sent of a piece, and of one behind another
module _ {A : Type 0} (text : A → List ℕ) (o o' : Output) (r : ℕ) where
  pub sends_refused : (k : ℕ) → Sends text (refuse k) o o' r
  unfolding Sends
  sends_refused = runs_refused (λ w a. emits w (text a)) o o' r

  pub sends_end : (a : A) (p : ℕ) → r ≡ p → o' ≡ emits o (text a) → Sends text (got a p) o o' r
  unfolding Sends
  sends_end = runs_end (λ w a. emits w (text a)) o o' r

  pub sends_then : {B : Type 0} (part : B → List ℕ) (x : Res B) (k : B → ℕ → Res A) (o0 o1 : Output) (q : ℕ) → Sends part x o0 o1 q
      → ((b : B) → x ≡ got b q → o1 ≡ emits o0 (part b) → Sends text (k b q) o o' r) → Sends text (bind x k) o o' r
  unfolding Sends
  sends_then part = runs_then (λ w a. emits w (text a)) o o' r (λ w b. emits w (part b))

-- a piece that is made of another
pub sends_map : {A B : Type 0} (text : A → List ℕ) (k : B → A) (x : Res B) (o o' : Output) (r : ℕ) → Sends (λ b. text (k b)) x o o' r
    → Sends text (bind x (λ b q. got (k b) q)) o o' r
sends_map text k x o o' r w = sends_then text o o' r (λ b. text (k b)) x (λ b q. got (k b) q) o o' r w (λ b e v. sends_end text o o' r (k b) r refl v)

-- PIECES IN A ROW

-- the texts of pieces in a row
pub record Row {A R : Type 0} (end : R) (more : A → R → R) (one : A → List ℕ) (all : R → List (List ℕ)) : Type 0 where
  pub none : all end ≡ []
  pub step : (a : A) (r : R) → all (more a r) ≡ one a ∷ all r

module _ {A R : Type 0} {end : R} {more : A → R → R} {one : A → List ℕ} {all : R → List (List ℕ)} (row : Row end more one all) (d : Decoder A) (s : List ℕ) where
  -- a row by its first piece
  record First (n p : ℕ) (b : R) (q : ℕ) : Type 0 where
    head : A
    next : ℕ
    tail : R
    first : d s p ≡ got head next
    later : many end more d (n - 1) s next ≡ got tail q
    made : b ≡ more head tail

  by_first : (n p : ℕ) (b : R) (q : ℕ) → (n ≡ 0 → ⊥) → many end more d n s p ≡ got b q → First n p b q
  by_first zero p b q z e = absurd (z refl)
  by_first (suc n) p b q z e =
      let i = bind_got (d s p) (λ a p1. bind (many end more d n s p1) (λ c p2. got (more a c) p2)) b q e in
      let j = bind_got (many end more d n s i.next) (λ c p2. got (more i.value c) p2) b q i.then in
      let ep : j.next ≡ q = cc in
      let en : suc n - 1 ≡ n = omega arith in
      record {
        head = i.value;
        next = i.next;
        tail = j.value;
        first = i.first;
        later = rw en (j.first ∙ ap (got j.value) ep);
        made = cc;
      }

  -- a text that has one form for no pieces and another for some
  module _ (form : List (List ℕ) → List ℕ) (n p : ℕ) where
    pub row_none : (o o' : Output) (r : ℕ) → n ≡ 0 → (r ≡ p) × (o' ≡ emits o (form [])) → Sends (λ b. form (all b)) (many end more d n s p) o o' r
    row_none o o' r z v =
        rw z (sends_end (λ b. form (all b)) o o' r end p v.0 (v.1 ∙ ap (λ (ws : List (List ℕ)). emits o (form ws)) (sym row.none)))

    -- behind a word, in parentheses
    pub row_some : (word : List ℕ) (o o1 o2 o3 o4 : Output) (q : ℕ) → ((w : List ℕ) (ws : List (List ℕ)) → form (w ∷ ws) ≡ sexp_list (word ∷ w ∷ ws)) → (n ≡ 0 → ⊥)
        → o1 ≡ emit o 40 → o2 ≡ emits o1 word → Sends (λ b. spaced (all b)) (many end more d n s p) o2 o3 q → o4 ≡ emit o3 41
        → Sends (λ b. form (all b)) (many end more d n s p) o o4 q
    unfolding Sends emits
    row_some word o o1 o2 o3 o4 q h z e1 e2 w e4 b q' e =
        let i = by_first n p b q' z e in
        let v = w b q' e in
        let et : all b ≡ one i.head ∷ all i.tail = ap all i.made ∙ row.step i.head i.tail in
        (v.0, rw (e4, v.1, e2, e1, et, h) (simp emits_append))

    -- in parentheses alone
    pub row_list : (o o1 o2 o3 o4 : Output) (q r : ℕ) → ((w : List ℕ) (ws : List (List ℕ)) → form (w ∷ ws) ≡ sexp_list (w ∷ ws)) → (n ≡ 0 → ⊥)
        → o1 ≡ emit o 40 → Sends one (d s p) o1 o2 q → Sends (λ b. spaced (all b)) (many end more d (n - 1) s q) o2 o3 r → o4 ≡ emit o3 41
        → Sends (λ b. form (all b)) (many end more d n s p) o o4 r
    unfolding Sends emits
    row_list o o1 o2 o3 o4 q r h z e1 w1 w2 e4 b q' e =
        let i = by_first n p b q' z e in
        let u = w1 i.head i.next i.first in
        let v = w2 i.tail q' (rw u.0 i.later) in
        let et : all b ≡ one i.head ∷ all i.tail = ap all i.made ∙ row.step i.head i.tail in
        (v.0, rw (e4, v.1, u.1, e1, et, h) (simp emits_append))
