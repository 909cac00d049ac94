-- What the steps of a walker add up to: laws over the decoder's answers and what is run.
use mathlib.Core.Path.{◌≡◌, refl, sym, ap, ◌∙◌}
use Prim.Native.Nat.{ℕ}
use Rattle.task.specs.Decode.{Res, got, refuse, bind}
use Rattle.task.specs.Run.{Runs}
use Rattle.task.proofs.Reading.{bind_got, got_refuse}

module _ {A W : Type 0} (run : W → A → W) (w w' : W) (r : ℕ) where
  -- what is refused asks nothing
  pub runs_refused : (k : ℕ) → Runs run (refuse k) w w' r
  runs_refused k a p e = got_refuse (sym e)

  -- a piece that ends here
  pub runs_end : (a : A) (p : ℕ) → r ≡ p → w' ≡ run w a → Runs run (got a p) w w' r
  runs_end a p u v b q e =
      let ea : a ≡ b = cc in
      (u ∙ (cc), v ∙ ap (run w) ea)

  -- what a piece leads to: where it was decoded it ended at q, and v became v'
  pub runs_then : {B U : Type 0} (part : U → B → U) (x : Res B) (k : B → ℕ → Res A) (v v' : U) (q : ℕ) → Runs part x v v' q
      → ((b : B) → x ≡ got b q → v' ≡ part v b → Runs run (k b q) w w' r) → Runs run (bind x k) w w' r
  runs_then part x k v v' q u h a p e =
      let i = bind_got x k a p e in
      let g = u i.value i.next i.first in
      h i.value (i.first ∙ ap (got i.value) (sym g.0)) g.1 a p (ap (k i.value) g.0 ∙ i.then)

-- LOOPS

-- pieces in a row are run one by one
pub record Steps {A R W : Type 0} (end : R) (more : A → R → R) (one : W → A → W) (all : W → R → W) : Type 0 where
  pub none : (w : W) → all w end ≡ w
  pub step : (w : W) (a : A) (r : R) → all w (more a r) ≡ all (one w a) r

-- what is left of a row leads to what the row leads to
record Left {R W : Type 0} (all : W → R → W) (x : Res R) (w whole : W) (q : ℕ) : Type 0 where
  rest : R
  is : x ≡ got rest q
  same : all w rest ≡ whole

module _ {A R W : Type 0} {end : R} {more : A → R → R} {one : W → A → W} {all : W → R → W} (steps : Steps end more one all) (whole : Res R) (first : W) where
  -- the loop: x is left of the whole row, and what there was at first has become w
  pub Owing : Res R → W → Type 0
  Owing x w = (b : R) (q : ℕ) → whole ≡ got b q → Left all x w (all first b) q

  pub owing_start : Owing whole first
  unfolding Owing
  owing_start b q e = record { rest = b; is = e; same = refl }

  pub owing_more : (x : Res A) (rest : ℕ → Res R) (w w' : W) (p : ℕ) → Owing (bind x (λ a p1. bind (rest p1) (λ b q. got (more a b) q))) w → Runs one x w w' p
      → Owing (rest p) w'
  unfolding Owing
  owing_more x rest w w' p h u b q e =
      let l = h b q e in
      let i = bind_got x (λ a p1. bind (rest p1) (λ c p2. got (more a c) p2)) l.rest q l.is in
      let j = bind_got (rest i.next) (λ c p2. got (more i.value c) p2) l.rest q i.then in
      let v = u i.value i.next i.first in
      let eb : more i.value j.value ≡ l.rest = cc in
      let ep : j.next ≡ q = cc in
      record {
        rest = j.value;
        is = rw v.0 (j.first ∙ ap (got j.value) ep);
        same = rw v.1 (sym (steps.step w i.value j.value) ∙ ap (all w) eb ∙ l.same);
      }

  pub owing_end : (p : ℕ) (w : W) → Owing (got end p) w → Runs all whole first w p
  unfolding Owing
  owing_end p w h b q e =
      let l = h b q e in
      let ez : end ≡ l.rest = cc in
      (cc, sym (steps.none w) ∙ ap (all w) ez ∙ l.same)
