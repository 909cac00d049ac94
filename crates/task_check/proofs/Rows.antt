-- Walking pieces in a row adds up to the walk of the whole: laws over the decoder of one piece and the faults.
use Rattle.std.specs.Prelude.{Ok, Err, ◌^◌}
use mathlib.Core.Path.{◌≡◌, refl, sym, ap, ◌∙◌}
use mathlib.Core.List.{List}
use Prim.Native.Nat.{ℕ, zero, suc, ◌+◌, ◌-◌, ◌<◌, ◌≤◌}
use native.Mathlib.Omega.{arith}
use Rattle.task.specs.declared.Fault.{Fault}
use Rattle.task.specs.declared.Fault.TheVariants.{Sound}
use Rattle.task.specs.declared.Refusal.{Refusal}
use Rattle.task.specs.Node.{read_of}
use Rattle.task.specs.Refusals.{number_of}
use Rattle.task.specs.Decode.{Res, got, refuse, bind, Decoder, give, ◌▹◌, many}
use Rattle.task.specs.Fault.{lower}
use Rattle.task.proofs.Reading.{bind_got, got_refuse}
use Rattle.task.proofs.Judging.{lower_sound, sound_lower, lower_assoc}
use Rattle.task_check.specs.Walk.{walked, after, Answer, row, Answers, Rows}

pub after_sound : (w : Res Fault) → after Sound w ≡ w
after_sound (got f p) = ap (λ (z : Fault). got z p) (sound_lower f)
after_sound (refuse k) = refl

pub after_after : (f g : Fault) (w : Res Fault) → after (lower f g) w ≡ after f (after g w)
after_after f g (got h p) = ap (λ (z : Fault). got z p) (lower_assoc f g h)
after_after f g (refuse k) = refl

-- a row's fault is put together from its members'
pub record Fold {A R : Type 0} (end : R) (more : A → R → R) (one : A → Fault) (all : R → Fault) : Type 0 where
  pub none : all end ≡ Sound
  pub step : (a : A) (r : R) → all (more a r) ≡ lower (one a) (all r)

-- what an answer tells of the decoder's
pub record Nexts {A : Type 0} (one : A → Fault) (x : Res A) (q : ℕ) (g : Fault) : Type 0 where
  pub value : A
  pub is : x ≡ got value q
  pub fault : one value ≡ g

pub next_is : {A : Type 0} (one : A → Fault) (x : Res A) (q : ℕ) (g : Fault) → got g q ≡ walked one x → Nexts one x q g
next_is one (got a p) q g e = record { value = a; is = ap (got a) (cc); fault = cc }
next_is one (refuse k) q g e = absurd (let z : ◌≡◌ {A = ℕ} 0 1 = cc in omega arith)

pub refused_is : {A : Type 0} (one : A → Fault) (x : Res A) (k : ℕ) → refuse k ≡ walked one x → x ≡ refuse k
refused_is one (got a p) k e = absurd (let z : ◌≡◌ {A = ℕ} 0 1 = cc in omega arith)
refused_is one (refuse j) k e = ap refuse (cc)

-- a piece that is made of another, which a walker walked: where the walker ended there it ends, and where it refused there is none
module _ {A B : Type 0} (one : A → Fault) (make : A → B) (x : Res A) (v : Res Fault) (e : v ≡ walked one x) (b : B) (z : ℕ) (g : bind x (λ a p. got (make a) p) ≡ got b z) where
  pub made_ends : (q : ℕ) (f : Fault) → v ≡ got f q → q ≡ z
  made_ends q f h =
      let i = bind_got x (λ a p. got (make a) p) b z g in
      let y : got f q ≡ got (one i.value) i.next = sym h ∙ e ∙ ap (walked one) i.first in
      let k : i.next ≡ z = cc in
      cc

  pub made_none : {C : Type 0} (k : ℕ) → v ≡ refuse k → C
  made_none k h =
      let i = bind_got x (λ a p. got (make a) p) b z g in
      got_refuse (sym i.first ∙ refused_is one x k (sym h ∙ e))

-- PIECES IN A ROW

module _ {A R : Type 0} {end : R} {more : A → R → R} {one : A → Fault} {all : R → Fault} (fold : Fold end more one all) (d : Decoder A) (s : List ℕ) where
  put_before : (a : A) (x : Res R) → walked all (bind x (λ b q. got (more a b) q)) ≡ after (one a) (walked all x)
  put_before a (got b q) = ap (λ (z : Fault). got z q) (fold.step a b)
  put_before a (refuse k) = refl

  -- the answers for the pieces in a row are the walk of the whole
  row_walks : (n p : ℕ) → row (λ q. walked one (d s q)) n p ≡ walked all (many end more d n s p)
  row_walks zero p = ap (λ (z : Fault). got z p) (sym fold.none)
  row_walks (suc n) p = go (d s p) (row_walks n)
    where
      go : (x : Res A) → ((q : ℕ) → row (λ r. walked one (d s r)) n q ≡ walked all (many end more d n s q))
          → bind (walked one x) (λ f q. after f (row (λ r. walked one (d s r)) n q)) ≡ walked all (bind x (λ a q. bind (many end more d n s q) (λ b r. got (more a b) r)))
      go (got a q) h = ap (after (one a)) (h q) ∙ sym (put_before a (many end more d n s q))
      go (refuse k) h = refl

  pub row_is : (n p : ℕ) (call : ℕ → Answer → Type 0) (x : Res Fault) → Rows call n p x → Answers call (λ q. walked one (d s q)) → x ≡ walked all (many end more d n s p)
  row_is n p call x r a = r.are (λ q. walked one (d s q)) a ∙ row_walks n p

  module _ {B : Type 0} (whole : B → Fault) where
    -- an operand, and then the others
    pub row_step : (f : Fault) (k : A → Decoder B) (n p : ℕ)
        → ((a : A) (q : ℕ) → walked whole (k a s q) ≡ after (lower f (one a)) (walked all (many end more d n s q)))
        → walked whole ((d ▹ k) s p) ≡ after f (walked all (many end more d (suc n) s p))
    row_step f k n p h = go (d s p) refl
      where
        go : (x : Res A) → d s p ≡ x → walked whole ((d ▹ k) s p) ≡ after f (walked all (many end more d (suc n) s p))
        go (got a q) e =
            rw e (h a q ∙ after_after f (one a) (walked all (many end more d n s q)) ∙ ap (after f) (sym (put_before a (many end more d n s q))))
        go (refuse j) e = rw e

    -- no operand is left
    pub row_stop : (f : Fault) (b : B) (p : ℕ) → whole b ≡ f → walked whole (got b p) ≡ after f (walked all (many end more d 0 s p))
    row_stop f b p e = ap (λ (z : Fault). got z p) (rw (e, fold.none) (sym (lower_sound f)))

    -- all members at once
    pub row_all : (f : Fault) (k : R → B) (n p : ℕ) → ((r : R) → whole (k r) ≡ lower f (all r))
        → walked whole ((many end more d n ▹ λ r. give (k r)) s p) ≡ after f (walked all (many end more d n s p))
    row_all f k n p h = go (many end more d n s p)
      where
        go : (x : Res R) → walked whole (bind x (λ r q. got (k r) q)) ≡ after f (walked all x)
        go (got r q) = ap (λ (z : Fault). got z q) (h r)
        go (refuse j) = refl

-- CALLS IN A ROW

module _ (call : ℕ → Answer → Type 0) (m at : ℕ) where
  -- the loop: of m pieces i were answered for, the others stand from p on, and f is the fault so far
  pub record Rowing (i p : ℕ) (f : Fault) : Type 0 where
    pub low : p < 2 ^ 64
    pub owes : (one : ℕ → Res Fault) → Answers call one → after f (row one (m - i) p) ≡ row one m at

  pub rowing_starts : at < 2 ^ 64 → Rowing 0 at Sound
  rowing_starts l = record { low = l; owes = λ one a. let e : m - 0 ≡ m = omega arith in rw e (after_sound (row one m at)) }

  module _ (i p : ℕ) (f : Fault) (w : Rowing i p f) where
    next : (one : ℕ → Res Fault) → Answers call one → (r : Answer) → i < m → call p r → row one (m - i) p ≡ bind (read_of r) (λ g q. after g (row one (m - (i + 1)) q))
    next one a r h c = let k : m - i ≡ suc (m - (i + 1)) = omega arith in let e = a p r w.low c in rw (k, e)

    pub rowing_goes : i < m → (g : Fault) (q : ℕ) → call p (Ok (g, q)) → q < 2 ^ 64 → (f' : Fault) → f' ≡ lower f g → Rowing (i + 1) q f'
    rowing_goes h g q c l f' e =
        record {
          low = l;
          owes = λ one a. rw e (after_after f g (row one (m - (i + 1)) q) ∙ sym (ap (after f) (next one a (Ok (g, q)) h c)) ∙ w.owes one a);
        }

    pub rowing_stops : i < m → (k : Refusal) → call p (Err k) → Rows call m at (refuse (number_of k))
    rowing_stops h k c = record { are = λ one a. sym (ap (after f) (next one a (Err k) h c)) ∙ w.owes one a }

    pub rowing_ends : m ≤ i → Rows call m at (got f p)
    rowing_ends h =
        let k : m - i ≡ 0 = omega arith in
        record { are = λ one a. ap (λ (z : Fault). got z p) (sym (lower_sound f)) ∙ (rw k at (w.owes one a)) }
