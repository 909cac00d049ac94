-- The items of a section, walked one after another: the loop of check_section.
use Rattle.std.specs.Prelude.{Ok, Err}
use mathlib.Core.Path.{◌≡◌, refl, sym, ap, ◌∙◌}
use mathlib.Core.Bool.{Bool, true, false, cond}
use mathlib.Core.List.{List, [], ◌∷◌}
use Prim.Native.Nat.{ℕ, zero, suc, ◌+◌, ◌-◌, ◌<◌, ◌≤◌}
use native.Mathlib.Nat.{add-zero, zero-add, add_assoc, add_comm}
use native.Mathlib.Numerals.{add-one}
use native.Mathlib.Omega.{arith}
use lib.Dec.{leb}
use lib.ListN.{length}
use borrow.Author.Tests.{le-leb, lt-leb}
use Rattle.task.specs.declared.Fault.{Fault}
use Rattle.task.specs.declared.Fault.TheVariants.{Sound}
use Rattle.task.specs.Decode.{Res, got, refuse, bind, Decoder, items, comment, datatype, constant, function, kvar}
use Rattle.task.specs.Fault.{lower, each, text_fault, datatype_fault, binder_fault, function_fault, kvar_fault}
use Rattle.task.specs.Covers.{CoversSome}
use Rattle.task.proofs.Judging.{lower_sound, sound_lower, lower_assoc}
use Rattle.task.proofs.Pieces.{each_covers}
use Rattle.task_check.specs.Walk.{walked}
use Rattle.task_check.proofs.Rows.{next_is}
use Rattle.item_check.specs.declared.Section.{Section}
use Rattle.item_check.specs.declared.Section.TheVariants.{Comments, Datatypes, Constants, Functions, KVars}
use Rattle.item_check.specs.Items.{item_walk}
use Rattle.inspect.specs.Walk.{Listed, join, onward, walk_items, listed}

join_none : (x : Listed) → join (Ok (0, Sound)) x ≡ x
join_none (Ok (n, f)) = λ i. Ok ((zero-add n i), (sound_lower f i))
join_none (Err k) = refl

pub join_assoc : (n m : ℕ) (f g : Fault) (x : Listed) → join (Ok (n, f)) (join (Ok (m, g)) x) ≡ join (Ok ((n + m), (lower f g))) x
join_assoc n m f g (Ok (l, h)) = λ i. Ok ((sym (add_assoc n m l) i), (sym (lower_assoc f g h) i))
join_assoc n m f g (Err k) = refl

-- n items are counted, f is the fault so far, and those from p on are left, of which `fuel` are enough
pub record Listing (one : ℕ → Res Fault) (end total at p n : ℕ) (f : Fault) : Type 0 where
  pub fuel : ℕ
  pub enough : end ≤ p + fuel
  pub same : join (Ok (n, f)) (walk_items fuel one end p) ≡ walk_items total one end at
  pub few : n ≤ p

module _ (one : ℕ → Res Fault) (end : ℕ) where
  pub listing_starts : (at : ℕ) → Listing one end end at at 0 Sound
  listing_starts at = record { fuel = end; enough = omega arith; same = join_none (walk_items end one end at); few = omega arith }

  walk_done : (k p : ℕ) → end ≤ p → walk_items k one end p ≡ Ok (0, Sound)
  unfolding walk_items
  walk_done zero p h = refl
  walk_done (suc k) p h = rw (le-leb _ _ h)

  walk_one : (k p : ℕ) → p < end → walk_items (suc k) one end p ≡ onward (one p) (walk_items k one end)
  unfolding walk_items
  walk_one k p h = rw (lt-leb _ _ h)

  module _ (total at p n : ℕ) (f : Fault) (i : Listing one end total at p n f) where
    pub listing_ends : end ≤ p → Ok (n, f) ≡ walk_items total one end at
    listing_ends h =
        (λ j. Ok ((sym (add-zero n) j), (sym (lower_sound f) j))) ∙ sym (ap (join (Ok (n, f))) (walk_done i.fuel p h)) ∙ i.same

    module _ (h : p < end) where
      burnt : i.fuel ≡ suc (i.fuel - 1)
      burnt = let g = i.enough in omega arith

      on : (v : Res Fault) → v ≡ one p → join (Ok (n, f)) (onward v (walk_items (i.fuel - 1) one end)) ≡ walk_items total one end at
      on v e = ap (λ (w : Res Fault). join (Ok (n, f)) (onward w (walk_items (i.fuel - 1) one end))) e
          ∙ ap (join (Ok (n, f))) (sym (ap (λ (k : ℕ). walk_items k one end p) burnt ∙ walk_one (i.fuel - 1) p h)) ∙ i.same

      pub listing_stops : (k : ℕ) → refuse k ≡ one p → Err k ≡ walk_items total one end at
      listing_stops k e = on (refuse k) e

      pub listing_goes : (q : ℕ) (g : Fault) → got g q ≡ one p → p < q → Listing one end total at q (n + 1) (lower f g)
      listing_goes q g e l = record {
        fuel = i.fuel - 1;
        enough = let a = i.enough in omega arith;
        same = sym (join_assoc n 1 f g (walk_items (i.fuel - 1) one end q)) ∙ on (got g q) e;
        few = let a = i.few in omega arith;
      }

-- the walk of a section is that of what is decoded there
module _ {A : Type 0} (fault : A → Fault) (d : Decoder A) (s : List ℕ) where
  put_before : (a : A) (x : Res (List A)) → listed fault (bind x (λ b q. got (a ∷ b) q)) ≡ join (Ok (1, (fault a))) (listed fault x)
  put_before a (got xs q) = ap (λ (k : ℕ). Ok (k, (lower (fault a) (each fault xs)))) (sym (add-one (length xs)) ∙ add_comm (length xs) 1)
  put_before a (refuse k) = refl

  one_by_one : (x : Res A) (w : ℕ → Listed) (k : ℕ → Res (List A)) → ((q : ℕ) → listed fault (k q) ≡ w q)
      → listed fault (bind x (λ a p. bind (k p) (λ b q. got (a ∷ b) q))) ≡ onward (walked fault x) w
  one_by_one (got a p) w k h = put_before a (k p) ∙ ap (join (Ok (1, (fault a)))) (h p)
  one_by_one (refuse j) w k h = refl

  pub listed_walks : (n at : ℕ) → listed fault (items n d s at) ≡ walk_items n (λ p. walked fault (d s p)) (length s) at
  unfolding items walk_items
  listed_walks zero at = refl
  listed_walks (suc n) at = go (λ q. listed_walks n q) (leb (length s) at)
    where
      go : ((q : ℕ) → listed fault (items n d s q) ≡ walk_items n (λ p. walked fault (d s p)) (length s) q) → (t : Bool) → listed fault (cond t (got [] at) (bind (d s at) (λ a p. bind (items n d s p) (λ b q. got (a ∷ b) q))))
          ≡ cond t (Ok (0, Sound)) (onward (walked fault (d s at)) (walk_items n (λ p. walked fault (d s p)) (length s)))
      go h true = refl
      go h false = one_by_one (d s at) (walk_items n (λ p. walked fault (d s p)) (length s)) (items n d s) h

-- an item takes a byte at least
ahead : {A : Type 0} (fault : A → Fault) (d : Decoder A) (s : List ℕ) (p q : ℕ) (f : Fault) → CoversSome d → got f q ≡ walked fault (d s p) → p < q
ahead fault d s p q f c e =
    let y = next_is fault (d s p) q f e in
    let z = c.covered s p y.value q y.is in
    let a = z.end in
    let b = z.room in
    omega arith

pub item_ahead : (k : Section) (s : List ℕ) (p q : ℕ) (f : Fault) → got f q ≡ item_walk k s p → p < q
unfolding item_walk
item_ahead Comments s p q f e = ahead text_fault comment s p q f each_covers.comments e
item_ahead Datatypes s p q f e = ahead datatype_fault datatype s p q f each_covers.datatypes e
item_ahead Constants s p q f e = ahead binder_fault constant s p q f each_covers.constants e
item_ahead Functions s p q f e = ahead function_fault function s p q f each_covers.functions e
item_ahead KVars s p q f e = ahead kvar_fault kvar s p q f each_covers.kvars e

-- how many items were counted
abbrev pub counts : Listed → ℕ
counts (Ok (n, f)) = n
counts (Err k) = 0

-- no more items than are enough
pub items_most : (n : ℕ) (one : ℕ → Res Fault) (end at m : ℕ) (f : Fault) → Ok (m, f) ≡ walk_items n one end at → m ≤ n
unfolding walk_items
items_most zero one end at m f e = let z : m ≡ 0 = ap counts e in omega arith
items_most (suc n) one end at m f e = go (λ q j h u. items_most n one end q j h u) (leb end at) e
  where
    join_items : (g : Fault) (x : Listed) → Ok (m, f) ≡ join (Ok (1, g)) x → ((j : ℕ) (h : Fault) → Ok (j, h) ≡ x → j ≤ n) → m ≤ suc n
    join_items g (Ok (j, h)) e l = let a = l j h refl in let z : m ≡ 1 + j = ap counts e in omega arith
    join_items g (Err k) e l = absurd (let z : ◌≡◌ {A = ℕ} 0 1 = cc in omega arith)

    step : (w : Res Fault) → Ok (m, f) ≡ onward w (walk_items n one end) → ((q j : ℕ) (h : Fault) → Ok (j, h) ≡ walk_items n one end q → j ≤ n) → m ≤ suc n
    step (got g q) e l = join_items g (walk_items n one end q) e (l q)
    step (refuse k) e l = absurd (let z : ◌≡◌ {A = ℕ} 0 1 = cc in omega arith)

    go : ((q j : ℕ) (h : Fault) → Ok (j, h) ≡ walk_items n one end q → j ≤ n) → (t : Bool) → Ok (m, f) ≡ cond t (Ok (0, Sound)) (onward (one at) (walk_items n one end)) → m ≤ suc n
    go l true e = let z : m ≡ 0 = ap counts e in omega arith
    go l false e = step (one at) e l
