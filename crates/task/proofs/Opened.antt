-- Where a file that holds a task has its sections, and what stands in them: `opened`.
use Prim.Native.Nat.{ℕ, zero, suc, ◌+◌, ◌-◌, ◌≤◌, ◌<◌}
use mathlib.Core.Path.{◌≡◌, sym, ap, ◌∙◌}
use mathlib.Core.Bool.{Bool, true, false, cond, ◌&&◌}
use mathlib.Core.Logic.{⊎_elim}
use mathlib.Core.List.{List}
use native.Mathlib.Omega.{arith}
use lib.Dec.{T, leb, eqb, leb→le, eqb→eq, lit≤}
use lib.ListN.{length, take, drop}
use borrow.Author.Tests.{le-leb, lt-leb}
use Rattle.smtlib.specs.Lexicon.{same}
use Rattle.smtlib.proofs.Bools.{is_true, true_holds, and_left, and_right, clash}
use Rattle.task.specs.Ast.{Task}
use Rattle.task.specs.Decode.{Res, got, refuse, bind, comment, datatype, constant, function, kvar, dec_constraint, deepest, section}
use Rattle.task.specs.Fault.{refusal_of}
use Rattle.task.specs.Task.{bound, in_order, mark, framed, within, decoded, first_fault, judged, task_of}
use Rattle.task.proofs.Reading.{bind_got, got_refuse, le_or_lt}

-- where a file that holds a task has its sections, and what stands in them
pub record Opened (file : List ℕ) (t : Task) : Type 0 where
  pub most : length file ≤ 60000
  pub rise0 : bound file 0 ≤ bound file 1
  pub rise1 : bound file 1 ≤ bound file 2
  pub rise2 : bound file 2 ≤ bound file 3
  pub rise3 : bound file 3 ≤ bound file 4
  pub rise4 : bound file 4 ≤ bound file 5
  pub rise5 : bound file 5 ≤ bound file 6
  pub last : bound file 6 ≤ length file
  pub comments_end : ℕ
  pub comments : section comment (take (bound file 1) file) (bound file 0) ≡ got t.comments comments_end
  pub datatypes_end : ℕ
  pub datatypes : section datatype (take (bound file 2) file) (bound file 1) ≡ got t.datatypes datatypes_end
  pub constants_end : ℕ
  pub constants : section constant (take (bound file 3) file) (bound file 2) ≡ got t.constants constants_end
  pub functions_end : ℕ
  pub functions : section function (take (bound file 4) file) (bound file 3) ≡ got t.functions functions_end
  pub kvars_end : ℕ
  pub kvars : section kvar (take (bound file 5) file) (bound file 4) ≡ got t.kvars kvars_end
  pub constraint : dec_constraint deepest (take (bound file 6) file) (bound file 5) ≡ got t.constraint (bound file 6)

-- a test that was passed holds
passed : {A : Type 0} (t : Bool) (x : Res A) (k : ℕ) {a : A} {p : ℕ} → cond t x (refuse k) ≡ got a p → T t
passed true x k e = tt
passed false x k e = got_refuse (sym e)

-- what is behind it
pub cond_got : {A : Type 0} (t : Bool) (x : Res A) (k : ℕ) {a : A} {p : ℕ} → cond t x (refuse k) ≡ got a p → x ≡ got a p
cond_got true x k e = e
cond_got false x k e = got_refuse (sym e)

-- THE TRAILER

-- a longer file is none
too_long : (file : List ℕ) → 60000 < length file → framed file ≡ false
unfolding framed
too_long file h = rw (le-leb 28 (length file) (omega arith), lt-leb (length file) 60000 h)

-- the tests of the first n sections' ends, behind another test
abbrev tests : Bool → List ℕ → ℕ → Bool
tests c file zero = c
tests c file (suc n) = tests c file n && in_order file n

-- none of these sections ends before it begins, if the tests hold
rises : (c : Bool) (file : List ℕ) (n i : ℕ) → T (tests c file n) → i < n → bound file i ≤ bound file (i + 1)
rises c file zero i h l = absurd (omega arith)
rises c file (suc n) i h l =
    ⊎_elim
    (λ g. let z : i ≡ n = omega arith in rw z (leb→le _ _ (and_right (tests c file n) (in_order file n) h)))
    (λ g. rises c file n i (and_left (tests c file n) (in_order file n) h) g)
    (le_or_lt n i)

-- so it is with the six of a file that is not refused
in_order_lem : (file : List ℕ) → T (framed file) → (i : ℕ) → i < 6 → bound file i ≤ bound file (i + 1)
unfolding framed
in_order_lem file h i =
    let c = leb 28 (length file) && leb (length file) 60000 && same (drop (length file - 4) file) mark && eqb (bound file 0) 0 in
    rises c file 6 i h

-- the trailer begins inside the file
trailer_inside : (file : List ℕ) → bound file 6 ≤ length file
unfolding bound
trailer_inside file = omega arith

-- THE SECTIONS

-- what stands in a file that is not too long and has its sections in order
sections : (file : List ℕ) (t : Task) (end : ℕ) → length file ≤ 60000 → ((i : ℕ) → i < 6 → bound file i ≤ bound file (i + 1))
    → decoded file ≡ got t end → Opened file t
unfolding decoded
sections file t end most rise e =
    let x0 = bind_got (within file 0 (section comment)) _ t end e in
    let x1 = bind_got (within file 1 (section datatype)) _ t end x0.then in
    let x2 = bind_got (within file 2 (section constant)) _ t end x1.then in
    let x3 = bind_got (within file 3 (section function)) _ t end x2.then in
    let x4 = bind_got (within file 4 (section kvar)) _ t end x3.then in
    let x5 = bind_got (within file 5 (dec_constraint deepest)) _ t end x4.then in
    let whole : Task = record {
      comments = x0.value;
      datatypes = x1.value;
      constants = x2.value;
      functions = x3.value;
      kvars = x4.value;
      constraint = x5.value;
    } in
    let g = cond_got (eqb x5.next (bound file 6)) (got whole x5.next) 2 x5.then in
    let q = eqb→eq x5.next (bound file 6) (passed (eqb x5.next (bound file 6)) (got whole x5.next) 2 x5.then) in
    let z : whole ≡ t = cc in
    rw (← z) (record {
      most = most;
      rise0 = rise 0 (lit≤ tt);
      rise1 = rise 1 (lit≤ tt);
      rise2 = rise 2 (lit≤ tt);
      rise3 = rise 3 (lit≤ tt);
      rise4 = rise 4 (lit≤ tt);
      rise5 = rise 5 (lit≤ tt);
      last = trailer_inside file;
      comments_end = x0.next;
      comments = x0.first;
      datatypes_end = x1.next;
      datatypes = x1.first;
      constants_end = x2.next;
      constants = x2.first;
      functions_end = x3.next;
      functions = x3.first;
      kvars_end = x4.next;
      kvars = x4.first;
      constraint = x5.first ∙ ap (got x5.value) q;
    })

-- every file that has a trailer and decodes is such a file
pub opened_framed : (file : List ℕ) (t : Task) (end : ℕ) → framed file ≡ true → decoded file ≡ got t end → Opened file t
opened_framed file t end f e =
    let most : length file ≤ 60000 = ⊎_elim (λ h. h) (λ h. let z : true ≡ false = sym f ∙ too_long file h in clash (cc)) (le_or_lt (length file) 60000) in
    sections file t end most (in_order_lem file (true_holds f)) e

-- what a file that holds a task has
pub record Held (file : List ℕ) (t : Task) (end : ℕ) : Type 0 where
  pub framed : framed file ≡ true
  pub decoded : decoded file ≡ got t end
  pub judged : judged t end ≡ got t end

pub held : (file : List ℕ) (t : Task) (end : ℕ) → task_of file ≡ got t end → Held file t end
unfolding task_of judged
held file t end e =
    let x = bind_got (decoded file) judged t end (cond_got (framed file) (bind (decoded file) judged) 1 e) in
    let r = refusal_of (first_fault x.value) in
    let z : got x.value x.next ≡ got t end = cond_got (eqb r 0) (got x.value x.next) r x.then in
    let y : x.value ≡ t = cc in
    let q : x.next ≡ end = cc in
    record {
      framed = is_true (framed file) (passed (framed file) (bind (decoded file) judged) 1 e);
      decoded = x.first ∙ z;
      judged = ap (λ (w : Task). judged w end) (sym y) ∙ ap (judged x.value) (sym q) ∙ x.then;
    }

-- and so is every file that holds a task
pub opened : (file : List ℕ) (t : Task) (end : ℕ) → task_of file ≡ got t end → Opened file t
opened file t end e = let h = held file t end e in opened_framed file t end h.framed h.decoded
