-- The trailer: the length, the mark and the offsets.
use mathlib.Core.Path.{◌≡◌}
use mathlib.Core.Bool.{true, ◌&&◌}
use mathlib.Core.List.{List}
use Prim.Native.Nat.{ℕ, ◌+◌, ◌-◌, ◌*◌, ◌<◌, ◌≤◌}
use native.Mathlib.Omega.{arith}
use lib.Dec.{T, leb, eqb}
use lib.ListN.{length, drop}
use borrow.Author.Tests.{lt-ltb, leb-true}
use Rattle.smtlib.specs.Lexicon.{same}
use Rattle.smtlib.proofs.Bools.{is_true, true_holds, and_left, and_right}
use Rattle.task.specs.Decode.{got, refuse, number}
use Rattle.task.specs.Task.{mark, bound, in_order, framed}
use Rattle.task.proofs.Reading.{number_got, number_refused}
use Rattle.trailer.specs.Bounds.{bounds_of, Inside}

-- an offset's four bytes are there, and what is read is its number
module _ (file : List ℕ) (i : ℕ) (h : 28 ≤ length file) (g : i < 6) where
  pub offset_there : (k : ℕ) → number 4 file (length file - 28 + 4 * i) ≡ refuse k → 0 ≡ bound file i
  offset_there k e = let l = number_refused 4 file (length file - 28 + 4 * i) k e in absurd (omega arith)

  pub offset_is : (n p : ℕ) → number 4 file (length file - 28 + 4 * i) ≡ got n p → n ≡ bound file i
  unfolding bound
  offset_is n p e = rw (lt-ltb i 6 g) (number_got 4 file (length file - 28 + 4 * i) n p e).value

holds : (a b : ℕ) → T (leb a b) → a ≤ b
holds a b t = leb-true a b (is_true (leb a b) t)

-- what a framed file tells
pub framed_is : (file : List ℕ) → framed file ≡ true → Inside file (bounds_of file)
unfolding framed bound
framed_is file e =
    let c1 = leb 28 (length file) && leb (length file) 60000 in
    let c2 = c1 && same (drop (length file - 4) file) mark in
    let c3 = c2 && eqb (bound file 0) 0 in
    let c4 = c3 && in_order file 0 in
    let c5 = c4 && in_order file 1 in
    let c6 = c5 && in_order file 2 in
    let c7 = c6 && in_order file 3 in
    let c8 = c7 && in_order file 4 in
    let t9 : T (c8 && in_order file 5) = true_holds e in
    let t8 = and_left c8 (in_order file 5) t9 in
    let t7 = and_left c7 (in_order file 4) t8 in
    let t6 = and_left c6 (in_order file 3) t7 in
    let t5 = and_left c5 (in_order file 2) t6 in
    let t4 = and_left c4 (in_order file 1) t5 in
    let t3 = and_left c3 (in_order file 0) t4 in
    let t2 = and_left c2 (eqb (bound file 0) 0) t3 in
    let t1 = and_left c1 (same (drop (length file - 4) file) mark) t2 in
    let a : 28 ≤ length file = holds 28 (length file) (and_left (leb 28 (length file)) (leb (length file) 60000) t1) in
    let b : length file ≤ 60000 = holds (length file) 60000 (and_right (leb 28 (length file)) (leb (length file) 60000) t1) in
    let o5 : bound file 5 ≤ bound file 6 = holds (bound file 5) (bound file 6) (and_right c8 (in_order file 5) t9) in
    let o4 : bound file 4 ≤ bound file 5 = holds (bound file 4) (bound file 5) (and_right c7 (in_order file 4) t8) in
    let o3 : bound file 3 ≤ bound file 4 = holds (bound file 3) (bound file 4) (and_right c6 (in_order file 3) t7) in
    let o2 : bound file 2 ≤ bound file 3 = holds (bound file 2) (bound file 3) (and_right c5 (in_order file 2) t6) in
    let o1 : bound file 1 ≤ bound file 2 = holds (bound file 1) (bound file 2) (and_right c4 (in_order file 1) t5) in
    let z : bound file 6 ≤ length file = omega arith in
    record {
      most = b;
      datatypes = omega arith;
      constants = omega arith;
      functions = omega arith;
      kvars = omega arith;
      constraint = omega arith;
      end = z;
    }
