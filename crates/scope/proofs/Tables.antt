-- What a table says of names before and behind a scope, and pieces in a row that are walked with it.
use Rattle.std.specs.Prelude.{Result, Ok, Err, ◌^◌}
use Rattle.std.specs.Borrow.{MutBor}
use mathlib.Core.Path.{◌≡◌, refl, ap, ◌∙◌}
use mathlib.Core.List.{List, [], ◌∷◌, ◌++◌, map, append-nil}
use Prim.Native.Nat.{ℕ, zero, suc, ◌+◌, ◌*◌, ◌≤◌, ◌<◌}
use native.Mathlib.Omega.{arith}
use lib.ListN.{length, length-append}
use borrow.Author.Tests.{lt-ltb, le-leb}
use Rattle.task.specs.declared.Fault.{Fault}
use Rattle.task.specs.declared.Fault.TheVariants.{Sound}
use Rattle.task.specs.declared.Refusal.{Refusal}
use Rattle.task.specs.Node.{read_of}
use Rattle.task.specs.Refusals.{number_of}
use Rattle.task.specs.Covers.{Covers}
use Rattle.task.specs.Decode.{Res, got, refuse, Decoder, many, name}
use Rattle.task.specs.Fault.{lower}
use Rattle.task.proofs.Covering.{forward}
use Rattle.item_check.proofs.Walks.{many_size}
use Rattle.task_check.specs.Walk.{walked, Rows}
use Rattle.task_check.proofs.Rows.{Fold, row_is, next_is, Rowing, rowing_starts, rowing_goes, rowing_stops, rowing_ends}
use Rattle.names.specs.declared.Kind.TheVariants.{Bound}
use Rattle.names.specs.Table.{Symbol, symbol, entries, names_of, room_for, add}
use Rattle.names.specs.Change.{Pushed, Popped, Restored}
use Rattle.names.specs.declared.table.Table.{Table}
use Rattle.names.specs.Same.{Same}
use Rattle.names.proofs.Theorems.{names_append, restored_all, restored_both, scope_ends}
use Rattle.names.proofs.Sames.{same_table, same_both}
use Rattle.declared.specs.Symbols.{alone, together, row_symbols}
use Rattle.declared.specs.Gather.{adds, Collects}
use Rattle.declared.proofs.Collecting.{stands}
use Rattle.declared.proofs.Counting.{adds_all}
use Rattle.scope.specs.Known.{ctors_in, vars_in, expr_in, Space, Roomy}
use Rattle.scope.specs.Row.{Scoped, Tells, Judges, Gives}

-- SPACE

-- further on there is as much space, and where the entries are the same
pub space_on : (s t : List ℕ) (at p : ℕ) → Space s t at → at ≤ p → Space s t p
space_on s t at p x h = let r = x.room in record { chained = x.chained; short = x.short; words = x.words; few = x.few; room = omega arith }

pub space_kept : (s t u : List ℕ) (at : ℕ) → Space s t at → Restored s t u → Space s u at
space_kept s t u at x r =
    let w = x.words in
    let v = r.words in
    record { chained = r.chained; short = x.short; words = omega arith; few = rw r.are x.few; room = rw r.are x.room }

-- where a walk ended
pub walked_on : {A : Type 0} {size : A → ℕ} (one : A → Fault) (d : Decoder A) → Covers size d → (s : List ℕ) (at q : ℕ) (f : Fault) → got f q ≡ walked one (d s at) → at ≤ q
walked_on one d c s at q f e = let y = next_is one (d s at) q f e in forward d c s at y.value q y.is

-- NAMES

-- the names of one kind, in a range and out of it
bound_names : (xs : List (List ℕ)) → names_of 2 6 (together (map (λ x. symbol 6 x ∷ []) xs)) ≡ xs
unfolding names_of
bound_names [] = refl
bound_names (x ∷ xs) = ap (λ (ws : List (List ℕ)). x ∷ ws) (bound_names xs)

bound_others : (xs : List (List ℕ)) → names_of 2 2 (together (map (λ x. symbol 6 x ∷ []) xs)) ≡ []
unfolding names_of
bound_others [] = refl
bound_others (x ∷ xs) = bound_others xs

module _ (s t u : List ℕ) where
  pub vars_kept : entries s u ≡ entries s t → vars_in s u ≡ vars_in s t
  unfolding vars_in
  vars_kept e = rw e

  pub ctors_kept : entries s u ≡ entries s t → ctors_in s u ≡ ctors_in s t
  unfolding ctors_in
  ctors_kept e = rw e

  -- more names are bound
  module _ (xs : List (List ℕ)) (e : entries s u ≡ entries s t ++ together (map (λ x. symbol 6 x ∷ []) xs)) where
    pub vars_more : vars_in s u ≡ vars_in s t ++ xs
    unfolding vars_in
    vars_more =
        ap (names_of 2 6) e ∙ names_append 2 6 (entries s t) (together (map (λ x. symbol 6 x ∷ []) xs))
        ∙ ap (λ (ws : List (List ℕ)). names_of 2 6 (entries s t) ++ ws) (bound_names xs)

    pub ctors_more : ctors_in s u ≡ ctors_in s t
    unfolding ctors_in
    ctors_more =
        ap (names_of 2 2) e ∙ names_append 2 2 (entries s t) (together (map (λ x. symbol 6 x ∷ []) xs))
        ∙ ap (λ (ws : List (List ℕ)). names_of 2 2 (entries s t) ++ ws) (bound_others xs)
        ∙ append-nil (names_of 2 2 (entries s t))

  pub expr_kept : Restored s t u → expr_in s u ≡ expr_in s t
  expr_kept r = rw (vars_kept r.are, ctors_kept r.are)

-- one name is bound that stands before a position
pub bound_one : (s t u : List ℕ) (at : ℕ) (x : List ℕ) (p : ℕ) → Space s t at → 3 * length (entries s t) < at → name s at ≡ got x p → at + 2 ≤ p → p ≤ length s → Pushed s t at 6 u
    → (entries s u ≡ entries s t ++ together (map (λ y. symbol 6 y ∷ []) (x ∷ []))) × Space s u p
unfolding add room_for
bound_one s t u at x p c l e h g w =
    let k = c.short in
    let m = c.words in
    let y = stands s at x p (omega arith) e in
    let z : entries s u ≡ entries s t ++ (symbol 6 x ∷ []) =
    w.are ∙ rw (y.has, y.is) (simp (lt-ltb (length (entries s t)) 65535 (omega arith), le-leb (1026 + 3 * length (entries s t) + 3) (length t) (omega arith))) in
    let n = length-append (entries s t) (symbol 6 x ∷ []) in
    let v = w.words in
    (z, record { chained = w.chained; short = k; words = omega arith; few = rw z (omega arith); room = rw z (omega arith) })

-- A ROW

-- pieces in a row, each judged by a call: m from `at` on, by a table t
module _ (t : Table) (tells : Tells) (m at : ℕ) where
  -- the loop: i were judged, the others stand from p on, f is the fault so far, and t has become u
  pub record Along (u : Table) (i p : ℕ) (f : Fault) : Type 0 where
    pub restored : Restored t.file.now t.words.now u.words.now
    pub same : Same t u
    pub space : Roomy u p
    pub owes : Rowing (Gives t tells) m at i p f

  pub along_starts : Roomy t at → at < 2 ^ 64 → Along t 0 at Sound
  along_starts x l = record { restored = restored_all t.file.now t.words.now x.chained; same = same_table t; space = x; owes = rowing_starts (Gives t tells) m at l }

  pub along_ends : (u : Table) (i p : ℕ) (f : Fault) → Along u i p f → m ≤ i → (Rows (Gives t tells) m at (got f p) × Restored t.file.now t.words.now u.words.now) × Same t u
  along_ends u i p f a h = ((rowing_ends (Gives t tells) m at i p f a.owes h, a.restored), a.same)

  module _ (may : MutBor Table → ℕ → Type 0) (j : Judges may tells) (i p : ℕ) (f : Fault) (k : MutBor Table) (a : Along k.now i p f) (r : Result (Fault × ℕ) Refusal) (w : MutBor Table) (y : tells k p r w) where
    gives : Gives t tells p r
    gives = record { table = k; space = a.space; kept = a.restored; same = a.same; left = w; met = y }

    left : Restored t.file.now k.now.words.now w.now.words.now
    left = rw a.same.file at (j.leaves k p r w a.owes.low a.space y).0

    alike : Same t w.now
    alike = same_both t k.now w.now a.same (j.leaves k p r w a.owes.low a.space y).1

    pub along_goes : i < m → (g f' : Fault) (q : ℕ) → r ≡ Ok (g, q) → q < 2 ^ 64 → f' ≡ lower f g → Along w.now (i + 1) q f'
    along_goes h g f' q z l v =
        record {
          restored = restored_both t.file.now t.words.now k.now.words.now w.now.words.now a.restored left;
          same = alike;
          space = rw alike.file
              (space_on t.file.now w.now.words.now p q (space_kept t.file.now k.now.words.now w.now.words.now p (rw a.same.file at a.space) left)
              (j.forward k p g q w a.owes.low a.space (rw z at y)));
          owes = rowing_goes (Gives t tells) m at i p f a.owes h g q (rw z at gives) l f' v;
        }

    pub along_stops : i < m → (x : Refusal) → r ≡ Err x → (Rows (Gives t tells) m at (refuse (number_of x)) × Restored t.file.now t.words.now w.now.words.now) × Same t w.now
    along_stops h x z = (
      (rowing_stops (Gives t tells) m at i p f a.owes h x (rw z at gives), restored_both t.file.now t.words.now k.now.words.now w.now.words.now a.restored left),
      alike,
    )

-- each call judges a piece: `one` is its fault by a file and a table
module _ {A : Type 0} (one : List ℕ → List ℕ → A → Fault) (d : Decoder A) (tells : Tells)
    (h : (m : MutBor Table) (p : ℕ) (r : Result (Fault × ℕ) Refusal) (w : MutBor Table) → p < 2 ^ 64 → Roomy m.now p → tells m p r w → Scoped one d p m.now w.now (read_of r)) where
  pub judges : {size : A → ℕ} → Covers size d → (may : MutBor Table → ℕ → Type 0) → ((m : MutBor Table) (p : ℕ) → p < 2 ^ 64 → Roomy m.now p → may m p) → Judges may tells
  judges c may k =
      record {
        takes = k;
        leaves = λ m p r w l x y. ((h m p r w l x y).0.1, (h m p r w l x y).1);
        forward = λ m p f q w l x y. walked_on (one m.now.file.now m.now.words.now) d c m.now.file.now p q f (h m p (Ok (f, q)) w l x y).0.0;
      }

  pub row_judged : {R : Type 0} {end : R} {more : A → R → R} (t : Table) {all : R → Fault} → Fold end more (one t.file.now t.words.now) all
      → ((u : List ℕ) → Restored t.file.now t.words.now u → one t.file.now u ≡ one t.file.now t.words.now)
      → (n at : ℕ) (x : Res Fault) → Rows (Gives t tells) n at x → x ≡ walked all (many end more d n t.file.now at)
  row_judged t fold keeps n at x w =
      row_is fold d t.file.now n at (Gives t tells) x w (λ p r l g.
      (rw g.same.file at (h g.table p r g.left l g.space g.met).0.0) ∙ ap (λ (o : A → Fault). walked o (d t.file.now p)) (keeps g.table.now.words.now g.kept))

-- NAMES IN A ROW

-- the symbols of bound names
abbrev pub bound_all : List (List ℕ) → List Symbol
bound_all xs = together (map (λ x. symbol 6 x ∷ []) xs)

bound_length : (xs : List (List ℕ)) → length (bound_all xs) ≡ length xs
bound_length [] = refl
bound_length (x ∷ xs) = let h = bound_length xs in omega arith

rows_bound : {A : Type 0} (own : A → List ℕ) (ys : List A) → row_symbols (λ a. alone Bound (own a)) ys ≡ bound_all (map own ys)
rows_bound own [] = refl
rows_bound own (a ∷ ys) = ap (λ (es : List Symbol). symbol 6 (own a) ∷ es) (rows_bound own ys)

names_length : {A : Type 0} (own : A → List ℕ) (ys : List A) → length (map own ys) ≡ length ys
names_length own [] = refl
names_length own (a ∷ ys) = let h = names_length own ys in omega arith

-- A row of n names is in a file with space for the entries before it, if it ends where three bytes belong to each of them all: where there are names, they
-- end in the file.
pub row_few : (n m p k : ℕ) → 3 * m ≤ k → (0 < n → p ≤ k) → 3 * (m + n) ≤ p → 3 * (m + n) ≤ k
row_few zero m p k few inside room = omega arith
row_few (suc n) m p k few inside room = let i = inside (omega arith) in omega arith

-- a row of pieces with a name each was pushed: there is room for it where three bytes before its end belong to each entry
module _ {A : Type 0} (own : A → List ℕ) (d : Decoder A) (s t u : List ℕ) (n at r : ℕ) (ys : List A) (p : ℕ) (e : many [] ◌∷◌ d n s at ≡ got ys p)
    (w : Collects (row_symbols (λ a. alone Bound (own a))) (many [] ◌∷◌ d n s at) s t u r) (short : length s ≤ 60000) (words : 1026 + length s ≤ length t) (room : 3 * (length (entries s t) + n) ≤ p)
    (few : 3 * (length (entries s t) + n) ≤ length s) where
  row_length : length ys ≡ n
  row_length = many_size [] ◌∷◌ length refl (λ a r. refl) d s n at ys p e

  pub row_bound : entries s u ≡ entries s t ++ bound_all (map own ys)
  row_bound =
      let k = row_length in
      let m = bound_length (map own ys) in
      let q = names_length own ys in
      (w.runs ys p e).1 ∙ ap (adds (length t) (entries s t)) (rows_bound own ys) ∙ adds_all (length t) (entries s t) (bound_all (map own ys)) (omega arith) (omega arith)

  pub row_number : length (bound_all (map own ys)) ≡ n
  row_number = bound_length (map own ys) ∙ names_length own ys ∙ row_length

  pub row_space : Space s u p
  row_space =
      let v = w.words in
      let k = row_number in
      let m = length-append (entries s t) (bound_all (map own ys)) in
      record { chained = w.chained; short = short; words = omega arith; few = rw row_bound (omega arith); room = rw row_bound (omega arith) }

  -- behind the row's scope the entries are what they were
  pub row_ends : (v z : List ℕ) → Restored s u v → Popped s v n z → Restored s t z
  row_ends v z k q = scope_ends s t u v z (bound_all (map own ys)) n row_bound row_number w.kept w.words k q
