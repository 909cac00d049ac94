-- Calls that send pieces in a row, a space before each: their loop, and what they send if each sends its piece.
use Rattle.std.specs.Prelude.{◌^◌}
use Rattle.std.specs.Borrow.{MutBor}
use mathlib.Core.Path.{◌≡◌, refl, sym}
use mathlib.Core.List.{List}
use Prim.Native.Nat.{ℕ, zero, suc, ◌+◌, ◌-◌, ◌<◌}
use native.Mathlib.Omega.{arith}
use Rattle.task.specs.Decode.{Decoder, many}
use Rattle.smt_text.specs.Text.{spaced}
use Rattle.output.specs.declared.Out.{Out}
use Rattle.output.specs.Emit.{Output, output, emit, emits, Sends}
use Rattle.output.proofs.Sent.{emits_append}
use Rattle.output.proofs.Sending.{sends_end, sends_then, Row}
use Rattle.smt_word.specs.declared.Sent.{Sent}
use Rattle.smt_word.specs.Row.{Tells, Called, Calls}

-- the loop of m calls from `at` on: i were made, the others are from p on, and the output was first and is o
pub record Rowing (tells : Tells) (m at : ℕ) (first : Output) (i p : ℕ) (o : Output) : Type 0 where
  pub low : p < 2 ^ 64
  pub rest : (q : ℕ) (v : Output) → Calls tells (m - i) p o q v → Calls tells m at first q v

pub rowing_goes : (tells : Tells) (m at : ℕ) (first : Output) (i p : ℕ) (o : Output) → Rowing tells m at first i p o → i < m → (b : MutBor (List ℕ)) (t : Out) → output b.now t.len ≡ emit o 32
    → (k : Sent) (w : MutBor (List ℕ)) → tells p b t k w → k.at < 2 ^ 64 → Rowing tells m at first (i + 1) k.at (output w.now k.out.len)
rowing_goes tells m at first i p o x h b t e k w y l =
    let z : m - i ≡ suc (m - (i + 1)) = omega arith in
    record {
      low = l;
      rest = λ q v n. x.rest q v (rw z (k.at, output w.now k.out.len, record { low = x.low; buf = b; out = t; before = e; left = w; sent = k; behind = refl; ended = refl; met = y }, n));
    }

-- what calls in a row send, if each sends the piece at its position
module _ {A R : Type 0} {end : R} {more : A → R → R} {one : A → List ℕ} {all : R → List (List ℕ)} (row : Row end more one all) (d : Decoder A) (s : List ℕ) (tells : Tells)
    (h : (p : ℕ) (b : MutBor (List ℕ)) (t : Out) (k : Sent) (w : MutBor (List ℕ)) → p < 2 ^ 64 → tells p b t k w → Sends one (d s p) (output b.now t.len) (output w.now k.out.len) k.at) where
  one_sends : (p : ℕ) (o : Output) (q : ℕ) (o' : Output) → Called tells p o q o' → Sends one (d s p) o o' q
  one_sends p o q o' c = rw (c.before, c.behind, c.ended) at (h p c.buf c.out c.sent c.left c.low c.met)

  pub row_sends : (n p : ℕ) (o : Output) (q : ℕ) (o' : Output) → Calls tells n p o q o' → Sends (λ b. spaced (all b)) (many end more d n s p) o o' q
  unfolding emits
  row_sends zero p o q o' c = sends_end (λ b. spaced (all b)) o o' q end p c.0 (rw (row.none, c.1))
  row_sends (suc n) p o q o' c =
      sends_then (λ b. spaced (all b)) o o' q one (d s p) _ (emit o 32) c.1 c.0 (one_sends p (emit o 32) c.0 c.1 c.2) (λ a e v.
      sends_then (λ b. spaced (all b)) o o' q (λ b. spaced (all b)) (many end more d n s c.0) _ c.1 o' q (row_sends n c.0 c.1 q o' c.3) (λ b e' v'.
      sends_end (λ b. spaced (all b)) o o' q (more a b) q refl (rw (v', v, row.step a b) (sym (emits_append (emit o 32) (one a) (spaced (all b)))))))
