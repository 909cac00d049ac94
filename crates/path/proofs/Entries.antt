-- The offsets on a path: how many there are, and for how many more there is room.
use mathlib.Core.Path.{◌≡◌}
use mathlib.Core.List.{[], ◌∷◌, ◌++◌}
use Prim.Native.Nat.{ℕ, ◌+◌, ◌≤◌}
use native.Mathlib.Omega.{arith}
use lib.ListN.{length}
use lib.Seq.{length-take-le}
use Rattle.path.specs.declared.Path.{Path}
use Rattle.path.specs.Offsets.{entries, Leaves}

-- as many as the depth says
pub depth_is : (p : Path) (l : ℕ) → Leaves p l → length (entries p) ≡ p.depth
depth_is p l h = let e = h.size in let g = h.within in length-take-le p.depth p.offsets (omega arith)

-- room is left while there are levels
pub leaves_empty : (p : Path) → (entries p ≡ []) × (p.depth ≡ 0) × (length p.offsets ≡ 256) → Leaves p 256
leaves_empty p h = let e = h.1 in record { size = h.2; within = omega arith }

pub leaves_pushed : (p q : Path) (l at : ℕ) → Leaves p (l + 1)
    → (entries q ≡ entries p ++ at ∷ []) × (q.depth ≡ p.depth + 1) × (length q.offsets ≡ 256) → Leaves q l
leaves_pushed p q l at h e = let g = h.within in let d = e.1 in record { size = e.2; within = omega arith }

pub leaves_fewer : (p : Path) (l k : ℕ) → k ≤ l → Leaves p l → Leaves p k
leaves_fewer p l k g h = let w = h.within in record { size = h.size; within = omega arith }
