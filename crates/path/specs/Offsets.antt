-- A path stands for a list of offsets.
use Rattle.std.specs.Prelude.{ℕ, ◌+◌, ◌≤◌, List, ◌≡◌, length, take}
use Rattle.path.specs.declared.Path.{Path}

-- its first `depth` offsets
abbrev pub entries : Path → List ℕ
entries p = take p.depth p.offsets

-- the array has room for so many ForAlls more
pub record Leaves (p : Path) (levels : ℕ) : Type 0 where
  pub size : length p.offsets ≡ 256
  pub within : p.depth + levels ≤ 256
