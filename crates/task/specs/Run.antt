-- What a walker has done with a piece. Only contracts of inner functions speak of it.
use Rattle.std.specs.Prelude.{ℕ, ◌≡◌}
use Rattle.task.specs.Decode.{Res, got}

-- Where a piece was decoded, a walker ended behind it and has run it: what it had before became what it has now.
abbrev pub Runs : {A W : Type 0} → (W → A → W) → Res A → W → W → ℕ → Type 0
Runs {A} run d w w' at = (a : A) (p : ℕ) → d ≡ got a p → (at ≡ p) × (w' ≡ run w a)
