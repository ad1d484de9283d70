-- Two constructors are never equal: `cc`, handed equations that say otherwise, proves that 0 is 1, and from that anything follows.
-- Assumes nothing.
use Prim.Native.Nat.{ℕ}
use native.Mathlib.Omega.{arith}
use mathlib.Core.Path.{◌≡◌}

pub constructors_differ : {A : Type 0} → ◌≡◌ {A = ℕ} 0 1 → A
constructors_differ e = absurd (omega arith)
