-- `lines::put_text` meets its contract: what is left to put is what remains of the text.
-- Assumes nothing.
use Prim.Native.Nat.{ℕ}
use native.Mathlib.Omega.{arith}
use mathlib.Core.Path.{refl}
use Rattle.laws.proofs.Walks.{turn, ended}
use Rattle.lines.proofs.PutLaws.{left_on, left_none}
use Rattle.lines.proofs.put_text.Goals as goal

pub loop-byte-preserved : goal.loop-byte-preserved
loop-byte-preserved c =
    left_on c.loop-byte.invariant (omega arith) _ _ c.put_byte-p.ensures (turn {A = ℕ} _ _ refl _ 0 c.loop-byte-test.true)

pub returns : goal.returns
returns c = left_none c.loop-byte.invariant (ended _ _ refl _ c.loop-byte-test.false)
