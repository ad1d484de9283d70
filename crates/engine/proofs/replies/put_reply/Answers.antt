-- The three stores, or nothing past the end, where `sets` does nothing either.
use Prim.Native.Nat.{ℕ, suc, ◌+◌}
use mathlib.Core.Path.{◌≡◌, sym}
use native.Mathlib.Numerals.{add-one}
use native.Mathlib.Omega.{arith}
use Rattle.model.specs.Answers.{reply_bytes}
use Rattle.records.proofs.BytesLaws.{sets_out}
use Rattle.engine.proofs.replies.put_reply.Goals as goal

two : (n : ℕ) → n + 2 ≡ suc (suc n)
two n = omega arith

pub returns-then-n-out : goal.returns-then-n-out
unfolding reply_bytes
returns-then-n-out c =
    let first = c.put1.ensures in
    let second = c.put1-then-n-out.ensures in
    rw (second, first, add-one, two) at c.put1-then-n-out-2.ensures

pub returns-else-n-out : goal.returns-else-n-out
returns-else-n-out c = sym (sets_out c.args.out.now _ (reply_bytes _) (omega arith))
