-- What a writing that was done tells: it was allowed, there was room, and the bytes stand where they were placed.
-- Assumes nothing.
use Prim.Native.Nat.{ℕ, ◌+◌, ◌≤◌}
use native.Mathlib.Nat.{zero-add}
use mathlib.Core.Bool.{Bool, true, false, cond}
use mathlib.Core.List.{List}
use mathlib.Core.Path.{◌≡◌, refl, sym, ap, ◌∙◌}
use lib.Dec.{T, leb}
use lib.ListN.{length, take}
use borrow.Author.Tests.{leb-true}
use Rattle.records.specs.Writing.{placed, write_bytes}
use Rattle.records.specs.Outcome.Writing.{Writing}
use Rattle.records.specs.Outcome.Writing.{Done, Refused}
use Rattle.records.proofs.PlacedLaws.{take_through_placed}
use Rattle.laws.proofs.Differ.{constructors_differ}

pub pair_eq : {A : Type 0} {x y : A} {l m : List ℕ} → ◌≡◌ {A = A × List ℕ} (x, l) (y, m) → (x ≡ y) × (l ≡ m)
pair_eq {A} e = (ap (λ (p : A × List ℕ). p.0) e, ap (λ (p : A × List ℕ). p.1) e)

pub record Wrote (out : List ℕ) (at : ℕ) (vs : List ℕ) (next : ℕ) (left : List ℕ) : Type 0 where
  pub room : at + length vs ≤ length out
  pub behind : next ≡ at + length vs
  pub stands : left ≡ placed out at vs

-- k is the number where it isn't allowed
pub wrote : (may : Bool) (k : ℕ) (out : List ℕ) (at : ℕ) (vs : List ℕ) (next : ℕ) (left : List ℕ) →
    ◌≡◌ {A = Writing × List ℕ} (cond may (write_bytes out at vs) (Refused k, out)) (Done next, left) → T may × Wrote out at vs next left
unfolding write_bytes
wrote true k out at vs next left e = (tt, go (leb (at + length vs) (length out)) refl e)
  where
    go : (b : Bool) → leb (at + length vs) (length out) ≡ b →
        ◌≡◌ {A = Writing × List ℕ} (cond b (Done (at + length vs), placed out at vs) (Refused 9, out)) (Done next, left) → Wrote out at vs next left
    go true f e = let (p, d) = pair_eq e in record { room = leb-true _ _ f; behind = cc; stands = sym d }
    go false f e = let (p, d) = pair_eq e in constructors_differ (cc)
wrote false k out at vs next left e = let (p, d) = pair_eq e in constructors_differ (cc)

-- from the start: what was written is what stands in front
pub wrote_first : (out vs : List ℕ) (next : ℕ) (left : List ℕ) → Wrote out 0 vs next left → (next ≡ length vs) × (take next left ≡ vs)
wrote_first out vs next left w =
    let n : next ≡ length vs = w.behind ∙ zero-add (length vs) in
    (n, rw (w.stands, w.behind) (take_through_placed out 0 vs w.room))
