-- One set of rights within another: a set holds itself with a right deleted, and is held by itself with a right entered.
-- Assumes nothing.
use Prim.Native.Nat.{ℕ}
use Rattle.rights.specs.Sets.{has, enter_right, delete_right}
use Rattle.rights.proofs.Laws.{has_enter, has_delete}
use Rattle.laws.proofs.Bools.{and_left, or_left}
use Rattle.conversion.proofs.Mirror.{Sub}

pub sub_entered : (r a : ℕ) → Sub a (enter_right r a)
sub_entered r a q t = rw has_enter (or_left (has a q) _ t)

pub sub_deleted : (r a : ℕ) → Sub (delete_right r a) a
sub_deleted r a q t = and_left (has a q) _ (rw has_delete at t)
