-- The ways through `record_at`, as the returns of `record_at` have them; and what a record that was found is. Assumes nothing.
use Prim.Native.Nat.{ℕ, ◌+◌, ◌-◌, ◌/◌, ◌%◌, ◌^◌, ◌<◌, ◌≤◌}
use native.Mathlib.Omega.{arith}
use native.Mathlib.Nat.{sub_self, add-sub_cancel_left}
use mathlib.Core.Bool.{Bool, true, false, cond}
use mathlib.Core.List.{List, []}
use mathlib.Core.Path.{◌≡◌, refl, sym}
use lib.Dec.{leb, eqb}
use lib.ListN.{length, take, drop, length-drop, drop_of_length-le}
use lib.Seq.{take_all, take-nil}
use borrow.Author.Tests.{le-leb, lt-leb, lt-ltb, le-ltb, leb-true}
use Rattle.rights.specs.Sets.{has}
use Rattle.records.specs.Bytes.{number2, part}
use Rattle.records.specs.Front.{allowed, record_at, next_at, after_record, in_record, on_body}
use Rattle.records.specs.Reading.{fault, Body, whole}
use Rattle.records.specs.Outcome.RecordAnswer.{Record, Refused}
use Rattle.records.specs.Outcome.Reading as reading
use Rattle.laws.proofs.Differ.{constructors_differ}

-- ---- the kinds
pub allowed_below : (kinds kind : ℕ) → kind < 16 → eqb (kinds / 2 ^ kind % 2) 1 ≡ allowed kinds kind
unfolding allowed has
allowed_below kinds kind h = rw (lt-ltb kind 16 h)

pub allowed_above : (kinds kind : ℕ) → 16 ≤ kind → false ≡ allowed kinds kind
unfolding allowed
allowed_above kinds kind h = rw (le-ltb kind 16 h)

-- ---- the tests, in order
module _ (s : List ℕ) (at kinds : ℕ) where
  pub record_short : length s < at + 4 → Refused 1 at ≡ record_at s at kinds
  unfolding record_at
  record_short h = simp (lt-leb _ _ h)

  module _ (h : at + 4 ≤ length s) (k : ℕ) (ek : k ≡ number2 s (at + 2)) where
    pub record_kind : allowed kinds k ≡ false → Refused 2 at ≡ record_at s at kinds
    unfolding record_at
    record_kind a = simp (le-leb _ _ h, sym ek, a)

    module _ (a : allowed kinds k ≡ true) (n : ℕ) (en : n ≡ number2 s at) where
      pub record_past : length s < at + 4 + n → Refused 1 at ≡ record_at s at kinds
      unfolding record_at
      record_past p = simp (le-leb _ _ h, sym ek, a, sym en, lt-leb _ _ p)

      pub record_whole : at + 4 + n ≤ length s → Record k (at + 4) n ≡ record_at s at kinds
      unfolding record_at
      record_whole p = simp (le-leb _ _ h, sym ek, a, sym en, le-leb _ _ p)

-- ---- the body that is lent
module _ (s : List ℕ) (start len : ℕ) where
  pub part_none : length s ≤ start → take (length s - length s) (drop (length s) s) ≡ part s start len
  unfolding part
  part_none h = let e : drop start s ≡ [] = drop_of_length-le s {i = start} h in rw (sub_self, e, take-nil)

  pub part_short : length s - start < len → take (length s - start) (drop start s) ≡ part s start len
  unfolding part
  part_short h =
      let d : length (drop start s) ≡ length s - start = length-drop start s in
      rw (take_all (length s - start) (drop start s) (omega arith), take_all len (drop start s) (omega arith))

  pub part_whole : take (start + len - start) (drop start s) ≡ part s start len
  unfolding part
  part_whole = rw add-sub_cancel_left

-- ---- a record that was found
pub record Found (s : List ℕ) (at kinds kind start len : ℕ) : Type 0 where
  pub behind : start ≡ at + 4
  pub inside : start + len ≤ length s
  pub its_kind : kind ≡ number2 s (at + 2)
  pub its_length : len ≡ number2 s at
  pub of_kinds : allowed kinds kind ≡ true

opened : (a b d : Bool) (x y z at kind start len : ℕ) →
    cond a (cond b (cond d (Record x y z) (Refused 1 at)) (Refused 2 at)) (Refused 1 at) ≡ Record kind start len →
    (d ≡ true) × (b ≡ true) × (x ≡ kind) × (y ≡ start) × (z ≡ len)
opened true true true x y z at kind start len e = (refl, refl, cc, cc, cc)
opened true true false x y z at kind start len e = constructors_differ (cc)
opened true false d x y z at kind start len e = constructors_differ (cc)
opened false b d x y z at kind start len e = constructors_differ (cc)

pub record_found : (s : List ℕ) (at kinds kind start len : ℕ) → record_at s at kinds ≡ Record kind start len → Found s at kinds kind start len
unfolding record_at
record_found s at kinds kind start len e =
    let o = opened (leb (at + 4) (length s)) (allowed kinds (number2 s (at + 2))) (leb (at + 4 + number2 s at) (length s)) _ _ _ _ _ _ _ e in
    let h : at + 4 + number2 s at ≤ length s = leb-true _ _ o.0 in
    record {
      behind = sym o.3;
      inside = omega (arith, o.3, o.4, h);
      its_kind = sym o.2;
      its_length = sym o.4;
      of_kinds = rw o.2 at o.1;
    }

-- ---- the position after it
pub next_refused : (s : List ℕ) (at kinds k p : ℕ) → record_at s at kinds ≡ Refused k p → reading.Refused k p ≡ next_at s at kinds
unfolding next_at after_record
next_refused s at kinds k p e = rw e

pub next_record : (s : List ℕ) (at kinds kind start len : ℕ) → record_at s at kinds ≡ Record kind start len → reading.Done (start + len) ≡ next_at s at kinds
unfolding next_at after_record
next_record s at kinds kind start len e = rw e

-- ---- its body, read
module _ {A : Type 0} (s : List ℕ) (at kinds : ℕ) (p : ℕ → Body A) where
  pub in_refused : (k q : ℕ) → record_at s at kinds ≡ Refused k q → in_record s kinds p at ≡ fault (record { number = k; at = q })
  unfolding in_record
  in_refused k q e = rw e

  pub in_record_lem : (kind start len : ℕ) → record_at s at kinds ≡ Record kind start len →
      in_record s kinds p at ≡ on_body at (start + len) (whole (p kind) (part s start len))
  unfolding in_record
  in_record_lem kind start len e = rw e
