-- The ways through `any_record_at`, as the returns of `any_record_at` have them. Assumes nothing.
use Prim.Native.Nat.{ℕ, ◌+◌, ◌≤◌, ◌<◌}
use native.Mathlib.Decide.{dec_lt}
use native.Mathlib.Omega.{arith}
use mathlib.Core.List.{List}
use mathlib.Core.Path.{◌≡◌, sym}
use lib.ListN.{length, drop}
use borrow.Author.Tests.{le-leb, lt-leb}
use Rattle.std.specs.Prelude.{Ok, Err}
use Rattle.faults.specs.declared.Fault.{Fault}
use Rattle.laws.proofs.Differ.{constructors_differ}
use Rattle.records.specs.Bytes.{number2}
use Rattle.records.specs.Reading.{number}
use Rattle.records.specs.Outcome.RecordAnswer.{Record, Refused}
use Rattle.records.specs.Results.{value_of}
use Rattle.records.proofs.FieldLaws.{two_end, two_there}
use Rattle.matrix_records.specs.Answers.{kind_at, any_record_at}

-- ---- two bytes at a position, or no more than one
module _ (s : List ℕ) (i : ℕ) where
  pub two_read : {v : ℕ} → Ok v ≡ value_of (number 2 (drop i s)) → (i + 2 ≤ length s) × (v ≡ number2 s i)
  two_read {v} e = by (dec_lt (length s) (i + 2))
    where
      by : Dec (length s < i + 2) → (i + 2 ≤ length s) × (v ≡ number2 s i)
      by (yes h) = let f = two_end s i h in constructors_differ (cc)
      by (no g) = let h : i + 2 ≤ length s = omega (arith, g) in let f = two_there s i h in (h, cc)

  pub two_short : {f : Fault} → Err f ≡ value_of (number 2 (drop i s)) → length s < i + 2
  two_short e = by (dec_lt (length s) (i + 2))
    where
      by : Dec (length s < i + 2) → length s < i + 2
      by (yes h) = h
      by (no g) = let h : i + 2 ≤ length s = omega (arith, g) in let f = two_there s i h in constructors_differ (cc)

-- ---- the tests, in order
module _ (s : List ℕ) (at : ℕ) where
  pub any_short : length s < at + 4 → any_record_at s at ≡ Refused 1 at
  unfolding any_record_at
  any_short h = simp (lt-leb _ _ h)

  module _ (h : at + 4 ≤ length s) (n : ℕ) (en : n ≡ number2 s at) where
    pub any_past : length s < at + 4 + n → any_record_at s at ≡ Refused 1 at
    unfolding any_record_at
    any_past p = simp (le-leb _ _ h, sym en, lt-leb _ _ p)

    pub any_whole : (kind : ℕ) → kind ≡ kind_at s at → at + 4 + n ≤ length s → any_record_at s at ≡ Record kind (at + 4) n
    unfolding any_record_at
    any_whole kind ek p = simp (le-leb _ _ h, sym en, sym ek, le-leb _ _ p)
