-- A record at a position: its front (1), its kind (2), its body's end (1); then its body.
-- Assumes nothing.
use Rattle.std.specs.Prelude.{ℕ, ◌+◌, Bool, cond, ◌&&◌, List, leb, ltb, length}
use Rattle.rights.specs.Sets.{has}
use Rattle.records.specs.Bytes.{number2, part}
use Rattle.records.specs.Reading.{Read, got, fault, Reader, Body, whole}
use Rattle.records.specs.Outcome.RecordAnswer.{RecordAnswer}
use Rattle.records.specs.Outcome.RecordAnswer.{Record, Refused}
use Rattle.records.specs.Outcome.Reading.{Reading}
use Rattle.records.specs.Outcome.Reading as reading

-- the kinds that may stand there are a set with bit k for kind k; all 16 bits of a kind count
unfoldable pub allowed : ℕ → ℕ → Bool
allowed kinds kind = ltb kind 16 && has kinds kind

unfoldable pub record_at : List ℕ → ℕ → ℕ → RecordAnswer
record_at s at kinds =
    cond (leb (at + 4) (length s))
    (cond (allowed kinds (number2 s (at + 2)))
    (cond (leb (at + 4 + number2 s at) (length s))
    (Record (number2 s (at + 2)) (at + 4) (number2 s at))
    (Refused 1 at))
    (Refused 2 at))
    (Refused 1 at)

-- the position after a record, or the refusal
unfoldable pub after_record : RecordAnswer → Reading
after_record (Record kind start len) = reading.Done (start + len)
after_record (Refused number at) = reading.Refused number at

unfoldable pub next_at : List ℕ → ℕ → ℕ → Reading
next_at s at kinds = after_record (record_at s at kinds)

-- a refusal of a whole record: a number with the record's position
pub record Refusal : Type 0 where
  pub number : ℕ
  pub at : ℕ

-- a reading against something that was handed in: 27 at position 0, before all other checks, where no reading gives it
abbrev pub against : {A : Type 0} → Bool → Read ℕ Refusal A → Read ℕ Refusal A
against given read = cond given read (fault (record { number = 27; at = 0 }))

-- a record's refusal as that of what was to be read; it is asked of no record
abbrev pub refusal_of : {A : Type 0} → RecordAnswer → Read ℕ Refusal A
refusal_of (Record kind start len) = fault (record { number = 0; at = 0 })
refusal_of (Refused number at) = fault (record { number = number; at = at })

-- a record as one item of its input: its body is read, whole, by the reader for the kind that was found
module _ {A : Type 0} where
  abbrev pub on_body : ℕ → ℕ → Read (List ℕ) ℕ A → Read ℕ Refusal A
  on_body at next (got a rest) = got a next
  on_body at next (fault k) = fault (record { number = k; at = at })

  abbrev pub on_record : List ℕ → ℕ → (ℕ → Body A) → RecordAnswer → Read ℕ Refusal A
  on_record s at p (Record kind start len) = on_body at (start + len) (whole (p kind) (part s start len))
  on_record s at p (Refused k q) = fault (record { number = k; at = q })

  unfoldable pub in_record : List ℕ → ℕ → (ℕ → Body A) → Reader ℕ Refusal A
  in_record s kinds p = λ at. on_record s at p (record_at s at kinds)
