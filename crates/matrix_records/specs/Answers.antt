-- What the functions give, from what the definitions give: what was read with the kind of its record and the next position, or the fault and the
-- record's position.
-- Assumes nothing.
use Rattle.std.specs.Prelude.{ℕ, ◌+◌, ◌*◌, cond, List, Result, leb, length, take}
use Rattle.model.specs.Seats.{find}
use Rattle.model.specs.Accepted.{accepted_head}
use Rattle.model.specs.declared.Head.{Head}
use Rattle.model.specs.declared.Things.{Things}
use Rattle.records.specs.Bytes.{number2}
use Rattle.records.specs.Reading.{Read, got, fault}
use Rattle.records.specs.Front.{Refusal, against, in_record}
use Rattle.records.specs.Results.{item_of}
use Rattle.records.specs.Outcome.RecordAnswer.{RecordAnswer}
use Rattle.records.specs.Outcome.RecordAnswer.{Record, Refused}
use Rattle.records.specs.declared.Refused as result
use Rattle.matrix_records.specs.Content.{Stated, ThingRecord, CellRecord, listed}
use Rattle.matrix_records.specs.Read.{head, thing, cell}
use Rattle.matrix_records.specs.declared.answers.FoundHead.{FoundHead}
use Rattle.matrix_records.specs.declared.answers.FoundThing.{FoundThing}
use Rattle.matrix_records.specs.declared.answers.FoundCell.{FoundCell}

-- the kind of the record that stands at a position
abbrev pub kind_at : List ℕ → ℕ → ℕ
kind_at s at = number2 s (at + 2)

-- that record whatever its kind: its front (1), its body's end (1)
unfoldable pub any_record_at : List ℕ → ℕ → RecordAnswer
any_record_at s at =
    cond (leb (at + 4) (length s))
    (cond (leb (at + 4 + number2 s at) (length s)) (Record (kind_at s at) (at + 4) (number2 s at)) (Refused 1 at))
    (Refused 1 at)

-- a reading, with what was read put as a function gives it
module _ {I F A B : Type 0} (f : A → B) where
  abbrev pub named : Read I F A → Read I F B
  named (got a rest) = got (f a) rest
  named (fault k) = fault k

abbrev pub found_head : ℕ → Stated → FoundHead
found_head kind st = record { kind = kind; count = st.count; highest = st.highest }

abbrev pub found_thing : ℕ → ThingRecord → FoundThing
found_thing kind t = record { kind = kind; id = t.id; of = t.thing.type }

-- a cell at a row and a column, as the one before
abbrev pub last_of : ℕ → ℕ → CellRecord
last_of row column = record { row = row; column = column; rights = 0 }

-- where a cell of two of the first n things is kept
unfoldable pub place_in : ℕ → List ℕ → CellRecord → ℕ
place_in n ids c = find (take n ids) c.row * 48 + find (take n ids) c.column

abbrev pub found_cell : ℕ → List ℕ → ℕ → CellRecord → FoundCell
found_cell n ids kind c = record { kind = kind; row = c.row; column = c.column; place = place_in n ids c; rights = c.rights }

abbrev pub as_head_at : ℕ → Read ℕ Refusal Stated → Result (FoundHead × ℕ) result.Refused
as_head_at kind m = item_of (named (found_head kind) m)

abbrev pub as_thing_at : ℕ → Read ℕ Refusal ThingRecord → Result (FoundThing × ℕ) result.Refused
as_thing_at kind m = item_of (named (found_thing kind) m)

abbrev pub as_cell_at : ℕ → List ℕ → ℕ → Read ℕ Refusal CellRecord → Result (FoundCell × ℕ) result.Refused
as_cell_at n ids kind m = item_of (named (found_cell n ids kind) m)

-- the functions: each record against a scheme's head, over the kinds that may stand there; a thing has an id up to the highest and stands behind one with the
-- id `last`; a cell is one of the first n things' and stands behind a cell at a row and a column
unfoldable pub read_head : List ℕ → ℕ → ℕ → Head → Result (FoundHead × ℕ) result.Refused
read_head s at kinds h = as_head_at (kind_at s at) (against (accepted_head h) (in_record s kinds (λ kind. head h) at))

unfoldable pub read_thing : List ℕ → ℕ → ℕ → Head → ℕ → ℕ → Result (FoundThing × ℕ) result.Refused
read_thing s at kinds h highest last = as_thing_at (kind_at s at) (against (accepted_head h) (in_record s kinds (thing h highest last) at))

unfoldable pub read_cell : List ℕ → ℕ → ℕ → Head → Things → ℕ → CellRecord → Result (FoundCell × ℕ) result.Refused
read_cell s at kinds h th n last =
    as_cell_at n th.ids (kind_at s at) (against (accepted_head h) (in_record s kinds (λ kind. cell h (listed n th) last) at))
