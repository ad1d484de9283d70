-- The laws of a request's definitions that the proofs of its functions cite: its bytes, and the ways through its body. Assumes nothing.
use Prim.Native.Nat.{ℕ, ◌+◌, ◌*◌, ◌-◌, ◌<◌, ◌≤◌}
use native.Mathlib.Omega.{arith}
use native.Mathlib.Nat.{mul_comm}
use mathlib.Core.List.{List, [], ◌∷◌, ◌++◌}
use mathlib.Core.Path.{◌≡◌, refl, sym, ap, ◌∙◌}
use Rattle.std.specs.Prelude.{Result, Ok, Err, replicate}
use Rattle.faults.specs.Numbers.{fault_of}
use Rattle.faults.specs.declared.Fault.{Fault}
use lib.ListN.{length, drop, get_or, set, length-append, length-drop}
use lib.Seq.{sets, get_or-drop}
use borrow.Author.Tests.{le-leb, lt-leb, eq-eqb, ne_eqb}
use Rattle.records.specs.Bytes.{little_endian, each_bytes, part}
use Rattle.records.specs.Reading.{Read, got, fault, Body, bind, ◌>>◌, done, byte, field, end, whole}
use Rattle.records.specs.Front.{record_at, on_body}
use Rattle.records.specs.Writing.{write_bytes}
use Rattle.records.specs.Outcome.Writing.{Writing}
use Rattle.records.specs.Outcome.Writing.{Refused}
use Rattle.records.proofs.BytesLaws.{length_little_endian, length_record, sets_append, record_stored}
use Rattle.records.specs.Results.{value_of, record_result, refused}
use Rattle.records.specs.declared.Record.{Record}
use Rattle.records.specs.declared.Refused.{Refused as Refusal}
use Rattle.records.proofs.FieldLaws.{one_off, none_left, byte_value, field_value}
use Rattle.records.proofs.FrontLaws.{in_refused, in_record_lem}
use Rattle.records.proofs.ResultLaws.{record_back, refused_back}
use Rattle.records.proofs.Trip.{Bytes, length_all, trip_steps}
use Rattle.records.proofs.TripFields.{trip_number}
use Rattle.request_bytes.specs.Read.{ids_in, request, request_of, request_at, no_request, as_request, read_request}
use Rattle.request_bytes.specs.Inner.Body.{ids_result}
use Rattle.request_bytes.specs.Write.{request_bytes, write_request}
use Rattle.request_bytes.specs.Outcome.RequestReading.{Done, End}
use Rattle.request_bytes.specs.Outcome.RequestReading as reading
use Rattle.request_bytes.specs.declared.Request.{Request}
use Rattle.laws.proofs.Differ.{constructors_differ}

-- ---- its bytes
pub length_ids : (ids : List ℕ) → length (each_bytes (little_endian 2) ids) ≡ 2 * length ids
length_ids ids = rw mul_comm (length_all (little_endian 2) 2 (length_little_endian 2) ids)

pub length_request : (command : ℕ) (ids : List ℕ) → length (request_bytes command ids) ≡ 6 + 2 * length ids
unfolding request_bytes
length_request command ids = rw (length_record, length_ids) (omega arith)

-- ids that are stored one a turn, after j turns
module _ (l : List ℕ) (i : ℕ) (ids : List ℕ) (j : ℕ) where
  pub ids_next : j < length ids →
      sets l (i + 2 * j) (each_bytes (little_endian 2) (drop j ids)) ≡
      sets (sets l (i + 2 * j) (little_endian 2 (get_or ids j 0))) (i + 2 * (j + 1)) (each_bytes (little_endian 2) (drop (j + 1) ids))
  ids_next h = let e : i + 2 * (j + 1) ≡ i + 2 * j + 2 = omega arith in rw (one_off ids j h, sets_append, length_little_endian, e)

  pub ids_all : length ids ≤ j → sets l (i + 2 * j) (each_bytes (little_endian 2) (drop j ids)) ≡ l
  ids_all h = rw (none_left ids j h)

pub request_stored : (l : List ℕ) (command : ℕ) (ids : List ℕ) →
    sets (set (set (sets (sets l 0 (little_endian 2 (2 + 2 * length ids))) 2 (little_endian 2 6)) 4 command) 5 (length ids)) 6 (each_bytes (little_endian 2) ids)
    ≡ sets l 0 (request_bytes command ids)
unfolding request_bytes
request_stored l command ids = record_stored l 6 (2 + 2 * length ids) (command ∷ length ids ∷ each_bytes (little_endian 2) ids) (rw length_ids (omega arith))

-- ---- the answers of a writing
module _ (out : List ℕ) (at command : ℕ) (ids : List ℕ) where
  pub ids_many : 8 < length ids → ◌≡◌ {A = Writing × List ℕ} (Refused 4, out) (write_request out at command ids)
  unfolding write_request
  ids_many h = rw (lt-leb _ _ h)

  pub ids_few : length ids ≤ 8 → write_bytes out at (request_bytes command ids) ≡ write_request out at command ids
  unfolding write_request
  ids_few h = rw (le-leb _ _ h)

-- ---- the ways through its body, as the returns of `request_of` have them

-- a line's fault is that of the whole
pub stopped : {A B R : Type 0} (answer : Read (List ℕ) ℕ A → R) (out : Fault → R) → ((k : ℕ) → answer (fault k) ≡ out (fault_of k)) →
    (r : Read (List ℕ) ℕ B) (rest : B → Body A) {f : Fault} → value_of r ≡ Err f → out f ≡ answer (bind r rest)
stopped answer out told (got v t) rest e = constructors_differ (cc)
stopped answer out told (fault k) rest {f} e = let g : fault_of k ≡ f = cc in ap out (sym g) ∙ sym (told k)

ids_fault : (m : Read (List ℕ) ℕ (List ℕ)) {f : Fault} → ids_result m ≡ Err f → value_of m ≡ Err f
ids_fault (got ids t) e = constructors_differ (cc)
ids_fault (fault k) {f} e = let g : fault_of k ≡ f = cc in ap Err g

ids_got : (m : Read (List ℕ) ℕ (List ℕ)) {array : List ℕ} → ids_result m ≡ Ok array →
    (ids : List ℕ) × (t : List ℕ) × (m ≡ got ids t) × (array ≡ ids ++ replicate (8 - length ids) 0)
ids_got (got ids t) {array} e = (ids, t, refl, let g : ids ++ replicate (8 - length ids) 0 ≡ array = cc in sym g)
ids_got (fault k) e = constructors_differ (cc)

-- what follows a body's lines: its end
abbrev ended : Read (List ℕ) ℕ Request → Result Request Fault
ended m = value_of (bind m (λ q. end >> done q))

module _ (b : List ℕ) where
  abbrev ids_on : ℕ → Read (List ℕ) ℕ (List ℕ)
  ids_on count = ids_in count (drop 2 b)

  -- two bytes an id are read, and the rest is left
  ids_left : Bytes b → (n : ℕ) {ids t : List ℕ} → ids_on n ≡ got ids t → (length ids ≡ n) × (2 * n + length t ≡ length b - 2)
  ids_left h n {ids} {t} e =
      let (s, o) = (trip_steps (λ u. trip_number 2) (λ (u : Unit {0}) x. u) n tt).back (drop 2 b) t ids (λ k. rw get_or-drop (h (2 + k))) e in
      let l : length (each_bytes (little_endian 2) ids ++ t) ≡ 2 * length ids + length t = rw (length-append, length_ids) in
      (o.1, omega (arith, length-drop 2 b, ap length s))

  pub no_command : {f : Fault} → value_of (byte b) ≡ Err f → Err f ≡ value_of (whole request b)
  unfolding whole request
  no_command e = stopped ended Err (λ k. refl) (byte b) _ e

  module _ (command : ℕ) (ec : value_of (byte b) ≡ Ok command) where
    pub no_count : {f : Fault} → value_of (field 0 9 4 (drop 1 b)) ≡ Err f → Err f ≡ value_of (whole request b)
    unfolding whole request
    no_count e = rw (byte_value b 0 1 command refl ec) (stopped ended Err (λ k. refl) (field 0 9 4 (drop 1 b)) _ e)

    module _ (count : ℕ) (en : value_of (field 0 9 4 (drop 1 b)) ≡ Ok count) where
      pub no_ids : {f : Fault} → ids_result (ids_on count) ≡ Err f → Err f ≡ value_of (whole request b)
      unfolding whole request
      no_ids e =
          rw (byte_value b 0 1 command refl ec, field_value b 1 2 count 0 9 4 refl en)
          (stopped ended Err (λ k. refl) (ids_on count) _ (ids_fault (ids_on count) e))

      -- all ids are read, and then either something is left or nothing is
      module _ (h : Bytes b) (array : List ℕ) (e : ids_result (ids_on count) ≡ Ok array) where
        pub more_left : 2 + 2 * count < length b → Err (fault_of 3) ≡ value_of (whole request b)
        unfolding whole request
        more_left l =
            let (ids, t, f, g) = ids_got (ids_on count) e in
            let p : 0 < length t = omega (arith, ids_left h count f) in
            rw (byte_value b 0 1 command refl ec, field_value b 1 2 count 0 9 4 refl en, f, one_off t 0 p)

        pub none_more : length b ≤ 2 + 2 * count → Ok (record { command = command; count = count; ids = array }) ≡ value_of (whole request b)
        unfolding whole request request_of
        none_more l =
            let (ids, t, f, g) = ids_got (ids_on count) e in
            let (n, m) = ids_left h count f in
            let z : t ≡ [] = none_left t 0 (omega arith) in
            let held : array ≡ ids ++ replicate (8 - count) 0 = rw n at g in
            rw (byte_value b 0 1 command refl ec, field_value b 1 2 count 0 9 4 refl en, f, z, n)
            (ap (λ (x : List ℕ). Ok (record { command = command; count = count; ids = x })) held)

-- ---- the record, or the list's end
module _ (s : List ℕ) (at : ℕ) where
  pub read_end : at ≡ length s → record { answer = End; request = no_request } ≡ read_request s at
  unfolding read_request
  read_end e = rw (eq-eqb _ _ e)

  module _ (e : at ≡ length s → ⊥) where
    pub read_on : as_request (request_at s at) ≡ read_request s at
    unfolding read_request
    read_on = rw (ne_eqb _ _ e)

    -- no record of a request, as `record_at` refuses it
    pub read_refused : {r : Refusal} → record_result (record_at s at 64) ≡ Err r →
        (k : ℕ) × (q : ℕ) × (r ≡ refused k q) × (record { answer = reading.Refused k q; request = no_request } ≡ read_request s at)
    unfolding request_at
    read_refused {r} f =
        let (k, q, g, h) = refused_back (record_at s at 64) f in
        (k, q, h, rw (in_refused s at 64 (λ kind. request) k q g) at read_on)

    module _ (r : Record) (f : record_result (record_at s at 64) ≡ Ok r) where
      abbrev its_body : List ℕ
      its_body = part s r.start r.len

      read_record : as_request (on_body at (r.start + r.len) (whole request its_body)) ≡ read_request s at
      unfolding request_at
      read_record = rw (in_record_lem s at 64 (λ kind. request) r.kind r.start r.len (record_back (record_at s at 64) f)) at read_on

      -- its body is at fault, or is a request's
      pub read_fault : (k : ℕ) → whole request its_body ≡ fault k → record { answer = reading.Refused k at; request = no_request } ≡ read_request s at
      read_fault k g = rw g at read_record

      pub read_done : (q : Request) (t : List ℕ) → whole request its_body ≡ got q t →
          record { answer = Done (r.start + r.len); request = q } ≡ read_request s at
      read_done q t g = rw g at read_record
