-- Reading an old image, as the functions follow it: the head's body, line by line; what stands behind the head; and the highest id of a list.
-- Assumes nothing.
use Prim.Native.Nat.{ℕ, ◌+◌, max}
use native.Mathlib.Omega.{arith}
use mathlib.Core.Bool.{cond}
use mathlib.Core.List.{List, [], ◌∷◌}
use mathlib.Core.Path.{◌≡◌, refl, sym, ap, ◌∙◌}
use lib.Dec.{T, eqb, ltb}
use lib.ListN.{length, drop, replicate}
use Rattle.std.specs.Prelude.{Result, Ok, Err, MatchResult}
use Rattle.std.specs.Result.{IsErrAnd}
use Rattle.std.proofs.lemmas.Result.{err_from_is_err_and}
use Rattle.std.specs.List.{fold, reduce}
use Rattle.std.specs.Option.{unwrap_or}
use Rattle.faults.specs.Numbers.{fault_of}
use Rattle.faults.specs.declared.Fault.{Fault}
use Rattle.model.specs.Accepted.{accepted_head}
use Rattle.model.specs.Seats.{Matrix}
use Rattle.model.specs.declared.Head.{Head}
use Rattle.model.specs.declared.Things.{Things}
use Rattle.records.specs.Bytes.{part}
use Rattle.records.specs.Reading.{Read, got, fault, bind, done, end, ◌>>◌, field, whole}
use Rattle.records.specs.Front.{Refusal, record_at, in_record, on_record, on_body}
use Rattle.records.specs.Outcome.RecordAnswer.{RecordAnswer}
use Rattle.records.specs.Outcome.RecordAnswer as record_answer
use Rattle.records.specs.Results.{value_of, record_result, refused}
use Rattle.records.specs.declared.Record.{Record}
use Rattle.records.specs.declared.Refused.{Refused}
use Rattle.records.proofs.FrontLaws.{in_record_lem}
use Rattle.records.proofs.Lines.{on, field_line, check_line, end_line}
use Rattle.records.proofs.ResultLaws.{record_back}
use Rattle.records.proofs.Trip.{Bytes}
use Rattle.matrix_records.proofs.Trips.{head_sized}
use Rattle.matrix_bytes.specs.Read.{rest}
use Rattle.matrix_bytes.specs.Answers.{as_matrix, matrix_result, read_rest}
use Rattle.matrix_bytes.proofs.ReadMatrix.{rest_opened}
use Rattle.matrix_bytes.proofs.Trips.{stand_le}
use Rattle.laws.proofs.Differ.{constructors_differ}
use Rattle.moving.specs.Old.{old_head, old_content, highest_of}
use Rattle.moving.specs.Inner.Parts.{at_start, things_of}
use Rattle.moving.proofs.OldTrips.{old_head_record}

-- what `map_err` gives by that
module _ {A : Type 0} where
  abbrev pub by_start : Result A Fault → Result A Refused
  by_start (Ok v) = Ok v
  by_start (Err f) = Err (at_start f)

  pub started : (m : Result A Fault) {r : Result A Refused} → MatchResult m (λ v. r ≡ Ok v) (λ f. IsErrAnd r (λ e. e ≡ at_start f)) → r ≡ by_start m
  started (Ok v) h = h
  started (Err f) {r} h = let (e, is, same) = err_from_is_err_and r h in is ∙ ap Err same

-- ---- the head's body
pub old_lines : (b : List ℕ) (h : Head) → value_of (whole (old_head h) b) ≡
    on (λ n. cond (eqb n h.rights)
    (on (λ count. cond (ltb 2 (length b)) (Err (fault_of 3)) (Ok count)) Err (value_of (field 0 49 4 (drop 1 b))))
    (Err (fault_of 6)))
    Err (value_of (field 1 65 4 b))
unfolding whole old_head
old_lines b h =
    let answer : Read (List ℕ) ℕ ℕ → Result ℕ Fault = λ m. value_of (bind m (λ a. end >> done a)) in
    field_line answer Err (λ k. refl) b 0 1 _ _
    (λ n. check_line answer Err (λ k. refl) (eqb n h.rights) 6 (drop 1 b) _ _
    (field_line value_of Err (λ k. refl) b 1 2 _ _ (λ count. end_line value_of Err (λ k. refl) b 2 count (Ok count) refl) 0 49 4 refl)) 1 65 4 refl

-- ---- an image that is read whole, from what the reader gives that takes things and cells to keep
module _ (x : Read ℕ Refusal Matrix) (things th : Things) (cells left : List ℕ) where
  pub not_kept : {r : Refused} → ◌≡◌ {A = Result ℕ Refused × Things × List ℕ} (Err r, th, left) (matrix_result (as_matrix things cells x)) → Err r ≡ things_of x
  not_kept {r} e = go x (ap (λ (p : Result ℕ Refused × Things × List ℕ). p.0) e)
    where
      go : (x : Read ℕ Refusal Matrix) → Err r ≡ (matrix_result (as_matrix things cells x)).0 → Err r ≡ things_of x
      go (got m n) f = constructors_differ (cc)
      go (fault k) f = let same : r ≡ refused k.number k.at = cc in ap Err same

  pub kept : {n : ℕ} → ◌≡◌ {A = Result ℕ Refused × Things × List ℕ} (Ok n, th, left) (matrix_result (as_matrix things cells x)) → Ok th ≡ things_of x
  kept {n} e = go x (ap (λ (p : Result ℕ Refused × Things × List ℕ). p.0) e) (ap (λ (p : Result ℕ Refused × Things × List ℕ). p.1) e)
    where
      go : (x : Read ℕ Refusal Matrix) → Ok n ≡ (matrix_result (as_matrix things cells x)).0 → th ≡ (matrix_result (as_matrix things cells x)).1 → Ok th ≡ things_of x
      go (got m k) f t = ap Ok t
      go (fault k) f t = constructors_differ (cc)

-- ---- the image
module _ (h : Head) (s : List ℕ) where
  abbrev its_things : Result Things Refused
  its_things = things_of (old_content h s 0)

  -- its front isn't there, or is of another kind
  pub old_no_record : {r : Refused} → Err r ≡ record_result (record_at s 0 8) → Err r ≡ its_things
  unfolding old_content in_record
  old_no_record {r} e = go (record_at s 0 8) e
    where
      go : (a : RecordAnswer) → Err r ≡ record_result a → Err r ≡ things_of (bind (on_record s 0 (λ kind. old_head h) a) (λ count. rest h 65535 count s))
      go (record_answer.Record kind start len) f = constructors_differ (cc)
      go (record_answer.Refused k q) f = let same : r ≡ refused k q = cc in ap Err same

  module _ {r : Record} (found : Ok r ≡ record_result (record_at s 0 8)) {b : List ℕ} (eb : b ≡ part s r.start r.len) {m : Result ℕ Fault} (em : m ≡ value_of (whole (old_head h) b)) where
    abbrev behind : ℕ
    behind = r.start + r.len

    body_read : in_record s 8 (λ kind. old_head h) 0 ≡ on_body 0 behind (whole (old_head h) b)
    body_read = rw eb (in_record_lem s 0 8 (λ kind. old_head h) r.kind r.start r.len (record_back (record_at s 0 8) (sym found)))

    -- its body is at fault
    pub old_no_head : {f : Refused} → Err f ≡ by_start m → Err f ≡ its_things
    unfolding old_content
    old_no_head {f} e = rw body_read (go (whole (old_head h) b) (e ∙ ap by_start em))
      where
        go : (w : Read (List ℕ) ℕ ℕ) → Err f ≡ by_start (value_of w) → Err f ≡ things_of (bind (on_body 0 behind w) (λ count. rest h 65535 count s))
        go (got v left) g = constructors_differ (cc)
        go (fault k) g = let same : f ≡ refused k 0 = cc in ap Err same

    module _ {count : ℕ} (e : Ok count ≡ by_start m) where
      head_read : in_record s 8 (λ kind. old_head h) 0 ≡ got count behind
      head_read = body_read ∙ go (whole (old_head h) b) (e ∙ ap by_start em)
        where
          go : (w : Read (List ℕ) ℕ ℕ) → Ok count ≡ by_start (value_of w) → on_body 0 behind w ≡ got count behind
          go (got v left) g = let same : v ≡ count = cc in rw same
          go (fault k) g = constructors_differ (cc)

      -- and then what stands behind it is read
      pub old_opened : T (accepted_head h) → Bytes s → (none : Things) → read_rest s behind h 65535 count none (replicate 2304 0) ≡ as_matrix none (replicate 2304 0) (old_content h s 0)
      unfolding old_content
      old_opened ok g none =
          let (a, few) = (old_head_record h (head_sized h ok) s).back 0 behind count g head_read in
          rest_opened s behind h 65535 count none (replicate 2304 0) (ok, few, stand_le a (omega arith), refl) ∙ rw head_read

-- ---- the highest of a list
fold_highest : (a : ℕ) (xs : List ℕ) → fold max a xs ≡ max a (highest_of xs)
unfolding highest_of
fold_highest a [] = omega arith
fold_highest a (x ∷ xs) = fold_highest (max a x) xs ∙ omega arith

pub highest_reduced : (xs : List ℕ) → unwrap_or (reduce max xs) 0 ≡ highest_of xs
unfolding highest_of
highest_reduced [] = refl
highest_reduced (x ∷ xs) = fold_highest x xs
