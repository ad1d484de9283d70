-- What a record says, as `read_head` and `read_command` follow it: the record that stands there, and its body.
-- Assumes nothing.
use Prim.Native.Nat.{ℕ, ◌+◌, ◌≤◌}
use mathlib.Core.Bool.{Bool, true, false, cond}
use mathlib.Core.List.{List}
use mathlib.Core.Path.{◌≡◌, refl, sym}
use lib.ListN.{length}
use Rattle.std.specs.Prelude.{Result, Ok, Err}
use Rattle.faults.specs.Numbers.{fault_of}
use Rattle.faults.specs.declared.Fault.{Fault}
use Rattle.faults.specs.declared.Fault.TheVariants.{NotAccepted}
use Rattle.model.specs.Accepted.{accepted_head}
use Rattle.model.specs.Arrays.{no_command}
use Rattle.model.specs.declared.Command.{Command}
use Rattle.model.specs.declared.Head.{Head}
use Rattle.records.specs.Bytes.{part}
use Rattle.records.specs.Front.{record_at, in_record, on_record, on_body, against}
use Rattle.records.specs.Outcome.RecordAnswer.{RecordAnswer}
use Rattle.records.specs.Outcome.RecordAnswer as record_answer
use Rattle.records.specs.Reading.{Read, got, fault, Body, whole}
use Rattle.records.specs.Results.{value_of, item_of, record_result}
use Rattle.records.specs.declared.Record.{Record}
use Rattle.records.specs.declared.Refused.{Refused}
use Rattle.records.proofs.FrontLaws.{record_found}
use Rattle.records.proofs.Lines.{on}
use Rattle.records.proofs.ResultLaws.{record_back}
use Rattle.command_bytes.specs.Read.{head, command}
use Rattle.command_bytes.specs.Answers.{read_head, read_command, command_lent}

-- on with the record that was found, or out with the refusal
module _ {R : Type 0} (go : Record → R) (out : Refused → R) where
  abbrev pub on_found : Result Record Refused → R
  on_found (Ok r) = go r
  on_found (Err r) = out r

-- a record that was found ends at a position
pub found_within : (s : List ℕ) (at kinds : ℕ) {r : Record} → Ok r ≡ record_result (record_at s at kinds) → r.start + r.len ≤ length s
found_within s at kinds {r} e = (record_found s at kinds r.kind r.start r.len (record_back (record_at s at kinds) (sym e))).inside

module _ {A : Type 0} (s : List ℕ) (at kinds : ℕ) (p : Body A) where
  abbrev pub item_at : Result (A × ℕ) Refused
  item_at =
      on_found (λ r. on (λ a. Ok (a, r.start + r.len)) (λ f. Err (record { fault = f; at = at })) (value_of (whole p (part s r.start r.len)))) Err
      (record_result (record_at s at kinds))

  item_lines : item_of (in_record s kinds (λ kind. p) at) ≡ item_at
  unfolding in_record
  item_lines = go (record_at s at kinds)
    where
      go : (a : RecordAnswer) → item_of (on_record s at (λ kind. p) a) ≡
          on_found (λ r. on (λ a. Ok (a, r.start + r.len)) (λ f. Err (record { fault = f; at = at })) (value_of (whole p (part s r.start r.len)))) Err (record_result a)
      go (record_answer.Record kind start len) = by (whole p (part s start len))
        where
          by : (m : Read (List ℕ) ℕ A) → item_of (on_body at (start + len) m) ≡ on (λ a. Ok (a, start + len)) (λ f. Err (record { fault = f; at = at })) (value_of m)
          by (got a t) = refl
          by (fault k) = refl
      go (record_answer.Refused k q) = refl

-- ---- the two functions
module _ (s : List ℕ) (at : ℕ) where
  pub read_head_lines : read_head s at ≡ item_at s at 2 head
  unfolding read_head
  read_head_lines = item_lines s at 2 head

  pub read_command_lines : (h : Head) → read_command s at h ≡ cond (accepted_head h) (item_at s at 4 (command h)) (Err (record { fault = NotAccepted; at = 0 }))
  unfolding read_command fault_of
  read_command_lines h = go (accepted_head h)
    where
      go : (b : Bool) → item_of (against b (in_record s 4 (λ kind. command h) at)) ≡ cond b (item_at s at 4 (command h)) (Err (record { fault = NotAccepted; at = 0 }))
      go true = item_lines s at 4 (command h)
      go false = refl

  -- the same with the lent command: it holds what was read, or zeros
  module _ (h : Head) where
    abbrev pub stored : Result Command Fault → (next : ℕ) → Result ℕ Refused × Command
    stored m next = on (λ c. (Ok next, c)) (λ f. (Err (record { fault = f; at = at }), no_command)) m

    abbrev pub command_stored : Result Record Refused → Result ℕ Refused × Command
    command_stored = on_found (λ r. stored (value_of (whole (command h) (part s r.start r.len))) (r.start + r.len)) (λ r. (Err r, no_command))

    pub command_lent_lines : command_lent (read_command s at h) ≡
        cond (accepted_head h) (command_stored (record_result (record_at s at 4))) (Err (record { fault = NotAccepted; at = 0 }), no_command)
    command_lent_lines = rw (read_command_lines h) (go (accepted_head h))
      where
        by : (next : ℕ) (m : Result Command Fault) → command_lent (on (λ c. Ok (c, next)) (λ f. Err (record { fault = f; at = at })) m) ≡ stored m next
        by next (Ok c) = refl
        by next (Err f) = refl

        found : (m : Result Record Refused) → command_lent (on_found (λ r. on (λ c. Ok (c, r.start + r.len)) (λ f. Err (record { fault = f; at = at }))
            (value_of (whole (command h) (part s r.start r.len)))) Err m) ≡ command_stored m
        found (Ok r) = by (r.start + r.len) (value_of (whole (command h) (part s r.start r.len)))
        found (Err r) = refl

        go : (b : Bool) → command_lent (cond b (item_at s at 4 (command h)) (Err (record { fault = NotAccepted; at = 0 }))) ≡
            cond b (command_stored (record_result (record_at s at 4))) (Err (record { fault = NotAccepted; at = 0 }), no_command)
        go true = found (record_result (record_at s at 4))
        go false = refl
