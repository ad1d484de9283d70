-- The command of a request, and the request as a whole: what the code gives is the model's step. Over plain lists and numbers.
-- Assumes nothing.
use Prim.Native.Nat.{ℕ, zero, suc, ◌≤◌, ◌<◌}
use native.Mathlib.Nat.{not-suc-le-zero, le_of_suc-le-suc}
use native.Mathlib.Omega.{arith}
use mathlib.Core.Path.{◌≡◌, refl, ap, ◌∙◌}
use mathlib.Core.Bool.{true, false, ◌&&◌}
use mathlib.Core.Option.{none, some}
use mathlib.Core.List.{List, [], ◌∷◌}
use lib.Dec.{T, eqb→eq, leb→le}
use lib.ListN.{length, get_or, take, get_elem?}
use lib.Seq.{length-take-le, get_or-take}
use Rattle.laws.specs.Check.{passes, between, padded}
use Rattle.laws.proofs.Bools.{from_true, and_left, and_right, must_pass, first_pass, then_pass}
use Rattle.model.specs.Answers.{verdict_of, Steps, takes, all_steps, steps_of, asks_for, steps_to, in_all, reply_of, reply_to}
use Rattle.model.specs.Scheme.{commands_of}
use Rattle.model.specs.Request.{Request, at, Answer, answer, after, carry_out_if, step}
use Rattle.model.specs.Seats.{Matrix, seats}
use Rattle.model.specs.Accepted.{head_fault, accepted_command, accepted_scheme, accepted_matrix}
use Rattle.model.specs.declared.Command.{Command}
use Rattle.model.specs.declared.Refusal.{Refusal}
use Rattle.model.specs.declared.Reply.{Reply}
use Rattle.model.specs.declared.Scheme.{Scheme}
use Rattle.model.proofs.Form.{all_at}
use Rattle.model.proofs.StepsTaken.{steps_taken}
use Rattle.engine.specs.Step.{request_on}
use Rattle.engine.specs.Inner.Carry.{answer_of, Carried, carried, planned, step_on}
use Rattle.std.specs.Prelude.{Result, Err}
use Rattle.engine.specs.Answers.{Stepped}
use Rattle.engine.proofs.PlanIsStep.{Ready, lists_used, plan_is_step}

-- ---- what is accepted, one by one

pub both_accepted : (s : Scheme) (m : Matrix) → (accepted_scheme s && accepted_matrix s.head m) ≡ true → T (accepted_scheme s) × T (accepted_matrix s.head m)
both_accepted s m e = let both = from_true e in (and_left (accepted_scheme s) _ both, and_right (accepted_scheme s) _ both)

-- ---- the command

none_past : {A : Type 0} (l : List A) (n i : ℕ) → n ≤ i → get_elem? (take n l) i ≡ none
none_past [] zero i h = refl
none_past [] (suc n) i h = refl
none_past (x ∷ l) zero i h = refl
none_past (x ∷ l) (suc n) zero h = absurd (not-suc-le-zero h)
none_past (x ∷ l) (suc n) (suc i) h = none_past l n i (le_of_suc-le-suc h)

some_at : {A : Type 0} (l : List A) (d : A) (n i : ℕ) → i < n → n ≤ length l → get_elem? (take n l) i ≡ some (get_or l i d)
some_at [] d n i h k = absurd (omega arith)
some_at (x ∷ l) d zero i h k = absurd (not-suc-le-zero h)
some_at (x ∷ l) d (suc n) zero h k = refl
some_at (x ∷ l) d (suc n) (suc i) h k = some_at l d n i (le_of_suc-le-suc h) (le_of_suc-le-suc k)

abbrev carried_on : Scheme → Matrix → ℕ → List ℕ → Carried
carried_on s m i ids = carried m (step seats s m (record { command = i; ids = ids }))

pub no_command_lem : (s : Scheme) (m : Matrix) (i : ℕ) (ids : List ℕ) → s.head.count ≤ i → ◌≡◌ {A = Carried} (Err (at 10 0), m) (carried_on s m i ids)
unfolding step carry_out_if answer after
no_command_lem s m i ids h = rw (none_past s.commands s.head.count i h)

pub asks_for_none : (s : Scheme) (i : ℕ) → s.head.count ≤ i → all_steps (get_elem? (commands_of s) i) ≡ takes 0 0
unfolding all_steps
asks_for_none s i h = rw (none_past s.commands s.head.count i h)

module _ (s : Scheme) (ok : T (accepted_scheme s)) where
  pub few_commands : s.head.count ≤ 32
  unfolding accepted_scheme head_fault between
  few_commands =
      let fine : T (passes (head_fault s.head)) = search and_left in
      leb→le _ _ (search (and_right, must_pass, first_pass, then_pass))

  enough_commands : s.head.count ≤ length s.commands
  unfolding accepted_scheme padded
  enough_commands =
      let long : length s.commands ≡ 32 = eqb→eq _ _ (search (and_left, and_right)) in
      let few = few_commands in
      omega arith

  module _ (m : Matrix) (held : T (accepted_matrix s.head m)) (i : ℕ) (h : i < s.head.count) (d : Command) where
    pub command_ready : Ready (get_or s.commands i d) m
    unfolding accepted_scheme
    command_ready = record {
      head = s.head;
      command =
          rw get_or-take at
          (all_at (accepted_command s.head) (commands_of s) d (search (and_left, and_right)) i (rw (length-take-le _ _ enough_commands) h));
      matrix = held;
    }

    pub command_step : (ids : List ℕ) (now : Carried) → now ≡ carried m (planned m ids (get_or s.commands i d)) → now ≡ carried_on s m i ids
    unfolding step carry_out_if
    command_step ids now e =
        rw (some_at s.commands d s.head.count i h enough_commands, ← plan_is_step (get_or s.commands i d) m command_ready ids) e

    -- all its tests and operations, by its own counts
    pub asks_for_all : all_steps (get_elem? (commands_of s) i) ≡ takes (get_or s.commands i d).tests.count (get_or s.commands i d).operations.count
    unfolding all_steps
    asks_for_all =
        let (t, o) = lists_used (get_or s.commands i d) m command_ready in
        rw (some_at s.commands d s.head.count i h enough_commands, t, o)

  -- no request takes more steps than a byte can tell
  pub few_steps : (m : Matrix) (q : Request) → in_all (steps_of (asks_for s q) (answer (step seats s m q))) ≤ 48
  unfolding steps_to
  few_steps m q = rw ((steps_taken seats).counts s m q) ((steps_taken seats).few s m q ok)

-- ---- a request

pub answer_back : (a : Answer) → answer_of (verdict_of a) ≡ a
answer_back none = refl
answer_back (some r) = refl

module _ (s : Scheme) (m : Matrix) (i : ℕ) (ids : List ℕ) (result : Result (Unit {0}) Refusal) (next : Matrix)
    (e : ◌≡◌ {A = Carried} (result, next) (carried_on s m i ids)) (all : Steps) (has : all_steps (get_elem? (commands_of s) i) ≡ all) where
  abbrev q : Request
  q = record { command = i; ids = ids }

  said : answer_of result ≡ answer (step seats s m q)
  said = ap (λ (x : Carried). answer_of x.0) e ∙ answer_back _

  pub told_few : T (accepted_scheme s) → in_all (steps_of all (answer_of result)) ≤ 48
  told_few ok = rw (said, ← has) (few_steps s ok m q)

  told_reply : reply_of all (answer_of result) ≡ reply_to s q (answer (step seats s m q))
  unfolding reply_to
  told_reply = rw (said, has)

  pub told_step : (y : Reply) → y ≡ reply_of all (answer_of result)
      → ◌≡◌ {A = Stepped × List ℕ} (record { answer = y; things = next.things }, next.cells) (step_on s m i ids)
  told_step y f =
      rw (f, told_reply) (ap (λ (x : Carried). (record { answer = reply_to s q (answer (step seats s m q)); things = x.1.things }, x.1.cells)) e)

-- what nobody looked at counts nothing
pub no_steps_10 : in_all (steps_of (takes 0 0) (some (at 10 0))) ≤ 48
unfolding steps_of between
no_steps_10 = omega arith

pub no_steps_27 : in_all (steps_of (takes 0 0) (some (at 27 0))) ≤ 48
unfolding steps_of between
no_steps_27 = omega arith

module _ (s : Scheme) (m : Matrix) (i : ℕ) (ids : List ℕ) where
  pub refuses_27 : (accepted_scheme s && accepted_matrix s.head m) ≡ false → (y : Reply) → y ≡ reply_of (takes 0 0) (some (at 27 0))
      → ◌≡◌ {A = Stepped × List ℕ} (record { answer = y; things = m.things }, m.cells) (request_on s m i ids)
  unfolding request_on answer after reply_to reply_of steps_of between
  refuses_27 e y f = rw (e, f)

  pub request_step : (accepted_scheme s && accepted_matrix s.head m) ≡ true → (now : Stepped) (cells : List ℕ)
      → ◌≡◌ {A = Stepped × List ℕ} (now, cells) (step_on s m i ids) → ◌≡◌ {A = Stepped × List ℕ} (now, cells) (request_on s m i ids)
  unfolding request_on
  request_step ok now cells e = rw ok e
