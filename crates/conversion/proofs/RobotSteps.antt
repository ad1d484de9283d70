-- The steps of a complete robot. It answers as the office, so its steps are read off the same answer; its command has as many tests and twice the
-- operations; and no operation of a scheme that can be converted is ever refused.
-- Assumes nothing.
use Prim.Native.Nat.{ℕ, suc}
use mathlib.Core.Path.{◌≡◌, refl}
use mathlib.Core.Bool.{Bool, true, false}
use mathlib.Core.Option.{Option, none, some, map}
use mathlib.Core.List.{List, [], ◌∷◌}
use lib.Dec.{T, eqb}
use lib.ListN.{get_elem?, length-map}
use Rattle.rights.specs.declared.ThingType.{ThingType}
use Rattle.laws.specs.Check.{all, between}
use Rattle.laws.proofs.Bools.{and_left, and_right, first_pass, must_pass}
use Rattle.model.specs.Scheme.{parameters_of, operations_of, commands_of, type_at, id_at, keeps_things}
use Rattle.model.specs.Request.{Request, Answer, View, answer, and_then, act, operate, operate_all, step, answers}
use Rattle.model.specs.Answers.{Steps, all_steps, steps_of, steps_to}
use Rattle.model.specs.Papers.{State, papers}
use Rattle.model.specs.Accepted.{accepted_scheme}
use Rattle.model.specs.declared.Code.{Code}
use Rattle.model.specs.declared.Code.TheVariants.{Enter, Delete, Create, Destroy}
use Rattle.model.specs.declared.Operation.{Operation}
use Rattle.model.specs.declared.Command.{Command}
use Rattle.model.specs.declared.Refusal.{Refusal}
use Rattle.model.specs.declared.Scheme.{Scheme}
use Rattle.model.proofs.Form.{all_get}
use Rattle.model.proofs.Refusals.{IfRefused, EarlyRefusals, request_gives}
use Rattle.model.proofs.StepsTaken.{steps_taken}
use Rattle.conversion.specs.Conversion.{keeps_all, conversion_fault, convertible, convert_command, convert_scheme}
use Rattle.conversion.specs.Demand3.{Mirrors}
use Rattle.conversion.specs.RobotSteps.{Doubled, RobotSteps}
use Rattle.conversion.proofs.Built.{its_tests, its_operations, its_commands}
use Rattle.conversion.proofs.Lists.{get_map}
use Rattle.conversion.proofs.Robot.{same_answers_lem}
use Rattle.conversion.proofs.SchemeAccepted.{length_operations}

-- ---- no operation is refused
abbrev NotByOperation : Refusal → Type 0
NotByOperation r = between 15 17 r.number ≡ false

early : EarlyRefusals NotByOperation
unfolding between
early = record { no_command = refl; other_count = refl; places = record { no_thing = refl; other_type = refl; on_hold = refl } }

module _ {M : Type 0} (view : View M) (types : List ThingType) (ids : List ℕ) where
  all_done : (p : ℕ) (os : List Operation) → T (keeps_all os) → (m : M) → answer (operate_all view types ids p os m) ≡ none
  unfolding all operate_all operate act and_then answer
  all_done p [] keeps m = refl
  all_done p (o ∷ os) keeps m = go o.code (and_left (keeps_things o.code) _ keeps) (all_done (suc p) os (and_right (keeps_things o.code) _ keeps))
    where
      go : (c : Code) → T (keeps_things c) → ((next : M) → answer (operate_all view types ids (suc p) os next) ≡ none) →
          answer (and_then (act view p c o.right (id_at ids o.row) (id_at ids o.column) (type_at types o.row) m) (operate_all view types ids (suc p) os)) ≡ none
      go Enter k rest = rest _
      go Delete k rest = rest _
      go Create k rest = absurd k
      go Destroy k rest = absurd k

-- ---- what a command has, and what its converted form has

doubled : (n : ℕ) (o : Option Command) → ((c : Command) → o ≡ some c → T (keeps_all (operations_of c.operations))) →
    Doubled (all_steps o) (all_steps (map (convert_command n) o))
unfolding all_steps
doubled n none keeps = record { same_tests = refl; twice = refl }
doubled n (some c) keeps = record {
  same_tests = rw (its_tests n c, length-map);
  twice = rw (its_operations n c) (length_operations n (operations_of c.operations) (keeps c refl));
}

-- read off the same answer, which no operation gave
read_off : (office robot : Steps) → Doubled office robot → (a : Answer) → IfRefused NotByOperation a → Doubled (steps_of office a) (steps_of robot a)
unfolding steps_of IfRefused
read_off office robot d none h = d
read_off office robot d (some r) h = go (eqb r.number 14) refl
  where
    go : (b : Bool) → eqb r.number 14 ≡ b → Doubled (steps_of office (some r)) (steps_of robot (some r))
    go true e = rw e (record { same_tests = refl; twice = refl })
    go false e = rw (e, h) (record { same_tests = refl; twice = refl })

module _ (s : Scheme) (cv : T (convertible s)) (office : State) (q : Request) where
  abbrev asked : Option Command
  asked = get_elem? (commands_of s) q.command

  keeps : (c : Command) → asked ≡ some c → T (keeps_all (operations_of c.operations))
  unfolding convertible conversion_fault
  keeps c e =
      let every : T (all (λ (c : Command). keeps_all (operations_of c.operations)) (commands_of s)) = search (first_pass, must_pass) in
      all_get (λ (c : Command). keeps_all (operations_of c.operations)) (commands_of s) every q.command c e

  not_by_operation : IfRefused NotByOperation (answer (step papers s office q))
  not_by_operation = request_gives NotByOperation papers early s office q (λ c is. record {
    test = λ k first. unfold between in refl;
    operation = rw (all_done papers (parameters_of c.parameters) q.ids 0 (operations_of c.operations) (keeps c is) office) (unfold IfRefused in tt);
  })

  same_answer : T (accepted_scheme s) → (robot : State) → Mirrors s.head office robot →
      answer (step papers (convert_scheme s) robot q) ≡ answer (step papers s office q)
  unfolding answers
  same_answer ok robot m =
      let one : answers papers (convert_scheme s) robot (q ∷ []) ≡ answers papers s office (q ∷ []) = same_answers_lem s ok cv office robot m (q ∷ []) in cc

  converted : get_elem? (commands_of (convert_scheme s)) q.command ≡ map (convert_command s.head.rights) asked
  converted = rw (its_commands s) (get_map (convert_command s.head.rights) (commands_of s) q.command)

  read_doubled : (a : Answer) → IfRefused NotByOperation a → Doubled (steps_to s q a) (steps_to (convert_scheme s) q a)
  unfolding steps_to
  read_doubled a h = rw converted (read_off _ _ (doubled s.head.rights asked keeps) a h)

pub robot_steps_lem : RobotSteps
robot_steps_lem s office robot q ok cv m =
    rw (← ((steps_taken papers).counts s office q), ← ((steps_taken papers).counts (convert_scheme s) robot q), same_answer s cv office q ok robot m)
    (read_doubled s cv office q _ (not_by_operation s cv office q))
