-- Which test stopped a request. A test that holds hands the question on to those behind it; and no other check of a request gives 14.
-- Assumes nothing.
use Prim.Native.Nat.{ℕ, suc, ◌+◌}
use native.Mathlib.Omega.{arith}
use native.Mathlib.Nat.{zero-add, add-zero, add-suc, suc-add}
use mathlib.Core.Path.{◌≡◌, refl}
use mathlib.Core.Bool.{false}
use mathlib.Core.Option.{none, some}
use mathlib.Core.List.{List, [], ◌∷◌, ◌++◌}
use lib.Dec.{T}
use lib.ListN.{length, get_elem?}
use borrow.Author.Tests.{eq-eqb, ne_eqb}
use Rattle.laws.specs.Check.{all}
use Rattle.model.specs.Scheme.{parameters_of, tests_of, operations_of, commands_of}
use Rattle.model.specs.Request.{Request, View, Answer, at, answer, number, holds, tests_fault, step}
use Rattle.model.specs.Answers.{test_place, reply_of, reply_to}
use Rattle.model.specs.FirstTest.{FirstFalse, TellsTest, FirstTest}
use Rattle.model.specs.declared.Test.{Test}
use Rattle.model.specs.declared.Command.{Command}
use Rattle.model.specs.declared.Refusal.{Refusal}
use Rattle.model.specs.declared.Scheme.{Scheme}
use Rattle.laws.proofs.Bools.{is_true, and_left, and_right}
use Rattle.model.proofs.Refusals.{tests_stop, tests_go_on, IfRefused, EveryOperation, EarlyRefusals, operations_give, request_gives}

module _ {M : Type 0} (view : View M) where
  -- ---- the first that doesn't hold is the fault, from any place on
  stops_from : (m : M) (ids : List ℕ) (p : ℕ) (before : List Test) (t : Test) (later : List Test) → T (all (holds view m ids) before) →
      holds view m ids t ≡ false → tests_fault view m ids p (before ++ t ∷ later) ≡ some (at 14 (p + length before))
  unfolding all
  stops_from m ids p [] t later h f = rw add-zero (tests_stop view m ids p t later f)
  stops_from m ids p (u ∷ before) t later h f =
      let holding = holds view m ids u in
      rw (tests_go_on view m ids p u (before ++ t ∷ later) (is_true holding (and_left holding _ h)), add-suc, ← suc-add)
      (stops_from m ids (suc p) before t later (and_right holding _ h) f)

  -- ---- the reply
  module _ (s : Scheme) (m : M) (q : Request) where
    abbrev Stopped : ℕ → Type 0
    Stopped k = (c : Command) × (get_elem? (commands_of s) q.command ≡ some c) × FirstFalse view m q.ids (tests_of c.tests) k

    abbrev IfTest : Refusal → Type 0
    IfTest r = r.number ≡ 14 → Stopped r.place

    early : EarlyRefusals IfTest
    early = record {
      no_command = λ e. absurd (omega arith);
      other_count = λ e. absurd (omega arith);
      places = record { no_thing = λ e. absurd (omega arith); other_type = λ e. absurd (omega arith); on_hold = λ e. absurd (omega arith) };
    }

    late : (p : ℕ) → EveryOperation IfTest p
    late p = record { may_not = λ e. absurd (omega arith); is_full = λ e. absurd (omega arith); is_gone = λ e. absurd (omega arith) }

    told : (a : Answer) → IfRefused IfTest a → TellsTest view s m q (reply_to s q a)
    unfolding IfRefused reply_to reply_of number test_place
    told none h = record { stopped = λ e. absurd (omega arith); otherwise = λ e. refl }
    told (some r) h = record {
      stopped = λ e. rw (eq-eqb r.number 14 e) (h e);
      otherwise = λ e. rw (ne_eqb r.number 14 e);
    }

    tells : TellsTest view s m q (reply_to s q (answer (step view s m q)))
    tells =
        told _ (request_gives IfTest view early s m q (λ c is. record {
          test = λ k first e. (c, is, first);
          operation = operations_give IfTest view late (parameters_of c.parameters) q.ids 0 (operations_of c.operations) m;
        }))

  pub first_test : FirstTest view
  first_test = record {
    stops = λ m ids ts k first. rw (first.are, first.place) (rw zero-add at (stops_from m ids 0 first.before first.test first.later first.hold first.fails));
    tells = tells;
  }
