-- Each arm is a case of `steps_of` and of `test_place`; that no sum is too large for a byte is what the function requires.
-- Assumes nothing.
use Prim.Native.Nat.{ℕ, ◌+◌, ◌≤◌, ◌<◌}
use native.Mathlib.Omega.{arith}
use mathlib.Core.Path.{◌≡◌}
use mathlib.Core.Option.{some}
use borrow.Author.Tests.{eq-eqb, ne_eqb, le-leb, lt-leb}
use Rattle.laws.specs.Check.{between}
use Rattle.model.specs.Request.{number}
use Rattle.model.specs.Answers.{takes, steps_of, in_all, test_place, reply_of}
use Rattle.model.specs.declared.Refusal.{Refusal}
use Rattle.model.specs.declared.Reply.{Reply}
use Rattle.engine.proofs.replies.refusal_reply.Goals as goal

module _ (r : Refusal) (tests : ℕ) where
  abbrev told : Reply
  told = reply_of (takes tests 0) (some r)

  abbrev taken : ℕ
  taken = in_all (steps_of (takes tests 0) (some r))

  by-test : r.number ≡ 14 → taken ≡ r.place + 1
  unfolding steps_of
  by-test e = rw (eq-eqb r.number 14 e) (omega arith)

  test_told : r.number ≡ 14 → record { number = r.number; test = r.place; steps = r.place + 1 } ≡ told
  unfolding reply_of number test_place
  test_told e = rw (by-test e, eq-eqb r.number 14 e)

  by-operation : 15 ≤ r.number → r.number ≤ 17 → taken ≡ tests + r.place + 1
  unfolding steps_of between
  by-operation l h = rw (ne_eqb r.number 14 (λ e. omega arith), le-leb 15 r.number l, le-leb r.number 17 h) (omega arith)

  operation_told : 15 ≤ r.number → r.number ≤ 17 → record { number = r.number; test = 255; steps = tests + r.place + 1 } ≡ told
  unfolding reply_of number test_place
  operation_told l h = rw (by-operation l h, ne_eqb r.number 14 (λ e. omega arith))

  low_told : r.number < 14 → record { number = r.number; test = 255; steps = 0 } ≡ told
  unfolding reply_of number test_place steps_of between
  low_told l = rw (ne_eqb r.number 14 (λ e. omega arith), lt-leb 15 r.number (omega arith))

  high_told : 17 < r.number → record { number = r.number; test = 255; steps = 0 } ≡ told
  unfolding reply_of number test_place steps_of between
  high_told h = rw (ne_eqb r.number 14 (λ e. omega arith), le-leb 15 r.number (omega arith), lt-leb r.number 17 h)

pub overflow_add-result : goal.overflow_add-result
overflow_add-result c = omega (arith, c.requires, by-test c.args.r c.args.tests c.in-14.is)

pub returns-in-14 : goal.returns-in-14
returns-in-14 c = test_told c.args.r c.args.tests c.in-14.is

pub overflow_add-result-in-15-to-17 : goal.overflow_add-result-in-15-to-17
overflow_add-result-in-15-to-17 c = omega (arith, c.requires, by-operation c.args.r c.args.tests (omega arith) (omega arith))

pub overflow_add-result-in-15-to-17-2 : goal.overflow_add-result-in-15-to-17-2
overflow_add-result-in-15-to-17-2 c = omega (arith, c.requires, by-operation c.args.r c.args.tests (omega arith) (omega arith))

pub returns-in-15-to-17 : goal.returns-in-15-to-17
returns-in-15-to-17 c = operation_told c.args.r c.args.tests (omega arith) (omega arith)

pub returns-in_default : goal.returns-in_default
returns-in_default c = low_told c.args.r c.args.tests (omega arith)

pub returns-in_default-2 : goal.returns-in_default-2
returns-in_default-2 c = high_told c.args.r c.args.tests (omega arith)
