-- The complete robot: conversion is a translation that keeps `Mirrored`, so the robot answers as the office, and its matrix goes on mirroring.
-- Assumes nothing.
use Prim.Native.Nat.{ℕ, suc, ◌+◌, ◌≤◌, ◌<◌}
use mathlib.Core.Path.{◌≡◌, refl}
use mathlib.Core.Bool.{Bool, true, false, cond}
use mathlib.Core.List.{List, [], ◌∷◌, map, Forall₂}
use lib.Dec.{T, eqb_refl}
use lib.ListN.{length, take}
use Rattle.rights.specs.Numberings.{partner_of}
use Rattle.rights.specs.declared.ThingType.{ThingType}
use Rattle.laws.specs.Check.{all, Each}
use Rattle.model.specs.Scheme.{parameters_of, tests_of, operations_of, commands_of, keeps_things}
use Rattle.model.specs.Request.{Request, run, answers}
use Rattle.model.specs.Papers.{State, papers}
use Rattle.model.specs.Accepted.{group, accepted_command, accepted_scheme}
use Rattle.model.specs.Translation.{verdict, changed_by, changed_by_all, changes_cell, Related, TestBecomes, ChangeBecomes, OperationsBecome, end, change}
use Rattle.model.specs.Translation.{CommandBecomes, Translates, Together}
use Rattle.model.specs.declared.Test.{Test}
use Rattle.model.specs.declared.Code.{Code}
use Rattle.model.specs.declared.Code.TheVariants.{Enter, Delete, Create, Destroy}
use Rattle.model.specs.declared.Operation.{Operation}
use Rattle.model.specs.declared.Command.{Command}
use Rattle.model.specs.declared.Head.{Head}
use Rattle.model.specs.declared.Scheme.{Scheme}
use Rattle.laws.proofs.Bools.{and_left, and_right, and_both, first_pass, must_pass}
use Rattle.model.proofs.Form.{Fits, Body, Tested, Formed, formed_command}
use Rattle.model.proofs.Translation.{translation}
use Rattle.conversion.specs.Conversion.{keeps_all, conversion_fault, convertible, convert_test, on_partner, convert_as}
use Rattle.conversion.specs.Conversion.{convert_operations, convert_command, convert_scheme}
use Rattle.conversion.specs.Demand3.{Mirror, Mirrors}
use Rattle.conversion.proofs.Lists.{few_rights}
use Rattle.conversion.proofs.Mirror.{partner_is, mirror_enter, mirror_delete}
use Rattle.conversion.proofs.Built.{its_parameters, its_tests, its_operations, its_commands}

-- ---- the relation: an office's set and the robot's, where there is a cell

abbrev Mirrored : ℕ → Bool → ℕ → ℕ → Type 0
Mirrored n exists office robot = T exists → Mirror n office robot

module _ {h : Head} {office robot : State} where
  related : Mirrors h office robot → Related (Mirrored h.rights) h office robot
  related m = record { same_things = m.same_things; cells = m.mirror }

  mirrors : Related (Mirrored h.rights) h office robot → Mirrors h office robot
  mirrors r = record { same_things = r.same_things; mirror = r.cells }

-- ---- what conversion makes of a command

module _ (h : Head) (small : h.rights ≤ 32) where
  abbrev n : ℕ
  n = h.rights

  change_becomes : (types : List ThingType) (o : Operation) (c : Code) → o.code ≡ c → T (keeps_things c) → Fits h types o c →
      ChangeBecomes (Mirrored n) o (convert_as n o c)
  unfolding changed_by changed_by_all on_partner changes_cell all
  change_becomes types o Enter e k f =
      record {
        is_change = rw e tt;
        same_cell = rw e (search (and_both, eqb_refl));
        keeps = λ b u v m t. rw (e, partner_is n o.right.0 small f.right) (mirror_enter n o.right.0 u v small f.right (m t));
      }
  change_becomes types o Delete e k f =
      record {
        is_change = rw e tt;
        same_cell = rw e (search (and_both, eqb_refl));
        keeps = λ b u v m t. rw (e, partner_is n o.right.0 small f.right) (mirror_delete n o.right.0 u v small f.right (m t));
      }
  change_becomes types o Create e k f = absurd k
  change_becomes types o Destroy e k f = absurd k

  operations_become : (types : List ThingType) (i j k : ℕ) (os : List Operation) → T (keeps_all os) → Body h types k os →
      OperationsBecome (Mirrored n) i j os (convert_operations n os)
  unfolding all convert_operations
  operations_become types i j k [] keeps body = end
  operations_become types i j k (o ∷ os) keeps (next, body) =
      change (change_becomes types o o.code refl (search and_left) next.fits) (operations_become types (suc i) (j + length (convert_as n o o.code)) (group o.code) os (search and_right) body)

  test_becomes : (t : Test) → t.right.0 < n → TestBecomes (Mirrored n) t (convert_test n t)
  unfolding convert_test verdict
  test_becomes t r = go t.present refl
    where
      absent : Test
      absent = record { present = true; right = partner_of n t.right; row = t.row; column = t.column }

      go : (p : Bool) → t.present ≡ p → TestBecomes (Mirrored n) t (cond p t absent)
      go true e = record { row = refl; column = refl; same = λ u v m. rw e ((m tt).plain t.right.0 r) }
      go false e = record { row = refl; column = refl; same = λ u v m. rw (e, partner_is n t.right.0 small r) ((m tt).partner t.right.0 r) }

  tests_become : (types : List ThingType) (os : List Operation) (ts : List Test) → Each (Tested h types os) ts →
      Forall₂ (TestBecomes (Mirrored n)) ts (map (convert_test n) ts)
  tests_become types os [] each = Forall₂.nil
  tests_become types os (t ∷ ts) (k, each) = Forall₂.cons (test_becomes t k.cell.right) (tests_become types os ts each)

  command_becomes : (c : Command) → Formed h c → T (keeps_all (operations_of c.operations)) → CommandBecomes (Mirrored n) c (convert_command n c)
  command_becomes c form keeps =
      record {
        same_parameters = its_parameters n c;
        tests = rw (its_tests n c) (tests_become (parameters_of c.parameters) (operations_of c.operations) (tests_of c.tests) form.tests);
        operations = rw (its_operations n c) (operations_become (parameters_of c.parameters) 0 0 0 (operations_of c.operations) keeps form.body);
      }

  commands_become : (cs : List Command) → T (all (accepted_command h) cs) → T (all (λ c. keeps_all (operations_of c.operations)) cs) →
      Forall₂ (CommandBecomes (Mirrored n)) cs (map (convert_command n) cs)
  unfolding all
  commands_become [] ok keeps = Forall₂.nil
  commands_become (c ∷ cs) ok keeps =
      Forall₂.cons (command_becomes c (formed_command h c (search and_left)) (search and_left)) (commands_become cs (search and_right) (search and_right))

translates : (s : Scheme) → T (accepted_scheme s) → T (convertible s) → Translates (Mirrored s.head.rights) s (convert_scheme s)
unfolding accepted_scheme convertible conversion_fault
translates s ok cv =
    rw (its_commands s) (commands_become s.head (few_rights s cv) (commands_of s) (search (and_left, and_right)) (search (first_pass, must_pass)))

-- ---- any list of requests

module _ (s : Scheme) (ok : T (accepted_scheme s)) (cv : T (convertible s)) (office robot : State) (m : Mirrors s.head office robot) (qs : List Request) where
  together : Together (Mirrored s.head.rights) s (convert_scheme s) office robot qs
  together = translation (Mirrored s.head.rights) s (convert_scheme s) office robot qs ok (translates s ok cv) (related m)

  pub same_answers_lem : answers papers (convert_scheme s) robot qs ≡ answers papers s office qs
  same_answers_lem = together.same_answers

  pub still_mirrors : (k : ℕ) → Mirrors s.head (run papers s office (take k qs)) (run papers (convert_scheme s) robot (take k qs))
  still_mirrors k = mirrors (together.after_each k)
