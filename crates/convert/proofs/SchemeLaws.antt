-- The three checks of a conversion, and what an accepted scheme that passes them gives the loops over its commands.
-- Assumes nothing.
use Prim.Native.Nat.{ℕ, ◌+◌, ◌≤◌, ◌<◌}
use native.Mathlib.Omega.{arith}
use mathlib.Core.Path.{◌≡◌, ◌∙◌}
use mathlib.Core.Bool.{Bool}
use mathlib.Core.List.{List, ◌++◌}
use lib.Dec.{T, leb, leb→le}
use lib.ListN.{length, take, drop, set, get_or}
use lib.Seq.{length-take-le, get_or-take}
use Rattle.laws.specs.Check.{all, padded}
use Rattle.model.specs.Scheme.{operations_of, commands_of}
use Rattle.model.specs.Accepted.{zero_command, accepted_command, accepted_scheme}
use Rattle.model.specs.declared.Command.{Command}
use Rattle.model.specs.declared.Head.{Head}
use Rattle.model.specs.declared.Scheme.{Scheme}
use Rattle.laws.proofs.Bools.{and_left, and_right, first_pass, then_pass, must_pass}
use Rattle.model.proofs.Form.{all_at}
use Rattle.scheme_write.proofs.WriteLaws.{commands_there, command_small}
use Rattle.conversion.specs.Conversion.{conversion_fault, convertible, convert_command, convert_scheme, keeps_all}
use Rattle.convert.specs.Inner.Parts.{convert_head, Convertible}
use Rattle.laws.proofs.Filling.{changed_used}
use Rattle.convert.proofs.EachLaws.{Changing, each_begin, each_there, each_on, each_all}
use Rattle.model.specs.Arrays.{scheme_of}
use Rattle.command_bytes.proofs.Padded.{no_command_lem}

-- ---- what is asked of each command
abbrev pub keeps : Command → Bool
keeps c = keeps_all (operations_of c.operations)

abbrev pub fits : Command → Bool
fits c = leb c.operations.count 16

-- ---- the commands, of an accepted scheme
module _ {A : Type 0} (f : A → Bool) (l : List A) (count : ℕ) (r : count ≤ length l) (t : T (all f (take count l))) where
  at_place : (d : A) (j : ℕ) → j < count → T (f (get_or l j d))
  at_place d j h = rw (get_or-take count l j d h) at (all_at f (take count l) d t j (omega (arith, length-take-le count l r)))

module _ (s : Scheme) (t : T (accepted_scheme s)) where
  pub in_range : (s.head.count ≤ 32) × (s.head.count ≤ length s.commands)
  in_range = commands_there s t

  -- that converts
  module _ (v : T (convertible s)) where
    all_keep : T (all keeps (commands_of s))
    unfolding convertible conversion_fault
    all_keep = must_pass _ 20 (first_pass _ _ v)

    all_fit : T (all fits (commands_of s))
    unfolding convertible conversion_fault
    all_fit = must_pass _ 22 (then_pass _ _ (then_pass _ _ v))

    pub command_convertible : (d : Command) (j : ℕ) → j < s.head.count → Convertible (get_or s.commands j d)
    unfolding accepted_scheme accepted_command
    command_convertible d j h =
        let m = in_range.1 in
        let a : T (all (accepted_command s.head) (commands_of s)) = search (and_left, and_right) in
        let u = at_place (accepted_command s.head) s.commands _ m a d j h in
        let c = command_small s t d j h in
        record {
          padding = search and_right;
          parameters = c.parameters;
          tests = c.tests;
          operations = leb→le _ 16 (at_place fits s.commands _ m all_fit d j h);
          keeps = at_place keeps s.commands _ m all_keep d j h;
        }

  padding : T (padded zero_command 32 s.head.count s.commands)
  unfolding accepted_scheme
  padding = search (and_left, and_right)

  -- those in use, after j turns
  abbrev pub Converted : List Command → ℕ → Type 0
  Converted commands j = Changing (convert_scheme s).commands s.commands commands s.head.count j

  pub converted_begin : Converted (commands_of s) 0
  unfolding convert_scheme scheme_of
  converted_begin = each_begin (convert_command s.head.rights) no_command_lem 32 s.head.count s.commands padding in_range.0

  module _ {commands : List Command} {j : ℕ} (w : Converted commands j) where
    pub converted_there : (d : Command) → j < s.head.count → get_or commands j d ≡ get_or s.commands j d
    unfolding convert_scheme scheme_of
    converted_there = each_there (convert_command s.head.rights) no_command_lem 32 s.head.count s.commands padding in_range.0 w

    pub converted_on : (d c : Command) → j < s.head.count → c ≡ convert_command s.head.rights (get_or commands j d) → Converted (set commands j c) (j + 1)
    unfolding convert_scheme scheme_of
    converted_on = each_on (convert_command s.head.rights) no_command_lem 32 s.head.count s.commands padding in_range.0 w

  pub head_converted : convert_head s.head ≡ (convert_scheme s).head
  unfolding convert_scheme scheme_of
  head_converted = rw (changed_used (convert_command s.head.rights) no_command_lem 32 s.head.count s.commands padding in_range.0)

  pub converted_all : {commands : List Command} {j : ℕ} → Converted commands j → j ≡ s.head.count → (h : Head) → h ≡ convert_head s.head →
      record { head = h; commands = commands ++ drop s.head.count s.commands } ≡ convert_scheme s
  unfolding convert_scheme scheme_of
  converted_all w e h eh =
      let all = each_all (convert_command s.head.rights) no_command_lem 32 s.head.count s.commands padding in_range.0 w e in
      λ i. record { head = (eh ∙ head_converted) i; commands = all i }
