-- What a converted command consists of, part by part.
-- Assumes nothing.
use Prim.Native.Nat.{ℕ, zero, suc, ◌+◌, ◌-◌, ◌*◌, ◌≤◌, ◌<◌}
use native.Mathlib.Omega.{arith}
use mathlib.Core.Path.{◌≡◌, refl, sym, ap, ◌∙◌, subst}
use mathlib.Core.List.{List, [], ◌∷◌, ◌++◌, map}
use lib.Dec.{T}
use lib.ListN.{length, take, drop, set, get_or, replicate, length-append, length-replicate, replicate-append-replicate, get_or-append}
use lib.Seq.{length-take-le, get_or-take, drop_at}
use Rattle.laws.specs.Check.{all}
use Rattle.model.specs.Scheme.{parameters_of, tests_of, operations_of, keeps_things}
use Rattle.model.specs.Arrays.{operation, command_of, tests_from, operations_from}
use Rattle.model.specs.Accepted.{padded_command}
use Rattle.model.specs.declared.Tests.{Tests}
use Rattle.model.specs.declared.Code.{Code}
use Rattle.model.specs.declared.Code.TheVariants.{Enter, Delete, Create, Destroy}
use Rattle.model.specs.declared.Operation.{Operation}
use Rattle.model.specs.declared.Operations.{Operations}
use Rattle.model.specs.declared.Command.{Command}
use Rattle.laws.proofs.Bools.{and_left, and_right}
use Rattle.conversion.specs.Conversion.{convert_test, on_partner, convert_as, convert_operations, convert_command, keeps_all}
use Rattle.conversion.proofs.SchemeAccepted.{length_operations}
use Rattle.convert.specs.Inner.Parts.{padded_tests, opposite_of, Convertible}
use Rattle.laws.proofs.Filling.{Filling, begin, on, all_in}
use Rattle.command_bytes.proofs.Padded.{padded_lists}

-- ---- operations: each with its partner's behind it
module _ (n : ℕ) where
  abbrev second : Operation → Operation
  second o = on_partner n (opposite_of o.code) o

  as_pair : (o : Operation) → T (keeps_things o.code) → convert_as n o o.code ≡ o ∷ second o ∷ []
  as_pair o t = by o.code t
    where
      by : (c : Code) → T (keeps_things c) → convert_as n o c ≡ o ∷ on_partner n (opposite_of c) o ∷ []
      by Enter u = refl
      by Delete u = refl
      by Create u = absurd u
      by Destroy u = absurd u

  one_on : (o : Operation) (os : List Operation) → T (keeps_all (o ∷ os)) →
      convert_operations n (o ∷ os) ≡ o ∷ second o ∷ convert_operations n os
  unfolding all convert_operations
  one_on o os t = rw (as_pair o (and_left (keeps_things o.code) _ t))

  rest : (o : Operation) (os : List Operation) → T (keeps_all (o ∷ os)) → T (keeps_all os)
  unfolding all
  rest o os t = and_right (keeps_things o.code) _ t

  pair_at : (os : List Operation) (d : Operation) (j : ℕ) → T (keeps_all os) → j < length os →
      (get_or (convert_operations n os) (2 * j) d ≡ get_or os j d) × (get_or (convert_operations n os) (2 * j + 1) d ≡ second (get_or os j d))
  pair_at [] d j t h = absurd (omega arith)
  pair_at (o ∷ os) d zero t h = rw (one_on o os t) (refl, refl)
  pair_at (o ∷ os) d (suc j) t h =
      let e : 2 * suc j ≡ suc (suc (2 * j)) = omega arith in
      let f : 2 * suc j + 1 ≡ suc (suc (2 * j + 1)) = omega arith in
      rw (one_on o os t, f, e) (pair_at os d j (rest o os t) (omega arith))

-- ---- the array of them: two places a turn
abbrev pub none : Operation
none = operation Enter 0 0 0

module _ (n count : ℕ) (l : List Operation) (t : T (keeps_all (take count l))) (h : count ≤ 16) (r : count ≤ length l) where
  abbrev pub paired : List Operation
  paired = (operations_from (convert_operations n (take count l))).list

  used : length (take count l) ≡ count
  used = length-take-le count l r

  paired_used : length (convert_operations n (take count l)) ≡ 2 * count
  paired_used = omega (arith, length_operations n (take count l) t, used)

  pub paired_begin : Filling paired (replicate 32 none) (replicate 32 none) 0
  paired_begin = begin paired (replicate 32 none) (simp (length-append, length-replicate, paired_used) (omega arith))

  in_use : (d : Operation) (i : ℕ) → i < 2 * count → get_or paired i d ≡ get_or (convert_operations n (take count l)) i d
  in_use d i k = get_or-append (convert_operations n (take count l)) _ d i (omega (arith, paired_used))

  pub paired_on : (d : Operation) {array : List Operation} (j : ℕ) → Filling paired (replicate 32 none) array (2 * j) → j < count →
      (q : Operation) → q ≡ second n (get_or l j d) →
      Filling paired (replicate 32 none) (set (set array (2 * j) (get_or l j d)) (2 * j + 1) q) (2 * (j + 1))
  paired_on d {array} j v k q e =
      let (a, b) = pair_at n (take count l) d j t (omega (arith, used)) in
      let g = get_or-take count l j d k in
      let x : get_or l j d ≡ get_or paired (2 * j) d = sym (in_use d (2 * j) (omega arith) ∙ a ∙ g) in
      let y : q ≡ get_or paired (2 * j + 1) d = e ∙ sym (in_use d (2 * j + 1) (omega arith) ∙ b ∙ ap (second n) g) in
      let s : 2 * j + 1 + 1 ≡ 2 * (j + 1) = omega arith in
      subst (Filling paired (replicate 32 none) _) s (on (on v d _ (omega arith) x) d q (omega arith) y)

  paired_end : drop (2 * count) paired ≡ drop (2 * count) (replicate 32 none)
  paired_end =
      let w : 2 * count + (32 - 2 * count) ≡ 32 = omega arith in
      let a : replicate 32 none ≡ replicate (2 * count) none ++ replicate (32 - 2 * count) none =
      sym (replicate-append-replicate (2 * count) (32 - 2 * count) none ∙ ap (λ (m : ℕ). replicate m none) w) in
      drop_at (convert_operations n (take count l)) _ (2 * count) paired_used ∙ rw paired_used
      (sym (ap (drop (2 * count)) a ∙ drop_at (replicate (2 * count) none) _ (2 * count) (length-replicate (2 * count) none)))

  pub paired_all : {array : List Operation} {j : ℕ} → Filling paired (replicate 32 none) array (2 * j) → j ≡ count →
      record { count = 2 * count; list = array } ≡ operations_from (convert_operations n (take count l))
  paired_all v e = rw (all_in v (rw e paired_end), paired_used)

-- ---- all of it
module _ (c : Command) (v : Convertible c) where
  pub tests_padded : T (padded_tests c.tests)
  unfolding padded_command
  tests_padded = let p = v.padding in search (and_left, and_right)

  parameters_whole : c.parameters ≡ (command_of (parameters_of c.parameters) [] []).parameters
  unfolding command_of
  parameters_whole =
      let l = padded_lists c v.padding v.parameters v.tests (omega (arith, v.operations)) in
      ap (λ (d : Command). d.parameters) l.whole

  pub command_is : (n : ℕ) (t : Tests) (o : Operations) → t ≡ tests_from (map (convert_test n) (tests_of c.tests)) →
      o ≡ operations_from (convert_operations n (operations_of c.operations)) → record { parameters = c.parameters; tests = t; operations = o } ≡ convert_command n c
  unfolding convert_command command_of
  command_is n t o e f = rw (← parameters_whole, e, f)
