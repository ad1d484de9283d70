-- The laws that the proofs of the writing functions cite: parts stored one behind the other are a whole's bytes, and an accepted scheme's
-- commands are small. Assumes nothing.
use Prim.Native.Nat.{ℕ, suc, ◌+◌, ◌*◌, ◌-◌, ◌<◌, ◌≤◌}
use native.Mathlib.Omega.{arith}
use native.Mathlib.Numerals.{add-one}
use mathlib.Core.Path.{◌≡◌, refl, sym, ap, ◌∙◌}
use mathlib.Core.Bool.{Bool, true, false, cond}
use mathlib.Core.List.{List, [], ◌∷◌, ◌++◌}
use lib.Dec.{T, eqb→eq}
use lib.ListN.{length, take, drop, get_or, set, length-append, length-take}
use lib.Seq.{sets, get_or-take, length-take-le}
use mir.Val.{bool_byte}
use borrow.Author.Tests.{le-leb}
use Rattle.rights.specs.Numberings.{right_byte, parameter_byte}
use Rattle.laws.specs.Check.{all, padded}
use Rattle.model.specs.Scheme.{parameters_of, tests_of, operations_of, commands_of}
use Rattle.model.specs.Accepted.{padded_command, accepted_command, accepted_scheme}
use Rattle.model.specs.declared.Test.{Test}
use Rattle.model.specs.declared.Operation.{Operation}
use Rattle.model.specs.declared.Command.{Command}
use Rattle.model.specs.declared.Head.{Head}
use Rattle.model.specs.declared.Scheme.{Scheme}
use Rattle.laws.proofs.Bools.{and_left, and_right}
use Rattle.model.proofs.Form.{all_at}
use Rattle.laws.proofs.Walks.{turn, ended}
use Rattle.records.specs.Bytes.{little_endian, record_bytes, each_bytes}
use Rattle.records.specs.Writing.{placed, write_bytes}
use Rattle.records.specs.Outcome.Writing.{Writing}
use Rattle.records.specs.Outcome.Writing.{Done, Refused}
use Rattle.records.proofs.BytesLaws.{length_little_endian, length_record, sets_append, record_stored}
use Rattle.records.proofs.PlacedLaws.{placed_none, placed_sets, part_placed, length_placed, placed_behind, write_short}
use Rattle.records.proofs.Trip.{OkAll, length_all}
use Rattle.command_bytes.specs.Write.{head_bytes, type_bytes, test_bytes, operation_bytes, code_number, command_bytes}
use Rattle.scheme_bytes.specs.Write.{scheme_bytes, write_scheme}
use Rattle.scheme_write.specs.Inner.Small.{Small}
use Rattle.command_bytes.proofs.Trips.{head_fits}
use Rattle.command_bytes.proofs.CommandTrip.{accepted_back}
use Rattle.scheme_bytes.proofs.RoundTrips.{accepted_parts}

-- ---- the elements of a list, one a turn, after j turns
module _ {A : Type 0} (f : A → List ℕ) (xs : List A) (j : ℕ) where
  pub each_one : (x d : A) → j < length xs → x ≡ get_or xs j d → each_bytes f (drop j xs) ≡ f x ++ each_bytes f (drop (j + 1) xs)
  each_one x d h e = rw (turn xs (length xs) refl j d h, ← e)

  pub each_none : length xs ≤ j → each_bytes f (drop j xs) ≡ []
  each_none h = rw (ended xs (length xs) refl j h)

-- stored in one part, each of few bytes: after j turns, storing the rest at p gives the whole
pub record Storing {A : Type 0} (f : A → List ℕ) (xs : List A) (part₀ : List ℕ) (i : ℕ) (part : List ℕ) (p j : ℕ) : Type 0 where
  pub near : p ≤ i + 4 * j
  pub ends : p + length (each_bytes f (drop j xs)) ≡ i + length (each_bytes f xs)
  pub whole : sets part₀ i (each_bytes f xs) ≡ sets part p (each_bytes f (drop j xs))

module _ {A : Type 0} {f : A → List ℕ} {xs : List A} {part₀ : List ℕ} {i : ℕ} where
  pub storing_start : Storing f xs part₀ i part₀ i 0
  storing_start = record { near = omega arith; ends = refl; whole = refl }

  module _ {part : List ℕ} {p j : ℕ} (v : Storing f xs part₀ i part p j) where
    pub storing_on : (x d : A) (part' : List ℕ) (q : ℕ) → j < length xs → x ≡ get_or xs j d → length (f x) ≤ 4 → part' ≡ sets part p (f x) →
        q ≡ p + length (f x) → Storing f xs part₀ i part' q (j + 1)
    storing_on x d part' q h is few o e =
        let one = each_one f xs j x d h is in
        record {
          near = omega (arith, v.near);
          ends = omega (arith, v.ends, ap length one, length-append (f x) (each_bytes f (drop (j + 1) xs)));
          whole = v.whole ∙ rw (one, sets_append, o, e);
        }

    pub storing_end : length xs ≤ j → (part ≡ sets part₀ i (each_bytes f xs)) × (p ≡ i + length (each_bytes f xs))
    storing_end h = let none = each_none f xs j h in (sym (v.whole ∙ rw none), omega (arith, v.ends, ap length none))

-- placed in the parts of an output, each behind the one before it: after j turns, placing the rest at p gives the whole
pub record Placing {A : Type 0} (f : A → List ℕ) (xs : List A) (out₀ : List ℕ) (at : ℕ) (out : List ℕ) (p j : ℕ) : Type 0 where
  pub same : length out ≡ length out₀
  pub room : p + length (each_bytes f (drop j xs)) ≤ length out
  pub whole : placed out₀ at (each_bytes f xs) ≡ placed out p (each_bytes f (drop j xs))

module _ {A : Type 0} {f : A → List ℕ} {xs : List A} {out₀ : List ℕ} {at : ℕ} where
  pub placing_start : at + length (each_bytes f xs) ≤ length out₀ → Placing f xs out₀ at out₀ at 0
  placing_start h = record { same = refl; room = h; whole = refl }

  module _ {out : List ℕ} {p j : ℕ} (v : Placing f xs out₀ at out p j) where
    pub placing_end : length xs ≤ j → out ≡ placed out₀ at (each_bytes f xs)
    placing_end h = sym (v.whole ∙ rw (each_none f xs j h) (placed_none out p))

    module _ (x d : A) (h : j < length xs) (is : x ≡ get_or xs j d) where
      placing_room : p + length (f x) + length (each_bytes f (drop (j + 1) xs)) ≤ length out
      placing_room =
          let l = length-append (f x) (each_bytes f (drop (j + 1) xs)) in
          omega (arith, v.room, ap length (each_one f xs j x d h is))

      pub placing_on : (q : ℕ) (out' : List ℕ) → q ≡ p + length (f x) →
          out' ≡ take p out ++ (sets (take (length out - p) (drop p out)) 0 (f x) ++ drop (length out - p) (drop p out)) →
          Placing f xs out₀ at out' q (j + 1)
      placing_on q out' e o =
          let r : List ℕ = each_bytes f (drop (j + 1) xs) in
          let fits : p + length (f x) ≤ length out = omega (arith, placing_room) in
          let w : out' ≡ placed out p (f x) = o ∙ part_placed out p (f x) fits in
          let l : length out' ≡ length out = ap length w ∙ length_placed out p (f x) fits in
          record {
            same = l ∙ v.same;
            room = omega (arith, placing_room);
            whole = v.whole ∙ rw (each_one f xs j x d h is, w, e) (sym (placed_behind out p (f x) r placing_room));
          }

-- ---- the parts' bytes, one behind the other
pub head_stored : (l : List ℕ) (h : Head) →
    set (sets (set (set (sets (sets l 0 (little_endian 2 5)) 2 (little_endian 2 1)) 4 h.rights) 5 h.types) 6 (little_endian 2 h.subjects.0)) 8 h.count
    ≡ sets l 0 (record_bytes 1 (head_bytes h))
unfolding head_bytes little_endian
head_stored l h = record_stored l 1 5 (head_bytes h) refl

pub named_stored : (l : List ℕ) (i a b c : ℕ) → set (set (set l i a) (i + 1) b) (i + 2) c ≡ sets l i (a ∷ b ∷ c ∷ [])
named_stored l i a b c =
    let (e, f) : (i + 1 ≡ suc i) × (i + 2 ≡ suc (suc i)) = (omega arith, omega arith) in
    rw (e, f)

sense_byte : (b : Bool) → bool_byte b ≡ cond b 1 0
sense_byte true = refl
sense_byte false = refl

module _ (l : List ℕ) (i : ℕ) where
  pub test_stored : (t : Test) →
      sets (set l i (bool_byte t.present)) (i + 1) (right_byte t.right ∷ parameter_byte t.row ∷ parameter_byte t.column ∷ []) ≡ sets l i (test_bytes t)
  unfolding test_bytes
  test_stored t = rw (sense_byte, add-one)

  pub operation_stored : (o : Operation) →
      sets (set l i (code_number o.code)) (i + 1) (right_byte o.right ∷ parameter_byte o.row ∷ parameter_byte o.column ∷ [])
      ≡ sets l i (operation_bytes o)
  unfolding operation_bytes
  operation_stored o = rw add-one

-- three lists, each behind its count
three_stored : (l : List ℕ) (x y z : List ℕ) (p q : ℕ) → p ≡ 4 + length x → q ≡ p + length y → sets (sets (sets l 4 x) p y) q z ≡ sets l 4 (x ++ y ++ z)
three_stored l x y z p q e f =
    let g : 4 + length (x ++ y) ≡ q = omega (arith, length-append x y) in rw (sets_append l 4 (x ++ y) z, sets_append l 4 x y, g, ← e)

abbrev pub command_record : Command → List ℕ
command_record c = record_bytes 2 (command_bytes c)

module _ (c : Command) (s : Small c) where
  pub types_long : length (parameters_of c.parameters) ≡ c.parameters.count
  types_long = length-take-le c.parameters.count c.parameters.types (omega arith)

  pub tests_long : length (tests_of c.tests) ≡ c.tests.count
  tests_long = length-take-le c.tests.count c.tests.list (omega arith)

  pub operations_long : length (operations_of c.operations) ≡ c.operations.count
  operations_long = length-take-le c.operations.count c.operations.list (omega arith)

  pub length_types : length (each_bytes type_bytes (parameters_of c.parameters)) ≡ c.parameters.count
  unfolding type_bytes
  length_types = omega (arith, types_long, length_all type_bytes 1 (λ t. refl) (parameters_of c.parameters))

  pub length_tests : length (each_bytes test_bytes (tests_of c.tests)) ≡ 4 * c.tests.count
  unfolding test_bytes
  length_tests = omega (arith, tests_long, length_all test_bytes 4 (λ t. refl) (tests_of c.tests))

  length_operations : length (each_bytes operation_bytes (operations_of c.operations)) ≡ 4 * c.operations.count
  unfolding operation_bytes
  length_operations = omega (arith, operations_long, length_all operation_bytes 4 (λ t. refl) (operations_of c.operations))

  pub length_command : length (command_bytes c) ≡ 3 + c.parameters.count + 4 * c.tests.count + 4 * c.operations.count
  unfolding command_bytes
  length_command =
      let (x, y, z) : List ℕ × List ℕ × List ℕ =
      (each_bytes type_bytes (parameters_of c.parameters), each_bytes test_bytes (tests_of c.tests), each_bytes operation_bytes (operations_of c.operations)) in
      omega (
        arith,
        length-append (x ++ c.tests.count ∷ y) (c.operations.count ∷ z),
        length-append x (c.tests.count ∷ y),
        length_types,
        length_tests,
        length_operations,
      )

  length_command_record : length (command_record c) ≤ 207
  length_command_record = omega (arith, length_record 2 (command_bytes c), length_command)

  abbrev its_types : List ℕ
  its_types = length (parameters_of c.parameters) ∷ each_bytes type_bytes (parameters_of c.parameters)

  abbrev its_tests : List ℕ
  its_tests = length (tests_of c.tests) ∷ each_bytes test_bytes (tests_of c.tests)

  abbrev its_operations : List ℕ
  its_operations = length (operations_of c.operations) ∷ each_bytes operation_bytes (operations_of c.operations)

  pub command_stored : (l : List ℕ) (len : ℕ) → len ≡ length (command_bytes c) → (p q : ℕ) → p ≡ 4 + length its_types → q ≡ p + length its_tests →
      sets (sets (sets (sets (sets l 0 (little_endian 2 len)) 2 (little_endian 2 2)) 4 its_types) p its_tests) q its_operations ≡ sets l 0 (command_record c)
  unfolding command_bytes
  command_stored l len e p q f g =
      three_stored (sets (sets l 0 (little_endian 2 len)) 2 (little_endian 2 2)) its_types its_tests its_operations p q f g
      ∙ rw (types_long, tests_long, operations_long) (record_stored l 2 len (command_bytes c) e)

-- ---- the commands of an accepted scheme, and what stands past the end of a list of them
abbrev pub past : Command
past = record {
  parameters = record { count = 0; types = [] };
  tests = record { count = 0; list = [] };
  operations = record { count = 0; list = [] };
}

module _ {xs : List Command} {out₀ : List ℕ} {at : ℕ} {out : List ℕ} {p j : ℕ} (v : Placing command_record xs out₀ at out p j) (h : j < length xs) where
  abbrev here : Command
  here = get_or xs j past

  command_long : length (command_record here) ≡ 4 + length (command_bytes here)
  command_long = length_record 2 (command_bytes here)

  pub command_room : p + 4 + length (command_bytes here) ≤ length out
  command_room = omega (arith, placing_room v here past h refl, command_long)

  pub command_on : (q : ℕ) (out' : List ℕ) → q ≡ p + (4 + length (command_bytes here)) →
      out' ≡ take p out ++ (sets (take (length out - p) (drop p out)) 0 (command_record here) ++ drop (length out - p) (drop p out)) →
      Placing command_record xs out₀ at out' q (j + 1)
  command_on q out' e o = placing_on v here past h refl q out' (omega (arith, command_long)) o

accepted_small : (h : Head) (c : Command) → T (accepted_command h c) → Small c
unfolding accepted_command padded_command padded
accepted_small h c t =
    let a = accepted_back h c t in
    let x : length c.parameters.types ≡ 8 = search (and_left, and_right, eqb→eq) in
    let y : length c.tests.list ≡ 16 = search (and_left, and_right, eqb→eq) in
    let z : length c.operations.list ≡ 32 = search (and_left, and_right, eqb→eq) in
    record {
      parameters = a.few_types;
      tests = a.from.few_tests;
      operations = a.from.few_operations;
      type_room = omega arith;
      test_room = omega arith;
      operation_room = omega arith;
    }

records-few : (h : Head) (cs : List Command) → OkAll (λ (u : Unit {0}) c. u) (λ u c. T (accepted_command h c)) tt cs →
    length (each_bytes command_record cs) ≤ 207 * length cs
records-few h [] o = omega arith
records-few h (c ∷ cs) o =
    omega (
      arith,
      length-append (command_record c) (each_bytes command_record cs),
      length_command_record c (accepted_small h c o.0),
      records-few h cs o.1,
    )

module _ (s : Scheme) (t : T (accepted_scheme s)) where
  pub commands_there : (s.head.count ≤ 32) × (s.head.count ≤ length s.commands)
  commands_there =
      let p = accepted_parts s t in
      let f = head_fits s.head p.head in
      (omega arith, omega (arith, p.long, length-take s.head.count s.commands))

  pub commands_fit : s.head.count ≤ 32
  commands_fit = commands_there.0

  pub commands_few : length (each_bytes command_record (commands_of s)) ≤ 8192
  commands_few =
      let p = accepted_parts s t in
      omega (arith, commands_fit, p.long, records-few s.head (commands_of s) p.commands)

  used_small : (d : Command) (j : ℕ) → j < length (commands_of s) → Small (get_or (commands_of s) j d)
  unfolding accepted_scheme
  used_small d j h =
      let a : T (all (accepted_command s.head) (commands_of s)) = search (and_left, and_right) in
      accepted_small s.head _ (all_at (accepted_command s.head) (commands_of s) d a j h)

  pub command_small : (d : Command) (j : ℕ) → j < s.head.count → Small (get_or s.commands j d)
  command_small d j h =
      rw (get_or-take s.head.count s.commands j d h) at (used_small d j (omega (arith, (accepted_parts s t).long)))

  -- one of them, at a turn
  module _ (j : ℕ) (h : j < length (commands_of s)) where
    pub turn_small : Small (get_or (commands_of s) j past)
    turn_small = used_small past j h

    pub commands_next : length (each_bytes command_record (drop j (commands_of s))) ≡
        4 + length (command_bytes (get_or (commands_of s) j past)) + length (each_bytes command_record (drop (j + 1) (commands_of s)))
    commands_next = rw (each_one command_record (commands_of s) j _ past h refl, length-append, length_record)

-- ---- the answers of a writing
module _ (out : List ℕ) (s : Scheme) where
  pub scheme_refused : accepted_scheme s ≡ false → ◌≡◌ {A = Writing × List ℕ} (Refused 27, out) (write_scheme out s)
  unfolding write_scheme
  scheme_refused e = rw e

  length_head_record : length (record_bytes 1 (head_bytes s.head)) ≡ 9
  unfolding head_bytes
  length_head_record = rw (length_record, length-append, length_little_endian)

  length_scheme : length (scheme_bytes s) ≡ 9 + length (each_bytes command_record (commands_of s))
  unfolding scheme_bytes
  length_scheme = rw (length-append, length_head_record)

  module _ (a : accepted_scheme s ≡ true) (n : ℕ) (e : n ≡ 9 + length (each_bytes command_record (commands_of s))) where
    pub scheme_short : length out < n → ◌≡◌ {A = Writing × List ℕ} (Refused 9, out) (write_scheme out s)
    unfolding write_scheme
    scheme_short h = write_short out 0 (scheme_bytes s) (omega (arith, length_scheme)) ∙ rw a

    -- the head's record, and the commands' behind it
    module _ (h : n ≤ length out) (out₁ out₂ : List ℕ) (f : out₁ ≡ sets out 0 (record_bytes 1 (head_bytes s.head)))
        (g : out₂ ≡ placed out₁ 9 (each_bytes command_record (commands_of s))) where
      both_placed : out₂ ≡ placed out 0 (scheme_bytes s)
      unfolding scheme_bytes
      both_placed =
          let (x, r) : List ℕ × List ℕ = (record_bytes 1 (head_bytes s.head), each_bytes command_record (commands_of s)) in
          let w : out₁ ≡ placed out 0 x = f ∙ placed_sets out 0 x (omega (arith, length_head_record)) in
          let l : 9 ≡ 0 + length x = omega (arith, length_head_record) in
          g ∙ ap (λ (m : ℕ). placed out₁ m r) l ∙ rw w (placed_behind out 0 x r (omega (arith, length_head_record)))

      pub scheme_done : ◌≡◌ {A = Writing × List ℕ} (Done n, out₂) (write_scheme out s)
      unfolding write_scheme write_bytes
      scheme_done =
          let m : 0 + length (scheme_bytes s) ≡ n = omega (arith, length_scheme) in
          rw (both_placed, a, m, le-leb n (length out) h)
