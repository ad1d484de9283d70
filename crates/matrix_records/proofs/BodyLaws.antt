-- The readers of a matrix's records as the functions of `bodies` follow them: line by line, each from its own position on.
-- Assumes nothing.
use Prim.Native.Nat.{ℕ, ◌+◌, ◌*◌, min, ◌^◌, ◌≤◌, ◌<◌}
use native.Mathlib.Omega.{arith}
use mathlib.Core.Bool.{Bool, true, false, not, cond, ◌&&◌, ◌||◌}
use mathlib.Core.Logic.{◌≢◌}
use mathlib.Core.List.{List, [], ◌∷◌}
use mathlib.Core.Path.{◌≡◌, refl, ap, ◌∙◌}
use lib.Dec.{T, eqb, leb, ltb}
use lib.ListN.{length, take, drop, get_or}
use Rattle.std.specs.Prelude.{Result, Ok, Err, Some}
use Rattle.std.specs.Ordering.{is_some_and, partial_ge, partial_ordering_then, nat_cmp, is_ge}
use Rattle.std.proofs.Common.{Less, Equal, Greater}
use Rattle.faults.specs.Numbers.{fault_of}
use Rattle.faults.specs.declared.Fault.{Fault}
use Rattle.rights.specs.Sets.{has, within}
use Rattle.rights.specs.Numberings.{type}
use Rattle.laws.specs.Check.{is_some}
use Rattle.laws.proofs.Bools.{from_true}
use Rattle.laws.proofs.Differ.{constructors_differ}
use Rattle.model.specs.Scheme.{is_subject, no_type}
use Rattle.model.specs.Seats.{find, thing_in}
use Rattle.model.specs.declared.Head.{Head}
use Rattle.model.specs.declared.Things.{Things}
use Rattle.records.specs.Reading.{Read, got, fault, Body, bind, ◌>>◌, done, check, end, number, field, whole}
use Rattle.records.specs.Results.{value_of}
use Rattle.records.proofs.Lines.{on, line, field_line, number_line, check_line, end_line}
use Rattle.matrix_records.specs.Content.{CellRecord, listed}
use Rattle.matrix_records.specs.Read.{head, thing, cell, thing_with, is_row, above}
use Rattle.matrix_records.specs.Answers.{last_of, named, found_head, found_thing, found_cell, place_in}
use Rattle.matrix_records.specs.Inner.Bodies.{thing_id, seat_of, rights_of}
use Rattle.matrix_records.proofs.Listed.{listed_zero, listed_none, listed_some, listed_thing, listed_near}

-- what a function gives of a reading, and of one whose body ends there
module _ {A B : Type 0} (f : A → B) where
  abbrev given : Read (List ℕ) ℕ A → Result B Fault
  given m = value_of (named f m)

  abbrev ended : Read (List ℕ) ℕ A → Result B Fault
  ended m = given (bind m (λ a. end >> done a))

  ended_at : (b : List ℕ) (i : ℕ) (a : A) → ended (got a (drop i b)) ≡ cond (ltb i (length b)) (Err (fault_of 3)) (Ok (f a))
  ended_at b i a = end_line given Err (λ k. refl) b i a (Ok (f a)) refl

-- ---- a head
pub head_lines : (b : List ℕ) (h : Head) (kind : ℕ) → value_of (named (found_head kind) (whole (head h) b)) ≡
    on (λ n. cond (eqb n h.rights)
    (on (λ count. on (λ highest. cond (ltb 4 (length b)) (Err (fault_of 3)) (Ok (record { kind = kind; count = count; highest = highest })))
    Err (value_of (number 2 (drop 2 b))))
    Err (value_of (field 0 49 4 (drop 1 b))))
    (Err (fault_of 6)))
    Err (value_of (field 1 65 4 b))
unfolding whole head
head_lines b h kind =
    let answer = ended (found_head kind) in
    field_line answer Err (λ k. refl) b 0 1 _ _
    (λ n. check_line answer Err (λ k. refl) (eqb n h.rights) 6 (drop 1 b) _ _
    (field_line answer Err (λ k. refl) b 1 2 _ _
    (λ count. number_line answer Err (λ k. refl) b 2 4 _ _ (λ highest. ended_at (found_head kind) b 4 _) 2 refl) 0 49 4 refl)) 1 65 4 refl

-- ---- a thing
pub thing_lines : (b : List ℕ) (h : Head) (highest last kind : ℕ) → value_of (named (found_thing kind) (whole (thing h highest last kind) b)) ≡
    on (λ id. cond (not (eqb id 0))
    (cond (ltb last id)
    (cond (leb id highest)
    (on (λ t. cond (ltb 3 (length b)) (Err (fault_of 3)) (Ok (record { kind = kind; id = id; of = type t }))) Err (value_of (field 0 h.types 5 (drop 2 b))))
    (Err (fault_of 6)))
    (Err (fault_of 7)))
    (Err (fault_of 6)))
    Err (value_of (number 2 b))
unfolding whole thing
thing_lines b h highest last kind =
    let answer = ended (found_thing kind) in
    number_line answer Err (λ k. refl) b 0 2 _ _
    (λ id. check_line answer Err (λ k. refl) (not (eqb id 0)) 6 (drop 2 b) _ _
    (check_line answer Err (λ k. refl) (ltb last id) 7 (drop 2 b) _ _
    (check_line answer Err (λ k. refl) (leb id highest) 6 (drop 2 b) _ _
    (field_line answer Err (λ k. refl) b 2 3 _ _ (λ t. ended_at (found_thing kind) b 3 _) 0 h.types 5 refl)))) 2 refl

-- ---- the rights of a cell
pub rights_lines : (b : List ℕ) (h : Head) → value_of (whole (rights_of h) (drop 4 b)) ≡
    on (λ v. cond (within h.rights v)
    (cond (not (eqb v 0)) (cond (ltb 12 (length b)) (Err (fault_of 3)) (Ok v)) (Err (fault_of 6)))
    (Err (fault_of 5)))
    Err (value_of (number 8 (drop 4 b)))
unfolding whole rights_of within
rights_lines b h =
    let answer : Read (List ℕ) ℕ ℕ → Result ℕ Fault = λ m. value_of (bind m (λ a. end >> done a)) in
    number_line answer Err (λ k. refl) b 4 12 _ _
    (λ v. check_line answer Err (λ k. refl) (ltb v (2 ^ h.rights)) 5 (drop 12 b) _ _
    (check_line answer Err (λ k. refl) (not (eqb v 0)) 6 (drop 12 b) _ _ (end_line value_of Err (λ k. refl) b 12 v (Ok v) refl))) 8 refl

-- ---- the id of one of the first n things, with its seat
module _ (b : List ℕ) (i : ℕ) (th : Things) (n : ℕ) where
  abbrev pub seat_read : Result (ℕ × ℕ) Fault
  seat_read = value_of (named (seat_of n th.ids) (thing_id (listed n th) (drop i b)))

  pub seat_lines : seat_read ≡
      on (λ x. cond (is_some (thing_with (listed n th) x)) (Ok (seat_of n th.ids x)) (Err (fault_of 5))) Err (value_of (number 2 (drop i b)))
  unfolding thing_id
  seat_lines =
      line (given (seat_of n th.ids)) Err (λ k. refl) (number 2 (drop i b)) _ _
      (λ x t e. check_line (given (seat_of n th.ids)) Err (λ k. refl) (is_some (thing_with (listed n th) x)) 5 t _ _ refl)

  -- a reader that begins with it
  thing_line : {A R : Type 0} (answer : Read (List ℕ) ℕ A → R) (out : Fault → R) → ((k : ℕ) → answer (fault k) ≡ out (fault_of k)) →
      (q : ℕ → Body A) (go : ℕ × ℕ → R) →
      ((x : ℕ) → T (is_some (thing_with (listed n th) x)) → answer (q x (drop (i + 2) b)) ≡ go (seat_of n th.ids x)) →
      answer (bind (number 2 (drop i b)) (λ x. check (is_some (thing_with (listed n th) x)) 5 >> q x)) ≡ on go out seat_read
  thing_line answer out told q go next =
      number_line answer out told b i (i + 2) _ _ (λ x. known x (is_some (thing_with (listed n th) x)) refl) 2 refl ∙ rw seat_lines (each (value_of (number 2 (drop i b))))
    where
      known : (x : ℕ) (c : Bool) → is_some (thing_with (listed n th) x) ≡ c →
          answer ((check c 5 >> q x) (drop (i + 2) b)) ≡ cond c (go (seat_of n th.ids x)) (out (fault_of 5))
      known x true e = next x (from_true e)
      known x false e = told 5

      each : (r : Result ℕ Fault) →
          on (λ x. cond (is_some (thing_with (listed n th) x)) (go (seat_of n th.ids x)) (out (fault_of 5))) out r
          ≡ on go out (on (λ x. cond (is_some (thing_with (listed n th) x)) (Ok (seat_of n th.ids x)) (Err (fault_of 5))) Err r)
      each (Ok x) = one (is_some (thing_with (listed n th) x))
        where
          one : (c : Bool) → cond c (go (seat_of n th.ids x)) (out (fault_of 5)) ≡ on go out (cond c (Ok (seat_of n th.ids x)) (Err (fault_of 5)))
          one true = refl
          one false = refl
      each (Err f) = refl

  module _ (room : length th.ids ≡ 48) where
    -- none has the id 0, and none an id that isn't found
    module _ (x : ℕ) (ex : Ok x ≡ value_of (number 2 (drop i b))) where
      pub seat_unknown : min n 48 ≤ find (take n th.ids) x → Err (fault_of 5) ≡ seat_read
      unfolding is_some
      seat_unknown h = rw (seat_lines, ← ex, listed_none th n room x h)

      pub seat_zero : x ≡ 0 → Err (fault_of 5) ≡ seat_read
      unfolding is_some
      seat_zero z = rw (seat_lines, ← ex, z, listed_zero th n room)

      pub seat_known : x ≢ 0 → find (take n th.ids) x < min n 48 → Ok (seat_of n th.ids x) ≡ seat_read
      unfolding is_some
      seat_known nz h = rw (seat_lines, ← ex, listed_some th n room x nz h)

    -- its seat is one of the 48
    pub seat_near : {p : ℕ × ℕ} → Ok p ≡ seat_read → p.1 < 48
    seat_near {p} e = go (value_of (number 2 (drop i b))) (e ∙ seat_lines)
      where
        go : (r : Result ℕ Fault) →
            Ok p ≡ on (λ x. cond (is_some (thing_with (listed n th) x)) (Ok (seat_of n th.ids x)) (Err (fault_of 5))) Err r → p.1 < 48
        go (Ok x) f = known (is_some (thing_with (listed n th) x)) refl f
          where
            known : (c : Bool) → is_some (thing_with (listed n th) x) ≡ c → Ok p ≡ cond c (Ok (seat_of n th.ids x)) (Err (fault_of 5)) → p.1 < 48
            known true ec f =
                let g : p ≡ seat_of n th.ids x = cc in
                rw g (omega (arith, listed_near th n room x (from_true ec)))
            known false ec f = constructors_differ (cc)
        go (Err k) f = constructors_differ (cc)

-- ---- the place of the cell before: as far on, or not
module _ (over by row column : ℕ) where
  abbrev as_far : Bool
  as_far = partial_ge (λ (x y : ℕ × ℕ). partial_ordering_then (Some (nat_cmp x.0 y.0)) (Some (nat_cmp x.1 y.1))) (over, by) (row, column)

  place_order : above (last_of over by) row column ≡ not as_far
  unfolding above
  place_order = go (ltb over row) (eqb over row) (ltb by column) (eqb by column)
    where
      go : (a b c d : Bool) → (a || b && c)
          ≡ not (is_some_and is_ge (partial_ordering_then (Some (cond a Less (cond b Equal Greater))) (Some (cond c Less (cond d Equal Greater)))))
      go true b c d = refl
      go false true true d = refl
      go false true false true = refl
      go false true false false = refl
      go false false c d = refl

  pub is_below : true ≡ as_far → above (last_of over by) row column ≡ false
  is_below e = place_order ∙ rw (← e)

  pub is_above : false ≡ as_far → above (last_of over by) row column ≡ true
  is_above e = place_order ∙ rw (← e)

abbrev pub cell_with : ℕ → ℕ → ℕ → CellRecord
cell_with row column rights = record { row = row; column = column; rights = rights }

-- ---- a cell's last lines are theirs, and then the end of its body
module _ (h : Head) (row column : ℕ) where
  abbrev checked : {A : Type 0} → (ℕ → A) → ℕ → Body A
  checked f v = do
    check (ltb v (2 ^ h.rights)) 5
    check (not (eqb v 0)) 6
    done (f v)

  rights_last : (m : Read (List ℕ) ℕ ℕ) →
      bind (bind m (checked (cell_with row column))) (λ c. end >> done c)
      ≡ bind (bind (bind m (checked (λ v. v))) (λ v. end >> done v)) (λ v. done (cell_with row column v))
  rights_last (got v rest) = go (ltb v (2 ^ h.rights)) (not (eqb v 0)) rest
    where
      go : (a b : Bool) (rest : List ℕ) →
          bind ((check a 5 >> check b 6 >> done (cell_with row column v)) rest) (λ c. end >> done c)
          ≡ bind (bind ((check a 5 >> check b 6 >> done v) rest) (λ v. end >> done v)) (λ v. done (cell_with row column v))
      go true true [] = refl
      go true true (x ∷ rest) = refl
      go true false rest = refl
      go false b rest = refl
  rights_last (fault k) = refl

-- ---- a cell of the first n things
pub cell_lines : (b : List ℕ) (h : Head) (th : Things) (n : ℕ) (last : CellRecord) (kind : ℕ) → length th.ids ≡ 48 →
    value_of (named (found_cell n th.ids kind) (whole (cell h (listed n th) last) b)) ≡
    on (λ r. cond (has h.subjects.0 (get_or th.types r.1 no_type).0)
    (on (λ c. cond (above last r.0 c.0)
    (on (λ v. Ok (record { kind = kind; row = r.0; column = c.0; place = r.1 * 48 + c.1; rights = v })) Err (value_of (whole (rights_of h) (drop 4 b))))
    (Err (fault_of 7)))
    Err (seat_read b 2 th n))
    (Err (fault_of 6)))
    Err (seat_read b 0 th n)
unfolding whole cell rights_of is_row is_subject thing_in place_in
cell_lines b h th n last kind room =
    let answer = ended (found_cell n th.ids kind) in
    thing_line b 0 th n answer Err (λ k. refl) _ _
    (λ row known.
    let is : thing_with (listed n th) row ≡ _ = listed_some th n room row (listed_thing th n room row known) (listed_near th n room row known) in
    rw is (check_line answer Err (λ k. refl) (has h.subjects.0 (get_or th.types (find (take n th.ids) row) no_type).0) 6 (drop 2 b) _ _
    (thing_line b 2 th n answer Err (λ k. refl) _ _
    (λ column known. check_line answer Err (λ k. refl) (above last row column) 7 (drop 4 b) _ _
    (ap (λ m. value_of (named (found_cell n th.ids kind) m)) (rights_last h row column (number 8 (drop 4 b)))
    ∙ line (given (found_cell n th.ids kind)) Err (λ k. refl) (whole (rights_of h) (drop 4 b)) _ _ (λ v t e. refl))))))
