-- Each wrong program is caught by a starred example, invented totals by the totals being the papers'.
-- Assumes nothing.
use Prim.Native.Nat.{ℕ}
use native.Mathlib.Omega.{arith}
use mathlib.Core.Path.{◌≡◌, refl, sym, ap, ◌∙◌}
use mathlib.Core.List.{List, [], ◌∷◌}
use lib.ListN.{get_or, replicate}
use Rattle.std.specs.Prelude.{Result}
use Rattle.faults.specs.declared.Fault.{Fault}
use Rattle.model.specs.Request.{Request}
use Rattle.model.specs.KeyExample.{key_scheme, key_matrix, ask}
use Rattle.totals.specs.Outcome.{as_totals}
use Rattle.totals.proofs.TrueTotals.{true_totals}
use Rattle.agreement.proofs.Computes.{examples_compute, converting_computes, schemes_compute, matrices_compute, lists_compute}
use Rattle.agreement.specs.WrongPrograms.{Asked, Held, Into, Calls, stated_request, result_of, stated_cells, stated_scheme, stated_scheme_bytes, stated_matrix_bytes, after_calls, stated_calls, WrongPrograms}
use Rattle.scheme_bytes.specs.Write.{write_scheme}
use Rattle.matrix_bytes.specs.Write.{write_matrix}

-- ---- the examples: load(9, 12) from the start; again once the key is retired; the start itself
abbrev load_retire : List Request
load_retire = ask 1 (9 ∷ 12 ∷ []) ∷ ask 0 (5 ∷ 9 ∷ []) ∷ []

abbrev first : Asked
first = record { scheme = key_scheme; matrix = key_matrix; command = 1; ids = 9 ∷ 12 ∷ [] }

abbrev third : Asked
third = record { scheme = key_scheme; matrix = after_calls key_scheme key_matrix load_retire; command = 1; ids = 9 ∷ 12 ∷ [] }

abbrev start : Held
start = record { scheme = key_scheme; matrix = key_matrix }

abbrev one_of_two : Calls
one_of_two = record { scheme = key_scheme; matrix = key_matrix; requests = load_retire; called = 1 }

-- room for both conversions
abbrev roomy : Into
roomy = record { out = replicate 256 0; held = start }

-- what the definitions give there; byte 4 of a scheme's and of a matrix's bytes is the number of rights
record Computed : Type 0 where
  first_result : result_of (stated_request first) ≡ 0
  first_cell : get_or (stated_request first).1 50 0 ≡ 10
  start_cell : get_or key_matrix.cells 50 0 ≡ 2
  third_result : result_of (stated_request third) ≡ 14
  robot_cell : get_or (stated_cells start).1 50 0 ≡ 210
  key_rights : key_scheme.head.rights ≡ 4
  robot_rights : (stated_scheme key_scheme).1.head.rights ≡ 8
  scheme_byte : get_or (stated_scheme_bytes roomy).1 4 0 ≡ 8
  scheme_copied : get_or (write_scheme (replicate 256 0) key_scheme).1 4 0 ≡ 4
  matrix_byte : get_or (stated_matrix_bytes roomy).1 4 0 ≡ 8
  matrix_copied : get_or (write_matrix (replicate 256 0) key_scheme key_matrix).1 4 0 ≡ 4
  after_one : get_or (stated_calls one_of_two).cells 49 0 ≡ 0
  after_two : get_or (after_calls key_scheme key_matrix load_retire).cells 49 0 ≡ 4

computed : Computed
unfolding examples_compute converting_computes schemes_compute matrices_compute lists_compute after_calls
computed = record { first_result = refl; first_cell = refl; start_cell = refl; third_result = refl; robot_cell = refl; robot_rights = refl; after_one = refl; after_two = refl; key_rights = refl; scheme_byte = refl; scheme_copied = refl; matrix_byte = refl; matrix_copied = refl }

differ : {x y a b : ℕ} → x ≡ y → x ≡ a → y ≡ b → (a ≡ b → ⊥) → ⊥
differ e f g other = other (sym f ∙ e ∙ g)

at : ℕ → List ℕ → ℕ
at k l = get_or l k 0

pub wrong_programs : WrongPrograms
unfolding at
wrong_programs = record {
  refuses_all = λ program never meets. never first (ap result_of (meets first) ∙ computed.first_result);
  constant = λ program k same meets.
      let one : result_of (stated_request first) ≡ k = sym (ap result_of (meets first)) ∙ same first in
      let other : result_of (stated_request third) ≡ k = sym (ap result_of (meets third)) ∙ same third in
      differ (one ∙ sym other) computed.first_result computed.third_result (λ e. omega (arith, e));
  does_nothing = λ program still meets.
      differ (ap (at 50) (sym (ap (λ r. r.1) (meets first)) ∙ still first)) computed.first_cell computed.start_cell (λ e. omega (arith, e));
  copies_matrix = λ program copies meets.
      differ (ap (at 50) (sym (ap (λ r. r.1) (meets start)) ∙ copies start)) computed.robot_cell computed.start_cell (λ e. omega (arith, e));
  copies_scheme = λ program copies meets.
      let e : (stated_scheme key_scheme).1 ≡ key_scheme = sym (ap (λ r. r.1) (meets key_scheme)) ∙ copies key_scheme in
      differ (ap (λ s. s.head.rights) e) computed.robot_rights computed.key_rights (λ e. omega (arith, e));
  copies_scheme_bytes = λ program copies meets.
      differ (ap (λ (w : Result ℕ Fault × List ℕ). at 4 w.1) (sym (meets roomy) ∙ copies roomy)) computed.scheme_byte computed.scheme_copied (λ e. omega (arith, e));
  idle_scheme_bytes = λ program idle meets.
      differ (ap (at 4) (sym (ap (λ w. w.1) (meets roomy)) ∙ idle roomy)) computed.scheme_byte refl (λ e. omega (arith, e));
  copies_matrix_bytes = λ program copies meets.
      differ (ap (λ (w : Result ℕ Fault × List ℕ). at 4 w.1) (sym (meets roomy) ∙ copies roomy)) computed.matrix_byte computed.matrix_copied (λ e. omega (arith, e));
  idle_matrix_bytes = λ program idle meets.
      differ (ap (at 4) (sym (ap (λ w. w.1) (meets roomy)) ∙ idle roomy)) computed.matrix_byte refl (λ e. omega (arith, e));
  whole_list_at_first = λ program early meets.
      let e = sym (meets one_of_two) ∙ early key_scheme key_matrix load_retire in
      differ (ap (λ m. at 49 m.cells) e) computed.after_one computed.after_two (λ e. omega (arith, e));
  invented_totals = λ program h scheme matrix other meets. other (meets h ∙ ap as_totals (true_totals h.scheme h.matrix scheme matrix));
}
