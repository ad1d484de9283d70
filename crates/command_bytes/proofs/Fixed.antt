-- Readers that take a fixed number of bytes: what is left of a body behind one of them is the body from so many bytes further on.
-- Assumes nothing.
use Prim.Native.Nat.{ℕ, zero, suc, ◌+◌, ◌*◌}
use native.Mathlib.Omega.{arith}
use native.Mathlib.Nat.{mul-zero}
use mathlib.Core.Bool.{Bool, true, false}
use mathlib.Core.List.{List, [], ◌∷◌}
use mathlib.Core.Path.{◌≡◌, refl, sym, ap, ◌∙◌}
use lib.Dec.{leb}
use lib.ListN.{length, drop}
use lib.Seq.{drop-drop}
use Rattle.rights.specs.Numberings.{type, parameter}
use Rattle.rights.specs.declared.ThingType.{ThingType}
use Rattle.rights.specs.declared.Parameter.{Parameter}
use Rattle.model.specs.Scheme.{is_subject, type_at, creatable, destroyable}
use Rattle.model.specs.Accepted.{group, last_group}
use Rattle.model.specs.declared.Test.{Test}
use Rattle.model.specs.declared.Code.{Code}
use Rattle.model.specs.declared.Code.TheVariants.{Enter, Delete, Create, Destroy}
use Rattle.model.specs.declared.Operation.{Operation}
use Rattle.model.specs.declared.Head.{Head}
use Rattle.records.specs.Reading.{got, Body, done, check, steps, field, ◌>>=◌, ◌>>◌}
use Rattle.records.proofs.FieldLaws.{field_value}
use Rattle.records.proofs.Trip.{never, got_left, bind_got}
use Rattle.command_bytes.specs.Inner.Parts.{three}
use Rattle.command_bytes.specs.Read.{named, thing, test_of, test, code_of, operation_of, by_code, operation, type_in}

pub record Fixed {A : Type 0} (w : ℕ) (p : Body A) : Type 0 where
  pub left : (r : List ℕ) {a : A} {s : List ℕ} → p r ≡ got a s → s ≡ drop w r

-- ---- one law for each line that a `do` block can have
pub fixed_field : (low limit k : ℕ) → Fixed 1 (field low limit k)
fixed_field low limit k = record { left = λ r {a} e. got_left (sym e ∙ field_value r 0 1 a low limit k refl (rw e)) }

module _ {A : Type 0} where
  pub fixed_done : (a : A) → Fixed 0 (done a)
  fixed_done a = record { left = λ r e. sym (got_left e) }

  pub fixed_check : (b : Bool) (k : ℕ) {w : ℕ} {q : Body A} → Fixed w q → Fixed w (check b k >> q)
  fixed_check true k f = f
  fixed_check false k f = record { left = λ r e. never e }

pub fixed_then : {A B : Type 0} {w v : ℕ} {p : Body A} {q : A → Body B} → Fixed w p → ((a : A) → Fixed v (q a)) → Fixed (w + v) (p >>= q)
fixed_then {w = w} {v = v} {p = p} {q = q} f g = record {
  left = λ r e. let m = bind_got (p r) q e in (g m.0).left m.1 m.3 ∙ ap (drop v) (f.left r m.2) ∙ drop-drop v w r;
}

module _ {A S : Type 0} {w : ℕ} {p : S → Body A} (next : S → A → S) (f : (s : S) → Fixed w (p s)) where
  fixed_steps : (n : ℕ) (s : S) → Fixed (w * n) (steps p next n s)
  fixed_steps zero s = rw mul-zero (fixed_done [])
  fixed_steps (suc n) s =
      let m : w * suc n ≡ w + (w * n + 0) = omega arith in
      rw m (fixed_then (f s) λ a. fixed_then (fixed_steps n (next s a)) λ xs. fixed_done (a ∷ xs))

-- ---- what is left of a body behind such a reader, and behind so many of them
pub fixed_at : {A : Type 0} {w : ℕ} {p : Body A} → Fixed w p → (b : List ℕ) (i j : ℕ) → j ≡ i + w → {a : A} {s : List ℕ} → p (drop i b) ≡ got a s →
    p (drop i b) ≡ got a (drop j b)
fixed_at {w = w} f b i j ej {a} e = e ∙ ap (got a) (f.left (drop i b) e ∙ drop-drop w i b ∙ rw ej)

module _ {A S : Type 0} {w : ℕ} {p : S → Body A} (next : S → A → S) (f : (s : S) → Fixed w (p s)) (n : ℕ) (s : S) (b : List ℕ) (i : ℕ) where
  pub steps_at : {xs : List A} {t : List ℕ} → steps p next n s (drop i b) ≡ got xs t → steps p next n s (drop i b) ≡ got xs (drop (i + w * n) b)
  steps_at e = fixed_at (fixed_steps next f n s) b i (i + w * n) refl e

-- ---- a type, a test and an operation
pub fixed_type : (h : Head) → Fixed 1 (type_in h)
unfolding type_in
fixed_type h = fixed_then (fixed_field 0 h.types 5) λ t. fixed_done (type t)

fixed_three : (n k m x : ℕ) (fits : Parameter → Bool) → Fixed 3 (three n k m x fits)
fixed_three n k m x fits =
    fixed_then (fixed_field 0 n x) λ r. fixed_then (fixed_field 0 k 5) λ row.
    fixed_check (fits (parameter row)) 6 (fixed_then (fixed_field 0 m x) λ column. fixed_done _)

module _ (h : Head) (types : List ThingType) where
  fixed_named : Fixed 3 (named h types)
  unfolding named
  fixed_named = fixed_three h.rights (length types) (length types) 5 (λ row. is_subject h (type_at types row))

  pub fixed_test : Fixed 4 (test h types)
  unfolding test
  fixed_test = fixed_then (fixed_field 0 2 6) λ s. fixed_then fixed_named λ n. fixed_done (test_of s n)

  module _ (tests : List Test) (before : List Operation) where
    fixed_by_code : (code : Code) → Fixed 3 (by_code h types tests before code)
    unfolding thing
    fixed_by_code Enter = fixed_named
    fixed_by_code Delete = fixed_named
    fixed_by_code Create = fixed_three 1 (length types) 1 6 (creatable tests before)
    fixed_by_code Destroy = fixed_three 1 (length types) 1 6 (destroyable before)

    pub fixed_operation : Fixed 4 (operation h types tests before)
    unfolding operation
    fixed_operation =
        fixed_then (fixed_field 1 5 6) λ c.
        fixed_check (leb (last_group before) (group (code_of c))) 6 (fixed_then (fixed_by_code (code_of c)) λ n. fixed_done (operation_of (code_of c) n))
