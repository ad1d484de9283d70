-- One thing and its seat, from the checks of a request through the creates and destroys.
-- Assumes nothing.
use Prim.Native.Nat.{ℕ, ◌≤◌, ◌<◌}
use native.Mathlib.Omega.{arith}
use mathlib.Core.Path.{◌≡◌, refl}
use mathlib.Core.Logic.{◌≢◌}
use mathlib.Core.Bool.{Bool, true, false}
use mathlib.Core.List.{List}
use lib.Dec.{T, eqb, eqb_refl}
use lib.ListN.{length, get_or, set, length-set}
use Rattle.laws.proofs.Bools.{is_true, from_true, eqb_not}
use Rattle.model.specs.Seats.{among, find}
use Rattle.model.proofs.Find.{find_lt, find_is, among_get}
use Rattle.model.proofs.SeatChange.{stored}

-- y sits at s or nowhere; k is the group of the operation before, and up to the first destroy y is there
pub record Sits (k : ℕ) (ids : List ℕ) (y s : ℕ) : Type 0 where
  pub low : s < length ids
  pub only : (i : ℕ) → i < length ids → get_or ids i 0 ≡ y → i ≡ s
  pub here : k ≤ 1 → get_or ids s 0 ≡ y

module _ {k : ℕ} {ids : List ℕ} {y s : ℕ} (sits : Sits k ids y s) where
  pub sits_among : k ≤ 1 → T (among ids y)
  sits_among h = rw (sits.here h) at (among_get ids s sits.low)

  pub sits_find : T (among ids y) → find ids y ≡ s
  sits_find t = sits.only _ (find_lt ids y t) (find_is ids y t)

  -- so it is enough to look at that seat
  pub sits_look : eqb (get_or ids s 0) y ≡ among ids y
  sits_look = go (among ids y) refl
    where
      go : (b : Bool) → among ids y ≡ b → eqb (get_or ids s 0) y ≡ b
      go true e =
          let t : T (among ids y) = from_true e in
          rw (← sits_find t, find_is ids y t) (is_true (eqb y y) (eqb_refl y))
      go false e = eqb_not _ y (λ q. rw (q, e) at (among_get ids s sits.low))

  pub sits_later : {k' : ℕ} → k ≤ k' → Sits k' ids y s
  sits_later h = record { low = sits.low; only = sits.only; here = λ h'. sits.here (omega arith) }

  -- x is put at p, where y doesn't sit while it has to be there
  pub sits_put : {k' : ℕ} (p x : ℕ) → p < length ids → x ≢ y → (k' ≤ 1 → k ≤ 1) → (k' ≤ 1 → s ≢ p) → Sits k' (set ids p x) y s
  sits_put p x lp n before away = record {
    low = simp length-set sits.low;
    only = λ i h. stored (λ v. v ≡ y → i ≡ s) ids p x i 0 lp (λ e z. absurd (n z)) (λ ne. sits.only i (simp length-set at h));
    here = λ h. stored (λ v. v ≡ y) ids p x s 0 lp (λ e. absurd (away h e)) (λ ne. sits.here (before h));
  }

pub sits_new : (k : ℕ) (ids : List ℕ) (p x : ℕ) → p < length ids → among ids x ≡ false → Sits k (set ids p x) x p
sits_new k ids p x lp new = record {
  low = simp length-set lp;
  only = λ i h. stored (λ v. v ≡ x → i ≡ p) ids p x i 0 lp (λ e z. e) (λ ne z. absurd (rw (z, new) at (among_get ids i (simp length-set at h))));
  here = λ h. stored (λ v. v ≡ x) ids p x p 0 lp (λ e. refl) (λ ne. absurd (ne refl));
}
