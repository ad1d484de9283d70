-- Lists of cells by rising place, row before column: one such list says at most one set of rights of a place, and two that say the same are equal.
-- A place is one number, so that order and difference are arithmetic. Assumes nothing.
use Prim.Native.Nat.{ℕ, ◌+◌, ◌*◌, ◌≤◌, ◌<◌}
use mathlib.Core.Path.{◌≡◌, refl, sym, ◌∙◌}
use mathlib.Core.Logic.{◌≢◌}
use mathlib.Core.Bool.{Bool, true, false, cond}
use mathlib.Core.List.{List, [], ◌∷◌, ◌++◌}
use native.Mathlib.Nat.{le_trans, lt_of_le_of_lt}
use native.Mathlib.Omega.{arith}
use lib.Dec.{eqb, ltb}
use borrow.Author.Tests.{ltb-true, ltb-false, eqb-true, eqb-false, eq-eqb}
use Rattle.laws.proofs.Bools.{eqb_not}
use Rattle.matrix_records.specs.Content.{CellRecord}

abbrev pub spot : ℕ → ℕ → ℕ
spot x y = x * 65536 + y

abbrev pub spot_of : CellRecord → ℕ
spot_of c = spot c.row c.column

-- their spots rise from above k up to b
pub data Between : ℕ → List CellRecord → ℕ → Type 0 where
  stop : {k b : ℕ} → k ≤ b → Between k [] b
  on : {k b : ℕ} {c : CellRecord} {cs : List CellRecord} → k < spot_of c → Between (spot_of c) cs b → Between k (c ∷ cs) b

pub data EachCell (P : CellRecord → Type 0) : List CellRecord → Type 0 where
  no : EachCell P []
  also : {c : CellRecord} {cs : List CellRecord} → P c → EachCell P cs → EachCell P (c ∷ cs)

-- the rights listed for a spot, or d
unfoldable pub rights_or : ℕ → List CellRecord → ℕ → ℕ
rights_or d [] k = d
rights_or d (c ∷ cs) k = cond (eqb (spot_of c) k) c.rights (rights_or d cs k)

-- ---- one list behind the other

pub between_lower : {j k b : ℕ} {cs : List CellRecord} → j ≤ k → Between k cs b → Between j cs b
between_lower l (stop e) = stop (le_trans l e)
between_lower l (on o w) = on (lt_of_le_of_lt l o) w

pub between_append : {k b e : ℕ} {cs ds : List CellRecord} → Between k cs b → Between b ds e → Between k (cs ++ ds) e
between_append (stop l) w = between_lower l w
between_append (on o v) w = on o (between_append v w)

module _ {P : CellRecord → Type 0} where
  pub each_append : {cs ds : List CellRecord} → EachCell P cs → EachCell P ds → EachCell P (cs ++ ds)
  each_append no w = w
  each_append (also p v) w = also p (each_append v w)

  pub each_map : {Q : CellRecord → Type 0} → ((c : CellRecord) → P c → Q c) → {cs : List CellRecord} → EachCell P cs → EachCell Q cs
  each_map f no = no
  each_map f (also {c = c} p v) = also (f c p) (each_map f v)

pub or_append : (d : ℕ) (cs ds : List CellRecord) (k : ℕ) → rights_or d (cs ++ ds) k ≡ rights_or (rights_or d ds k) cs k
unfolding rights_or
or_append d [] ds k = refl
or_append d (c ∷ cs) ds k = rw (or_append d cs ds k)

-- ---- what is listed

pub or_head : (d : ℕ) (c : CellRecord) (cs : List CellRecord) (j : ℕ) → spot_of c ≡ j → rights_or d (c ∷ cs) j ≡ c.rights
unfolding rights_or
or_head d c cs j e = rw (eq-eqb (spot_of c) j e)

pub or_tail : (d : ℕ) (c : CellRecord) (cs : List CellRecord) (j : ℕ) → spot_of c ≢ j → rights_or d (c ∷ cs) j ≡ rights_or d cs j
unfolding rights_or
or_tail d c cs j n = rw (eqb_not (spot_of c) j n)

pub or_below : (d : ℕ) {k b : ℕ} {cs : List CellRecord} → Between k cs b → (j : ℕ) → j ≤ k → rights_or d cs j ≡ d
unfolding rights_or
or_below d (stop e) j l = refl
or_below d (on {c = c} {cs = cs} o w) j l = rw (eqb_not (spot_of c) j (λ e. omega arith)) (or_below d w j (omega arith))

pub or_unlisted : (d : ℕ) {P : CellRecord → Type 0} {cs : List CellRecord} → EachCell P cs → (j : ℕ) → ((c : CellRecord) → P c → spot_of c ≢ j) → rights_or d cs j ≡ d
unfolding rights_or
or_unlisted d no j f = refl
or_unlisted d (also {c = c} p q) j f = rw (eqb_not (spot_of c) j (f c p)) (or_unlisted d q j f)

-- ---- two lists that say the same

pub record Full (c : CellRecord) : Type 0 where
  pub low : c.column ≤ 65535
  pub some : c.rights ≢ 0

same_cell : (c d : CellRecord) → Full c → Full d → spot_of c ≡ spot_of d → c.rights ≡ d.rights → c ≡ d
same_cell c d u v e f =
    let er : c.row ≡ d.row = omega (arith, u.low, v.low) in
    let ec : c.column ≡ d.column = omega (arith, u.low, v.low) in
    λ i. record { row = er i; column = ec i; rights = f i }

-- neither list begins before the other
least : {b : ℕ} (c d : CellRecord) (cs ds : List CellRecord) → Full c → Between (spot_of d) ds b → ((j : ℕ) → rights_or 0 (c ∷ cs) j ≡ rights_or 0 (d ∷ ds) j) →
    spot_of d ≤ spot_of c
least {b} c d cs ds f w h = go (ltb (spot_of c) (spot_of d)) refl
  where
    go : (t : Bool) → ltb (spot_of c) (spot_of d) ≡ t → spot_of d ≤ spot_of c
    go true e =
        let under : Between (spot_of c) (d ∷ ds) b = on (ltb-true (spot_of c) (spot_of d) e) w in
        absurd (f.some (sym (or_head 0 c cs _ refl) ∙ h (spot_of c) ∙ or_below 0 under (spot_of c) (omega arith)))
    go false e = ltb-false (spot_of c) (spot_of d) e

rest : {a b : ℕ} (c d : CellRecord) (cs ds : List CellRecord) → spot_of c ≡ spot_of d → Between (spot_of c) cs a → Between (spot_of d) ds b →
    ((j : ℕ) → rights_or 0 (c ∷ cs) j ≡ rights_or 0 (d ∷ ds) j) → (j : ℕ) → rights_or 0 cs j ≡ rights_or 0 ds j
rest c d cs ds same v w h j = go (eqb (spot_of c) j) refl
  where
    go : (t : Bool) → eqb (spot_of c) j ≡ t → rights_or 0 cs j ≡ rights_or 0 ds j
    go true e =
        let at : spot_of c ≡ j = eqb-true (spot_of c) j e in
        or_below 0 v j (omega arith) ∙ sym (or_below 0 w j (omega arith))
    go false e =
        let n : spot_of c ≢ j = eqb-false (spot_of c) j e in
        sym (or_tail 0 c cs j n) ∙ h j ∙ or_tail 0 d ds j (λ z. n (same ∙ z))

pub same_cells : {k a b : ℕ} {cs ds : List CellRecord} → Between k cs a → Between k ds b → EachCell Full cs → EachCell Full ds →
    ((j : ℕ) → rights_or 0 cs j ≡ rights_or 0 ds j) → cs ≡ ds
unfolding rights_or
same_cells (stop l) (stop m) p q h = refl
same_cells (stop l) (on {c = d} {cs = ds} o w) p (also f q) h = absurd (f.some (sym (or_head 0 d ds _ refl) ∙ sym (h (spot_of d))))
same_cells (on {c = c} {cs = cs} o v) (stop l) (also f p) q h = absurd (f.some (sym (or_head 0 c cs _ refl) ∙ h (spot_of c)))
same_cells (on {c = c} {cs = cs} o v) (on {c = d} {cs = ds} u w) (also f p) (also g q) h =
    let low : spot_of d ≤ spot_of c = least c d cs ds f w h in
    let high : spot_of c ≤ spot_of d = least d c ds cs g v (λ j. sym (h j)) in
    let at : spot_of c ≡ spot_of d = omega arith in
    let head : c ≡ d = same_cell c d f g at (sym (or_head 0 c cs _ refl) ∙ h (spot_of c) ∙ or_head 0 d ds _ (sym at)) in
    let tail : cs ≡ ds = same_cells v (between_lower high w) p q (rest c d cs ds at v w h) in
    rw (head, tail)
