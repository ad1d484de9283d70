-- The round trips of a matrix's records: its head, its things, and its cells up to the end of the input.
-- Assumes nothing.
use Prim.Native.Nat.{ℕ, zero, suc, ◌+◌, ◌-◌, ◌≤◌, ◌<◌}
use mathlib.Core.Path.{◌≡◌, refl, sym, ap, ◌∙◌}
use mathlib.Core.Logic.{◌≢◌}
use mathlib.Core.Bool.{Bool, true, false, cond, ◌&&◌, ◌||◌}
use mathlib.Core.List.{List, [], ◌∷◌}
use native.Mathlib.Nat.{add-zero}
use native.Mathlib.Omega.{arith}
use lib.Dec.{T, eqb, ltb, lt→ltb}
use lib.ListN.{length, drop, length-append, length-drop}
use mir.Facts.{yes_eqb}
use borrow.Author.Tests.{eq-eqb, eqb-true, ltb-true, ltb-false}
use Rattle.model.specs.declared.Head.{Head}
use Rattle.laws.proofs.Bools.{and_both, eqb_not}
use Rattle.records.specs.Bytes.{record_bytes, each_bytes}
use Rattle.records.specs.Reading.{Read, got, Reader, done, steps, ◌>>=◌}
use Rattle.records.specs.Front.{Refusal, in_record}
use Rattle.records.proofs.Trip.{Trip, Bytes, Stand, input, OkAll, bind_got, got_same, stand_none, stand_join, stand_split}
use Rattle.records.proofs.Trip.{trip_as, trip_steps}
use Rattle.records.proofs.BytesLaws.{length_record}
use Rattle.matrix_records.specs.Content.{ThingRecord, CellRecord}
use Rattle.matrix_records.specs.Read.{thing, cell, above, start}
use Rattle.matrix_records.specs.Write.{thing_bytes, thing_kind, cell_bytes}
use Rattle.matrix_records.proofs.Trips.{Sized, UpToOk, CellOk, NextOk, thing_record, cell_record}
use Rattle.matrix_bytes.specs.Read.{to_end}
use Rattle.matrix_bytes.proofs.Seating.{UpTo}
use Rattle.matrix_bytes.proofs.Rising.{Rising}
use Rattle.matrix_bytes.proofs.Spots.{spot, spot_of, Between, EachCell}
use Rattle.matrix_bytes.proofs.Spots.Between.{stop, on}
use Rattle.matrix_bytes.proofs.Spots.EachCell.{no, also}

-- ---- the things
each_ok : (h : Head) (highest last : ℕ) (ts : List ThingRecord) → OkAll (λ last t. t.id) (UpToOk h highest) last ts → Rising h last ts × UpTo highest ts
each_ok h highest last [] o = (tt, tt)
each_ok h highest last (t ∷ ts) o = let (r, u) = each_ok h highest t.id ts o.1 in ((o.0.0, r), (o.0.1, u))

ok_each : (h : Head) (highest last : ℕ) (ts : List ThingRecord) → Rising h last ts → UpTo highest ts → OkAll (λ last t. t.id) (UpToOk h highest) last ts
ok_each h highest last [] r u = tt
ok_each h highest last (t ∷ ts) r u = ((r.0, u.0), ok_each h highest t.id ts r.1 u.1)

pub things_trip : (h : Head) → Sized h → (s : List ℕ) (highest count : ℕ) →
    Trip (input s) (steps (λ last. in_record s 272 (thing h highest last)) (λ last t. t.id) count 0) (each_bytes (λ t. record_bytes (thing_kind t) (thing_bytes t)))
    (λ ts. Rising h 0 ts × UpTo highest ts × (length ts ≡ count))
things_trip h z s highest count =
    trip_as (trip_steps (thing_record h z s highest) (λ last t. t.id) count 0) (λ ts o. refl)
    (λ ts o. let (r, u) = each_ok h highest 0 ts o.0 in (r, u, o.1))
    (λ ts o. (ok_each h highest 0 ts o.0 o.1, o.2))

-- ---- up to the end of the input
pub stand_le : {s v : List ℕ} {i j : ℕ} → Stand s v i j → i ≤ length s → j ≤ length s
stand_le {s} {v} {i} {j} e l =
    let long : length s - i ≡ length v + (length s - j) = sym (length-drop i s) ∙ ap length e.bytes ∙ length-append v (drop j s) ∙ rw (length-drop j s) in
    omega (arith, e.next)

module _ {A S : Type 0} (s : List ℕ) {p : S → Reader ℕ Refusal A} {enc : A → List ℕ} {Ok : S → A → Type 0}
    (t : (st : S) → Trip (input s) (p st) enc (Ok st)) (next : S → A → S) (long : (a : A) → 0 < length (enc a)) where
  pub end_there : (fuel : ℕ) (st : S) (xs : List A) → OkAll next Ok st xs → (i : ℕ) → Stand s (each_bytes enc xs) i (length s) → length (each_bytes enc xs) ≤ fuel →
      to_end s p next fuel st i ≡ got xs (length s)
  unfolding to_end
  end_there zero st [] o i r l = rw r.next (rw add-zero)
  end_there zero st (a ∷ xs) o i r l = absurd (omega (arith, long a, length-append (enc a) (each_bytes enc xs)))
  end_there (suc fuel) st [] o i r l = let e : i ≡ length s = omega (arith, r.next) in rw (e, eq-eqb (length s) (length s) refl)
  end_there (suc fuel) st (a ∷ xs) o i r l =
      let m = stand_split s (enc a) (each_bytes enc xs) r in
      let e : p st i ≡ got a m.0 = (t st).there a o.0 i m.0 m.1 in
      let more = length-append (enc a) (each_bytes enc xs) in
      let some = long a in
      let before : i ≢ length s = λ z. omega (arith, r.next) in
      rw (eqb_not i (length s) before, e, end_there fuel (next st a) xs o.1 m.0 m.2 (omega arith))

  abbrev pub Ended : S → ℕ → List A → ℕ → Type 0
  Ended st i xs j = Stand s (each_bytes enc xs) i j × (OkAll next Ok st xs × (j ≡ length s))

  -- with fuel for each byte that is left
  abbrev Back : ℕ → Type 0
  Back fuel = (st : S) (i j : ℕ) (xs : List A) → i ≤ length s → length s ≤ i + fuel → to_end s p next fuel st i ≡ got xs j → Ended st i xs j

  pub end_back : Bytes s → (fuel : ℕ) → Back fuel
  unfolding to_end
  end_back g zero st i j xs l f e = got_same (Ended st i) e (stand_none s i, (tt, omega arith))
  end_back g (suc fuel) st i j xs l f e = go (eqb i (length s)) refl (end_back g fuel) e
    where
      go : (b : Bool) → eqb i (length s) ≡ b → Back fuel →
          cond b (got [] i) ((p st >>= λ a. to_end s p next fuel (next st a) >>= λ ys. done (a ∷ ys)) i) ≡ got xs j → Ended st i xs j
      go true q later e = got_same (Ended st i) e (stand_none s i, (tt, eqb-true i (length s) q))
      go false q later e =
          let m = bind_got (p st i) (λ a. to_end s p next fuel (next st a) >>= λ ys. done (a ∷ ys)) e in
          let b = (t st).back i m.1 m.0 g m.2 in
          let d = bind_got (to_end s p next fuel (next st m.0) m.1) (λ ys. done (m.0 ∷ ys)) m.3 in
          let c = later (next st m.0) m.1 d.1 d.0 (stand_le b.0 l) (omega (arith, b.0.next, long m.0)) d.2 in
          got_same (Ended st i) {a = m.0 ∷ d.0} d.3 (stand_join s (enc m.0) (each_bytes enc d.0) b.0 c.0, ((b.1, c.1.0), c.1.1))

-- ---- the cells

-- a place above the one before has a higher spot
above_spot : (last : CellRecord) (x y : ℕ) → last.column ≤ 65535 → T (above last x y) → spot_of last < spot x y
unfolding above
above_spot last x y l = go (ltb last.row x) refl (eqb last.row x) refl (ltb last.column y) refl
  where
    go : (a : Bool) → ltb last.row x ≡ a → (b : Bool) → eqb last.row x ≡ b → (c : Bool) → ltb last.column y ≡ c → T (a || (b && c)) →
        spot_of last < spot x y
    go true e b f c q t = omega (arith, ltb-true last.row x e)
    go false e true f true q t = omega (arith, eqb-true last.row x f, ltb-true last.column y q)
    go false e true f false q t = absurd t
    go false e false f c q t = absurd t

spot_above : (last : CellRecord) (x y : ℕ) → y ≤ 65535 → spot_of last < spot x y → T (above last x y)
unfolding above
spot_above last x y l o = go (ltb last.row x) refl
  where
    go : (a : Bool) → ltb last.row x ≡ a → T (a || (eqb last.row x && ltb last.column y))
    go true e = tt
    go false e =
        let low : x ≤ last.row = ltb-false last.row x e in
        let at : last.row ≡ x = omega arith in
        and_both (eqb last.row x) (ltb last.column y) (yes_eqb at) (lt→ltb last.column y (omega arith))

-- no spot is higher
abbrev pub top : ℕ
top = spot 65535 65535

module _ (h : Head) (ts : List ThingRecord) where
  rising_from : {a b : ℕ} {cs : List CellRecord} (last : CellRecord) → a ≡ spot_of last → Between a cs b → EachCell (CellOk h ts) cs → OkAll (λ last c. c) (NextOk h ts) last cs
  rising_from last e (stop l) no = tt
  rising_from last e (on {c = c} o w) (also p q) = ((spot_above last c.row c.column p.column_small (rw e at o), p), rising_from c refl w q)

  rising_ok : {b : ℕ} {cs : List CellRecord} (last : CellRecord) → Between (spot_of last) cs b → EachCell (CellOk h ts) cs → OkAll (λ last c. c) (NextOk h ts) last cs
  rising_ok last w all = rising_from last refl w all

  ok_rising : (last : CellRecord) (cs : List CellRecord) → last.column ≤ 65535 → spot_of last ≤ top → OkAll (λ last c. c) (NextOk h ts) last cs →
      Between (spot_of last) cs top × EachCell (CellOk h ts) cs
  ok_rising last [] l u o = (stop u, no)
  ok_rising last (c ∷ cs) l u o =
      let p : CellOk h ts c = o.0.1 in
      let up : spot_of c ≤ top = omega (arith, p.row_small, p.column_small) in
      let r = ok_rising c cs p.column_small up o.1 in
      (on (above_spot last c.row c.column l o.0.0) r.0, also p r.1)

module _ (h : Head) (z : Sized h) (s : List ℕ) (ts : List ThingRecord) where
  abbrev cells_read : ℕ → Read ℕ Refusal (List CellRecord)
  cells_read = to_end s (λ last. in_record s 32 (λ kind. cell h ts last)) (λ last c. c) (length s) start

  some_bytes : (c : CellRecord) → 0 < length (record_bytes 5 (cell_bytes c))
  some_bytes c = omega (arith, length_record 5 (cell_bytes c))

  pub cells_there : {b : ℕ} {cs : List CellRecord} → Between 0 cs b → EachCell (CellOk h ts) cs → (i : ℕ) → Stand s (each_bytes (λ c. record_bytes 5 (cell_bytes c)) cs) i (length s) →
      cells_read i ≡ got cs (length s)
  unfolding start
  cells_there {cs = cs} w p i r =
      let ok = rising_ok h ts start w p in
      end_there s (cell_record h z s ts) (λ last c. c) some_bytes (length s) start cs ok i r (omega (arith, r.next))

  pub cells_back : Bytes s → (i j : ℕ) (cs : List CellRecord) → i ≤ length s → cells_read i ≡ got cs j →
      Stand s (each_bytes (λ c. record_bytes 5 (cell_bytes c)) cs) i j × Between 0 cs top × EachCell (CellOk h ts) cs × (j ≡ length s)
  unfolding start
  cells_back g i j cs l e =
      let b = end_back s (cell_record h z s ts) (λ last c. c) some_bytes g (length s) start i j cs l (omega arith) e in
      let o = ok_rising h ts start cs (omega arith) (omega arith) b.1.0 in
      (b.0, o.0, o.1, b.1.1)
