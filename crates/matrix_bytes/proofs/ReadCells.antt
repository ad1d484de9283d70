-- Reading the cells of a matrix, as the returns of those functions have them: each stands at its place when the next is read; and they replace the
-- lent ones, or nothing does. Assumes nothing.
use Prim.Native.Nat.{ℕ, zero, suc, ◌+◌, ◌-◌, ◌≤◌, ◌<◌}
use native.Mathlib.Omega.{arith}
use mathlib.Core.List.{List, [], ◌∷◌, ◌++◌, append-nil}
use mathlib.Core.Path.{◌≡◌, refl, ap, ◌∙◌}
use lib.Dec.{T}
use lib.ListN.{length, set, replicate}
use borrow.Author.Tests.{eq-eqb, ne_eqb}
use Rattle.std.specs.Prelude.{Result, Ok, Err}
use Rattle.model.specs.Accepted.{accepted_head}
use Rattle.model.specs.declared.Head.{Head}
use Rattle.model.specs.declared.Things.{Things}
use Rattle.laws.proofs.Differ.{constructors_differ}
use Rattle.records.specs.Reading.{Read, got, fault, Reader, bind, ◌>>=◌, done}
use Rattle.records.specs.Front.{Refusal, in_record}
use Rattle.records.specs.Results.{refused}
use Rattle.records.specs.declared.Refused as result
use Rattle.records.proofs.Loop.{prepend, prepend_none, prepend_one}
use Rattle.matrix_records.specs.Content.{CellRecord, listed}
use Rattle.matrix_records.specs.Read.{cell, above, start}
use Rattle.matrix_records.specs.Answers.{kind_at, last_of, place_in, found_cell, read_cell}
use Rattle.matrix_records.specs.declared.answers.FoundCell.{FoundCell}
use Rattle.matrix_records.proofs.ReadBack.{cell_opened, item_back, item_stopped, cell_after, cell_place_lem}
use Rattle.matrix_bytes.specs.Read.{to_end}
use Rattle.records.specs.Outcome.Reading.{Done, Refused}
use Rattle.matrix_bytes.specs.MatrixAnswer.{MatrixAnswer}
use Rattle.matrix_bytes.specs.Answers.{matrix_result}
use Rattle.matrix_bytes.specs.Inner.Parts.{cells_from, stored_in, CellsRead}

-- ---- the cells to the end of the input: what holds at position p, behind a cell at (over, by), with the cells that are stored by then
stored_on : (n : ℕ) (ids cells : List ℕ) (cs : List CellRecord) (c : CellRecord) →
    set (stored_in n ids cells cs) (place_in n ids c) c.rights ≡ stored_in n ids cells (cs ++ c ∷ [])
unfolding stored_in
stored_on n ids cells [] c = refl
stored_on n ids cells (d ∷ cs) c = stored_on n ids (set cells (place_in n ids d) d.rights) cs c

-- a turn's cell, its end behind it and in the input, and its place among the 2304
module _ (s : List ℕ) (h : Head) (th : Things) (n : ℕ) (last : CellRecord) (p : ℕ) (ok : T (accepted_head h)) {f : FoundCell × ℕ}
    (e : Ok f ≡ read_cell s p 32 h th n last) where
  cell_found : (c : CellRecord) × (in_record s 32 (λ kind. cell h (listed n th) last) p ≡ got c f.1) × (f.0 ≡ found_cell n th.ids (kind_at s p) c)
  cell_found = item_back (found_cell n th.ids (kind_at s p)) (in_record s 32 (λ kind. cell h (listed n th) last) p) (e ∙ cell_opened s p 32 h ok th n last)

  pub cell_ends : (p < f.1) × (f.1 ≤ length s)
  cell_ends = let (c, is, same) = cell_found in cell_after s 32 h th n last p is

  pub cell_near : length th.ids ≡ 48 → f.0.place < 2304
  cell_near room = let (c, is, same) = cell_found in rw same (cell_place_lem s 32 h th n last p is room)

module _ (s : List ℕ) (h : Head) (th : Things) (n at : ℕ) (cells₀ : List ℕ) where
  abbrev one_cell : CellRecord → Reader ℕ Refusal CellRecord
  one_cell last = in_record s 32 (λ kind. cell h (listed n th) last)

  abbrev cells_left : ℕ → CellRecord → Reader ℕ Refusal (List CellRecord)
  cells_left = to_end s one_cell (λ last c. c)

  abbrev cells_read : Read ℕ Refusal (List CellRecord)
  cells_read = cells_from s h th n at

  pub record SoFar (cells : List ℕ) (over by p : ℕ) : Type 0 where
    pub items : List CellRecord
    pub fuel : ℕ
    pub inside : p ≤ length s
    pub enough : length s ≤ p + fuel
    pub read : cells_read ≡ prepend items (cells_left fuel (last_of over by) p)
    pub stored : cells ≡ stored_in n th.ids cells₀ items

  pub far_none : at ≤ length s → SoFar cells₀ 0 0 at
  unfolding start stored_in
  far_none l = record { items = []; fuel = length s; inside = l; enough = omega arith; read = prepend_none cells_read; stored = refl }

  one_more : (fuel : ℕ) (last : CellRecord) (p : ℕ) → p < length s → length s ≤ p + fuel →
      cells_left fuel last p ≡ bind (one_cell last p) (λ c. cells_left (fuel - 1) c >>= λ cs. done (c ∷ cs))
  unfolding to_end
  one_more zero last p l m = absurd (omega arith)
  one_more (suc fuel) last p l m =
      let d : suc fuel - 1 ≡ fuel = omega arith in
      let z : p ≡ length s → ⊥ = λ z. omega arith in
      rw (d, ne_eqb p (length s) z)

  -- of the cell before, only its row and its column are looked at
  only_place : (fuel : ℕ) (c : CellRecord) (p : ℕ) → cells_left fuel c p ≡ cells_left fuel (last_of c.row c.column) p
  unfolding to_end in_record cell above
  only_place zero c p = refl
  only_place (suc fuel) c p = refl

  none_more : (fuel : ℕ) (last : CellRecord) (p : ℕ) → p ≡ length s → cells_left fuel last p ≡ got [] p
  unfolding to_end
  none_more zero last p e = refl
  none_more (suc fuel) last p e = rw (eq-eqb p (length s) e)

  module _ {cells : List ℕ} {over by p : ℕ} (v : SoFar cells over by p) where
    module _ (l : p < length s) where
      turned : cells_read ≡ prepend v.items (bind (one_cell (last_of over by) p) (λ c. cells_left (v.fuel - 1) c >>= λ cs. done (c ∷ cs)))
      turned = v.read ∙ ap (prepend v.items) (one_more v.fuel (last_of over by) p l v.enough)

      step : CellRecord → ℕ → Type 0
      step c q = SoFar (set cells (place_in n th.ids c) c.rights) c.row c.column q

      stepped : (c : CellRecord) (q : ℕ) → one_cell (last_of over by) p ≡ got c q → step c q
      unfolding step
      stepped c q e =
          let (up, in-s) = cell_after s 32 h th n (last_of over by) p e in
          record {
            items = v.items ++ c ∷ [];
            fuel = v.fuel - 1;
            inside = in-s;
            enough = omega (arith, v.enough);
            read = turned ∙ rw e (prepend_one v.items c (cells_left (v.fuel - 1) c q) ∙ ap (prepend (v.items ++ c ∷ [])) (only_place (v.fuel - 1) c q));
            stored = rw v.stored (stored_on n th.ids cells₀ v.items c);
          }

      pub far_on : T (accepted_head h) → {f : FoundCell × ℕ} → Ok f ≡ read_cell s p 32 h th n (last_of over by) → SoFar (set cells f.0.place f.0.rights) f.0.row f.0.column f.1
      unfolding step
      far_on ok {f} e = go (cell_found s h th n (last_of over by) p ok e)
        where
          go : (c : CellRecord) × (one_cell (last_of over by) p ≡ got c f.1) × (f.0 ≡ found_cell n th.ids (kind_at s p) c) →
              SoFar (set cells f.0.place f.0.rights) f.0.row f.0.column f.1
          go (c, is, same) = rw same (stepped c f.1 is)

      pub far_stop : T (accepted_head h) → {r : result.Refused} → Err r ≡ read_cell s p 32 h th n (last_of over by) → CellsRead n th.ids cells₀ (Err r) cells cells_read
      unfolding CellsRead
      far_stop ok {r} e = go (item_stopped (found_cell n th.ids (kind_at s p)) (one_cell (last_of over by) p) (e ∙ cell_opened s p 32 h ok th n (last_of over by)))
        where
          go : (g : Refusal) × (one_cell (last_of over by) p ≡ fault g) × (r ≡ refused g.number g.at) → CellsRead n th.ids cells₀ (Err r) cells cells_read
          go (g, is, same) = rw (turned, is, same) refl

    pub far_all : length s ≤ p → CellsRead n th.ids cells₀ (Ok p) cells cells_read
    unfolding CellsRead
    far_all l = rw (v.read, none_more v.fuel (last_of over by) p (omega (arith, v.inside)), append-nil) (refl, v.stored)

-- ---- both put in the lent ones, or not
abbrev pub refused_at : Things → ℕ → ℕ → MatrixAnswer
refused_at things k at = record { answer = Refused k at; things = things }

unfoldable pub finished : ℕ → Things → Things → List ℕ → Read ℕ Refusal (List CellRecord) → MatrixAnswer × List ℕ
finished n th things cells (got cs next) = (record { answer = Done next; things = th }, stored_in n th.ids (replicate 2304 0) cs)
finished n th things cells (fault f) = (refused_at things f.number f.at, cells)

module _ (n : ℕ) (th things : Things) (cells new : List ℕ) where
  pub finish_refused : {r : result.Refused} (read : Read ℕ Refusal (List CellRecord)) → CellsRead n th.ids (replicate 2304 0) (Err r) new read →
      ◌≡◌ {A = Result ℕ result.Refused × Things × List ℕ} (Err r, things, cells) (matrix_result (finished n th things cells read))
  unfolding CellsRead finished
  finish_refused (got cs j) c = let f = c.0 in constructors_differ (cc)
  finish_refused (fault f) c = rw c

  pub finish_done : {next : ℕ} (read : Read ℕ Refusal (List CellRecord)) → CellsRead n th.ids (replicate 2304 0) (Ok next) new read →
      ◌≡◌ {A = Result ℕ result.Refused × Things × List ℕ} (Ok next, th, new) (matrix_result (finished n th things cells read))
  unfolding CellsRead finished
  finish_done (got cs j) c = rw (c.0, c.1)
  finish_done (fault f) c = constructors_differ (cc)
