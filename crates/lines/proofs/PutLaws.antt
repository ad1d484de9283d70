-- Texts put one behind the other are one text: each function's proof composes what its calls put. No bound on positions is carried; whoever needs the
-- position itself cites `exact`. Assumes nothing.
use Prim.Native.Nat.{ℕ, ◌+◌, ◌≤◌, min}
use native.Mathlib.Omega.{arith, min_cases}
use native.Mathlib.Nat.{zero-add, add-zero, min-eq_left}
use mathlib.Core.Path.{◌≡◌, refl, sym, ap, ◌∙◌}
use mathlib.Core.List.{List, [], ◌∷◌, ◌++◌}
use lib.ListN.{length, set, length-append}
use lib.Seq.{sets, length-sets}
use Rattle.records.proofs.BytesLaws.{sets_append, sets_out}
use Rattle.lines.specs.Put.{largest, put_text}

-- what is stored from the largest position on, or farther, is stored nowhere
far : (l : List ℕ) (q : ℕ) (vs : List ℕ) → length l ≤ largest → sets l (min q largest) vs ≡ sets l q vs
far l q vs h =
    min_cases q largest (sets l (min q largest) vs ≡ sets l q vs) (λ a e. rw e)
    (λ a e. sets_out l (min q largest) vs (omega arith) ∙ sym (sets_out l q vs (omega arith)))

pub exact : (out : List ℕ) (at : ℕ) (text : List ℕ) → at + length text ≤ largest → put_text out at text ≡ (at + length text, sets out at text)
unfolding put_text
exact out at text h = ap (λ (p : ℕ). (p, sets out at text)) (min-eq_left h)

pub from_start : (out text : List ℕ) → length text ≤ largest → put_text out 0 text ≡ (length text, sets out 0 text)
from_start out text h = exact out 0 text (omega arith) ∙ rw zero-add

pub put_none : (out : List ℕ) (at : ℕ) → at ≤ largest → put_text out at [] ≡ (at, out)
put_none out at h = exact out at [] (omega arith) ∙ rw add-zero

pub put_one : (out : List ℕ) (at v : ℕ) {p : ℕ} {new : List ℕ} → p ≡ min (at + 1) largest → new ≡ set out at v → (p, new) ≡ put_text out at (v ∷ [])
unfolding put_text
put_one out at v e f = rw (e, f)

module _ (out : List ℕ) (at : ℕ) (text : List ℕ) {p : ℕ} {mid : List ℕ} (a : ◌≡◌ {A = ℕ × List ℕ} (p, mid) (put_text out at text)) where
  position : p ≡ min (at + length text) largest
  unfolding put_text
  position = ap (λ (x : ℕ × List ℕ). x.0) a

  stored : mid ≡ sets out at text
  unfolding put_text
  stored = ap (λ (x : ℕ × List ℕ). x.1) a

  pub same_room : length mid ≡ length out
  same_room = ap length stored ∙ length-sets out at text

  pub put_then : length out ≤ largest → (more : List ℕ) → put_text mid p more ≡ put_text out at (text ++ more)
  unfolding put_text
  put_then room more =
      let n : min (p + length more) largest ≡ min (at + length (text ++ more)) largest = omega (arith, length-append text more, position) in
      let f = far (sets out at text) (at + length text) more (omega (arith, length-sets out at text)) in
      let s : sets mid p more ≡ sets out at (text ++ more) = rw (position, stored, sets_append) f in
      rw (n, s)

-- ---- a text that is put part by part: what is left of it

pub record Left (out : List ℕ) (at : ℕ) (text : List ℕ) (now : List ℕ) (p : ℕ) (rest : List ℕ) : Type 0 where
  pub room : length now ≡ length out
  pub near : p ≤ largest
  pub whole : put_text now p rest ≡ put_text out at text

pub left_all : (out : List ℕ) (at : ℕ) (text : List ℕ) → at ≤ largest → Left out at text out at text
left_all out at text h = record { room = refl; near = h; whole = refl }

module _ {out : List ℕ} {at : ℕ} {text now : List ℕ} {p : ℕ} {rest : List ℕ} (i : Left out at text now p rest) where
  pub left_on : length out ≤ largest → {q : ℕ} {new : List ℕ} (part more : List ℕ) → ◌≡◌ {A = ℕ × List ℕ} (q, new) (put_text now p part)
      → rest ≡ part ++ more → Left out at text new q more
  left_on h part more b e = record {
    room = same_room now p part b ∙ i.room;
    near = omega (arith, position now p part b);
    whole = put_then now p part b (omega (arith, i.room)) more ∙ ap (put_text now p) (sym e) ∙ i.whole;
  }

  pub left_last : {q : ℕ} {new : List ℕ} (part : List ℕ) → ◌≡◌ {A = ℕ × List ℕ} (q, new) (put_text now p part) → rest ≡ part
      → (q, new) ≡ put_text out at text
  left_last part b e = b ∙ ap (put_text now p) (sym e) ∙ i.whole

  pub left_none : rest ≡ [] → (p, now) ≡ put_text out at text
  left_none e = left_last [] (sym (put_none now p i.near)) e
