-- Replies in a buffer: the first of them, what is behind it, and that a reply's bytes read as that reply. Whoever walks through such a buffer cites these,
-- and not how many bytes a reply takes.
-- Assumes nothing.
use Prim.Native.Nat.{ℕ, ◌+◌, ◌≤◌, ◌<◌}
use native.Mathlib.Nat.{add-zero}
use native.Mathlib.Omega.{arith}
use mathlib.Core.Path.{◌≡◌, refl}
use mathlib.Core.List.{List, [], ◌∷◌, ◌++◌}
use lib.ListN.{length, drop, get_or}
use lib.Seq.{get_or-drop}
use Rattle.model.specs.Answers.{reply_width, reply_bytes, replies_in}
use Rattle.model.specs.declared.Reply.{Reply}

-- the reply that stands at a position of a buffer
abbrev pub reply_at : ℕ → List ℕ → Reply
reply_at at l = record { number = get_or l at 0; test = get_or l (at + 1) 0; steps = get_or l (at + 2) 0 }

pub reply_dropped : (at : ℕ) (l : List ℕ) → reply_at 0 (drop at l) ≡ reply_at at l
reply_dropped at l = rw (get_or-drop at l 0 0, get_or-drop at l 1 0, get_or-drop at l 2 0, add-zero)

pub replies_first : (l : List ℕ) → reply_width ≤ length l → replies_in l ≡ reply_at 0 l ∷ drop 1 (replies_in l)
unfolding replies_in
replies_first [] h = absurd (omega arith)
replies_first (k ∷ []) h = absurd (omega arith)
replies_first (k ∷ p ∷ []) h = absurd (omega arith)
replies_first (k ∷ p ∷ n ∷ rest) h = refl

pub replies_few : (l : List ℕ) → length l < reply_width → replies_in l ≡ []
unfolding replies_in
replies_few [] h = refl
replies_few (k ∷ []) h = refl
replies_few (k ∷ p ∷ []) h = refl
replies_few (k ∷ p ∷ n ∷ rest) h = absurd (omega arith)

pub replies_behind : (l : List ℕ) → replies_in (drop reply_width l) ≡ drop 1 (replies_in l)
unfolding replies_in
replies_behind [] = refl
replies_behind (k ∷ []) = refl
replies_behind (k ∷ p ∷ []) = refl
replies_behind (k ∷ p ∷ n ∷ rest) = refl

pub replies_back : (r : Reply) (more : List ℕ) → replies_in (reply_bytes r ++ more) ≡ r ∷ replies_in more
unfolding replies_in reply_bytes
replies_back r more = refl
