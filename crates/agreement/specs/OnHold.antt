-- A thing on hold takes part in nothing, said of the functions and of what robots link; hold and then release of a thing that wasn't on hold gives back the
-- same bytes, and on bytes they do what is done on paper; and what mirrors still does when both sides get the same mark. On paper the first is said in crates/hold (`OnHold`). Assumes nothing.
use Rattle.std.specs.Prelude.{ℕ, ◌≤◌, Bool, false, ◌||◌, List, ◌≡◌, T, eqb, length}
use Rattle.std.proofs.Math.Option.{some}
use Rattle.laws.specs.Check.{between}
use Rattle.model.specs.Request.{Thing, Outcome, done, refused}
use Rattle.model.specs.Papers.{State}
use Rattle.model.specs.Seats.{Matrix, matrix_of, known, thing_at, cell, stands_for}
use Rattle.model.specs.declared.Head.{Head}
use Rattle.model.specs.declared.Reply.{Reply}
use Rattle.model.specs.declared.Scheme.{Scheme}
use Rattle.conversion.specs.Demand3.{Mirrors, Within}
use Rattle.engine.specs.Step.{request_on}
use Rattle.hold.specs.Marking.{mark_on_paper}
use Rattle.hold.specs.OnHold.{takes_part}
use Rattle.robot.specs.Library.{mark_bytes, hold_bytes, release_bytes}
use Rattle.agreement.specs.LibraryAgrees.{written_bytes, Bytes, read_in}
use Rattle.agreement.specs.NeverAgain.{Run, after_runs, Call, image_after}

-- X is a thing of a matrix in memory, and on hold
pub record HeldIn (m : Matrix) (x : ℕ) (t : Thing) : Type 0 where
  pub there : thing_at m.things x ≡ some t
  pub on_hold : T t.on_hold

-- in a later matrix X is what it was, with its type and its mark, and so is every cell between it and a thing of both
pub record Untouched (m later : Matrix) (x : ℕ) (t : Thing) : Type 0 where
  pub stays : thing_at later.things x ≡ some t
  pub row : (y : ℕ) → T (known m.things y) → T (known later.things y) → cell later x y ≡ cell m x y
  pub column : (y : ℕ) → T (known m.things y) → T (known later.things y) → cell later y x ≡ cell m y x

-- a request was refused before any test was looked at (10 to 13, 18; 27 for a stranger's scheme or matrix), and left the things and the cells as they were
pub record TookNoPart (m : Matrix) (reply : Reply) (left : Matrix) : Type 0 where
  pub number : T (between 10 13 reply.number || eqb reply.number 18 || eqb reply.number 27)
  pub no_steps : reply.steps ≡ 0
  pub same : left ≡ m

-- both were marked, and then mirror or lie within each other; or both were refused with one number
unfoldable pub Both : (State → State → Type 0) → Outcome State → Outcome State → Type 0
Both R (done m) (done n) = R m n
Both R (refused r) (refused q) = r ≡ q
Both R (done m) (refused q) = ⊥
Both R (refused r) (done n) = ⊥

pub record OnHold : Type 0 where
  -- `request`, which names it other than as new: of any scheme and matrix handed in, a stranger's included.
  pub request : (s : Scheme) (m : Matrix) (command : ℕ) (ids : List ℕ) (x : ℕ) (t : Thing) → HeldIn m x t →
      T (takes_part s (record { command = command; ids = ids }) x) →
      let r = request_on s m command ids in TookNoPart m r.0.answer (matrix_of r.0.things r.1)
  -- `run_list`, called again and again, whatever is asked.
  pub runs : (s : Scheme) (m : Matrix) (rs : List Run) (x : ℕ) (t : Thing) → HeldIn m x t → Untouched m (after_runs s m rs) x t
  -- The same of the images that a caller of `slushferret_run` keeps, whatever bytes it began with.
  pub calls : (scheme image : List ℕ) (cs : List Call) (x : ℕ) (t : Thing) → Bytes scheme → Bytes image → HeldIn (read_in scheme image) x t →
      Untouched (read_in scheme image) (read_in scheme (image_after scheme image cs)) x t
  -- `slushferret_hold` and `slushferret_release` do on bytes what is done on paper: what a call wrote stands for the papers' matrix with the mark.
  pub as_on_paper : (mark : Bool) (scheme image : List ℕ) (x : ℕ) (t : Thing) (out : List ℕ) → Bytes scheme → Bytes image →
      thing_at (read_in scheme image).things x ≡ some t → (mark_bytes mark scheme image x out).called.number ≡ 0 →
      mark_on_paper mark x (stands_for (read_in scheme image)) ≡ done (stands_for (read_in scheme (written_bytes (mark_bytes mark scheme image x out))))
  -- `slushferret_hold`, then `slushferret_release` on what it wrote: where the thing wasn't on hold, the bytes are those from before.
  pub back_again : (scheme image : List ℕ) (x : ℕ) (t : Thing) (out out' : List ℕ) → Bytes scheme → Bytes image →
      thing_at (read_in scheme image).things x ≡ some t → t.on_hold ≡ false → (hold_bytes scheme image x out).called.number ≡ 0 → length image ≤ length out' →
      let r = release_bytes scheme (written_bytes (hold_bytes scheme image x out)) x out' in (r.called.number ≡ 0) × (written_bytes r ≡ image)
  -- The office sets the same mark in its own matrix and in a robot's: what mirrored still does, and what lay within the other still does.
  pub mirrors : (h : Head) (office robot : State) (mark : Bool) (x : ℕ) → Mirrors h office robot → Both (Mirrors h) (mark_on_paper mark x office) (mark_on_paper mark x robot)
  pub within : (poorer richer : State) (mark : Bool) (x : ℕ) → Within poorer richer → Both Within (mark_on_paper mark x poorer) (mark_on_paper mark x richer)
