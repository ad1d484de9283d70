-- No id is ever created twice, said of the functions and of what robots link: an id that was a thing's and is gone is never a thing's again, whatever
-- is asked, call after call. On paper it is said in crates/model (`NeverAgain`), with the ids that a run creates. Assumes nothing.
use Rattle.std.specs.Prelude.{ℕ, Bool, not, cond, List, [], ◌∷◌, ◌++◌, T, eqb}
use Rattle.model.specs.Seats.{Matrix, known}
use Rattle.model.specs.declared.Scheme.{Scheme}
use Rattle.engine.specs.List.{run_on}
use Rattle.robot.specs.Library.{run_bytes}
use Rattle.agreement.specs.Agreement.{left_in}
use Rattle.agreement.specs.LibraryAgrees.{matrix_after, Bytes, read_in}

-- ---- `run_list`, called again and again on one matrix, each time with a list and with a buffer for the replies
pub record Run : Type 0 where
  pub list : List ℕ
  pub replies : List ℕ

unfoldable pub after_runs : Scheme → Matrix → List Run → Matrix
after_runs s m [] = m
after_runs s m (r ∷ rs) = after_runs s (left_in (run_on s m r.list r.replies)) rs

-- ---- `slushferret_run`, called again and again: each time with a list, and with buffers for the answers and for the matrix. The caller keeps the image that
-- a call wrote, or the one that it had where the call gave a number other than 0.
pub record Call : Type 0 where
  pub list : List ℕ
  pub answers : List ℕ
  pub out : List ℕ

unfoldable pub kept_image : List ℕ → List ℕ → Call → List ℕ
kept_image scheme image c =
    let r = run_bytes scheme image c.list c.answers c.out in
    cond (eqb r.called.number 0) (matrix_after r) image

unfoldable pub image_after : List ℕ → List ℕ → List Call → List ℕ
image_after scheme image [] = image
image_after scheme image (c ∷ cs) = image_after scheme (kept_image scheme image c) cs

-- is x a thing's id in an image, as every call reads it? Where scheme or image can't be read, no id is
unfoldable pub has_thing : List ℕ → List ℕ → ℕ → Bool
has_thing scheme image x = known (read_in scheme image).things x

pub record NeverAgain : Type 0 where
  -- An id is a thing's, and after some runs it isn't any more. Then it never is after more of them: of any scheme and matrix handed in, a stranger's included.
  pub runs : (s : Scheme) (m : Matrix) (between later : List Run) (x : ℕ) → T (known m.things x) → T (not (known (after_runs s m between).things x)) →
      T (not (known (after_runs s m (between ++ later)).things x))
  -- The same of the images that a caller of the library keeps, whatever bytes it began with.
  pub calls : (scheme image : List ℕ) (between later : List Call) (x : ℕ) → Bytes scheme → Bytes image → T (has_thing scheme image x) →
      T (not (has_thing scheme (image_after scheme image between) x)) → T (not (has_thing scheme (image_after scheme image (between ++ later)) x))
