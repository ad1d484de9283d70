-- Moving stored matrices, said of what robots link: of the calls `slushferret_forward` and `slushferret_back`, on bytes alone. Of images it is said in
-- crates/moving (`Moving`, `FunctionMoves`). Whatever the lent buffers hold. Assumes nothing.
use Rattle.std.specs.Prelude.{ℕ, ◌≤◌, ◌≡◌, ◌≢◌, List, length}
use Rattle.model.specs.Seats.{Matrix}
use Rattle.model.specs.declared.Scheme.{Scheme}
use Rattle.records.specs.Reading.{got}
use Rattle.moving.specs.Old.{highest_listed, old_matrix}
use Rattle.robot.specs.Library.{not_written, forward_bytes, back_bytes}
use Rattle.agreement.specs.LibraryAgrees.{written_bytes, Bytes, IsScheme, IsMatrix}

-- an old image of a scheme's bytes, and what is then the bytes of a matrix: of the one that the old image held, whose highest is the highest id that it lists
pub record SameMatrix (scheme old new : List ℕ) : Type 0 where
  pub s : Scheme
  pub m : Matrix
  pub is_scheme : IsScheme scheme s
  pub held : old_matrix s.head old 0 ≡ got m (length old)
  pub is_matrix : IsMatrix new s m
  pub highest : m.things.highest ≡ highest_listed m.things

pub record LibraryMoves : Type 0 where
  -- `slushferret_forward` gave 0: what it wrote are the bytes of the same things, marks and cells.
  pub reads : (scheme old out : List ℕ) → Bytes scheme → Bytes old → (forward_bytes scheme old out).called.number ≡ 0 →
      SameMatrix scheme old (written_bytes (forward_bytes scheme old out))
  -- `slushferret_back` on what it wrote, into a buffer with room: 0, and the first bytes again.
  pub there_and_back : (scheme old out out' : List ℕ) → Bytes scheme → Bytes old → (forward_bytes scheme old out).called.number ≡ 0 → length old ≤ length out' →
      let r = back_bytes scheme (written_bytes (forward_bytes scheme old out)) out' in (r.called.number ≡ 0) × (written_bytes r ≡ old)
  -- Where `slushferret_back` gave 0, `slushferret_forward` on what it wrote gives 0 and the same image. So a move back and forward is as if it hadn't been, and
  -- what is promised of the images that a caller keeps (`NeverAgain`, `OnHold`) isn't touched by it.
  pub back_and_there : (scheme new out out' : List ℕ) → Bytes scheme → Bytes new → (back_bytes scheme new out).called.number ≡ 0 → length new ≤ length out' →
      let r = forward_bytes scheme (written_bytes (back_bytes scheme new out)) out' in (r.called.number ≡ 0) × (written_bytes r ≡ new)
  -- 23 exactly where the highest would be lost, in the image that was handed in, at 0, whatever room there is;
  pub lost : (scheme new out : List ℕ) (s : Scheme) (m : Matrix) → IsScheme scheme s → IsMatrix new s m → m.things.highest ≢ highest_listed m.things →
      back_bytes scheme new out ≡ not_written out 23 2 0
  pub kept : (scheme new out : List ℕ) (s : Scheme) (m : Matrix) → IsScheme scheme s → IsMatrix new s m → m.things.highest ≡ highest_listed m.things →
      (back_bytes scheme new out).called.number ≢ 23
  -- and never on the way forward.
  pub only_back : (scheme old out : List ℕ) → (forward_bytes scheme old out).called.number ≢ 23
