-- Reading a scheme: a head and its commands, then the end. The records stand in `command_bytes`.
-- Assumes nothing.
use Rattle.std.specs.Prelude.{ℕ, cond, List, eqb, length}
use Rattle.model.specs.Arrays.{scheme_of}
use Rattle.model.specs.declared.Command.{Command}
use Rattle.model.specs.declared.Head.{Head}
use Rattle.model.specs.declared.Scheme.{Scheme}
use Rattle.records.specs.Reading.{got, fault, Reader, ◌>>=◌, ◌>>◌, done, steps}
use Rattle.records.specs.Front.{Refusal}
use Rattle.command_bytes.specs.Read.{head_at, command_at}

abbrev pub commands : List ℕ → Head → Reader ℕ Refusal (List Command)
commands s h = steps (λ (u : Unit {0}). command_at s h) (λ u c. u) h.count tt

-- bytes after the last command are 8, at the first of them
unfoldable pub at_end : List ℕ → Reader ℕ Refusal Unit
at_end s = λ at. cond (eqb at (length s)) (got tt at) (fault (record { number = 8; at = at }))

-- behind the head
unfoldable pub scheme_rest : List ℕ → Head → Reader ℕ Refusal Scheme
scheme_rest s h = do
  cs ← commands s h
  at_end s
  done (scheme_of h cs)

unfoldable pub scheme : List ℕ → Reader ℕ Refusal Scheme
scheme s = do
  h ← head_at s
  scheme_rest s h
