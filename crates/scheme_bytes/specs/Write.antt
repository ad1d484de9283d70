-- A scheme's bytes, and writing them: 27, then 9.
-- Assumes nothing.
use Rattle.std.specs.Prelude.{ℕ, cond, List, ◌++◌}
use Rattle.model.specs.Scheme.{commands_of}
use Rattle.model.specs.Accepted.{accepted_scheme}
use Rattle.model.specs.declared.Scheme.{Scheme}
use Rattle.records.specs.Bytes.{record_bytes, each_bytes}
use Rattle.records.specs.Writing.{write_bytes}
use Rattle.records.specs.Outcome.Writing.{Writing}
use Rattle.records.specs.Outcome.Writing.{Refused}
use Rattle.command_bytes.specs.Write.{head_bytes, command_bytes}

unfoldable pub scheme_bytes : Scheme → List ℕ
scheme_bytes s = record_bytes 1 (head_bytes s.head) ++ each_bytes (λ c. record_bytes 2 (command_bytes c)) (commands_of s)

unfoldable pub write_scheme : List ℕ → Scheme → Writing × List ℕ
write_scheme out s = cond (accepted_scheme s) (write_bytes out 0 (scheme_bytes s)) (Refused 27, out)
