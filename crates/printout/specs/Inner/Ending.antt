-- The lines of a list of requests, and what a reading that stopped puts. Assumes nothing.
use Rattle.std.specs.Prelude.{ℕ, List, [], ◌∷◌, ◌++◌, Result, Ok, Err}
use Rattle.faults.specs.Numbers.{number_of}
use Rattle.lines.specs.Put.{put_text}
use Rattle.model.specs.declared.Reply.{Reply}
use Rattle.records.specs.declared.Refused.{Refused}
use Rattle.printout.specs.Text.{bad_line, request_line, request_lines, ending_line}
use Rattle.printout.specs.declared.text.Columns.{Columns}
use Rattle.request_list.specs.List.{Listed}

-- the line of request k, by the replies from its own on
abbrev pub answer_line : Columns → ℕ → ℕ → List Reply → List ℕ
answer_line columns k command [] = []
answer_line columns k command (r ∷ rs) = request_line columns k command r

abbrev pub list_text : Columns → ℕ → Listed → List Reply → List ℕ
list_text columns k l rs = request_lines columns k l.requests rs ++ ending_line l.ending

-- what is put, where a refusal's line is put in place of what was refused
abbrev pub with_bad : Result ℕ Refused × List ℕ → ℕ × List ℕ
with_bad (Ok end, out) = (end, out)
with_bad (Err refused, out) = put_text out 0 (bad_line refused.at (number_of refused.fault))
