-- `lines::put_decimal` meets its contract: the digits before the last are those of a tenth. Assumes nothing.
use native.Mathlib.Omega.{arith}
use mathlib.Core.Path.{sym, ap, ◌∙◌}
use Rattle.lines.specs.Put.{put_text}
use Rattle.lines.proofs.PutLaws.{put_then}
use Rattle.lines.proofs.Decimals.{one_digit, more_digits}
use Rattle.lines.proofs.+put_decimal.Goals as goal

pub returns-then-n-lt10 : goal.returns-then-n-lt10
returns-then-n-lt10 t c = c.put_byte.ensures ∙ ap (put_text _ _) (sym (one_digit _ c.if-n-lt10.true))

pub returns : goal.returns
returns t c =
    c.put_byte-2.ensures ∙ put_then _ _ _ c.put_decimal-p.ensures (omega arith) _
    ∙ ap (put_text _ _) (sym (more_digits _ c.if-n-lt10.false (omega arith)))
