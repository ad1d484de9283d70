-- `read::read_commands` meets its contract: after so many turns so many commands are read, and stand at the start of the places in use.
-- Assumes nothing.
use Prim.Native.Nat.{◌≤◌}
use native.Mathlib.Omega.{arith}
use native.Mathlib.Nat.{sub-zero, sub_self}
use mathlib.Core.List.{◌++◌, map-id, append-nil}
use mathlib.Core.Path.{◌≡◌, ap, ◌∙◌}
use lib.ListN.{replicate, length-set}
use Rattle.std.proofs.lemmas.List.{take-replicate, drop-replicate, length-take-le}
use Rattle.std.proofs.lemmas.Result.{err_from_is_err_and}
use Rattle.std.specs.Prelude.{Ok}
use Rattle.model.specs.Arrays.{no_command}
use Rattle.records.proofs.Loop.{looped_none, looped_on, looped_all, fill_next}
use Rattle.command_bytes.proofs.Trips.{head_fits}
use Rattle.scheme_bytes.proofs.ReadLaws.{command_there, command_refused}
use Rattle.scheme_bytes.proofs.read.read_commands.Goals as goal

pub slice_bounds-place-items-end : goal.slice_bounds-place-items-end
slice_bounds-place-items-end c = (head_fits _ c.requires.0).count.1

pub loop-place-init : goal.loop-place-init
loop-place-init c =
    let n : c.args.h.count ≤ 32 = (head_fits _ c.requires.0).count.1 in (
      looped_none,
      rw (c.requires.1, sub-zero) (take-replicate c.args.h.count 32 no_command n),
      rw c.requires.1 (length-take-le _ (replicate 32 no_command) n),
    )

pub returns-in_err-next : goal.returns-in_err-next
returns-in_err-next c =
    let p = err_from_is_err_and c.from_residual.result c.from_residual.ensures.1 in
    rw (p.1, p.2) (command_refused _ _ _ c.requires.0 c.loop-place.invariant.0 (omega arith) c.in_err-next.ensures)

pub loop-place-preserved : goal.loop-place-preserved
loop-place-preserved c =
    let (v, e, l) = c.loop-place.invariant in (
      looped_on v (omega arith) (command_there _ _ _ c.requires.0 c.in_ok-next.ensures),
      fill_next (λ x. x) no_command c.args.h.count v.items _ _ e v.count (omega arith),
      length-set _ _ _ ∙ l,
    )

pub returns : goal.returns
returns c =
    let (v, e, l) = c.loop-place.invariant in
    let d : c.loop-place.place-index ≡ c.args.h.count = omega arith in
    let behind = drop-replicate c.args.h.count 32 no_command in
    rw (looped_all v (omega arith), e, map-id, v.count, d, sub_self, append-nil, c.requires.1) (ap (λ x. Ok (v.items ++ x, c.loop-place.next)) behind)
