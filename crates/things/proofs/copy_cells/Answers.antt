-- As many as both have are stored, and no more have a place.
use Rattle.std.proofs.Common.{rules}
use Rattle.things.proofs.SeatLaws.{copied}
use Rattle.things.proofs.copy_cells.Goals as goal

pub returns : goal.returns
returns c = copied c.args.to.now c.args.from.now _ _ (search rules) c.copy_from_slice.ensures.after
