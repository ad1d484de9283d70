-- All seats are the first 48.
use Rattle.std.proofs.Common.{◌≡◌, take, rules}
use Rattle.std.proofs.Math.Seq.{take_all}
use Rattle.things.proofs.seat_of.Goals as goal

pub returns : goal.returns
returns c =
    let all : take 48 c.args.ids ≡ c.args.ids = take_all 48 c.args.ids (search rules) in
    cc
