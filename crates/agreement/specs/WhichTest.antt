-- Which test stopped a request, said of the functions and of what robots link: with 14 the answer tells the place of the first of the command's tests, in
-- its own order, that doesn't hold; with every other number, a stranger's 27 too, it tells 255 (`TellsTest`, in crates/model). Assumes nothing.
use Rattle.model.specs.FirstTest.{TellsTest}
use Rattle.model.specs.Papers.{papers}
use Rattle.agreement.specs.EachReply.{EachReply}

abbrev pub WhichTest : Type 0
WhichTest = EachReply (TellsTest papers)
