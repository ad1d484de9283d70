-- What a matrix's records say: what the head states, a thing with its id, and a cell with its row's and its column's ids; and the things in memory, each
-- with its id.
-- Assumes nothing.
use Rattle.std.specs.Prelude.{ℕ, zero, suc, cond, List, [], ◌∷◌, eqb, take, get_or}
use Rattle.model.specs.Scheme.{no_type}
use Rattle.model.specs.Request.{Thing, of_type}
use Rattle.model.specs.Seats.{thing_in}
use Rattle.model.specs.declared.Things.{Things}

-- what a head states besides n: how many things follow, and the highest id that there ever was
pub record Stated : Type 0 where
  pub count : ℕ
  pub highest : ℕ

pub record ThingRecord : Type 0 where
  pub id : ℕ
  pub thing : Thing

pub record CellRecord : Type 0 where
  pub row : ℕ
  pub column : ℕ
  pub rights : ℕ

-- who sits at seat i; at a free seat, nobody
unfoldable pub record_in : Things → ℕ → ThingRecord
record_in th i = record { id = get_or th.ids i 0; thing = thing_in th i }

abbrev pub nobody : ThingRecord
nobody = record { id = 0; thing = of_type no_type }

-- who sits at k seats from seat i on; at all seats
unfoldable pub records_from : Things → ℕ → ℕ → List ThingRecord
records_from th i zero = []
records_from th i (suc k) = record_in th i ∷ records_from th (suc i) k

unfoldable pub seated : Things → List ThingRecord
seated th = records_from th 0 48

-- the things at the first n seats; at a free seat there is none
unfoldable pub taken : List ThingRecord → List ThingRecord
taken [] = []
taken (t ∷ ts) = cond (eqb t.id 0) (taken ts) (t ∷ taken ts)

unfoldable pub listed : ℕ → Things → List ThingRecord
listed n th = taken (take n (seated th))
