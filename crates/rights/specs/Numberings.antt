-- A right's number, a type's number and a parameter's place are separate numberings, each a struct of its own. What is asked of such a number (its
-- range, whether it is another one, its byte) is asked here by name, so that it is unwrapped nowhere else but at a set's bit and at a table's index.
-- Assumes nothing.
use Rattle.std.specs.Prelude.{ℕ, Bool, eqb, ltb}
use Rattle.rights.specs.Sets.{partner}
use Rattle.rights.specs.declared.Right.{Right}
use Rattle.rights.specs.declared.ThingType.{ThingType}
use Rattle.rights.specs.declared.Parameter.{Parameter}

-- ---- the one of a number
abbrev pub right : ℕ → Right
right r = record { 0 = r }

abbrev pub type : ℕ → ThingType
type t = record { 0 = t }

abbrev pub parameter : ℕ → Parameter
parameter p = record { 0 = p }

-- ---- is it one of the first n?
abbrev pub right_below : Right → ℕ → Bool
right_below r n = ltb r.0 n

abbrev pub type_below : ThingType → ℕ → Bool
type_below t m = ltb t.0 m

abbrev pub parameter_below : Parameter → ℕ → Bool
parameter_below p k = ltb p.0 k

-- ---- are the two one?
abbrev pub same_type : ThingType → ThingType → Bool
same_type t u = eqb t.0 u.0

abbrev pub same_parameter : Parameter → Parameter → Bool
same_parameter p q = eqb p.0 q.0

-- ---- is it number 0, which also stands in unused places?
abbrev pub zero_right : Right → Bool
zero_right r = eqb r.0 0

abbrev pub zero_type : ThingType → Bool
zero_type t = eqb t.0 0

abbrev pub zero_parameter : Parameter → Bool
zero_parameter p = eqb p.0 0

-- ---- the byte that stands for it in a record
abbrev pub right_byte : Right → ℕ
right_byte r = r.0

abbrev pub type_byte : ThingType → ℕ
type_byte t = t.0

abbrev pub parameter_byte : Parameter → ℕ
parameter_byte p = p.0

-- ---- the right that stands for another one's absence, where there are n rights
abbrev pub partner_of : ℕ → Right → Right
partner_of n r = right (partner n r.0)
