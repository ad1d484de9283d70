-- A set of rights is a number: right r is in it exactly if its binary digit r is 1. Rights are numbered from 0 to 63.
-- A set of types is written the same way. Assumes nothing.
use Rattle.std.specs.Prelude.{ℕ, zero, suc, ◌+◌, ◌-◌, ◌/◌, ◌%◌, ◌^◌, min, Bool, cond, eqb, ltb}

-- is r in the set?
unfoldable pub has : ℕ → ℕ → Bool
has set r = eqb (set / 2 ^ r % 2) 1

-- the set of r alone; a number from 64 on is no right's, and gives the empty set
unfoldable pub single : ℕ → ℕ
single r = cond (ltb r 64) (2 ^ r) 0

-- enter adds to a set, delete removes from it; neither minds if there is nothing to do
unfoldable pub enter_right : ℕ → ℕ → ℕ
enter_right r set = cond (has set r) set (set + single r)

unfoldable pub delete_right : ℕ → ℕ → ℕ
delete_right r set = cond (has set r) (set - single r) set

-- the set of all n rights, and the rights among them that a set lacks
unfoldable pub all_rights : ℕ → ℕ
all_rights n = 2 ^ min n 64 - 1

unfoldable pub complement : ℕ → ℕ → ℕ
complement n set = all_rights n - set % 2 ^ min n 64

-- how many of the first k rights the set holds, and how many it holds in all
unfoldable pub count_to : ℕ → ℕ → ℕ
count_to zero set = 0
count_to (suc k) set = count_to k set + cond (has set k) 1 0

unfoldable pub count_rights : ℕ → ℕ
count_rights set = count_to 64 set

-- nothing of number m or above is in the set
unfoldable pub within : ℕ → ℕ → Bool
within m set = ltb set (2 ^ m)

-- the partner of right r, which stands for its absence, where there are n rights; 255, which is no right's number, where r + n is no byte
unfoldable pub partner : ℕ → ℕ → ℕ
partner n r = min (r + n) 255

-- a set that has gained the partner of each of the first k rights that it lacks; of all n, it is the converted set. `AtOnce` of Promises has it in
-- one number
unfoldable pub gained : ℕ → ℕ → ℕ → ℕ
gained n zero set = set
gained n (suc k) set = cond (has set k) (gained n k set) (enter_right (k + n) (gained n k set))

unfoldable pub converted : ℕ → ℕ → ℕ
converted n set = gained n n set
