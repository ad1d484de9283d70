-- What the replies tell that `run_list` and `slushferret_run` store. Assumes nothing.
use Rattle.std.specs.Prelude.{ℕ, zero, suc, cond, List, [], ◌∷◌, eqb, drop, get_or}
use Rattle.model.specs.Request.{Request, after, step}
use Rattle.model.specs.Answers.{reply_width}
use Rattle.model.specs.Papers.{State, papers}
use Rattle.model.specs.declared.Reply.{Reply}
use Rattle.model.specs.declared.Scheme.{Scheme}

-- to each request of a list there is a reply of which this holds, told of the papers' matrix as the requests before it left it
unfoldable pub ToEach : (State → Request → Reply → Type 0) → Scheme → State → List Request → List Reply → Type 0
ToEach P s m [] rs = Unit {0}
ToEach P s m (q ∷ qs) [] = ⊥
ToEach P s m (q ∷ qs) (r ∷ rs) = P m q r × ToEach P s (after m (step papers s m q)) qs rs

-- the requests that were carried out before the first refusal, told from the bytes: the number is a reply's first
unfoldable pub obeyed_by : List Request → List ℕ → List Request
obeyed_by [] replies = []
obeyed_by (q ∷ qs) replies = cond (eqb (get_or replies 0 0) 0) (q ∷ obeyed_by qs (drop reply_width replies)) []

-- all the bytes of a buffer but the steps of the first n replies, the third byte of each
unfoldable pub besides_steps : ℕ → List ℕ → List ℕ
besides_steps zero bytes = bytes
besides_steps (suc n) [] = []
besides_steps (suc n) (k ∷ []) = k ∷ []
besides_steps (suc n) (k ∷ p ∷ []) = k ∷ p ∷ []
besides_steps (suc n) (k ∷ p ∷ x ∷ rest) = k ∷ p ∷ besides_steps n rest
