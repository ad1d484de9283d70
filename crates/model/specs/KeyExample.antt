-- The key example of the outline, and its starred results that speak of requests, results and cells, as one list of claims.
-- Assumes nothing.
use Rattle.std.specs.Prelude.{ℕ, Bool, true, false, ◌&&◌, List, [], ◌∷◌, eqb, set, replicate}
use Rattle.laws.specs.Check.{all, is_some}
use Rattle.model.specs.Request.{Request, View, run, answers}
use Rattle.model.specs.Answers.{reply_each, reply_bytes}
use Rattle.model.specs.Seats.{Matrix}
use Rattle.model.specs.Arrays.{test, operation, command_of, scheme_from}
use Rattle.model.specs.declared.Code.TheVariants.{Enter, Destroy}
use Rattle.model.specs.declared.Command.{Command}
use Rattle.model.specs.declared.Reply.{Reply}
use Rattle.model.specs.declared.Scheme.{Scheme}
use Rattle.model.specs.Scheme.{no_type}
use Rattle.rights.specs.Numberings.{type}

-- ---- rights: 0 own, 1 sign, 2 retired, 3 loaded; types: 0 manager, 1 key, 2 robot

-- retire(M manager, K key): if own in [M, K], enter retired in [K, K]
abbrev pub retire : Command
retire = command_of (type 0 ∷ type 1 ∷ []) (test true 0 0 1 ∷ []) (operation Enter 2 1 1 ∷ [])

-- load(K key, R robot): if sign in [K, R] and retired absent from [K, K], enter loaded in [K, R]
abbrev pub load : Command
load = command_of (type 1 ∷ type 2 ∷ []) (test true 1 0 1 ∷ test false 2 0 0 ∷ []) (operation Enter 3 0 1 ∷ [])

unfoldable pub key_scheme : Scheme
key_scheme = scheme_from 4 3 3 (retire ∷ load ∷ [])

-- things: 5 manager, 9 key, 12 robot, and there never was a higher id; cells: [5, 9] = 1, [9, 12] = 2
unfoldable pub key_matrix : Matrix
key_matrix = record {
  things = record { ids = 5 ∷ 9 ∷ 12 ∷ replicate 45 0; types = type 0 ∷ type 1 ∷ type 2 ∷ replicate 45 no_type; marks = replicate 48 false; highest = 12 };
  cells = set (set (replicate 2304 0) 1 1) 50 2;
}

-- a command that destroys two key parameters
unfoldable pub two_destroys : Scheme
two_destroys = scheme_from 4 3 3 (command_of (type 1 ∷ type 1 ∷ []) [] (operation Destroy 0 0 0 ∷ operation Destroy 0 1 0 ∷ []) ∷ [])

-- ---- a claim: these requests, from the key example's matrix, are answered so, and afterwards these cells hold so much and these things exist
pub record Cell : Type 0 where
  pub row : ℕ
  pub column : ℕ
  pub holds : ℕ

pub record Claim : Type 0 where
  pub of : Scheme
  pub requests : List Request
  pub replies : List Reply
  pub cells : List Cell
  pub things : List ℕ

abbrev pub ask : ℕ → List ℕ → Request
ask c ids = record { command = c; ids = ids }

-- a reply with this number, other than 14, and one with 14, of this test; both with so many steps
abbrev pub says : ℕ → ℕ → Reply
says k n = record { number = k; test = 255; steps = n }

abbrev pub stops_at : ℕ → ℕ → Reply
stops_at p n = record { number = 14; test = p; steps = n }

abbrev pub is : ℕ → ℕ → ℕ → Cell
is x y v = record { row = x; column = y; holds = v }

unfoldable pub same_numbers : List ℕ → List ℕ → Bool
same_numbers [] [] = true
same_numbers [] (y ∷ ys) = false
same_numbers (x ∷ xs) [] = false
same_numbers (x ∷ xs) (y ∷ ys) = eqb x y && same_numbers xs ys

-- replies are the same where their bytes are
unfoldable pub same_replies : List Reply → List Reply → Bool
same_replies [] [] = true
same_replies [] (y ∷ ys) = false
same_replies (x ∷ xs) [] = false
same_replies (x ∷ xs) (y ∷ ys) = same_numbers (reply_bytes x) (reply_bytes y) && same_replies xs ys

-- is the claim true, if matrices are of this form?
module _ {M : Type 0} (view : View M) where
  unfoldable pub cell_is : M → Cell → Bool
  cell_is m c = eqb (view.cell m c.row c.column) c.holds

  unfoldable pub is_true : M → Claim → Bool
  is_true m c =
      same_replies (reply_each c.of c.requests (answers view c.of m c.requests)) c.replies
      && all (cell_is (run view c.of m c.requests)) c.cells
      && all (λ x. is_some (view.thing (run view c.of m c.requests) x)) c.things

unfoldable pub starred : List Claim
starred =
    record { of = key_scheme; requests = ask 1 (9 ∷ 12 ∷ []) ∷ []; replies = says 0 3 ∷ []; cells = is 9 12 10 ∷ []; things = [] }
    ∷ record { of = key_scheme; requests = ask 1 (9 ∷ 12 ∷ []) ∷ ask 0 (5 ∷ 9 ∷ []) ∷ []; replies = says 0 3 ∷ says 0 2 ∷ []; cells = is 9 9 4 ∷ []; things = [] }
    ∷ record { of = key_scheme; requests = ask 1 (9 ∷ 12 ∷ []) ∷ ask 0 (5 ∷ 9 ∷ []) ∷ ask 1 (9 ∷ 12 ∷ []) ∷ []; replies = says 0 3 ∷ says 0 2 ∷ stops_at 1 2 ∷ []; cells = []; things = [] }
    ∷ record { of = key_scheme; requests = ask 0 (9 ∷ 9 ∷ []) ∷ ask 0 (5 ∷ 8 ∷ []) ∷ ask 0 (5 ∷ []) ∷ ask 2 [] ∷ []; replies = says 13 0 ∷ says 12 0 ∷ says 11 0 ∷ says 10 0 ∷ []; cells = is 5 9 1 ∷ is 9 12 2 ∷ []; things = [] }
    ∷ record { of = two_destroys; requests = ask 0 (9 ∷ 9 ∷ []) ∷ []; replies = says 17 2 ∷ []; cells = is 9 12 2 ∷ []; things = 9 ∷ [] }
    ∷ []
