-- A robot with entries missing can only be stricter, of `request` and of `run_list`: memory's answers are the papers', of which `Incomplete` of
-- crates/incomplete speaks; and what was carried out before the first refusal is told by the stored replies. Assumes nothing.
use Prim.Native.Nat.{ℕ, ◌*◌, ◌≤◌}
use native.Mathlib.Omega.{arith}
use mathlib.Core.Path.{◌≡◌, refl, sym, ap, ◌∙◌}
use mathlib.Core.List.{List, [], ◌∷◌, ◌++◌, append-nil}
use lib.Dec.{T, leb, leb→le, le→leb}
use lib.ListN.{length, take, drop, length-append, take-append-drop}
use lib.Seq.{take-length}
use Rattle.laws.specs.Check.{between, Each}
use Rattle.laws.proofs.Bools.{is_true, and_left}
use Rattle.model.specs.Request.{Request, Outcome, done, refused, answer, number, after, step}
use Rattle.model.specs.Answers.{reply_of, reply_to, reply_width}
use Rattle.model.specs.Papers.{State}
use Rattle.model.specs.Promises.{paper_outcome, tells_request}
use Rattle.model.specs.Seats.{Matrix, matrix_of, seats, stands_for}
use Rattle.model.specs.Accepted.{accepted_scheme, accepted_matrix}
use Rattle.model.specs.declared.Scheme.{Scheme}
use Rattle.model.proofs.Joined.{joined, kept}
use Rattle.model.proofs.Numbers.{request_numbers}
use Rattle.conversion.specs.Demand3.{Within, Follows, obeyed}
use Rattle.incomplete.specs.Incomplete.{Ahead, UpToRefusal}
use Rattle.incomplete.proofs.Incomplete.{incomplete}
use Rattle.request_list.specs.List.{list_bytes}
use Rattle.request_list.specs.Write.{Writable}
use Rattle.request_list.proofs.ListTrips.{list_trips}
use Rattle.engine.specs.Step.{request_on}
use Rattle.engine.specs.List.{run_on}
use Rattle.agreement.specs.Replies.{obeyed_by}
use Rattle.agreement.specs.Agreement.{left_in, left_by}
use Rattle.agreement.specs.LibraryAgrees.{Bytes}
use Rattle.agreement.specs.Incomplete.{Poorer, BothDo, ListAhead}
use Rattle.agreement.proofs.Obeyed.{each_first, done_first}
use Rattle.agreement.proofs.Runs.{asked, first_replies, left_kept, left_whole, obeys, carried_out, left_after}

-- ---- one request

-- what the poorer carried out, the richer carried out
both_done : (poorer richer : Matrix) (o o' : Outcome Matrix) → T (tells_request (answer o)) → Follows (paper_outcome o) (paper_outcome o') →
    number (answer o) ≡ 0 → (answer o' ≡ answer o) × Within (stands_for (after poorer o)) (stands_for (after richer o'))
unfolding answer number after paper_outcome tells_request between
both_done poorer richer (done p) (done r) t f e = (refl, f)
both_done poorer richer (done p) (refused k) t f e = absurd f
both_done poorer richer (refused k) o' t f e =
    let h : 10 ≤ k.number = leb→le 10 k.number (and_left (leb 10 k.number) _ t) in absurd (omega (arith, e))

module _ (s : Scheme) (poorer richer : Matrix) (h : Poorer s poorer richer) where
  abbrev a : State
  a = stands_for poorer

  abbrev b : State
  b = stands_for richer

  of_poorer : T (accepted_matrix s.head poorer)
  of_poorer = h.accepted.0

  of_richer : T (accepted_matrix s.head richer)
  of_richer = h.accepted.1

  pub request : (command : ℕ) (ids : List ℕ) →
      let p = request_on s poorer command ids in
      let r = request_on s richer command ids in
      p.0.answer.number ≡ 0 → (r.0.answer ≡ p.0.answer) × Poorer s (matrix_of p.0.things p.1) (matrix_of r.0.things r.1)
  unfolding request_on reply_to reply_of
  request command ids =
      rw (is_true (accepted_scheme s) h.scheme, is_true (accepted_matrix s.head poorer) of_poorer, is_true (accepted_matrix s.head richer) of_richer)
      (λ e.
      let q : Request = record { command = command; ids = ids } in
      let (same, within) = both_done poorer richer (step seats s poorer q) (step seats s richer q) (request_numbers Matrix seats s poorer q)
      (rw (joined s poorer q h.scheme of_poorer, joined s richer q h.scheme of_richer) (incomplete.follows s a b q h.presence h.within)) e in (
        ap (reply_to s q) same,
        record {
          scheme = h.scheme;
          presence = h.presence;
          accepted = (kept s poorer q h.scheme of_poorer, kept s richer q h.scheme of_richer);
          within = within;
        },
      ))

  -- ---- a list
  module _ (bytes out : List ℕ) (small : Bytes bytes) (fits : reply_width * length (asked bytes) ≤ length out) where
    -- what the poorer carries out before its first refusal
    abbrev ps : List Request
    ps = obeyed s a (asked bytes)

    up : UpToRefusal s a (asked bytes) ps
    up = incomplete.up_to_refusal s a (asked bytes)

    on_paper : Ahead s a b ps
    on_paper = incomplete.ahead s a b (asked bytes) h.presence h.within

    pub writable : Each Writable ps
    writable = each_first Writable ps up.rest (rw up.parts (list_trips.writable bytes small))

    same_replies_lem : (out' : List ℕ) → reply_width * length (asked bytes) ≤ length out' →
        take (reply_width * length ps) (run_on s richer bytes out').replies ≡ take (reply_width * length ps) (run_on s poorer bytes out).replies
    same_replies_lem out' fits' =
        first_replies s richer h.scheme of_richer bytes out' (le→leb _ _ fits') ps up.rest up.parts on_paper.carries_out
        ∙ sym (first_replies s poorer h.scheme of_poorer bytes out (le→leb _ _ fits) ps up.rest up.parts up.carried_out)

    -- two runs that left on paper what lies within each other
    still : (list list' out₁ out₂ : List ℕ) → Within (left_by (run_on s poorer list out₁)) (left_by (run_on s richer list' out₂)) →
        Poorer s (left_in (run_on s poorer list out₁)) (left_in (run_on s richer list' out₂))
    unfolding left_by
    still list list' out₁ out₂ w = record {
      scheme = h.scheme;
      presence = h.presence;
      accepted = (left_kept s poorer h.scheme of_poorer list out₁, left_kept s richer h.scheme of_richer list' out₂);
      within = w;
    }

    after_each_lem : (k : ℕ) (out₁ out₂ : List ℕ) → reply_width * length (take k ps) ≤ length out₁ → reply_width * length (take k ps) ≤ length out₂ →
        BothDo s (take k ps) (run_on s poorer (list_bytes (take k ps)) out₁) (run_on s richer (list_bytes (take k ps)) out₂)
    after_each_lem k out₁ out₂ fits₁ fits₂ =
        let parts : take k ps ++ drop k ps ≡ ps = take-append-drop k ps in
        let now : Each Writable (take k ps) = each_first Writable (take k ps) (drop k ps) (rw parts writable) in
        record {
          poorer_did = carried_out s poorer h.scheme of_poorer (take k ps) now out₁ fits₁ (done_first s a (take k ps) (drop k ps) (rw parts up.carried_out));
          richer_does =
              carried_out s richer h.scheme of_richer (take k ps) now out₂ fits₂ (done_first s b (take k ps) (drop k ps) (rw parts on_paper.carries_out));
          left = still (list_bytes (take k ps)) (list_bytes (take k ps)) out₁ out₂
              (rw (left_after s poorer h.scheme of_poorer (take k ps) now out₁ fits₁, left_after s richer h.scheme of_richer (take k ps) now out₂ fits₂)
              (on_paper.stays_within k));
        }

    -- where nothing was refused
    whole : (rest : List Request) → ps ++ rest ≡ asked bytes → length ps ≡ length (asked bytes) → ps ≡ asked bytes
    whole [] parts long = sym (append-nil ps) ∙ parts
    whole (q ∷ rest) parts long = absurd (omega (arith, length-append ps (q ∷ rest), ap length parts, long))

    left : (out' : List ℕ) → reply_width * length (asked bytes) ≤ length out' → length ps ≡ length (asked bytes) →
        Poorer s (left_in (run_on s poorer bytes out)) (left_in (run_on s richer bytes out'))
    left out' fits' long =
        still bytes bytes out out'
        (rw (left_whole s poorer h.scheme of_poorer bytes out (le→leb _ _ fits), left_whole s richer h.scheme of_richer bytes out' (le→leb _ _ fits'))
        (rw (take-length ps, whole up.rest up.parts long) at (on_paper.stays_within (length ps))))

    pub list : ListAhead s poorer richer bytes out (obeyed_by (asked bytes) (run_on s poorer bytes out).replies)
    list =
        rw (obeys s poorer h.scheme of_poorer bytes out (le→leb _ _ fits))
        (record { same_replies = same_replies_lem; after_each = after_each_lem; left = left })
