-- A robot with entries missing can only be stricter: the promise `Incomplete`. Of `request` and `run_list` it stands in `ListsAhead`; a call of the library is
-- a run of what its bytes are (`LibraryRuns`), and what two calls wrote reads as what the two runs left. Assumes nothing.
use Prim.Native.Nat.{ℕ, ◌*◌, ◌≤◌}
use mathlib.Core.Path.{◌≡◌, sym, ap, ◌∙◌, subst₂}
use mathlib.Core.List.{List}
use lib.Dec.{T}
use lib.ListN.{length, take}
use Rattle.model.specs.Request.{Request}
use Rattle.model.specs.Answers.{reply_width}
use Rattle.model.specs.Arrays.{no_scheme}
use Rattle.model.specs.Seats.{Matrix, stands_for}
use Rattle.model.specs.declared.Scheme.{Scheme}
use Rattle.conversion.specs.Conversion.{tests_presence}
use Rattle.conversion.specs.Demand3.{Within}
use Rattle.scheme_bytes.specs.Answers.{read_scheme, SchemeAnswer}
use Rattle.request_list.specs.List.{list_bytes}
use Rattle.engine.specs.List.{Result, run_on}
use Rattle.robot.specs.Library.{Ran, run_bytes}
use Rattle.agreement.specs.Replies.{obeyed_by}
use Rattle.agreement.specs.Agreement.{left_in, left_by}
use Rattle.agreement.specs.LibraryAgrees.{matrix_after, Bytes, HasRoom, read_in, AllCarriedOut}
use Rattle.agreement.specs.Incomplete.{Poorer, BothDo, ListAhead, ImageWithin, CallsAhead, Incomplete}
use Rattle.agreement.proofs.Runs.{asked}
use Rattle.agreement.proofs.ListsAhead.{request, list}
use Rattle.agreement.proofs.LibraryRuns.{AsRun, Held, matrix_held, call_runs, had_room, call_held, all_done}
use Rattle.agreement.proofs.Later.{read_as}

-- ---- what two calls wrote, whose runs left such matrices
pub record WroteWithin (scheme : List ℕ) (s : Scheme) (poor rich : Ran) : Type 0 where
  pub poorer : Matrix
  pub richer : Matrix
  pub is_poorer : Held scheme (matrix_after poor) s poorer
  pub is_richer : Held scheme (matrix_after rich) s richer
  pub within : Within (stands_for poorer) (stands_for richer)

-- just these requests were run by both, and carried out
pub record CallsDo (scheme : List ℕ) (s : Scheme) (qs : List Request) (poor rich : Ran) : Type 0 where
  pub poorer_did : AllCarriedOut s qs poor
  pub richer_does : AllCarriedOut s qs rich
  pub wrote : WroteWithin scheme s poor rich

image_within : {scheme : List ℕ} {s : Scheme} {poor rich : Ran} → WroteWithin scheme s poor rich → ImageWithin scheme (matrix_after poor) (matrix_after rich)
image_within w = rw (read_as w.is_poorer, read_as w.is_richer) w.within

-- ---- of what the bytes are
module _ {scheme poor rich : List ℕ} {s : Scheme} {p r : Matrix} (hp : Held scheme poor s p) (hr : Held scheme rich s r) (presence : T (tests_presence s))
    (w : Within (stands_for p) (stands_for r)) where
  pair : Poorer s p r
  pair = record { scheme = hp.ok; presence = presence; accepted = (hp.of, hr.of); within = w }

  wrote_within : {on_poor on_rich : Ran} {a b : Result} → AsRun s on_poor a → AsRun s on_rich b → on_poor.called.number ≡ 0 → on_rich.called.number ≡ 0 →
      Poorer s (left_in a) (left_in b) → WroteWithin scheme s on_poor on_rich
  unfolding left_by
  wrote_within {on_poor} {on_rich} a b e e' left =
      let (end, is, stands) = a.left e in
      let (end', is', stands') = b.left e' in
      record {
        poorer = end;
        richer = end';
        is_poorer = record { ok = hp.ok; of = matrix_held (matrix_after on_poor) (a.small e) s hp.ok end is; is_scheme = hp.is_scheme; is_matrix = is };
        is_richer = record { ok = hp.ok; of = matrix_held (matrix_after on_rich) (b.small e') s hp.ok end' is'; is_scheme = hp.is_scheme; is_matrix = is' };
        within = rw (stands, stands') left.within;
      }

  -- a list on the poorer, by a call that gave 0
  module _ (requests answers out : List ℕ) (low : Bytes requests) (e : (run_bytes scheme poor requests answers out).called.number ≡ 0) where
    abbrev ps : List Request
    ps = obeyed_by (asked requests) (run_bytes scheme poor requests answers out).answers

    pub ahead : ListAhead s p r requests answers ps
    ahead = let (fits, first) = had_room hp requests answers out e in rw first.answers (list s p r pair requests answers low fits)

    -- just the first k of what it carried out
    module _ (k : ℕ) (answers₁ answers₂ out₁ out₂ : List ℕ) (fits₁ : reply_width * length (take k ps) ≤ length answers₁)
        (fits₂ : reply_width * length (take k ps) ≤ length answers₂) (room₁ : HasRoom out₁) (room₂ : HasRoom out₂) where
      on_poor : AsRun s (run_bytes scheme poor (list_bytes (take k ps)) answers₁ out₁) (run_on s p (list_bytes (take k ps)) answers₁)
      on_poor = call_runs hp (list_bytes (take k ps)) answers₁ out₁ room₁

      on_rich : AsRun s (run_bytes scheme rich (list_bytes (take k ps)) answers₂ out₂) (run_on s r (list_bytes (take k ps)) answers₂)
      on_rich = call_runs hr (list_bytes (take k ps)) answers₂ out₂ room₂

      both : BothDo s (take k ps) (run_on s p (list_bytes (take k ps)) answers₁) (run_on s r (list_bytes (take k ps)) answers₂)
      both = ahead.after_each k answers₁ answers₂ fits₁ fits₂

      pub calls_do : CallsDo scheme s (take k ps) (run_bytes scheme poor (list_bytes (take k ps)) answers₁ out₁) (run_bytes scheme rich (list_bytes (take k ps)) answers₂ out₂)
      calls_do =
          let did = all_done on_poor both.poorer_did in
          let does = all_done on_rich both.richer_does in
          record { poorer_did = did; richer_does = does; wrote = wrote_within on_poor on_rich did.called does.called both.left }

-- ---- of the bytes themselves
module _ (scheme : List ℕ) (small : Bytes scheme) where
  abbrev read : Scheme
  read = (read_scheme scheme no_scheme).scheme

  -- a call that gave 0 has read them
  held : (image requests answers out : List ℕ) → Bytes image → (run_bytes scheme image requests answers out).called.number ≡ 0 →
      Held scheme image read (read_in scheme image)
  held image requests answers out small' e =
      let (s, m, h) = call_held scheme image requests answers out small small' e in
      subst₂ (λ (x : Scheme) (y : Matrix). Held scheme image x y) (sym (ap (λ (a : SchemeAnswer). a.scheme) h.is_scheme)) (sym (read_as h)) h

  module _ (poor rich requests answers answers' out out' : List ℕ) (small_poor : Bytes poor) (small_rich : Bytes rich) (low : Bytes requests)
      (presence : T (tests_presence read)) (w : ImageWithin scheme poor rich) (e : (run_bytes scheme poor requests answers out).called.number ≡ 0)
      (e' : (run_bytes scheme rich requests answers' out').called.number ≡ 0) where
    hp : Held scheme poor read (read_in scheme poor)
    hp = held poor requests answers out small_poor e

    hr : Held scheme rich read (read_in scheme rich)
    hr = held rich requests answers' out' small_rich e'

    calls : CallsAhead scheme poor rich requests (run_bytes scheme poor requests answers out) (run_bytes scheme rich requests answers' out')
        (obeyed_by (asked requests) (run_bytes scheme poor requests answers out).answers)
    calls =
        let first = (had_room hp requests answers out e).1 in
        let (fits, second) = had_room hr requests answers' out' e' in
        let a = ahead hp hr presence w requests answers out low e in
        let front : ℕ = reply_width * length (obeyed_by (asked requests) (run_bytes scheme poor requests answers out).answers) in
        record {
          same_answers = rw second.answers (a.same_replies answers' fits ∙ ap (take front) (sym first.answers));
          after_each = λ k answers₁ answers₂ out₁ out₂ fits₁ fits₂ room₁ room₂.
              let both = calls_do hp hr presence w requests answers out low e k answers₁ answers₂ out₁ out₂ fits₁ fits₂ room₁ room₂ in
              record { poorer_did = both.poorer_did; richer_does = both.richer_does; left = image_within both.wrote };
          left = λ long. image_within (wrote_within hp hr presence w first second e e' (a.left answers' fits long));
        }

pub incomplete : Incomplete
incomplete = record {
  request = λ s poorer richer command ids pair. request s poorer richer pair command ids;
  list = λ s poorer richer bytes out pair. list s poorer richer pair bytes out;
  calls = λ scheme poor rich requests answers answers' out out' small. calls scheme small poor rich requests answers answers' out out';
}
