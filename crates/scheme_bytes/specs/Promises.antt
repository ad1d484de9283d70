-- What is promised of schemes as bytes; the proof stands in proofs/.
-- Assumes nothing.
use Rattle.std.specs.Prelude.{ℕ, ◌<◌, ◌≡◌, List, T, length, get_or}
use Rattle.model.specs.Accepted.{accepted_scheme}
use Rattle.model.specs.declared.Scheme.{Scheme}
use Rattle.records.specs.Reading.{got}
use Rattle.scheme_bytes.specs.Read.{scheme}
use Rattle.scheme_bytes.specs.Write.{scheme_bytes}

pub record RoundTrips : Type 0 where
  -- Writing then reading gives the same content: an accepted scheme's bytes read as it, to their end.
  pub there : (s : Scheme) → T (accepted_scheme s) → scheme (scheme_bytes s) 0 ≡ got s (length (scheme_bytes s))
  -- Reading then writing gives the same bytes: what reads as a scheme is its bytes, and the scheme is accepted.
  pub back : (bytes : List ℕ) (s : Scheme) (next : ℕ) → ((i : ℕ) → get_or bytes i 0 < 256) → scheme bytes 0 ≡ got s next →
      T (accepted_scheme s) × (bytes ≡ scheme_bytes s) × (next ≡ length bytes)

-- 27 for a scheme: accepted exactly if some bytes read as it.
pub record AcceptedIffRead : Type 0 where
  -- an accepted scheme's bytes are bytes, and read as it to their end
  pub reads : (s : Scheme) → T (accepted_scheme s) →
      ((i : ℕ) → get_or (scheme_bytes s) i 0 < 256) × (scheme (scheme_bytes s) 0 ≡ got s (length (scheme_bytes s)))
  -- what any bytes read as is accepted
  pub accepts : (s : Scheme) (bytes : List ℕ) (next : ℕ) → ((i : ℕ) → get_or bytes i 0 < 256) → scheme bytes 0 ≡ got s next → T (accepted_scheme s)
