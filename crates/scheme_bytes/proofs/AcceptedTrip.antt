-- A scheme is accepted exactly if some bytes read as it. What this adds to the round trips: an accepted scheme's bytes are bytes, below 256.
-- Assumes nothing.
use lib.Dec.{T}
use Rattle.model.specs.Scheme.{commands_of}
use Rattle.model.specs.Accepted.{accepted_scheme}
use Rattle.model.specs.declared.Scheme.{Scheme}
use Rattle.records.specs.Bytes.{record_bytes, each_bytes}
use Rattle.records.proofs.Trip.{Bytes}
use Rattle.records.proofs.Below.{below_bytes, below_append, below_record}
use Rattle.command_bytes.specs.Write.{head_bytes, command_bytes}
use Rattle.command_bytes.proofs.Trips.{head_fits, head_few}
use Rattle.command_bytes.proofs.CommandBelow.{below_each, head_below, command_below}
use Rattle.scheme_bytes.specs.Promises.{AcceptedIffRead}
use Rattle.scheme_bytes.specs.Write.{scheme_bytes}
use Rattle.scheme_bytes.proofs.RoundTrips.{accepted_parts, scheme_there, scheme_back}

pub scheme_below : (s : Scheme) → T (accepted_scheme s) → Bytes (scheme_bytes s)
unfolding scheme_bytes
scheme_below s t =
    let p = accepted_parts s t in
    below_bytes (scheme_bytes s)
    (below_append (record_bytes 1 (head_bytes s.head)) (each_bytes (λ c. record_bytes 2 (command_bytes c)) (commands_of s))
    (below_record 1 (head_bytes s.head) (head_below s.head (head_fits s.head p.head)))
    (below_each (λ c. record_bytes 2 (command_bytes c)) (λ u c. u)
    (λ (u : Unit {0}) c o. below_record 2 (command_bytes c) (command_below s.head (head_few s.head p.head) c o))
    tt (commands_of s) p.commands))

-- ---- accepted exactly if read
pub accepted_iff_read : AcceptedIffRead
accepted_iff_read = record {
  reads = λ s t. (scheme_below s t, scheme_there s t);
  accepts = λ s bytes next g e. (scheme_back bytes s next g e).0;
}
