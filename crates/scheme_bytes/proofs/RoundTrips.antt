-- The round trips of a scheme: those of its parts, one record behind the other, and then the end.
-- Assumes nothing.
use Prim.Native.Nat.{ℕ}
use native.Mathlib.Omega.{arith}
use native.Mathlib.Nat.{zero-add}
use mathlib.Core.Path.{◌≡◌, refl, sym, ◌∙◌}
use mathlib.Core.Bool.{Bool, true, false, cond}
use mathlib.Core.List.{List, [], ◌∷◌, append-nil}
use lib.Dec.{T, eqb, eqb→eq, eqb_refl}
use lib.ListN.{length}
use lib.Seq.{take_at, drop-length}
use Rattle.laws.specs.Check.{passes, all, padded}
use Rattle.model.specs.Scheme.{commands_of}
use Rattle.model.specs.Accepted.{head_fault, zero_command, accepted_command, accepted_scheme}
use Rattle.model.specs.declared.Scheme.{Scheme}
use Rattle.laws.proofs.Bools.{is_true, and_left, and_right, and_both}
use Rattle.records.specs.Bytes.{little_endian}
use Rattle.records.specs.Reading.{Read, got, fault, Reader, bind, done, ◌>>=◌, ◌>>◌}
use Rattle.records.specs.Front.{Refusal}
use Rattle.records.proofs.Trip.{Bytes, Stand, Trip, input, OkAll, got_value, got_left, never, bind_got, trip_as, trip_then, trip_last, trip_steps}
use Rattle.records.proofs.TripRecord.{trip_kind}
use Rattle.command_bytes.specs.Read.{head_at}
use Rattle.command_bytes.specs.Write.{head_bytes}
use Rattle.command_bytes.proofs.Trips.{head_fits, head_few, head_trip}
use Rattle.command_bytes.proofs.Padded.{no_command_lem}
use Rattle.command_bytes.proofs.CommandTrip.{command_trip, command_size}
use Rattle.scheme_bytes.specs.Read.{commands, at_end, scheme_rest, scheme}
use Rattle.scheme_bytes.specs.Write.{scheme_bytes}
use Rattle.scheme_bytes.specs.Promises.{RoundTrips}
use Rattle.model.specs.Arrays.{scheme_of}
use Rattle.laws.proofs.Padded.{pad, unpad}

module _ {A : Type 0} (f : A → Bool) where
  pub each_all : (xs : List A) → OkAll (λ (u : Unit {0}) a. u) (λ u a. T (f a)) tt xs → T (all f xs)
  unfolding all
  each_all [] o = tt
  each_all (x ∷ xs) o = and_both (f x) _ o.0 (each_all xs o.1)

  pub all_each : (xs : List A) → T (all f xs) → OkAll (λ (u : Unit {0}) a. u) (λ u a. T (f a)) tt xs
  unfolding all
  all_each [] t = tt
  all_each (x ∷ xs) t = (and_left (f x) _ t, all_each xs (and_right (f x) _ t))

-- ---- an accepted scheme, in the form that a reading gives
pub record Parts (x : Scheme) : Type 0 where
  pub head : T (passes (head_fault x.head))
  pub commands : OkAll (λ (u : Unit {0}) c. u) (λ u c. T (accepted_command x.head c)) tt (commands_of x)
  pub long : length (commands_of x) ≡ x.head.count
  pub whole : x ≡ scheme_of x.head (commands_of x)

module _ (x : Scheme) where
  pub accepted_parts : T (accepted_scheme x) → Parts x
  unfolding accepted_scheme scheme_of
  accepted_parts t =
      let p : T (passes (head_fault x.head)) = search (and_left, and_right) in
      let f = head_fits x.head p in
      let u = unpad no_command_lem 32 x.head.count x.commands (search (and_left, and_right)) (omega arith) in
      record { head = p; commands = all_each (accepted_command x.head) (commands_of x) (search (and_left, and_right)); long = u.0; whole = rw (← u.1) }

  pub parts_accepted : Parts x → T (accepted_scheme x)
  unfolding accepted_scheme scheme_of
  parts_accepted p =
      let f = head_fits x.head p.head in
      let z : T (padded zero_command 32 x.head.count x.commands) =
      rw p.whole (pad no_command_lem 32 x.head.count (commands_of x) p.long (omega arith)) in
      search (each_all, and_both)

-- ---- all but the end
abbrev pub parts : List ℕ → Reader ℕ Refusal Scheme
parts s = do
  h ← head_at s
  cs ← commands s h
  done (scheme_of h cs)

pub parts_trip : (s : List ℕ) → Trip (input s) (parts s) scheme_bytes (λ x. T (accepted_scheme x))
unfolding scheme_of scheme_bytes head_bytes little_endian
parts_trip s =
    trip_as
    (trip_then (trip_kind s 1 (omega arith) head_trip (λ h o. omega arith)) (λ x. x.head) (λ h x l o. rw o.1) λ h lh.
    trip_last
    (trip_steps (λ (u : Unit {0}). trip_kind s 2 (omega arith) (command_trip h (head_few h lh)) (command_size h)) (λ u c. u) h.count tt)
    (scheme_of h) commands_of λ cs l. take_at cs _ h.count l.1)
    (λ x o. refl)
    (λ x o. parts_accepted x (record { head = o.0; commands = o.1.0.0; long = o.1.0.1; whole = o.1.1 }))
    (λ x o. let p = accepted_parts x o in (p.head, ((p.commands, p.long), p.whole)))

-- ---- and the end
module _ {I F C : Type 0} (end : Reader I F Unit) where
  bind_end : {B : Type 0} (m : Read I F B) (f : B → C) → bind m (λ b. end >> done (f b)) ≡ bind (bind m (λ b. done (f b))) (λ c. end >> done c)
  bind_end (got b i) f = refl
  bind_end (fault k) f = refl

  bind_ends : {A B : Type 0} (m : Read I F A) (q : A → Reader I F B) (f : A → B → C) →
      bind m (λ a. q a >>= λ b. end >> done (f a b)) ≡ bind (bind m (λ a. q a >>= λ b. done (f a b))) (λ c. end >> done c)
  bind_ends (got a i) q f = bind_end (q a i) (f a)
  bind_ends (fault k) q f = refl

pub scheme_ends : (s : List ℕ) (at : ℕ) → scheme s at ≡ bind (parts s at) (λ x. at_end s >> done x)
unfolding scheme scheme_rest
scheme_ends s at = bind_ends (at_end s) (head_at s at) (commands s) scheme_of

pub end_there : (s : List ℕ) → at_end s (length s) ≡ got tt (length s)
unfolding at_end
end_there s = rw (is_true (eqb (length s) (length s)) (eqb_refl (length s)))

pub end_back : (s : List ℕ) (at : ℕ) {u : Unit} {next : ℕ} → at_end s at ≡ got u next → (at ≡ length s) × (at ≡ next)
unfolding at_end
end_back s at {u} {next} e = go (eqb at (length s)) refl e
  where
    go : (b : Bool) → eqb at (length s) ≡ b →
        cond {A = Read ℕ Refusal Unit} b (got tt at) (fault (record { number = 8; at = at })) ≡ got u next → (at ≡ length s) × (at ≡ next)
    go true t e = (eqb→eq at (length s) (rw t tt), got_left e)
    go false t e = never e

pub parts_got : (s : List ℕ) (at : ℕ) {x : Scheme} {next : ℕ} → scheme s at ≡ got x next → (parts s at ≡ got x next) × (next ≡ length s)
parts_got s at e =
    let m = bind_got (parts s at) (λ x. at_end s >> done x) (sym (scheme_ends s at) ∙ e) in
    let d = bind_got (at_end s m.1) (λ u. done m.0) m.3 in
    let z = end_back s m.1 d.2 in
    let n = z.1 ∙ got_left d.3 in
    (m.2 ∙ rw (got_value d.3, n), sym n ∙ z.0)

-- ---- both ways
pub scheme_there : (s : Scheme) → T (accepted_scheme s) → scheme (scheme_bytes s) 0 ≡ got s (length (scheme_bytes s))
scheme_there s t =
    let b : List ℕ = scheme_bytes s in
    let r : Stand b b 0 (length b) = record { next = sym (zero-add (length b)); bytes = sym (rw drop-length (append-nil b)) } in
    rw (scheme_ends, (parts_trip b).there s t 0 (length b) r, end_there)

pub scheme_back : (bytes : List ℕ) (s : Scheme) (next : ℕ) → Bytes bytes → scheme bytes 0 ≡ got s next →
    T (accepted_scheme s) × (bytes ≡ scheme_bytes s) × (next ≡ length bytes)
scheme_back bytes s next g e =
    let m = parts_got bytes 0 e in
    let b = (parts_trip bytes).back 0 next s g m.0 in
    (b.1, b.0.bytes ∙ rw (m.1, drop-length) (append-nil (scheme_bytes s)), m.1)

pub round_trips : RoundTrips
round_trips = record { there = scheme_there; back = scheme_back }
