-- What the proofs of the functions in `read` and `reader` share: the lines of a scheme as a function with `?` follows them, and that a head that was read
-- is accepted. Assumes nothing.
use Prim.Native.Nat.{ℕ, ◌-◌, ◌<◌}
use native.Mathlib.Omega.{arith}
use mathlib.Core.Bool.{Bool, true, false, cond}
use mathlib.Core.List.{List, ◌++◌}
use mathlib.Core.Path.{◌≡◌, refl, sym, ap, ◌∙◌}
use lib.Dec.{T, eqb}
use lib.ListN.{length, replicate}
use Rattle.std.specs.Prelude.{Result, Ok, Err}
use Rattle.faults.specs.Numbers.{fault_of}
use Rattle.faults.specs.declared.Fault.TheVariants.{Leftover}
use Rattle.rights.specs.Sets.{within}
use Rattle.laws.proofs.Bools.{is_true}
use Rattle.laws.proofs.Differ.{constructors_differ}
use Rattle.model.specs.Arrays.{no_command, scheme_of, no_scheme}
use Rattle.model.specs.Accepted.{accepted_head}
use Rattle.model.specs.declared.Command.{Command}
use Rattle.model.specs.declared.Head.{Head}
use Rattle.model.specs.declared.Scheme.{Scheme}
use Rattle.records.specs.Bytes.{part}
use Rattle.records.specs.Front.{Refusal}
use Rattle.records.specs.Reading.{Read, got, fault, Body, bind, done, check, field, ◌>>=◌, ◌>>◌, number}
use Rattle.records.specs.Results.{refused, value_of, item_of}
use Rattle.records.specs.declared.Refused.{Refused}
use Rattle.records.proofs.FieldLaws.{field_between}
use Rattle.records.proofs.Loop.{Looped, looped_stop}
use Rattle.records.proofs.Trip.{bind_got, check_got, got_value}
use Rattle.records.proofs.TripRecord.{in_record_back}
use Rattle.command_bytes.specs.Read.{head, head_at, command_at}
use Rattle.command_bytes.specs.Answers.{read_head, read_command, command_lent}
use Rattle.command_bytes.proofs.Trips.{fits_head}
use Rattle.scheme_bytes.specs.Read.{commands, at_end, scheme, scheme_rest}
use Rattle.scheme_bytes.specs.Answers.{as_scheme, read_scheme, scheme_result}
use Rattle.scheme_bytes.specs.Inner.Parts.{in_places}

-- ---- a line: on with what was read and the next position, or out with the refusal
module _ {A R : Type 0} (go : A → ℕ → R) (out : Refused → R) where
  abbrev pub on_item : Result (A × ℕ) Refused → R
  on_item (Ok (a, next)) = go a next
  on_item (Err r) = out r

-- ---- from what was made of an item back to its reading
module _ {A : Type 0} where
  pub item_back : (m : Read ℕ Refusal A) {a : A} {next : ℕ} → item_of m ≡ Ok (a, next) → m ≡ got a next
  item_back (got x n) {a = a} {next = next} e =
      let p : ◌≡◌ {A = A × ℕ} (x, n) (a, next) = cc in
      ap (λ (q : A × ℕ). got q.0 q.1) p
  item_back (fault f) e = constructors_differ (cc)

  pub refusal_back : (m : Read ℕ Refusal A) {r : Refused} → item_of m ≡ Err r → (f : Refusal) × (m ≡ fault f) × (r ≡ refused f.number f.at)
  refusal_back (got x n) e = constructors_differ (cc)
  refusal_back (fault f) {r = r} e = (f, refl, let g : refused f.number f.at ≡ r = cc in sym g)

-- ---- from what a reading of a command left back to its answer
read_back : (m : Result (Command × ℕ) Refused) {c : Command} {n : ℕ} → ◌≡◌ {A = Result ℕ Refused × Command} (Ok n, c) (command_lent m) → m ≡ Ok (c, n)
read_back (Ok (x, k)) {c} {n} e =
    let a = ap (λ (q : Result ℕ Refused × Command). q.0) e in
    let i : n ≡ k = cc in
    let j : c ≡ x = ap (λ (q : Result ℕ Refused × Command). q.1) e in
    rw (i, j)
read_back (Err r) e = let a = ap (λ (q : Result ℕ Refused × Command). q.0) e in constructors_differ (cc)

left_back : (m : Result (Command × ℕ) Refused) {c : Command} {r : Refused} → ◌≡◌ {A = Result ℕ Refused × Command} (Err r, c) (command_lent m) → m ≡ Err r
left_back (Ok (x, k)) e = let a = ap (λ (q : Result ℕ Refused × Command). q.0) e in constructors_differ (cc)
left_back (Err f) {r = r} e =
    let a = ap (λ (q : Result ℕ Refused × Command). q.0) e in
    let i : r ≡ f = cc in
    rw i

-- ---- the commands one by one, of an accepted head
module _ (s : List ℕ) (next : ℕ) (h : Head) (ok : T (accepted_head h)) where
  is_item : read_command s next h ≡ item_of (command_at s h next)
  unfolding read_command
  is_item = rw (is_true (accepted_head h) ok)

  pub command_there : {c : Command} {n : ℕ} → ◌≡◌ {A = Result ℕ Refused × Command} (Ok n, c) (command_lent (read_command s next h)) →
      command_at s h next ≡ got c n
  command_there e = item_back (command_at s h next) (sym is_item ∙ read_back (read_command s next h) e)

  pub command_refused : {at j : ℕ} → Looped (λ (u : Unit {0}). command_at s h) (λ u c. u) h.count tt at j tt next → j < h.count → {r : Refused} {c : Command} →
      ◌≡◌ {A = Result ℕ Refused × Command} (Err r, c) (command_lent (read_command s next h)) → Err r ≡ item_of (in_places (commands s h at))
  command_refused v l e =
      let g = refusal_back (command_at s h next) (sym is_item ∙ left_back (read_command s next h) e) in
      rw (looped_stop v l g.1) (ap Err g.2)

-- ---- a table of none holds no command at each place
pub none_in_places : {table : Scheme} → table ≡ no_scheme → table.commands ≡ replicate 32 no_command
unfolding no_scheme scheme_of
none_in_places e = ap (λ (t : Scheme). t.commands) e

-- ---- the lines: the commands behind a head, and the end
module _ (s : List ℕ) (h : Head) where
  abbrev ended : List Command → ℕ → Result (Scheme × ℕ) Refused
  ended cs next = cond (eqb next (length s)) (Ok (record { head = h; commands = cs }, next)) (Err (record { fault = Leftover; at = next }))

  end_line : (cs : List Command) (next : ℕ) (b : Bool) →
      item_of (bind (cond b (got tt next) (fault (record { number = 8; at = next }))) (λ (u : Unit {0}). done (scheme_of h cs))) ≡
      cond b (Ok (record { head = h; commands = cs ++ replicate (32 - length cs) no_command }, next)) (Err (record { fault = Leftover; at = next }))
  unfolding scheme_of fault_of
  end_line cs next true = refl
  end_line cs next false = refl

  pub rest_lines : (at : ℕ) → item_of (scheme_rest s h at) ≡ on_item ended Err (item_of (in_places (commands s h at)))
  unfolding scheme_rest at_end
  rest_lines at = go (commands s h at)
    where
      go : (m : Read ℕ Refusal (List Command)) → item_of (bind m (λ cs. at_end s >> done (scheme_of h cs))) ≡ on_item ended Err (item_of (in_places m))
      go (got cs next) = end_line cs next (eqb next (length s))
      go (fault f) = refl

-- the head, and what is behind it
pub scheme_lines : (s : List ℕ) (table : Scheme) → scheme_result (read_scheme s table) ≡
    on_item (λ h from. on_item (λ x next. (Ok next, x)) (λ r. (Err r, table)) (item_of (scheme_rest s h from))) (λ r. (Err r, table)) (read_head s 0)
unfolding read_scheme scheme read_head
scheme_lines s table = go (head_at s 0)
  where
    go : (m : Read ℕ Refusal Head) → scheme_result (as_scheme table (bind m (scheme_rest s))) ≡
        on_item (λ h from. on_item (λ x next. (Ok next, x)) (λ r. (Err r, table)) (item_of (scheme_rest s h from))) (λ r. (Err r, table)) (item_of m)
    go (got h from) = by (scheme_rest s h from)
      where
        by : (m : Read ℕ Refusal Scheme) → scheme_result (as_scheme table m) ≡ on_item (λ x next. (Ok next, x)) (λ r. (Err r, table)) (item_of m)
        by (got x next) = refl
        by (fault f) = refl
    go (fault f) = refl

-- ---- a head that was read is accepted
record Gives {A : Type 0} (P : A → Type 0) (p : Body A) : Type 0 where
  shown : (r : List ℕ) {a : A} {s : List ℕ} → p r ≡ got a s → P a

gives_then : {A B : Type 0} {P : B → Type 0} (p : Body A) {q : A → Body B} → ((a : A) (r s : List ℕ) → p r ≡ got a s → Gives P (q a)) →
    Gives P (p >>= q)
gives_then p {q} g = record { shown = λ r e. let m = bind_got (p r) q e in (g m.0 r m.1 m.2).shown m.1 m.3 }

good_head : Gives (λ (h : Head). T (accepted_head h)) head
unfolding head
good_head =
    gives_then (field 1 65 4) λ n a b en. gives_then (field 1 17 4) λ m c d em.
    gives_then (number 2) λ s f g es. gives_then (check (within m s) 6) λ u i j eu. record {
      shown = λ r e.
          let last = bind_got (field 1 33 4 r) (λ c. done (record { rights = n; types = m; subjects = record { 0 = s }; count = c })) e in
          let rights = field_between a 1 65 4 n (ap value_of en) in
          let types = field_between c 1 17 4 m (ap value_of em) in
          let count = field_between r 1 33 4 last.0 (ap value_of last.2) in
          rw (← (got_value last.3)) (fits_head _ (record {
            rights = omega arith;
            types = omega arith;
            subjects = (check_got (within m s) 6 i eu).0;
            count = omega arith;
          }));
    }

pub head_good : (s : List ℕ) {h : Head} {from : ℕ} → Ok (h, from) ≡ read_head s 0 → T (accepted_head h)
unfolding read_head
head_good s e = go (head_at s 0) refl (sym e)
  where
    go : (m : Read ℕ Refusal Head) {h : Head} {from : ℕ} → head_at s 0 ≡ m → item_of m ≡ Ok (h, from) → T (accepted_head h)
    go (got x next) {h} {from} d f =
        let (kind, start, len, _, g, z) = in_record_back s 2 (λ kind. head) 0 d in
        let p : ◌≡◌ {A = Head × ℕ} (x, next) (h, from) = cc in
        let i : x ≡ h = ap (λ (q : Head × ℕ). q.0) p in
        rw (← i) (good_head.shown (part s start len) g)
    go (fault x) d f = absurd (cc)
