-- Round trips of readers: what is written is read back, and what was read is what is written. One law for each line that a `do` block can
-- have, so that a format's round trips follow line by line; over any input in which bytes stand one after the other.
use Prim.Native.Nat.{ℕ, zero, suc, ◌+◌, ◌-◌, ◌*◌, ◌<◌, ◌≤◌}
use native.Mathlib.Omega.{arith}
use native.Mathlib.Nat.{add-zero, zero-mul}
use mathlib.Core.Bool.{Bool, true, false}
use mathlib.Core.List.{List, [], ◌∷◌, ◌++◌, append_assoc, append-nil}
use mathlib.Core.Path.{◌≡◌, refl, sym, ap, ◌∙◌}
use lib.Dec.{T}
use lib.ListN.{length, get_or, drop, length-append, take-append-drop}
use lib.Seq.{drop-drop, drop-append_seam, get_or-append-add, take_at}
use Rattle.records.specs.Bytes.{part, each_bytes}
use Rattle.records.specs.Writing.{placed}
use Rattle.records.specs.Reading.{Read, got, fault, Reader, bind, done, check, steps, ◌>>=◌, ◌>>◌}
use Rattle.records.proofs.PlacedLaws.{drop_placed, drop_at_placed}

-- ---- from a success back to the successes of its steps
module _ {I F A : Type 0} where
  pub never : {B : Type 0} {k : F} {a : A} {i : I} → ◌≡◌ {A = Read I F A} (fault k) (got a i) → B
  never e = absurd (let z : ◌≡◌ {A = ℕ} 0 1 = cc in omega arith)

  pub got_value : {a b : A} {i j : I} → ◌≡◌ {A = Read I F A} (got a i) (got b j) → a ≡ b
  got_value e = cc

  pub got_left : {a b : A} {i j : I} → ◌≡◌ {A = Read I F A} (got a i) (got b j) → i ≡ j
  got_left e = cc

  -- what holds of one holds of the other
  pub got_same : (P : A → I → Type 0) {a b : A} {i j : I} → ◌≡◌ {A = Read I F A} (got a i) (got b j) → P a i → P b j
  got_same P e h = rw (← (got_value e), ← (got_left e)) h

module _ {I F A B : Type 0} where
  pub bind_got : (m : Read I F A) (f : A → Reader I F B) {b : B} {j : I} → bind m f ≡ got b j → (a : A) × (i : I) × (m ≡ got a i) × (f a i ≡ got b j)
  bind_got (got a i) f e = (a, i, refl, e)
  bind_got (fault k) f e = never e

module _ {I F : Type 0} where
  pub check_got : (b : Bool) (k : F) (i : I) {u : Unit} {j : I} → check b k i ≡ got u j → T b × (i ≡ j)
  check_got true k i e = (tt, got_left e)
  check_got false k i e = never e

-- ---- inputs
pub record Stream (I : Type 0) : Type 1 where
  -- from i on stand these bytes, and j is what is then left
  pub reads : List ℕ → I → I → Type 0
  -- all that is left are bytes, below 256
  pub good : I → Type 0
  pub none : (i : I) → reads [] i i
  pub none_back : {i j : I} → reads [] i j → i ≡ j
  pub join : (a b : List ℕ) {i j k : I} → reads a i j → reads b j k → reads (a ++ b) i k
  pub split : (a b : List ℕ) {i k : I} → reads (a ++ b) i k → (j : I) × reads a i j × reads b j k
  pub kept : (a : List ℕ) {i j : I} → reads a i j → good i → good j

-- a list of bytes, as a slice's rule gives it
abbrev pub Bytes : List ℕ → Type 0
Bytes l = (k : ℕ) → get_or l k 0 < 256

-- what is left of a body
abbrev pub body : Stream (List ℕ)
body = record {
  reads = λ v i j. i ≡ v ++ j;
  good = Bytes;
  none = λ i. refl;
  none_back = λ e. e;
  join = λ a b e f. e ∙ rw (f, append_assoc);
  split = λ a b {k = k} e. (b ++ k, e ∙ append_assoc a b k, refl);
  kept = λ a {j = j} e g k. rw (e, get_or-append-add) at (g (length a + k));
}

-- positions in an input: from i on stand the bytes v, up to j
pub record Stand (s v : List ℕ) (i j : ℕ) : Type 0 where
  pub next : j ≡ i + length v
  pub bytes : drop i s ≡ v ++ drop j s

module _ (s : List ℕ) where
  pub stand_none : (i : ℕ) → Stand s [] i i
  stand_none i = record { next = sym (add-zero i); bytes = refl }

  pub stand_join : (a b : List ℕ) {i j k : ℕ} → Stand s a i j → Stand s b j k → Stand s (a ++ b) i k
  stand_join a b e f = record { next = omega (arith, length-append a b); bytes = e.bytes ∙ rw (f.bytes, append_assoc) }

  pub stand_split : (a b : List ℕ) {i k : ℕ} → Stand s (a ++ b) i k → (j : ℕ) × Stand s a i j × Stand s b j k
  stand_split a b {i} {k} e =
      let d : drop i s ≡ a ++ (b ++ drop k s) = e.bytes ∙ append_assoc a b (drop k s) in
      let f : drop (i + length a) s ≡ b ++ drop k s = rw (← drop-drop, d, drop-append_seam) in
      (i + length a, record { next = refl; bytes = d ∙ rw f }, record { next = omega (arith, length-append a b); bytes = f })

  abbrev pub input : Stream ℕ
  input = record {
    reads = Stand s;
    good = λ i. Bytes s;
    none = stand_none;
    none_back = λ {i} e. sym (e.next ∙ add-zero i);
    join = stand_join;
    split = stand_split;
    kept = λ a e g. g;
  }

  -- what stands there is that part of the input, and writing it there again changes nothing
  pub stand_part : {v : List ℕ} {i j : ℕ} → Stand s v i j → part s i (j - i) ≡ v
  unfolding part
  stand_part {v} {i} {j} e = rw e.bytes (take_at v (drop j s) (j - i) (omega arith))

  pub stand_again : {v : List ℕ} {i j : ℕ} → Stand s v i j → placed s i v ≡ s
  unfolding placed
  stand_again {i = i} e = rw (append_assoc, ← e.next, ← e.bytes) (take-append-drop i s)

-- what is written stands there
pub stand_placed : (out : List ℕ) (at : ℕ) (v : List ℕ) → at + length v ≤ length out → Stand (placed out at v) v at (at + length v)
stand_placed out at v h =
    let rest : drop (at + length v) (placed out at v) ≡ drop (at + length v) out = drop_placed out at v h (at + length v) (omega arith) in
    record { next = refl; bytes = rw rest (drop_at_placed out at v h) }

-- ---- round trips
-- What meets Ok is read from its bytes; and what was read from bytes meets Ok and stood there as its bytes.
pub record Trip {I F A : Type 0} (St : Stream I) (p : Reader I F A) (enc : A → List ℕ) (Ok : A → Type 0) : Type 0 where
  pub there : (a : A) → Ok a → (i j : I) → St.reads (enc a) i j → p i ≡ got a j
  pub back : (i j : I) (a : A) → St.good i → p i ≡ got a j → St.reads (enc a) i j × Ok a

module _ {I F A : Type 0} {St : Stream I} where
  -- the same, said otherwise
  pub trip_as : {p : Reader I F A} {enc enc' : A → List ℕ} {Ok Ok' : A → Type 0} → Trip St p enc Ok →
      ((a : A) → Ok a → enc a ≡ enc' a) → ((a : A) → Ok a → Ok' a) → ((a : A) → Ok' a → Ok a) → Trip St p enc' Ok'
  trip_as t same to from = record {
    there = λ a o i j r. t.there a (from a o) i j (rw (same a (from a o)) r);
    back = λ i j a g e. let b = t.back i j a g e in (rw (same a b.1) at b.0, to a b.1);
  }

  pub trip_done : (c : A) → Trip St (done {F = F} c) (λ a. []) (λ a. a ≡ c)
  trip_done c = record {
    there = λ a o i j r. let e : i ≡ j = St.none_back r in rw (o, e);
    back = λ i j a g e. (rw (got_left e) (St.none j), sym (got_value e));
  }

  pub trip_check : (b : Bool) (k : F) {q : Reader I F A} {enc : A → List ℕ} {Ok : A → Type 0} → (T b → Trip St q enc Ok) →
      Trip St (check b k >> q) enc (λ a. T b × Ok a)
  trip_check true k t = record {
    there = λ a o. (t tt).there a o.1;
    back = λ i j a g e. let b = (t tt).back i j a g e in (b.0, (tt, b.1));
  }
  trip_check false k t = record { there = λ a o. absurd o.0; back = λ i j a g e. never e }

-- a line that reads: those after it know what holds of its value, and the whole shows that value (proj)
module _ {I F A C : Type 0} {St : Stream I} where
  pub trip_then : {p : Reader I F A} {enc_a : A → List ℕ} {OkA : A → Type 0} {q : A → Reader I F C} {enc : A → C → List ℕ} {Ok : A → C → Type 0} →
      Trip St p enc_a OkA → (proj : C → A) → ((a : A) (c : C) → OkA a → Ok a c → proj c ≡ a) → ((a : A) → OkA a → Trip St (q a) (enc a) (Ok a)) →
      Trip St (p >>= q) (λ c. enc_a (proj c) ++ enc (proj c) c) (λ c. OkA (proj c) × Ok (proj c) c)
  trip_then {p} {enc_a} {OkA} {q} {enc} t proj shown u = record {
    there = λ c o i k r.
        let m = St.split (enc_a (proj c)) (enc (proj c) c) r in
        let e : p i ≡ got (proj c) m.0 = t.there (proj c) o.0 i m.0 m.1 in
        rw e ((u (proj c) o.0).there c o.1 m.0 k m.2);
    back = λ i k c g e.
        let m = bind_got (p i) q e in
        let b = t.back i m.1 m.0 g m.2 in
        let d = (u m.0 b.1).back m.1 k c (St.kept (enc_a m.0) b.0 g) m.3 in
        rw (shown m.0 c b.1 d.1) (St.join (enc_a m.0) (enc m.0 c) b.0 d.0, (b.1, d.1));
  }

  -- the last two lines: one more is read, and all is put together
  pub trip_last : {p : Reader I F A} {enc_a : A → List ℕ} {OkA : A → Type 0} → Trip St p enc_a OkA →
      (f : A → C) (proj : C → A) → ((a : A) → OkA a → proj (f a) ≡ a) →
      Trip St (p >>= λ a. done (f a)) (λ c. enc_a (proj c)) (λ c. OkA (proj c) × (c ≡ f (proj c)))
  trip_last {enc_a = enc_a} t f proj shown =
      trip_as (trip_then t proj (λ a c h o. rw o (shown a h)) λ a h. trip_done (f a))
      (λ c o. append-nil (enc_a (proj c))) (λ c o. o) (λ c o. o)

-- ---- so many, each in the state that those before it left
module _ {A : Type 0} (enc : A → List ℕ) where
  pub length_all : (w : ℕ) → ((a : A) → length (enc a) ≡ w) → (xs : List A) → length (each_bytes enc xs) ≡ length xs * w
  length_all w h [] = rw zero-mul
  length_all w h (a ∷ xs) = rw (length-append, h a, length_all w h xs) (omega arith)

module _ {A S : Type 0} (next : S → A → S) (Ok : S → A → Type 0) where
  abbrev pub OkAll : S → List A → Type 0
  OkAll s [] = Unit {0}
  OkAll s (a ∷ xs) = Ok s a × OkAll (next s a) xs

module _ {I F A S : Type 0} {St : Stream I} {p : S → Reader I F A} {enc : A → List ℕ} {Ok : S → A → Type 0}
    (t : (s : S) → Trip St (p s) enc (Ok s)) (next : S → A → S) where
  pub steps_there : (n : ℕ) (s : S) (xs : List A) → OkAll next Ok s xs → length xs ≡ n → (i j : I) → St.reads (each_bytes enc xs) i j →
      steps p next n s i ≡ got xs j
  steps_there zero s [] o l i j r = rw (St.none_back r)
  steps_there zero s (a ∷ xs) o l i j r = absurd (omega arith)
  steps_there (suc n) s [] o l i j r = absurd (omega arith)
  steps_there (suc n) s (a ∷ xs) o l i k r =
      let m = St.split (enc a) (each_bytes enc xs) r in
      let e : p s i ≡ got a m.0 = (t s).there a o.0 i m.0 m.1 in
      rw (e, steps_there n (next s a) xs o.1 (omega arith) m.0 k m.2)

  abbrev pub Stood : ℕ → S → I → List A → I → Type 0
  Stood n s i xs j = St.reads (each_bytes enc xs) i j × (OkAll next Ok s xs × (length xs ≡ n))

  pub steps_back : (n : ℕ) (s : S) (i j : I) (xs : List A) → St.good i → steps p next n s i ≡ got xs j → Stood n s i xs j
  steps_back zero s i j xs g e = got_same (Stood zero s i) e (St.none i, (tt, refl))
  steps_back (suc n) s i j xs g e =
      let m = bind_got (p s i) (λ a. steps p next n (next s a) >>= λ ys. done (a ∷ ys)) e in
      let b = (t s).back i m.1 m.0 g m.2 in
      let d = bind_got (steps p next n (next s m.0) m.1) (λ ys. done (m.0 ∷ ys)) m.3 in
      let c = steps_back n (next s m.0) m.1 d.1 d.0 (St.kept (enc m.0) b.0 g) d.2 in
      got_same (Stood (suc n) s i) {a = m.0 ∷ d.0} d.3 (St.join (enc m.0) (each_bytes enc d.0) b.0 c.0, ((b.1, c.1.0), ap suc c.1.1))

  pub trip_steps : (n : ℕ) (s : S) → Trip St (steps p next n s) (each_bytes enc) (λ xs. OkAll next Ok s xs × (length xs ≡ n))
  trip_steps n s = record { there = λ xs o i j r. steps_there n s xs o.0 o.1 i j r; back = λ i j xs g e. steps_back n s i j xs g e }

-- ---- both ways, of a reader of positions in any input
module _ {F A : Type 0} {p : List ℕ → Reader ℕ F A} {enc : A → List ℕ} {Ok : A → Type 0} (t : (s : List ℕ) → Trip (input s) (p s) enc Ok) where
  -- written, then read
  pub write_read : (out : List ℕ) (at : ℕ) (a : A) → Ok a → at + length (enc a) ≤ length out → p (placed out at (enc a)) at ≡ got a (at + length (enc a))
  write_read out at a o h = (t (placed out at (enc a))).there a o at (at + length (enc a)) (stand_placed out at (enc a) h)

  -- read, then written
  pub read_write : (s : List ℕ) (at next : ℕ) (a : A) → Bytes s → p s at ≡ got a next → Ok a × (part s at (next - at) ≡ enc a) × (placed s at (enc a) ≡ s)
  read_write s at next a g e = let b = (t s).back at next a g e in (b.1, stand_part s b.0, stand_again s b.0)
