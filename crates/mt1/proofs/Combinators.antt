-- A parser and the bits of what it reads: it gets x exactly where the bits of x stand. Shown of fields, and of one thing behind another.
-- What stands behind another thing begins where that ends: stretches are split to read them, and joined when they are read.
use Prim.Native.Nat.{ℕ, ◌+◌, ◌≤◌, ◌<◌, ◌^◌}
use native.Mathlib.Nat.{mod-eq_of_lt}
use native.Mathlib.Omega.{arith}
use mathlib.Core.Bool.{Bool, true, false}
use mathlib.Core.List.{List, [], ◌++◌, append-nil}
use mathlib.Core.Option.{Option, none, some}
use mathlib.Core.Path.{◌≡◌, refl, sym, ap, ◌∙◌}
use lib.ListN.{length, take, drop, length-take, length-drop}
use borrow.Author.Tests.{leb-true, le-leb}
use Rattle.bits.specs.Bits.{bits, value, fits_in}
use Rattle.bits.proofs.Values.{length-bits, value-bits, bits-value, value-lt}
use Rattle.lists.proofs.Tests.{on_bool}
use Rattle.refusal.specs.declared.Refusal.{Refusal}
use Rattle.mt1.specs.declared.answer.RefusalAt.{RefusalAt}
use Rattle.mt1.specs.Parse.{Outcome, got, bad, Parser, next, ◌>>=◌, ret, raw, field, verdict, judged}
use Rattle.mt1.specs.Mt1.{unless}
use Rattle.mt1.proofs.Spans.{Span, span_none, span-join, span-split}

-- what was read, and where it stands
pub record Took {A : Type 0} (Ok : A → Type 0) (enc : A → List Bool) (bs : List Bool) (at : ℕ) (x : A) (end : ℕ) : Type 0 where
  pub ok : Ok x
  pub span : Span bs at (enc x) end

-- p gets x where the bits of an x that is Ok stand, and nowhere else
pub record Reads {A : Type 0} (p : Parser A) (Ok : A → Type 0) (enc : A → List Bool) : Type 0 where
  pub complete : (bs : List Bool) (at : ℕ) (x : A) (end : ℕ) → Ok x → Span bs at (enc x) end → p bs at ≡ got x end
  pub sound : (bs : List Bool) (at : ℕ) (x : A) (end : ℕ) → at ≤ length bs → p bs at ≡ got x end → Took Ok enc bs at x end

-- ---- one behind another
pub bad-got : {A : Type 0} {r : RefusalAt} {x : A} {end : ℕ} → bad r ≡ got x end → ⊥
bad-got e = let z : ◌≡◌ {A = ℕ} 0 1 = cc in omega arith

pub some-none : {A : Type 0} {x : A} → some x ≡ none → ⊥
some-none e = let z : ◌≡◌ {A = ℕ} 0 1 = cc in omega arith

-- what is got was got in two steps
pub next-elim {ℓ} : {A B : Type 0} {X : Type ℓ} (r : Outcome A) (k : A → ℕ → Outcome B) {b : B} {end : ℕ} → next r k ≡ got b end
    → ((a : A) (m : ℕ) → r ≡ got a m → k a m ≡ got b end → X) → X
next-elim (got a m) k e f = f a m refl e
next-elim (bad r) k e f = absurd (bad-got e)

-- p reads an a, then k a reads a b: b says which a it was, by its being Ok and in its bits
pub bind : {A B : Type 0} {p : Parser A} {k : A → Parser B} {OkA : A → Type 0} {enc_a : A → List Bool} {OkB : A → B → Type 0} {enc_b : A → B → List Bool}
    {Ok : B → Type 0} {enc : B → List Bool} → ((a : A) (b : B) → OkA a → OkB a b → Ok b × (enc b ≡ enc_a a ++ enc_b a b)) → ((b : B) → Ok b → (a : A) × OkA a × OkB a b)
    → Reads p OkA enc_a → ((a : A) → OkA a → Reads (k a) (OkB a) (enc_b a)) → Reads (p >>= k) Ok enc
unfolding ◌>>=◌
bind {p = p} {enc_a = enc_a} {enc_b = enc_b} to from P K = record {
  complete = λ bs at b end o s.
      let (a, q, r) = from b o in
      let (s1, s2) = span-split (enc_a a) (enc_b a b) (rw (to a b q r).1 at s) in
      rw (P.complete bs at a _ q s1) ((K a q).complete bs _ b end r s2);
  sound = λ bs at b end h e.
      next-elim (p bs at) _ e λ a m q r.
      let F = P.sound bs at a m h q in
      let G = (K a F.ok).sound bs m b end F.span.fits r in
      let (o, t) = to a b F.ok G.ok in
      record { ok = o; span = rw t (span-join F.span G.span) };
}

pub ret-reads : {A : Type 0} (a : A) → Reads (ret a) (λ x. x ≡ a) (λ x. [])
unfolding ret
ret-reads a = record {
  complete = λ bs at x end o s. rw o (ap (got a) (omega (arith, s.after)));
  sound = λ bs at x end h e.
      let M : end ≡ at = cc in
      record { ok = (cc); span = rw M (span_none h) };
}

-- b has a part a that p reads, and k a reads the rest
pub then : {A B : Type 0} {p : Parser A} {k : A → Parser B} {OkA : A → Type 0} {enc_a : A → List Bool} {OkB : A → B → Type 0} {enc_b : A → B → List Bool} (part : B → A)
    → ((a : A) (b : B) → OkB a b → part b ≡ a) → Reads p OkA enc_a → ((a : A) → OkA a → Reads (k a) (OkB a) (enc_b a))
    → Reads (p >>= k) (λ b. OkA (part b) × OkB (part b) b) (λ b. enc_a (part b) ++ enc_b (part b) b)
then part same = bind (λ a b o r. rw (same a b r) ((o, r), refl)) (λ b o. (part b, o.0, o.1))

-- b is made of a part that p reads
pub last : {A B : Type 0} {p : Parser A} {f : A → B} {OkA : A → Type 0} {enc_a : A → List Bool} (part : B → A)
    → ((a : A) → part (f a) ≡ a) → Reads p OkA enc_a → Reads (p >>= λ a. ret (f a)) (λ b. OkA (part b) × (b ≡ f (part b))) (λ b. enc_a (part b))
last {f = f} {enc_a = enc_a} part same P = bind
    (λ a b o e. let E : part b ≡ a = ap part e ∙ same a in rw E ((o, e), sym (append-nil (enc_a a))))
    (λ b o. (part b, o.0, o.1)) P (λ a o. ret-reads (f a))

-- ---- the same, said otherwise
pub reads_ok : {A : Type 0} {p : Parser A} {Ok Ok' : A → Type 0} {enc : A → List Bool}
    → ((x : A) → Ok x → Ok' x) → ((x : A) → Ok' x → Ok x) → Reads p Ok enc → Reads p Ok' enc
reads_ok to from P = record {
  complete = λ bs at x end o s. P.complete bs at x end (from x o) s;
  sound = λ bs at x end h e. let F = P.sound bs at x end h e in record { ok = to x F.ok; span = F.span };
}

pub reads-bits : {A : Type 0} {p : Parser A} {Ok : A → Type 0} {enc enc' : A → List Bool}
    → ((x : A) → Ok x → enc x ≡ enc' x) → Reads p Ok enc → Reads p Ok enc'
reads-bits same P = record {
  complete = λ bs at x end o s. P.complete bs at x end o (rw (same x o) s);
  sound = λ bs at x end h e. let F = P.sound bs at x end h e in record { ok = F.ok; span = rw (same x F.ok) at F.span };
}

-- ---- fields
pub raw-reads : (n : ℕ) → Reads (raw n) (λ l. length l ≡ n) (λ l. l)
unfolding raw
raw-reads n = record {
  complete = λ bs at l end o s.
      let e : end ≡ at + n = omega (arith, s.after, o) in
      let t : take n (drop at bs) ≡ l = rw o at s.here in
      rw (le-leb (at + n) (length bs) (omega (arith, s.fits, e)), t, e);
  sound = λ bs at l end h. on_bool (fits_in bs at n)
      (λ f. rw f λ e.
      let t : l ≡ take n (drop at bs) = cc in
      let m : end ≡ at + n = cc in
      let k : length (take n (drop at bs)) ≡ n = omega (arith, length-take n (drop at bs), length-drop at bs, leb-true (at + n) (length bs) f) in
      rw (t, m) (record { ok = k; span = record { fits = leb-true (at + n) (length bs) f; after = rw k; here = rw k } }))
      (λ f. rw f λ e. absurd (bad-got e));
}

pub field-reads : (n : ℕ) → Reads (field n) (λ v. v < 2 ^ n) (bits n)
unfolding field
field-reads n = record {
  complete = λ bs at v end o s. rw ((raw-reads n).complete bs at (bits n v) end (length-bits n v) s, value-bits n v, mod-eq_of_lt o);
  sound = λ bs at v end h e.
      next-elim (raw n bs at) _ e λ b m q r.
      let F = (raw-reads n).sound bs at b m h q in
      let E : v ≡ value b = cc in
      let M : end ≡ m = cc in
      let B : bits n (value b) ≡ b = bits-value n b F.ok in
      rw (E, M) (record { ok = rw F.ok at (value-lt b); span = rw B F.span });
}

verdict-elim : {X : Type 0} (o : Option Refusal) (at : ℕ) {u m v end : ℕ} → verdict o u at m ≡ got v end → (o ≡ none → v ≡ u → end ≡ m → X) → X
verdict-elim none at e f = f refl (cc) (cc)
verdict-elim (some w) at e f = absurd (bad-got e)

pub judged-reads : (n : ℕ) (wrong : ℕ → Option Refusal) → Reads (judged n wrong) (λ v. (v < 2 ^ n) × (wrong v ≡ none)) (bits n)
unfolding judged
judged-reads n wrong = record {
  complete = λ bs at v end o s. rw ((field-reads n).complete bs at v end o.0 s, o.1);
  sound = λ bs at v end h e.
      next-elim (field n bs at) _ e λ u m q r.
      let F = (field-reads n).sound bs at u m h q in
      verdict-elim (wrong u) at r λ w x y. rw (x, y) (record { ok = (F.ok, w); span = F.span });
}

-- judged by a test that says whether the value is fine
pub tested : (n : ℕ) (test : ℕ → Bool) (w : Refusal) {Fine : ℕ → Type 0} → ((v : ℕ) → test v ≡ true → Fine v) → ((v : ℕ) → Fine v → (v < 2 ^ n) × (test v ≡ true))
    → Reads (judged n (λ v. unless (test v) w)) Fine (bits n)
tested n test w to from = reads_ok (λ v o. to v (unless-none (test v) o.1)) (λ v f. ((from v f).0, rw (from v f).1)) (judged-reads n (λ v. unless (test v) w))
  where
    unless-none : (b : Bool) → unless b w ≡ none → b ≡ true
    unless-none true e = refl
    unless-none false e = absurd (some-none e)
