-- A collector already used is, a time-out after its last second, as a fresh one: feeds, runs and answers are the same.
-- No first second of a place is after the last second, so the clock frees every place.
use mathlib.Core.List.{List, [], ◌∷◌, ◌++◌, map, cons-eq-cons}
use mathlib.Core.Path.{◌≡◌, refl, ap, ◌∙◌, subst}
use Prim.Native.Nat.{ℕ, ◌+◌, ◌≤◌, zero-le}
use native.Mathlib.Omega.{arith}
use lib.ListN.{length, replicate}
use borrow.Author.Tests.{le-ltb, eq-eqb}
use Rattle.pagecode.proofs.Promises.{encoded-length}
use Rattle.collector.specs.Place.{Place, free}
use Rattle.collector.specs.Feed.{Collector, Call, Step, fresh, tick, feed, run, answers}
use Rattle.collector.specs.Valid.{Valid}
use Rattle.collector.specs.Demand.{Message, Fed, call, Setting}
use Rattle.collector.specs.Demand3.{Start, new, used}
use Rattle.collector.proofs.Hold.{every_mono}
use Rattle.collector.proofs.Room.{expire-all}

-- a time-out after its last second every place is freed
pub idle : (c : Collector) (t : ℕ) → Valid c → c.last + c.timeout ≤ t → tick t c ≡ tick t (fresh c.timeout)
unfolding tick
idle c t v h =
    ap (λ (ps : List Place). record { timeout = c.timeout; last = t; places = ps })
    (expire-all c.timeout t c.places
    (every_mono (λ f. f ≤ c.last) (λ f. f + c.timeout ≤ t) (λ f q. omega arith) c.places v.past)
    ∙ ap (λ (n : ℕ). replicate n free) v.eight)

-- so a feed finds it as a fresh one
pub used-feed : (c : Collector) (f : Call) → Valid c → c.last + c.timeout ≤ f.second
    → length f.page ≡ 56 → f.room ≡ 1696 → f.second ≤ 2477260799 → feed c f ≡ feed (fresh c.timeout) f
unfolding feed
used-feed c f v h l r s =
    rw (
      eq-eqb (length f.page) 56 l,
      eq-eqb f.room 1696 r,
      le-ltb 2477260799 f.second s,
      le-ltb f.second c.last (omega arith),
      le-ltb f.second 0 zero-le,
      idle c f.second v h,
    )

as-fresh : (c : Collector) (ms : List Message) (T : ℕ) (f : Fed) (fs : List Fed) → Start c T f.second → Setting ms T f.second (f ∷ fs)
    → feed c (call f) ≡ feed (fresh T) (call f)
as-fresh c ms T f fs (new e) h = ap (λ (x : Collector). feed x (call f)) e
as-fresh c ms T f fs (used v e q) h =
    let l = encoded-length f.message.octets f.message.status f.message.number f.page in
    used-feed c (call f) v (omega arith) (omega arith) refl h.timed.2
    ∙ ap (λ (x : ℕ). feed (fresh x) (call f)) e

module _ (c : Collector) (ms : List Message) (T : ℕ) (f₀ : Fed) (fs : List Fed) (st : Start c T f₀.second) (h : Setting ms T f₀.second (f₀ ∷ fs)) where
  pub same-run : run c (map call (f₀ ∷ fs)) ≡ run (fresh T) (map call (f₀ ∷ fs))
  same-run = ap (λ (s : Step). run s.after (map call fs)) (as-fresh c ms T f₀ fs st h)

  pub same-answers : answers c (map call (f₀ ∷ fs)) ≡ answers (fresh T) (map call (f₀ ∷ fs))
  same-answers = ap (λ (s : Step). s.answer ∷ answers s.after (map call fs)) (as-fresh c ms T f₀ fs st h)

  pub same-feed : (pre : List Fed) (f : Fed) (post : List Fed) → (f₀ ∷ fs) ≡ pre ++ (f ∷ post)
      → feed (run c (map call pre)) (call f) ≡ feed (run (fresh T) (map call pre)) (call f)
  same-feed [] f post e =
      let q = (cons-eq-cons.0 e).0 in
      subst (λ (x : Fed). feed c (call x) ≡ feed (fresh T) (call x)) q (as-fresh c ms T f₀ fs st h)
  same-feed (g ∷ pre) f post e =
      let q = (cons-eq-cons.0 e).0 in
      ap (λ (s : Step). feed (run s.after (map call pre)) (call f))
      (subst (λ (x : Fed). feed c (call x) ≡ feed (fresh T) (call x)) q (as-fresh c ms T f₀ fs st h))
