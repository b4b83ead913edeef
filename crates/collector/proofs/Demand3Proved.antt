-- Demand 3, whole: for a fresh collector and for one already used, in the client's words (specs/Demand3), and that the order does not matter.
-- From a fresh collector it is Fresh; a used one is, a time-out after its last second, as a fresh one (Used).
use mathlib.Core.List.{List, ◌∷◌, map, Memᴰ}
use mathlib.Core.Logic.{◌⊎◌}
use mathlib.Core.Option.{none}
use mathlib.Core.Path.{◌≡◌, sym, ap, ◌∙◌, subst}
use Prim.Native.Nat.{ℕ}
use Rattle.collector.specs.Feed.{Collector, Step, held_at}
use Rattle.collector.specs.Demand.{Message, key_for, Fed, Setting, outs, SamePages, Reordered}
use Rattle.collector.specs.Demand3.{Start, Demand3, SameOutcome}
use Rattle.collector.proofs.Fresh as Fresh
use Rattle.collector.proofs.Used.{same-run, same-answers, same-feed}
use Rattle.collector.proofs.Reorder.{reordered}

pub demand3 : (c : Collector) (ms : List Message) (T : ℕ) (f₀ : Fed) (fs : List Fed) → Start c T f₀.second → Setting ms T f₀.second (f₀ ∷ fs) → Demand3 c ms (f₀ ∷ fs)
demand3 c ms T f₀ fs st h =
    record {
      exact = λ pre f post e.
          ap (λ (s : Step). s.answer) (same-feed c ms T f₀ fs st h pre f post e)
          ∙ Fresh.exact ms T f₀.second pre f post (subst (Setting ms T f₀.second) e h);
      whole = λ pre f post e k octets r.
          Fresh.whole ms T f₀.second pre f post (subst (Setting ms T f₀.second) e h) k octets
          (sym (ap (λ (s : Step). s.answer) (same-feed c ms T f₀ fs st h pre f post e)) ∙ r);
      once = λ m i.
          ap (outs (key_for m) (f₀ ∷ fs)) (same-answers c ms T f₀ fs st h) ∙ Fresh.once ms T f₀.second (f₀ ∷ fs) h m i;
      waits = λ m i n.
          ap (λ (x : Collector). held_at x (key_for m) n) (same-run c ms T f₀ fs st h) ∙ Fresh.waits ms T f₀.second (f₀ ∷ fs) h m i n;
      nothing-else = λ k n.
          subst (λ (x : Collector). (held_at x k n ≡ none) ⊎ Memᴰ k (map key_for ms)) (sym (same-run c ms T f₀ fs st h))
          (Fresh.waits-known ms T f₀.second (f₀ ∷ fs) h k n);
    }

-- "The same pages in another order give the same messages and leave the same pages waiting."
pub order-free : (c d : Collector) (ms : List Message) (T : ℕ) (f₀ : Fed) (fs : List Fed) (g₀ : Fed) (gs : List Fed)
    → Start c T f₀.second → Setting ms T f₀.second (f₀ ∷ fs) → Start d T g₀.second → Setting ms T g₀.second (g₀ ∷ gs)
    → SamePages (f₀ ∷ fs) (g₀ ∷ gs) → SameOutcome c d ms (f₀ ∷ fs) (g₀ ∷ gs)
order-free c d ms T f₀ fs g₀ gs sc hf sd hg same =
    record {
      messages = λ m i.
          ap (outs (key_for m) (f₀ ∷ fs)) (same-answers c ms T f₀ fs sc hf)
          ∙ Fresh.same-messages ms T f₀.second g₀.second (f₀ ∷ fs) (g₀ ∷ gs) hf hg same m i
          ∙ sym (ap (outs (key_for m) (g₀ ∷ gs)) (same-answers d ms T g₀ gs sd hg));
      waiting = λ k n.
          ap (λ (x : Collector). held_at x k n) (same-run c ms T f₀ fs sc hf)
          ∙ Fresh.same-waiting ms T f₀.second g₀.second (f₀ ∷ fs) (g₀ ∷ gs) hf hg same k n
          ∙ sym (ap (λ (x : Collector). held_at x k n) (same-run d ms T g₀ gs sd hg));
    }

-- the literal reading: each page as often, in another order, at whatever seconds
pub another_order : (c d : Collector) (ms : List Message) (T : ℕ) (f₀ : Fed) (fs : List Fed) (g₀ : Fed) (gs : List Fed)
    → Start c T f₀.second → Setting ms T f₀.second (f₀ ∷ fs) → Start d T g₀.second → Setting ms T g₀.second (g₀ ∷ gs)
    → Reordered (f₀ ∷ fs) (g₀ ∷ gs) → SameOutcome c d ms (f₀ ∷ fs) (g₀ ∷ gs)
another_order c d ms T f₀ fs g₀ gs sc hf sd hg o = order-free c d ms T f₀ fs g₀ gs sc hf sd hg (reordered o)
