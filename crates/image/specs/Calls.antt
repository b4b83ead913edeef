-- The calls on a collector that is octets: what each answers and writes, of whatever octets it is lent.
-- Leans on the octets of a collector, and on the collector.
use Rattle.std.specs.Prelude.{ℕ, ◌≡◌, Bool, ◌&&◌, cond, List, eqb, length, Result, Err}
use Rattle.refusal.specs.declared.Refusal.{Refusal}
use Rattle.refusal.specs.declared.Refusal.TheVariants.{Length, Form}
use Rattle.pagecode.specs.Answer.{Answer as StartAnswer}
use Rattle.collector.specs.declared.state.Fed.{Fed}
use Rattle.collector.specs.Feed.{Collector, written, Call, Step, fresh, startable, start_answer, feed}
use Rattle.collector.specs.Valid.{Valid}
use Rattle.collector.specs.Image.{answer_image}
use Rattle.image.specs.Octets.{Image, image_of}

unfoldable pub is_long : Image → Bool
is_long i = eqb (length i.head) 336 && eqb (length i.store) 13568

-- ---- `start`: LENGTH, TIMEOUT; a refusal writes nothing
unfoldable pub started_answer : Image → ℕ → StartAnswer
started_answer held timeout = cond (is_long held) (start_answer timeout) (Err Length)

unfoldable pub started : Image → ℕ → Image
started held timeout = cond (is_long held && startable timeout) (image_of (fresh timeout)) held

-- ---- `feed`
-- LENGTH: a wrong length; FORM: octets that no call of ours left
unfoldable pub why_not : Image → Refusal
why_not i = cond (is_long i) Form Length

-- a step, as `feed` takes it: its answer, the octets after it, and the buffer, which held `before` and then holds `after`
pub record Did (s : Step) (before : List ℕ) (r : Result Fed Refusal) (next : Image) (after : List ℕ) : Type 0 where
  pub answer : r ≡ answer_image s.answer
  pub image : next ≡ image_of s.after
  pub buffer : after ≡ written s.answer before

-- the contract: on the octets of a collector that our calls made, the call is a feed of that collector; any other octets are refused, and nothing is written
pub data Feeds (held : Image) (call : Call) (before : List ℕ) (r : Result Fed Refusal) (next : Image) (after : List ℕ) : Type 0 where
  of : (c : Collector) → Valid c → held ≡ image_of c → Did (feed c call) before r next after → Feeds held call before r next after
  not-one : ((c : Collector) → Valid c → held ≡ image_of c → ⊥) → r ≡ Err (why_not held) → next ≡ held → after ≡ before → Feeds held call before r next after
