-- Every value of a call is below 2^32: nothing is cut where it is put into the low half of the result.
-- A message has at most 13,568 bits, its records are at most 1,363, its pages 32, the seconds end below 2^32, and a log has at most 55 octets for each of 2^26 entries.
use Prim.Native.Nat.{ℕ, ◌*◌, ◌/◌, ◌%◌, ◌≤◌, ◌<◌}
use native.Mathlib.Omega.{arith}
use mathlib.Core.Bool.{Bool, true, false}
use mathlib.Core.List.{List}
use mathlib.Core.Option.{Option, none, some}
use mathlib.Core.Path.{◌≡◌, refl, sym, ap, subst}
use Rattle.std.specs.Prelude.{Result, Ok, Err}
use lib.Dec.{eqb, leb, ltb}
use lib.ListN.{length}
use borrow.Author.Tests.{ltb-false, leb-true, le-leb}
use Rattle.lists.proofs.Tests.{on_bool, clash, and_right}
use Rattle.refusal.specs.declared.Refusal.{Refusal}
use Rattle.bits.specs.Bits.{bits_of}
use Rattle.bits.proofs.Octets.{length-bits_of}
use Rattle.pagecode.specs.Field.{Octets}
use Rattle.pagecode.specs.Encode.{are_pages}
use Rattle.collector.specs.Feed as collector
use Rattle.collector.specs.Feed.{Answer, kept, ready, refused}
use Rattle.collector.specs.Image.{answer_image}
use Rattle.collector.specs.declared.state.Fed.{Fed}
use Rattle.collector.proofs.Holdings.{held_in, Counted, feed-counted}
use Rattle.image.specs.Octets.{Image}
use Rattle.image.specs.Calls.{Feeds, of, not-one}
use Rattle.drive.specs.Drive.{are_entries, replay_answer, Replays}
use Rattle.drive.proofs.Room.{log-fits}
use Rattle.mt1.specs.declared.answer.RefusalAt.{RefusalAt}
use Rattle.mt1.specs.Parse.{Outcome, got, bad}
use Rattle.mt1.specs.Message.{Message}
use Rattle.mt1.specs.Mt1.{message, Lent}
use Rattle.mt1.specs.Time.{reference_time}
use Rattle.mt1.proofs.Counts.{room-for-records}
use Rattle.mt1.proofs.Ends.{Ends, message-ends}
use Rattle.mt1.proofs.Inverted.{inverse, ok-masked, records-used}
use Rattle.reader.specs.Reader.{Call, Reads, reading_if, reading, answer_of}
use Rattle.reader.proofs.Answers.{not-pages}
use Rattle.writer.specs.Writer as writer
use Rattle.has_c.specs.Codes.{read_code, value_code, fed_code}

-- ---- the reader
outcome-few : (lent : Lent) (bs : List Bool) (o : Outcome Message) → message lent bs 0 ≡ o → length bs ≤ 13568 → Ends (length bs) o → (read_code (answer_of lent o)).value < 4294967296
outcome-few lent bs (got m end) e n h =
    let (ss, x) = (inverse lent).again bs m end e in
    let k = ok-masked lent ss m x.valid in
    let l = ap length (records-used lent ss m x.valid.used) in
    omega (arith, l, room-for-records m ss k.few k.systems)
outcome-few lent bs (bad r) e n h = omega (arith, n, h)

reading-few : (c : Call) → (read_code (answer_of c.lent (reading c))).value < 4294967296
unfolding reading
reading-few c =
    let n = length c.octets in
    let bs = bits_of c.octets in
    let long : 53 ≤ n → n ≤ 1696 → (read_code (answer_of c.lent (reading_if true c))).value < 4294967296 =
    λ a b. on_bool (eqb c.room 21808)
    (λ (e : eqb c.room 21808 ≡ true). rw e (outcome-few c.lent bs (message c.lent bs 0) refl (omega (arith, b, length-bits_of c.octets)) (message-ends c.lent bs (omega (arith, a, length-bits_of c.octets)))))
    (λ (e : eqb c.room 21808 ≡ false). rw e (omega arith)) in
    on_bool (are_pages (n / 53) n)
    (λ (e : are_pages (n / 53) n ≡ true). rw e (
    on_bool (leb 53 n)
    (λ (a : leb 53 n ≡ true). on_bool (leb n 1696)
    (λ (b : leb n 1696 ≡ true). long (leb-true 53 n a) (leb-true n 1696 b))
    (λ (b : leb n 1696 ≡ false). clash e (not-pages n (λ x y z. clash (le-leb n 1696 y) b))))
    (λ (a : leb 53 n ≡ false). clash e (not-pages n (λ x y z. clash (le-leb 53 n x) a)))))
    (λ (e : are_pages (n / 53) n ≡ false). rw e (omega arith))

pub read-few : (c : Call) (before : List ℕ) (a : Result ℕ RefusalAt) (after : List ℕ) → Reads reading c before a after → (read_code a).value < 4294967296
read-few c before a after r = subst (λ (x : Result ℕ RefusalAt). (read_code x).value < 4294967296) (sym r.answered) (reading-few c)

-- ---- the writer
size_few : (c : writer.Call) (before : List ℕ) (k : ℕ) (after : List ℕ) → writer.Writes c before (Ok k) after → (o : Option Refusal) → writer.check c ≡ o → k < 4294967296
size_few c before k after w none e =
    let (bs, x, y) = (w.judged e).size k refl in
    omega (arith, x.size.1)
size_few c before k after w (some r) e = absurd (let f = w.checks r e in let z : ◌≡◌ {A = ℕ} 0 1 = cc in let v : ⊥ = omega arith in v)

pub write-few : (c : writer.Call) (before : List ℕ) (a : Result ℕ Refusal) (after : List ℕ) → writer.Writes c before a after → (value_code a).value < 4294967296
write-few c before (Err r) after w = omega arith
write-few c before (Ok k) after w = size_few c before k after w (writer.check c) refl

-- ---- the reference time
pub time-few : (second time : ℕ) → (value_code (reference_time second time)).value < 4294967296
unfolding reference_time
time-few second time = on_bool (ltb 2477260799 second)
    (λ (e : ltb 2477260799 second ≡ true). rw e (omega arith))
    (λ (e : ltb 2477260799 second ≡ false). on_bool (ltb 3599 time)
    (λ (f : ltb 3599 time ≡ true). rw (e, f) (omega arith))
    (λ (f : ltb 3599 time ≡ false). rw (e, f) (omega (arith, ltb-false 2477260799 second e, ltb-false 3599 time f))))

-- ---- a feed
answer-few : (a : Answer) (before after : ℕ) → Counted a before after → (fed_code (answer_image a)).value < 4294967296
answer-few (kept n) before after h = omega (arith, h.0)
answer-few (ready k octets) before after h = omega (arith, h.0)
answer-few (refused r) before after h = omega arith

pub feed-few : (held : Image) (call : collector.Call) (before : List ℕ) (a : Result Fed Refusal) (next : Image) (after : List ℕ) → Octets call.page → Feeds held call before a next after → (fed_code a).value < 4294967296
feed-few held call before a next after o (of c v e d) =
    subst (λ (x : Result Fed Refusal). (fed_code x).value < 4294967296) (sym d.answer)
    (answer-few (collector.feed c call).answer (held_in c.places) (held_in (collector.feed c call).after.places) (feed-counted c call v o))
feed-few held call before a next after o (not-one n r i b) = subst (λ (x : Result Fed Refusal). (fed_code x).value < 4294967296) (sym r) (omega arith)

-- ---- a drive
log-few : (timeout : ℕ) (octets : List ℕ) (room : ℕ) → Octets octets → (value_code (replay_answer timeout octets room)).value < 4294967296
unfolding replay_answer are_entries
log-few timeout octets room o =
    let n = length octets in
    on_bool (are_entries n)
    (λ (e : are_entries n ≡ true). on_bool (eqb room (55 * (n / 64)))
    (λ (f : eqb room (55 * (n / 64)) ≡ true). on_bool (collector.startable timeout)
    (λ (g : collector.startable timeout ≡ true). rw (e, f, g) (omega (arith, log-fits timeout octets g o, leb-true n 4294967296 (and_right (eqb (n % 64) 0) (leb n 4294967296) e))))
    (λ (g : collector.startable timeout ≡ false). rw (e, f, g) (omega arith)))
    (λ (f : eqb room (55 * (n / 64)) ≡ false). rw (e, f) (omega arith)))
    (λ (e : are_entries n ≡ false). rw e (omega arith))

pub replay-few : (timeout : ℕ) (octets before : List ℕ) (a : Result ℕ Refusal) (after : List ℕ) → Octets octets → Replays timeout octets before a after → (value_code a).value < 4294967296
replay-few timeout octets before a after o r = subst (λ (x : Result ℕ Refusal). (value_code x).value < 4294967296) (sym r.answered) (log-few timeout octets (length before) o)
