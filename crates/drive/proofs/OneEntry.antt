-- One entry: the call that the code makes is the entry's, and what it logs is the answer to it.
-- The 64 bits of the second are the bits of its 8 octets; of the step, the answer and the buffer are those of the model.
use mathlib.Core.List.{List}
use mathlib.Core.Path.{◌≡◌, sym, ap, ap₂, ◌∙◌, subst}
use Prim.Native.Nat.{ℕ, ◌+◌, ◌-◌, ◌≤◌}
use native.Mathlib.Omega.{arith}
use lib.ListN.{length, take, drop, length-drop}
use lib.Seq.{take_all}
use Rattle.pagecode.specs.Field.{Octets}
use Rattle.bits.specs.Bits.{bits_of, value, number_at}
use Rattle.bits.proofs.Octets.{length-bits_of, bits_of-take}
use Rattle.bits.proofs.Runs.{number_fits}
use Rattle.collector.specs.declared.state.Head.{Head}
use Rattle.collector.specs.declared.state.Fed.{Fed}
use Rattle.collector.specs.declared.state.Collector.{Collector as CollectorImage}
use Rattle.std.specs.Prelude.{Result}
use Rattle.refusal.specs.declared.Refusal.{Refusal}
use Rattle.collector.specs.Feed.{Collector, Call, feed}
use Rattle.collector.specs.Valid.{Valid}
use Rattle.collector.specs.Image.{Did, Feeds}
use Rattle.collector.proofs.Keeps.{drop-octets, valid-feed}
use Rattle.collector.proofs.Holdings.{held_in, Counted, feed-counted}
use Rattle.drive.specs.Drive.{entry_of, logged}
use Rattle.drive.specs.Steps.{Appends, Small, fed_log, State, Does}
use Rattle.drive.proofs.Pieces.{fed-small, fed-logged}

module _ (c : Collector) (entry : List ℕ) where
  second_is : length entry ≡ 64 → number_at (bits_of entry) 0 64 ≡ value (bits_of (take 8 entry))
  second_is l =
      number_fits (bits_of entry) 0 64 (omega (arith, length-bits_of entry, l)) (omega arith)
      ∙ ap value (sym (bits_of-take entry 8 (omega (arith, l))))

  page-is : take (length entry - 8) (drop 8 entry) ≡ drop 8 entry
  page-is = take_all (length entry - 8) (drop 8 entry) (omega (arith, length-drop 8 entry))

  pub entry-did : {head : Head} {store before after : List ℕ} {n : ℕ} {a : Result Fed Refusal} {image : CollectorImage} → length entry ≡ 64
      → n ≡ number_at (bits_of entry) 0 64 → length before ≡ 1696 → State c head store
      → Feeds (record { head = head; store = store }) (record { second = n; page = take (length entry - 8) (drop 8 entry); room = length before }) before a image after
      → Did (feed c (entry_of entry)) before a image after
  entry-did {before = before} {after = after} {a = a} {image = image} l e g s h =
      subst (λ (x : Call). Did (feed c x) before a image after) (λ i. record { second = (e ∙ second_is l) i; page = page-is i; room = g i }) (h.did c s.valid s.image)

  module _ {before after : List ℕ} {a : Result Fed Refusal} {image : CollectorImage} (v : Valid c) (o : Octets entry) (d : Did (feed c (entry_of entry)) before a image after) where
    counted : Counted (feed c (entry_of entry)).answer (held_in c.places) (held_in (feed c (entry_of entry)).after.places)
    counted = feed-counted c (entry_of entry) v (drop-octets 8 entry o)

    same_log : fed_log a after ≡ logged (feed c (entry_of entry)).answer
    same_log = ap₂ fed_log d.answer d.buffer ∙ fed-logged (feed c (entry_of entry)).answer before _ _ counted

    pub entry-small : Small a
    entry-small = subst Small (sym d.answer) (fed-small (feed c (entry_of entry)).answer _ _ counted)

    pub entry-fits : (at room : ℕ) → at + length (logged (feed c (entry_of entry)).answer) ≤ room → at + length (fed_log a after) ≤ room
    entry-fits at room = subst (λ (l : List ℕ). at + length l ≤ room) (sym same_log)

    pub entry-logs : {log log' : List ℕ} {at end : ℕ} → Appends log at (fed_log a after) log' end
        → Does c entry log at image.head end image.store log'
    entry-logs {log} {log'} {at} {end} laid =
        record {
          state = record { valid = valid-feed c (entry_of entry) v (drop-octets 8 entry o); image = d.collector };
          appends = subst (λ (l : List ℕ). Appends log at l log' end) same_log laid;
        }
