-- The call is the entry's, so the step is the model's, and its answer is what is logged.
use mathlib.Core.Path.{refl}
use lib.ListN.{length}
use Rattle.pagecode.specs.Field.{Octets}
use Rattle.drive.proofs.OneEntry.{entry-did, entry-small, entry-fits, entry-logs}
use Rattle.drive.proofs.logging.log_entry.Goals as goal

pub feed_in_place-fed-requires : goal.feed_in_place-fed-requires
feed_in_place-fed-requires c =
    let w = c.requires.1 in
    (w.0, w.1.state.valid, w.1.state.image)

pub push_answer-requires : goal.push_answer-requires
push_answer-requires c =
    let a = c.args in
    let w = c.requires.1 in
    let d = entry-did w.0 a.entry.now c.requires.0 c.number_at-second.ensures refl w.1.state c.feed_in_place-fed.ensures in
    let o : Octets a.entry.now = λ i. (c.type_inv.entry i).fits in (
      entry-small w.0 a.entry.now w.1.state.valid o d,
      entry-fits w.0 a.entry.now w.1.state.valid o d a.log.now.end (length a.log.now.octets.now) w.1.fits,
    )

pub returns-clause-does : goal.returns-clause-does
returns-clause-does c =
    λ m w.
    let a = c.args in
    let d = entry-did m a.entry.now c.requires.0 c.number_at-second.ensures refl w.state c.feed_in_place-fed.ensures in
    entry-logs m a.entry.now w.state.valid (λ i. (c.type_inv.entry i).fits) d c.push_answer.ensures.appends
