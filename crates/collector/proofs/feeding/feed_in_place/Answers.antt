-- The head and the store hold the collector, so the step of `feed_head` is the step; a feed of octets keeps a collector valid.
use lib.ListN.{length}
use Rattle.collector.proofs.Steady.{state-made, fed}
use Rattle.collector.proofs.feeding.feed_in_place.Goals as goal

pub feed_head-requires : goal.feed_head-requires
feed_head-requires c =
    (c.requires.0, state-made c.requires.0 (record { head = c.args.head.now; store = c.args.store.now }) c.requires.1 c.requires.2)

pub returns : goal.returns
returns c =
    let a = c.args in
    fed (record { head = a.head.now; store = a.store.now }) (record { second = a.second; page = a.page.now; room = length a.out.now }) a.out.now
    c.feed_head.result c.feed_head.new.head c.feed_head.new.store c.feed_head.new.out c.feed_head.ensures c.requires (λ i. (c.type_inv.page i).fits)
