-- Each early return is the first check that fails, and leaves everything. Behind the clock the head and the store hold the collector ticked, so the rest is `receive`.
use mathlib.Core.List.{List}
use mathlib.Core.Path.{refl, subst}
use Prim.Native.Nat.{ℕ}
use native.Mathlib.Omega.{arith}
use Rattle.refusal.specs.declared.Refusal.TheVariants.{Length, Out, Second, Clock}
use Rattle.collector.specs.Feed.{tick, judge, received}
use Rattle.collector.specs.Steps.{Does}
use Rattle.collector.proofs.Meeting.{does_as}
use Rattle.collector.proofs.Steady.{left_as, state-last, state-holds, refuses, ticked, feed-length, feed-out, feed-second, feed-clock, feed-on}
use Rattle.collector.proofs.feeding.feed_head.Goals as goal

pub returns-in_default : goal.returns-in_default
returns-in_default c m s =
    let a = c.args in
    refuses _ Length m a.head.now a.store.now a.out.now (feed-length m _ c.in_default.ensures.cases) s.head s.store

pub returns-in_default-as_mut_array : goal.returns-in_default-as_mut_array
returns-in_default-as_mut_array c m s =
    let a = c.args in
    refuses _ Out m a.head.now a.store.now a.out.now (feed-out m _ c.in-Some.ensures.cases.long c.in_default-as_mut_array.ensures.cases) s.head s.store

pub returns-then-second-gt-LAST_SECOND : goal.returns-then-second-gt-LAST_SECOND
returns-then-second-gt-LAST_SECOND c m s =
    let a = c.args in
    let page = c.in-Some.ensures.cases in
    let out = c.in-Some-as_mut_array.ensures.cases in
    left_as out.same
    (refuses _ Second m a.head.now a.store.now a.out.now (feed-second m _ page.long out.long c.if-second-gt-LAST_SECOND.true) s.head s.store)

pub returns-then-second-head : goal.returns-then-second-head
returns-then-second-head c m s =
    let a = c.args in
    let page = c.in-Some.ensures.cases in
    let out = c.in-Some-as_mut_array.ensures.cases in
    left_as out.same
    (refuses _ Clock m a.head.now a.store.now a.out.now
    (feed-clock m _ page.long out.long c.if-second-gt-LAST_SECOND.false (omega (arith, state-last m a.head.now a.store.now s))) s.head s.store)

pub tick_places-requires : goal.tick_places-requires
tick_places-requires c =
    (c.requires.0.places, state-holds c.requires.0 c.args.head.now c.args.store.now c.requires.1)

pub receive-requires : goal.receive-requires
receive-requires c =
    let a = c.args in
    (tick a.second c.requires.0, ticked c.requires.0 a.head.now _ a.store.now c.tick_places.new.store a.second c.tick_places.new.places c.requires.1 c.if-second-head.false c.if-second-gt-LAST_SECOND.false c.tick_places.ensures refl)

pub returns : goal.returns
returns c m s =
    let a = c.args in
    let page = c.in-Some.ensures.cases in
    let out = c.in-Some-as_mut_array.ensures.cases in
    let r = c.receive in
    does_as
    (feed-on m _ page.long out.long c.if-second-gt-LAST_SECOND.false (omega (arith, state-last m a.head.now a.store.now s)))
    (subst (λ (o : List ℕ). Does (received (tick a.second m) a.second (judge a.page.now)) o r.result r.new.head r.new.store r.new.out) out.same
    (subst (λ (p : List ℕ). Does (received (tick a.second m) a.second (judge p)) c.in-Some-as_mut_array.out.now r.result r.new.head r.new.store r.new.out) page.same
    (r.ensures (tick a.second m)
    (ticked m a.head.now _ a.store.now c.tick_places.new.store a.second c.tick_places.new.places s c.if-second-head.false c.if-second-gt-LAST_SECOND.false c.tick_places.ensures refl))))
