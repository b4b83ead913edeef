-- The checks in their order; behind them the feed of the collector, whose next head is written.
use mathlib.Core.List.{List}
use mathlib.Core.Path.{sym, ap, ◌∙◌, subst}
use Prim.Native.Nat.{ℕ}
use lib.ListN.{length}
use Rattle.std.specs.Prelude.{Err}
use Rattle.refusal.specs.declared.Refusal.TheVariants.{Length, Form}
use Rattle.collector.specs.Feed.{Call}
use Rattle.image.specs.Calls.{Feeds}
use Rattle.image.specs.Reading.{head_at, Holds}
use Rattle.image.proofs.Starts.{held}
use Rattle.image.proofs.Lengths.{is-long, head-not, store-not}
use Rattle.image.proofs.Feeding.{decides_true, decides_false, feed-length, feed-form, feed-held}
use Rattle.image.proofs.calls.feed.Goals as goal

pub returns-in_default : goal.returns-in_default
returns-in_default c = feed-length _ _ _ (head-not (held c.args.head.now c.args.store.now) c.in_default.ensures.cases)

pub returns-then-store-ne-STORE_OCTETS : goal.returns-then-store-ne-STORE_OCTETS
returns-then-store-ne-STORE_OCTETS c =
    let a = c.args in
    let i = held a.head.now a.store.now in
    let call : Call = record { second = a.second; page = a.page.now; room = length a.out.now } in
    let octets = c.in-Some.ensures.cases in
    subst (λ (h : List ℕ). Feeds i call a.out.now (Err Length) (held h a.store.now) a.out.now) (sym octets.same)
    (feed-length i call a.out.now (store-not i octets.long c.if-store-ne-STORE_OCTETS.true))

pub returns-then-not-is_image : goal.returns-then-not-is_image
returns-then-not-is_image c =
    let a = c.args in
    let i = held a.head.now a.store.now in
    let call : Call = record { second = a.second; page = a.page.now; room = length a.out.now } in
    let octets = c.in-Some.ensures.cases in
    let h = c.read_head-held.result in
    let none = decides_false c.is_image.result _ c.is_image.ensures c.if-not-is_image.true in
    subst (λ (x : List ℕ). Feeds i call a.out.now (Err Form) (held x a.store.now) a.out.now) (sym octets.same)
    (feed-form i call a.out.now h (is-long i octets.long c.if-store-ne-STORE_OCTETS.false) (c.read_head-held.ensures ∙ ap head_at octets.same)
    (λ w. none (subst (λ (x : List ℕ). Holds h (held x a.store.now)) (sym octets.same) w)))

pub returns : goal.returns
returns c =
    let a = c.args in
    let call : Call = record { second = a.second; page = a.page.now; room = length a.out.now } in
    let h = c.read_head-held.result in
    let holds = decides_true c.is_image.result _ c.is_image.ensures c.if-not-is_image.false in
    feed-held (held a.head.now a.store.now) call a.out.now h c.feed_in_place-fed.new.head c.feed_in_place-fed.result _ _ _
    (subst (λ (x : List ℕ). Holds h (held x a.store.now)) c.in-Some.ensures.cases.same holds)
    c.feed_in_place-fed.ensures
    c.write_head.ensures
