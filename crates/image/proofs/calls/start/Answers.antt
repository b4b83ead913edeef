-- The checks in their order; behind them the head of a fresh collector is written, and zeros.
use mathlib.Core.List.{List}
use mathlib.Core.Path.{sym, ap, ◌∙◌}
use Prim.Native.Nat.{ℕ}
use lib.ListN.{replicate}
use Rattle.image.proofs.Starts.{held, start-length, start-timeout, start-good}
use Rattle.image.proofs.Lengths.{is-long, head-not, store-not}
use Rattle.image.proofs.calls.start.Goals as goal

pub returns-in_default : goal.returns-in_default
returns-in_default c =
    let i = held c.args.head.now c.args.store.now in
    start-length i c.args.timeout (head-not i c.in_default.ensures.cases)

pub returns-then-store-ne-STORE_OCTETS : goal.returns-then-store-ne-STORE_OCTETS
returns-then-store-ne-STORE_OCTETS c =
    let i = held c.args.head.now c.args.store.now in
    let octets = c.in-Some.ensures.cases in
    let s = start-length i c.args.timeout (store-not i octets.long c.if-store-ne-STORE_OCTETS.true) in
    (s.0, ap (λ (h : List ℕ). held h c.args.store.now) octets.same ∙ s.1)

pub returns-then-not-is_startable : goal.returns-then-not-is_startable
returns-then-not-is_startable c =
    let i = held c.args.head.now c.args.store.now in
    let octets = c.in-Some.ensures.cases in
    let s = start-timeout i c.args.timeout (is-long i octets.long c.if-store-ne-STORE_OCTETS.false) (sym c.is_startable.ensures ∙ c.if-not-is_startable.true) in
    (s.0, ap (λ (h : List ℕ). held h c.args.store.now) octets.same ∙ s.1)

pub returns : goal.returns
returns c =
    let i = held c.args.head.now c.args.store.now in
    let long = c.if-store-ne-STORE_OCTETS.false in
    start-good i c.args.timeout _ _ _ (is-long i c.in-Some.ensures.cases.long long)
    (sym c.is_startable.ensures ∙ c.if-not-is_startable.false)
    c.fresh_head.ensures
    c.write_head.ensures
    (c.clear_store.ensures ∙ ap (λ (n : ℕ). replicate n 0) long)
