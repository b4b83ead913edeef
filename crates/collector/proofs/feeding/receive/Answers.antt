-- What is judged decides the case: a refusal, STOP, whose store is all zeros, or the page to hold.
use mathlib.Core.Path.{refl, sym, ap, ◌∙◌}
use Prim.Native.Nat.{ℕ}
use lib.ListN.{replicate}
use Rattle.std.specs.Prelude.{Ok}
use Rattle.std.proofs.lemmas.Result.{err_from_is_err_and}
use Rattle.refusal.specs.declared.Refusal.TheVariants.{Stop}
use Rattle.collector.specs.declared.header.Judged.{Judged}
use Rattle.collector.specs.Place.{free}
use Rattle.collector.specs.Feed.{judge}
use Rattle.collector.proofs.Meeting.{store_long, does_as}
use Rattle.collector.proofs.Steady.{state-last, refuses, next-head, store-none, good_of, key-of, receives-bad, receives-stop, receives-good}
use Rattle.collector.proofs.feeding.receive.Goals as goal

pub returns-in_err-judge_page : goal.returns-in_err-judge_page
returns-in_err-judge_page c m s =
    let a = c.args in
    let w = c.in_err-judge_page.field-0.0 in
    let p = err_from_is_err_and c.from_residual.result c.from_residual.ensures.1 in
    rw (p.1, p.2)
    (refuses _ w m a.head.now a.store.now a.out.now (receives-bad m a.second (judge a.page.now) w (sym c.in_err-judge_page.ensures)) s.head s.store)

pub hold_page-requires : goal.hold_page-requires
hold_page-requires c =
    let page = c.args.page.now in
    let e = sym c.in_ok-judge_page.ensures ∙ ap (λ (j : Judged). Ok j) c.in-Hold.is in
    (key-of page e, good_of page e, c.requires)

pub returns-in-Stop : goal.returns-in-Stop
returns-in-Stop c m s =
    let a = c.args in
    let e = sym c.in_ok-judge_page.ensures ∙ ap (λ (j : Judged). Ok j) c.in-Stop.is in
    refuses _ Stop (record { timeout = m.timeout; last = m.last; places = replicate 8 free }) _ c.clear_store.new.store a.out.now
    (receives-stop m a.second (judge a.page.now) e)
    (next-head m a.head.now _ a.head.now.last m.last c.free_places-head.result (replicate 8 free) s.head (state-last m a.head.now a.store.now s) c.free_places-head.ensures refl)
    (c.clear_store.ensures ∙ ap (λ (n : ℕ). replicate n 0) (store_long s) ∙ sym (store-none 8 13568 refl))

pub returns-in-Hold : goal.returns-in-Hold
returns-in-Hold c m s =
    let a = c.args in
    let e = sym c.in_ok-judge_page.ensures ∙ ap (λ (j : Judged). Ok j) c.in-Hold.is in
    does_as (receives-good m a.second a.page.now e) (c.hold_page.ensures m s)
