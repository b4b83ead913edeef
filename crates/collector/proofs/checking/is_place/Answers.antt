-- Each arm answers for its case; an array of 32 numbers has 32.
use mathlib.Core.Bool.{Bool, ◌&&◌}
use mathlib.Core.List.{List}
use mathlib.Core.Path.{◌≡◌, sym, ap, ◌∙◌}
use Prim.Native.Nat.{ℕ}
use lib.ListN.{length}
use borrow.Author.Rules.{rules}
use borrow.Author.Tests.{eq-eqb}
use Rattle.collector.specs.declared.state.Place.{Place}
use Rattle.collector.specs.declared.state.PlaceState.{PlaceState}
use Rattle.collector.specs.Checks.{is_rest, is_state, is_place}
use Rattle.collector.proofs.checking.is_place.Goals as goal

tested : (last : ℕ) (p : Place) (octets : List ℕ) (s : PlaceState) (b : Bool) → length p.numbers ≡ 32 → p.state ≡ s → b ≡ is_state last s p.numbers octets → b ≡ is_place last p octets
unfolding is_place
tested last p octets s b long e t = rw (eq-eqb (length p.numbers) 32 long) (t ∙ ap (λ (x : PlaceState). is_state last x p.numbers octets) (sym e))

pub returns-in-Free : goal.returns-in-Free
returns-in-Free c =
    let a = c.args in
    tested a.last a.place.now a.octets.now _ c.is_rest.result (search rules) c.in-Free.is c.is_rest.ensures

pub returns-in-Open : goal.returns-in-Open
returns-in-Open c =
    let a = c.args in
    tested a.last a.place.now a.octets.now _ c.is_open.result (search rules) c.in-Open.is c.is_open.ensures

pub returns-then-is_kept : goal.returns-then-is_kept
returns-then-is_kept c =
    let a = c.args in
    tested a.last a.place.now a.octets.now _ c.is_rest-then-is_kept.result (search rules) c.in-Done.is
    (c.is_rest-then-is_kept.ensures ∙ ap (λ (b : Bool). b && is_rest 0 a.place.now.numbers a.octets.now) c.if-is_kept.ensures)

pub returns-else-is_kept : goal.returns-else-is_kept
returns-else-is_kept c =
    let a = c.args in
    tested a.last a.place.now a.octets.now _ c.is_kept.result (search rules) c.in-Done.is
    (c.if-is_kept.false ∙ ap (λ (b : Bool). b && is_rest 0 a.place.now.numbers a.octets.now) c.if-is_kept.ensures)
