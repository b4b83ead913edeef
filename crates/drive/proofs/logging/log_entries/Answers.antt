-- After i turns the code holds the collector that i entries left, and the log of these. There is room for one entry more, as 55 octets an entry are enough.
use mathlib.Core.Path.{◌≡◌, refl, sym, ap, ◌∙◌, subst}
use Prim.Native.Nat.{ℕ, ◌*◌, ◌/◌}
use native.Mathlib.Omega.{arith}
use lib.ListN.{length, drop, length-drop}
use borrow.Author.Rules.{rules}
use Rattle.std.proofs.lemmas.List.{length_push}
use Rattle.std.specs.Slice.Iter.{chunks_exact_rest, chunks_exact_size}
use Rattle.pagecode.specs.Field.{Octets}
use Rattle.drive.proofs.Appending.{appends-long}
use Rattle.drive.proofs.Entries.{Going, after, next-entry, going-none, going-roomy, going_next, going_done}
use Rattle.drive.proofs.Room.{next_fits}
use Rattle.drive.proofs.logging.log_entries.Goals as goal

pub loop-entry-init : goal.loop-entry-init
loop-entry-init c =
    let a = c.args in
    let e = c.into_iter-entry-iterator.ensures.into_iter_gives in
    let size = ap chunks_exact_size e ∙ c.chunks_exact-entry-items.ensures.size in
    let rest = ap chunks_exact_rest e ∙ c.chunks_exact-entry-items.ensures.rest in
    (omega (arith, size), tt, size, omega arith, rest, refl, refl, going-none a.head.now.timeout a.entries.now a.head.now a.store.now a.log.now c.requires.0)

pub log_entry-requires : goal.log_entry-requires
log_entry-requires c =
    let a = c.args in
    let t = a.head.now.timeout in
    let l = c.loop-entry in
    let v = l.invariant in
    let i = length l.yielded in
    let s = c.in-Some.ensures.steps in
    let long = s.1.1 ∙ v.2 in
    let n = next-entry {i = i} v.3 v.4 s.1.0 long in
    (long, (after t i a.entries.now, going-roomy n.part v.7 (length l.log.octets.now) (next_fits t i a.entries.now (length l.log.octets.now) c.requires.0.valid (λ k. (c.type_inv.entries k).fits) (v.6 ∙ c.requires.1) n.more)))

pub loop-entry-preserved : goal.loop-entry-preserved
loop-entry-preserved c =
    let a = c.args in
    let t = a.head.now.timeout in
    let l = c.loop-entry in
    let v = l.invariant in
    let i = length l.yielded in
    let s = c.in-Some.ensures.steps in
    let long = s.1.1 ∙ v.2 in
    let n = next-entry {i = i} v.3 v.4 s.1.0 long in
    let push = length_push l.yielded c.in-Some.entry in
    let o : Octets a.entries.now = λ k. (c.type_inv.entries k).fits in
    let more = n.more in
    let size = s.0 ∙ v.2 in
    let e = c.log_entry in
    let room = length l.log.octets.now in
    let roomy = going-roomy n.part v.7 room (next_fits t i a.entries.now room c.requires.0.valid o (v.6 ∙ c.requires.1) more) in (
      omega (arith, size),
      tt,
      size,
      omega (arith, push, more),
      n.left ∙ ap (λ (m : ℕ). drop (m * 64) a.entries.now) (sym push),
      e.ensures.same ∙ v.5,
      appends-long roomy.fits (e.ensures.does (after t i a.entries.now) roomy).appends ∙ v.6,
      subst (λ (m : ℕ). Going t m a.entries.now e.new.head e.new.store a.log.now e.new.log.octets.now e.new.log.end) (sym push)
          (going_next n.part v.7 (next_fits t i a.entries.now (length a.log.now) c.requires.0.valid o c.requires.1 more)
          (e.ensures.does (after t i a.entries.now) roomy)),
    )

pub returns : goal.returns
returns c =
    let a = c.args in
    let l = c.loop-entry in
    let v = l.invariant in
    let few = c.in-None.ensures.steps.1.0 in
    let left = ap length v.4 in
    let all : length l.yielded ≡ length a.entries.now / 64 = omega (arith, few, left, v.2, v.3, length-drop (length l.yielded * 64) a.entries.now) in
    let same = v.5 in
    let done = going_done all v.7 in
    search rules
