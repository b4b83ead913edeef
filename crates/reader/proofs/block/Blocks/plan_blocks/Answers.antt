-- Each block that is passed over is read there, by the contract of its step; the refusal of one is that of all.
-- A place behind a block is in the message, since the block's bits are.
use Prim.Native.Nat.{◌≤◌}
use native.Mathlib.Omega.{arith}
use mathlib.Core.Bool.{false}
use lib.ListN.{get_or, length}
use Rattle.bits.specs.Bits.{bits_of}
use Rattle.bits.proofs.Octets.{length-bits_of}
use Rattle.mt1.specs.Mt1.{orbits, clocks, codes, phases}
use Rattle.reader.proofs.Fields.{handed, step-bad}
use Rattle.reader.proofs.Planning.{parts-refused, flagged, bad-orbits, bad-clocks, bad-subset, bad-codes, bad-phases, orbits-passed, clocks-passed, subset-passed, codes-passed, phases-passed, planned}
use Rattle.reader.proofs.block.Blocks.plan_blocks.Goals as goal

pub returns-in_err-clock_at : goal.returns-in_err-clock_at
returns-in_err-clock_at c h own ss place fl k =
    let bs = bits_of c.args.self.now.octets.now in
    rw (handed c.from_residual.result c.from_residual.ensures.1)
    (bad-orbits h own ss bs c.args.at fl (step-bad (flagged bs 13 (orbits ss) bs c.args.at) (c.in_err-clock_at.ensures ss place k)))

pub returns-in_err-subset_at : goal.returns-in_err-subset_at
returns-in_err-subset_at c h own ss place fl k =
    let a = c.args in
    let bs = bits_of a.self.now.octets.now in
    let fits : a.at ≤ length bs = omega (arith, length-bits_of a.self.now.octets.now, c.requires.1) in
    let p = (orbits-passed k bs (omega (arith, c.requires.0)) fits (c.in_ok-clock_at.ensures ss place k)).1 in
    rw (handed c.from_residual-in_err-subset_at.result c.from_residual-in_err-subset_at.ensures.1)
    (bad-clocks h own ss bs a.at fl p.read (step-bad (flagged bs 14 (clocks ss) bs _) (c.in_err-subset_at.ensures ss place k)))

pub returns-in_err-subset : goal.returns-in_err-subset
returns-in_err-subset c h own ss place fl k =
    let a = c.args in
    let bs = bits_of a.self.now.octets.now in
    let fits : a.at ≤ length bs = omega (arith, length-bits_of a.self.now.octets.now, c.requires.1) in
    let p = (orbits-passed k bs (omega (arith, c.requires.0)) fits (c.in_ok-clock_at.ensures ss place k)).1 in
    let q = (clocks-passed k bs (omega (arith, c.requires.0)) fits (c.in_ok-clock_at.ensures ss place k) (c.in_ok-subset_at.ensures ss place k)).1 in
    rw (handed c.from_residual-in_err-subset.result c.from_residual-in_err-subset.ensures.1)
    (bad-subset h own ss bs a.at fl p.read q.read (parts-refused (get_or bs 15 false) ss bs _ (c.in_err-subset.ensures ss place k)))

pub returns-in_err-phase_at : goal.returns-in_err-phase_at
returns-in_err-phase_at c h own ss place fl k =
    let a = c.args in
    let bs = bits_of a.self.now.octets.now in
    let fits : a.at ≤ length bs = omega (arith, length-bits_of a.self.now.octets.now, c.requires.1) in
    let p = (orbits-passed k bs (omega (arith, c.requires.0)) fits (c.in_ok-clock_at.ensures ss place k)).1 in
    let q = (clocks-passed k bs (omega (arith, c.requires.0)) fits (c.in_ok-clock_at.ensures ss place k) (c.in_ok-subset_at.ensures ss place k)).1 in
    let s = (subset-passed k bs (omega (arith, c.requires.0)) fits (c.in_ok-clock_at.ensures ss place k) (c.in_ok-subset_at.ensures ss place k) _ (c.in_ok-subset.ensures ss place k)).1 in
    rw (handed c.from_residual-in_err-phase_at.result c.from_residual-in_err-phase_at.ensures.1)
    (bad-codes h own ss bs a.at fl p.read q.read s.read (step-bad (flagged bs 16 (codes ss) bs _) (c.in_err-phase_at.ensures ss place k)))

pub returns-in_err-skip_phases : goal.returns-in_err-skip_phases
returns-in_err-skip_phases c h own ss place fl k =
    let a = c.args in
    let bs = bits_of a.self.now.octets.now in
    let fits : a.at ≤ length bs = omega (arith, length-bits_of a.self.now.octets.now, c.requires.1) in
    let e1 = c.in_ok-clock_at.ensures ss place k in
    let e2 = c.in_ok-subset_at.ensures ss place k in
    let e3 = c.in_ok-subset.ensures ss place k in
    let e4 = c.in_ok-phase_at.ensures ss place k in
    let p = (orbits-passed k bs (omega (arith, c.requires.0)) fits e1).1 in
    let q = (clocks-passed k bs (omega (arith, c.requires.0)) fits e1 e2).1 in
    let s = (subset-passed k bs (omega (arith, c.requires.0)) fits e1 e2 _ e3).1 in
    let t = (codes-passed k bs (omega (arith, c.requires.0)) fits e1 e2 _ e3 e4).1 in
    rw (handed c.from_residual-in_err-skip_phases.result c.from_residual-in_err-skip_phases.ensures.1)
    (bad-phases h own ss bs a.at fl p.read q.read s.read t.read (step-bad (flagged bs 17 (phases ss) bs _) (c.in_err-skip_phases.ensures ss place k)))

pub returns : goal.returns
returns c h own ss place fl k =
    let a = c.args in
    let bs = bits_of a.self.now.octets.now in
    let fits : a.at ≤ length bs = omega (arith, length-bits_of a.self.now.octets.now, c.requires.1) in
    let e1 = c.in_ok-clock_at.ensures ss place k in
    let e2 = c.in_ok-subset_at.ensures ss place k in
    let e3 = c.in_ok-subset.ensures ss place k in
    let e4 = c.in_ok-phase_at.ensures ss place k in
    let (os, p) = orbits-passed k bs (omega (arith, c.requires.0)) fits e1 in
    let (cs, q) = clocks-passed k bs (omega (arith, c.requires.0)) fits e1 e2 in
    let (sub, s, parts) = subset-passed k bs (omega (arith, c.requires.0)) fits e1 e2 _ e3 in
    let (xs, t) = codes-passed k bs (omega (arith, c.requires.0)) fits e1 e2 _ e3 e4 in
    let (ps, u) = phases-passed k bs (omega (arith, c.requires.0)) fits e1 e2 _ e3 e4 (c.in_ok-skip_phases.ensures ss place k) in
    planned h own ss bs a.at fl os cs sub xs ps _ p q (s, parts) t u
    c.bit_at.ensures c.bit_at-2.ensures c.bit_at-3.ensures c.bit_at-4.ensures c.bit_at-5.ensures
    c.then_some.ensures c.then_some-2.ensures c.then_some-3.ensures c.then_some-4.ensures c.then_some-5.ensures
