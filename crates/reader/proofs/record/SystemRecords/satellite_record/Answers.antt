-- The orbit's fields and the clock stand where the nth satellite's do, the subset clock where `subset_clock_at-chosen` says.
use Prim.Native.Nat.{◌+◌, ◌*◌, ◌<◌}
use native.Mathlib.Omega.{arith}
use mathlib.Core.Path.{refl}
use borrow.Author.Rules.{rules}
use Rattle.bits.specs.Bits.{bits_of}
use Rattle.mt1.specs.Message.{count}
use Rattle.mt1.specs.Records.{part, body, iod_or, signed_or, of_system, subset_of, subset_clock}
use Rattle.reader.proofs.RowValues.{within-more, onwards-from, onwards-within}
use Rattle.reader.specs.Recording.{Within}
use Rattle.reader.proofs.RowFields.{orbit-room, orbit-here, clock-here}
use Rattle.reader.proofs.SubsetClocks.{clock-below}
use Rattle.reader.proofs.RecordOctets.{two-octets, satellite-octets}
use Rattle.reader.proofs.record.SystemRecords.satellite_record.Goals as goal
use Rattle.reader.proofs.record.SystemRecords.satellite_record.Goals.{After-onward-orbit}

pub overflow_mul-n : goal.overflow_mul-n
overflow_mul-n c =
    record { fits = omega (arith, orbit-room c.args.n c.args.self.now.rows.iod (search rules) (search rules)) }

pub onward-orbit-requires : goal.onward-orbit-requires
onward-orbit-requires c =
    let o = orbit-room c.args.n c.args.self.now.rows.iod (search rules) (search rules) in
    (within-more c.args.self.now.rows.orbit 163840 200000 c.requires.0.orbit (omega arith), omega (arith, o))

-- the orbit's place
near : (c : After-onward-orbit) → Within 200000 c.onward-orbit.result
near c =
    let w = c.args.self.now.rows.iod in
    onwards-within c.args.self.now.rows.orbit (c.args.n * (w + 37)) 163840 200000 c.onward-orbit.ensures c.requires.0.orbit (omega (arith, orbit-room c.args.n w (search rules) (search rules)))

pub onward-requires : goal.onward-requires
onward-requires c = (near (goal.at.onward-requires c).After-onward-orbit, search rules)

pub onward-requires-2 : goal.onward-requires-2
onward-requires-2 c = (near (goal.at.onward-requires-2 c).After-onward-orbit, search rules)

pub onward-requires-3 : goal.onward-requires-3
onward-requires-3 c = (near (goal.at.onward-requires-3 c).After-onward-orbit, search rules)

pub subset_clock_at-chosen-requires : goal.subset_clock_at-chosen-requires
subset_clock_at-chosen-requires c =
    (within-more c.args.self.now.rows.part 163840 200000 c.requires.0.part (omega arith), c.requires.1, c.requires.2, c.requires.3)

pub returns : goal.returns
returns c m s r e f =
    let a = c.args in
    let bs = bits_of a.self.now.octets.now in
    let n = a.n in
    let w = a.self.now.rows.iod in
    let o = of_system m.orbits a.self.now.p n in
    let u = subset_of m.subset s.id in
    let h : n < count s.satellites = omega (arith, e, c.requires.2) in
    let v = orbit-here bs m a.self.now.p s a.self.now.rows r n h in
    let k = c.onward-orbit.ensures in
    let d = c.subset_clock_at-chosen.ensures u r.part (rw e r.part_ok) f in
    let g = clock-below (count s.satellites) n u r.part_ok in
    satellite-octets m a.self.now.p s a.i n
    (two-octets bs w (part (λ x. x.iod) o) k v.iod iod_or (search rules) c.iod_at.ensures)
    (two-octets bs 13 (part (λ x. x.radial) o) (onwards-from w k c.onward.ensures) v.radial (signed_or 4096) (search rules) c.signed_at.ensures)
    (two-octets bs 12 (part (λ x. x.in_track) o) (onwards-from (w + 13) k c.onward-2.ensures) v.in_track (signed_or 2048) (search rules) c.signed_at-2.ensures)
    (two-octets bs 12 (part (λ x. x.cross_track) o) (onwards-from (w + 25) k c.onward-3.ensures) v.cross_track (signed_or 2048) (search rules) c.signed_at-3.ensures)
    (two-octets bs 13 (of_system (body (λ x. x.clocks) m.clocks) a.self.now.p n) c.onward-4.ensures (clock-here bs m a.self.now.p s a.self.now.rows r n h) (signed_or 4096) (search rules) c.signed_at-4.ensures)
    (two-octets bs 13 (subset_clock u n) refl (d, g) (signed_or 4096) (search rules) c.signed_at-5.ensures)
