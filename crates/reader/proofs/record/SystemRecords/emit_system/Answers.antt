-- The system's record first; after i turns the satellites of the first i indices are written behind it.
use mathlib.Core.Path.{◌≡◌, refl}
use Prim.Native.Nat.{◌+◌, ◌<◌}
use native.Mathlib.Omega.{arith}
use lib.ListN.{length}
use borrow.Author.Rules.{rules}
use Rattle.mt1.specs.Records.{system_record, satellite_records}
use Rattle.mt1.proofs.Counts.{length-system}
use Rattle.reader.proofs.Emitting.{wrote-start, wrote-next, wrote_le, wrote_record, wrote-system, satellite-le}
use Rattle.reader.proofs.Turns.{system-start}
use Rattle.reader.proofs.record.SystemRecords.emit_system.Goals as goal

pub system_record-r-requires : goal.system_record-r-requires
system_record-r-requires c = c.requires.2.2.near

pub loop-i-init : goal.loop-i-init
loop-i-init c =
    let a = c.args in
    (search rules, refl, λ m s e. (system-start m s (a.octet + 16), wrote-start (satellite_records m a.self.now.p s) (a.octet + 16) _))

pub emit_satellite-c-requires : goal.emit_satellite-c-requires
emit_satellite-c-requires c =
    let l = c.loop-i in
    let m = c.requires.2.0 in
    let s = c.requires.2.1 in
    let x = l.invariant.2 m s c.requires.2.2 in
    let le = wrote_le l.i 272 (satellite_records m c.args.self.now.p s) (satellite-le m c.args.self.now.p s) x.1 in
    let z : l.i < 40 = search rules in
    let n : length c.store.new.out ≡ length c.args.out.now = search rules in
    (z, omega (arith, le, l.invariant.1, n, c.requires.0, z), omega (arith, le, c.requires.1, z), (m, s, c.requires.2.2, x.0))

pub loop-i-preserved : goal.loop-i-preserved
loop-i-preserved c =
    let l = c.loop-i in
    let a = c.args in
    let n : length c.store.new.out ≡ length a.out.now = search rules in
    let z : l.i < 40 = search rules in (
      search rules,
      search rules,
      λ m s e.
          let x = l.invariant.2 m s e in
          let y = c.emit_satellite-c.ensures m s e x.0 in
          (y.0, wrote-next l.i 272 (satellite_records m a.self.now.p s) (satellite-le m a.self.now.p s) (omega (arith, n, c.requires.0, z)) x.1 (record { end = y.1; buffer = y.2 })),
    )

pub returns : goal.returns
returns c =
    let l = c.loop-i in
    let a = c.args in
    let z : l.i ≡ 40 = search rules in
    λ m s e.
    let x = rw z at (l.invariant.2 m s e) in
    let ok = e.mask.ok in
    let r = c.system_record-r.ensures m s e.mask e.rows-stand in
    let v = wrote-system m a.self.now.p s ok c.requires.0 (wrote_record (system_record m a.self.now.p s) (length-system m a.self.now.p s ok) r c.store.ensures) x.1 in
    (v.end, v.buffer)
