-- After g turns the cells of the first g signals are written.
use mathlib.Core.Path.{◌≡◌, refl}
use Prim.Native.Nat.{◌<◌}
use native.Mathlib.Omega.{arith}
use borrow.Author.Rules.{rules}
use Rattle.mt1.specs.Records.{cell_records}
use Rattle.reader.proofs.Emitting.{wrote-start, wrote-next, wrote_le, cells-le}
use Rattle.reader.proofs.Turns.{row-start}
use Rattle.reader.proofs.record.SystemRecords.emit_cells.Goals as goal

pub loop-g-init : goal.loop-g-init
loop-g-init c =
    let a = c.args in
    (search rules, refl, λ m s e r h. (row-start s a.n a.cell a.octet h, wrote-start (cell_records m a.self.now.p s a.i) a.octet a.out.now))

pub emit_cell-c-requires : goal.emit_cell-c-requires
emit_cell-c-requires c =
    let l = c.loop-g in
    let m = c.requires.2.0 in
    let s = c.requires.2.1 in
    let x = l.invariant.2 m s c.requires.2.2 c.requires.2.3 c.requires.2.4 in
    let le = wrote_le l.g 16 (cell_records m c.args.self.now.p s c.args.i) (cells-le m c.args.self.now.p s c.args.i) x.1 in
    let z : l.g < 16 = search rules in
    (z, omega (arith, le, l.invariant.1, c.requires.0, z), omega (arith, le, c.requires.1, l.invariant.0), (m, s, c.requires.2.2, c.requires.2.3, x.0))

pub loop-g-preserved : goal.loop-g-preserved
loop-g-preserved c =
    let l = c.loop-g in
    let a = c.args in (
      search rules,
      search rules,
      λ m s e r h.
          let x = l.invariant.2 m s e r h in
          let y = c.emit_cell-c.ensures m s e r x.0 in
          (y.0, wrote-next l.g 16 (cell_records m a.self.now.p s a.i) (cells-le m a.self.now.p s a.i) (search rules) x.1 (record { end = y.1; buffer = y.2 })),
    )

pub returns : goal.returns
returns c =
    let l = c.loop-g in
    let z : l.g ≡ 16 = search rules in
    λ m s e r h.
    let x = rw z at (l.invariant.2 m s e r h) in
    (x.0, x.1.end, x.1.buffer)
