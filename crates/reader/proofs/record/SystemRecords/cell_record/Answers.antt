-- The code, the bias and the discontinuity stand where the nth cell's do.
use Prim.Native.Nat.{◌*◌}
use borrow.Author.Rules.{rules}
use Rattle.bits.specs.Bits.{bits_of}
use Rattle.mt1.specs.Records.{part, signed_or, of_system}
use Rattle.reader.proofs.RowValues.{onwards-from, onwards-within}
use Rattle.reader.proofs.RowFields.{code_here, phase-here}
use Rattle.reader.proofs.RecordOctets.{one-octet, two-octets, cell-octets}
use Rattle.reader.proofs.record.SystemRecords.cell_record.Goals as goal

pub onward-requires-2 : goal.onward-requires-2
onward-requires-2 c =
    let a = c.args in
    (onwards-within a.self.now.rows.phase (a.n * 13) 163840 200000 c.onward-phase.ensures c.requires.0.phase (search rules), search rules)

pub returns : goal.returns
returns c m s r h =
    let a = c.args in
    let n = a.n in
    let bs = bits_of a.self.now.octets.now in
    let f = phase-here bs m a.self.now.p s a.self.now.rows r n h in
    let phase = c.onward-phase.ensures in
    cell-octets m a.self.now.p a.i a.g n
    (two-octets bs 11 (of_system m.codes a.self.now.p n) c.onward.ensures (code_here bs m a.self.now.p s a.self.now.rows r n h) (signed_or 1024) (search rules) c.signed_at.ensures)
    (two-octets bs 11 (part (λ x. x.bias) (of_system m.phases a.self.now.p n)) phase f.bias (signed_or 1024) (search rules) c.signed_at-2.ensures)
    (one-octet bs 2 (part (λ x. x.discontinuity) (of_system m.phases a.self.now.p n)) (onwards-from 11 phase c.onward-2.ensures) f.discontinuity c.octet_at-discontinuity.ensures)
