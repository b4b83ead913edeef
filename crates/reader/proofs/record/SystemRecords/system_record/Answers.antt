-- The ID and the flag are octets, the multipliers stand where the rows say, and each mask is a number, whose octets are those of the mask.
use mathlib.Core.Path.{refl, ap, ◌∙◌}
use Rattle.std.specs.Int.{w64, to_be_bytes}
use Rattle.bits.specs.Bits.{bits_of}
use Rattle.mt1.specs.Message.{count}
use Rattle.mt1.specs.Records.{two, part, multiplier_of, subset_of}
use Rattle.reader.proofs.SubsetClocks.{multiplier-here}
use Rattle.reader.proofs.FixedFields.{forty, sixteen, system-reads}
use Rattle.reader.proofs.RecordOctets.{one-octet, system-octets}
use Rattle.reader.proofs.RowValues.{read-lt}
use Prim.Native.Nat.{◌+◌}
use native.Mathlib.Omega.{arith}
use Rattle.reader.proofs.record.SystemRecords.system_record.Goals as goal

pub returns : goal.returns
returns c m s t r =
    let a = c.args in
    let bs = bits_of a.self.now.octets.now in
    let u = subset_of m.subset s.id in
    let k = system-reads (bits_of a.self.now.source.now) s a.self.now.system t in
    system-octets m a.self.now.p s (c.low-id.ensures ∙ k.id) (c.from-flag.ensures ∙ k.flag) k.navigation
    (one-octet bs 2 (multiplier_of m.clocks a.self.now.p) refl (r.multiplier, r.multiplier_ok) c.octet_at-multiplier.ensures)
    (one-octet bs 2 (part (λ x. x.multiplier) u) refl (multiplier-here bs a.self.now.rows.part (count s.satellites) u r.part_ok r.part) c.octet_at-subset.ensures)
    (forty s.satellites t.ok.satellites (c.to_be_bytes.ensures ∙ ap (to_be_bytes w64) (c.number_at.ensures ∙ k.satellites)))
    (sixteen s.signals t.ok.signals (c.pair.ensures ∙ ap two (c.number_at-2.ensures ∙ k.signals)))

pub pair-requires : goal.pair-requires
pair-requires c = let a = c.args in read-lt (bits_of a.self.now.source.now) (a.self.now.system.place + 40) 16 16 c.number_at-2.ensures (omega arith)
