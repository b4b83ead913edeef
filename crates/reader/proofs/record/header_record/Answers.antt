-- The header stands first, its fields one behind another, and each block begins with its interval.
use native.Mathlib.Omega.{arith}
use mathlib.Core.Path.{ap, ◌∙◌}
use borrow.Author.Rules.{rules}
use Rattle.mt1.specs.Records.{two}
use Rattle.bits.specs.Bits.{bits_of}
use Rattle.mt1.specs.Message.{has_orbit, has_clock, has_subset, has_code, has_phase}
use Rattle.mt1.specs.Encode.{orbits_bits, clocks_bits, subsets_bits, codes_bits, phases_bits}
use Rattle.mt1.specs.Valid.{OrbitsOk, ClocksOk, SubsetsOk, CodesOk, PhasesOk}
use Rattle.reader.proofs.RowValues.{read-lt}
use Rattle.reader.proofs.FixedFields.{header_read, interval-octet}
use Rattle.reader.proofs.RecordOctets.{header-octets}
use Rattle.reader.proofs.record.header_record.Goals as goal

pub overflow_cast-flags : goal.overflow_cast-flags
overflow_cast-flags c =
    let a = c.args in
    record { fits = read-lt (bits_of a.octets.now) 12 6 8 c.number_at-flags.ensures (omega arith) }

pub overflow_cast-mask_id : goal.overflow_cast-mask_id
overflow_cast-mask_id c =
    let a = c.args in
    record { fits = read-lt (bits_of a.octets.now) 22 5 8 c.number_at-mask_id.ensures (omega arith) }

pub overflow_cast-iod_set : goal.overflow_cast-iod_set
overflow_cast-iod_set c =
    let a = c.args in
    record { fits = read-lt (bits_of a.octets.now) 27 5 8 c.number_at-iod_set.ensures (omega arith) }

pub pair-requires : goal.pair-requires
pair-requires c = read-lt (bits_of c.args.octets.now) 0 12 16 c.number_at.ensures (omega arith)

pub returns : goal.returns
returns c lent source m ss k =
    let a = c.args in
    let bs = bits_of a.octets.now in
    let h = header_read bs m.header k.ok.header k.header in
    header-octets m (c.number_at-flags.ensures ∙ h.flags) (c.number_at-mask_id.ensures ∙ h.mask_id) (c.number_at-iod_set.ensures ∙ h.iod_set)
    (search rules) (c.pair.ensures ∙ ap two (c.number_at.ensures ∙ h.time))
    (interval-octet bs (orbits_bits ss) (OrbitsOk ss) (has_orbit m.header) a.plan.orbit m.orbits k.ok.orbits k.blocks.orbit c.octet_at-orbit.ensures)
    (interval-octet bs clocks_bits (ClocksOk ss) (has_clock m.header) a.plan.clock m.clocks k.ok.clocks k.blocks.clock c.octet_at-clock.ensures)
    (interval-octet bs subsets_bits (SubsetsOk ss) (has_subset m.header) a.plan.subset m.subset k.ok.subset k.blocks.subset c.octet_at-subset.ensures)
    (interval-octet bs codes_bits (CodesOk ss) (has_code m.header) a.plan.code m.codes k.ok.codes k.blocks.code c.octet_at-code.ensures)
    (interval-octet bs phases_bits (PhasesOk ss) (has_phase m.header) a.plan.phase m.phases k.ok.phases k.blocks.phase c.octet_at-phase.ensures)
