-- The Mask ID stands at its place, and the lent mask is read or is not; what is behind it is planned by it.
use native.Mathlib.Omega.{arith}
use mathlib.Core.Option.{none}
use mathlib.Core.Path.{sym, ◌∙◌}
use Rattle.bits.specs.Bits.{bits_of}
use Rattle.mt1.specs.Mt1.{mask}
use Rattle.reader.proofs.Headers.{header_at, found, mask-refused}
use Rattle.reader.proofs.Messages.{lent_other, lent-unclean, lent-clean, lent-missing, lent-read}
use Rattle.reader.proofs.plan.plan_lent.Goals as goal

pub returns-then-mask_id-number_at : goal.returns-then-mask_id-number_at
returns-then-mask_id-number_at c =
    λ h e n.
    let octets = c.args.octets.now in
    let i = c.number_at.ensures ∙ (header_at (bits_of octets) h e).mask_id in
    lent-missing (record { id = c.args.mask_id; octets = c.args.mask.now }) h n octets c.refuse.ensures (lent_other (record { id = c.args.mask_id; octets = c.args.mask.now }) h.mask_id λ q. c.if-mask_id-number_at.true (q ∙ sym i))

pub returns-in_default : goal.returns-in_default
returns-in_default c =
    λ h e n.
    let b = mask-refused (mask (bits_of c.args.mask.now) 0) 0 (sym c.in_default.is ∙ c.read_mask.ensures) in
    lent-missing (record { id = c.args.mask_id; octets = c.args.mask.now }) h n c.args.octets.now c.refuse-in_default.ensures (lent-unclean (record { id = c.args.mask_id; octets = c.args.mask.now }) h.mask_id b)

pub invariant_of-blocks : goal.invariant_of-blocks
invariant_of-blocks c =
    let (m, w) = found (bits_of c.args.mask.now) 0 (omega arith) (omega arith) (sym c.in-Ok.is ∙ c.read_mask.ensures) in
    record { short = c.requires.0; made = ∣ (m.systems, w.stands.made.0, w.stands.made.1) ∣₁ }

pub plan_blocks-requires : goal.plan_blocks-requires
plan_blocks-requires c = (omega arith, omega (arith, c.requires.1))

pub returns : goal.returns
returns c =
    λ h e n.
    let octets = c.args.octets.now in
    let x = header_at (bits_of octets) h e in
    let (m, w) = found (bits_of c.args.mask.now) 0 (omega arith) (omega arith) (sym c.in-Ok.is ∙ c.read_mask.ensures) in
    let i = c.if-mask_id-number_at.false ∙ (c.number_at.ensures ∙ x.mask_id) in
    lent-read (record { id = c.args.mask_id; octets = c.args.mask.now }) h n octets m _ c.plan_blocks.result (lent-clean (record { id = c.args.mask_id; octets = c.args.mask.now }) h.mask_id i w.read) w.stands
    (c.plan_blocks.ensures h none m.systems w.stands.made.0 x.flags w.stands.made.1)
