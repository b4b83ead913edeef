-- The time of hour is judged first; then the mask flag tells whose mask is used, and the blocks behind it are planned by that mask.
use Prim.Native.Nat.{◌≤◌}
use native.Mathlib.Omega.{arith}
use mathlib.Core.List.{[]}
use mathlib.Core.Option.{none, some}
use mathlib.Core.Path.{◌≡◌, sym, ap, ◌∙◌}
use lib.ListN.{length}
use Rattle.reader.proofs.Fields.{handed}
use Rattle.bits.specs.Bits.{bits_of}
use Rattle.bits.proofs.Octets.{length-bits_of}
use Rattle.mt1.specs.Parse.{got, bad}
use Rattle.mt1.specs.Message.{Header}
use Rattle.mt1.specs.Mt1.{header, mask}
use Rattle.reader.proofs.Headers.{header-bad, header-got, header_at, found, mask-refused}
use Rattle.reader.proofs.Messages.{message-bad, own-bad, own_read, none_made, none_read, lent-message}
use Rattle.reader.proofs.plan.plan_message.Goals as goal
use Rattle.reader.proofs.plan.plan_message.Goals.{Else-number_at-gt3599, Start}

long : (s : Start) → 32 ≤ length (bits_of s.args.octets.now)
long s =
    omega (arith, s.requires.1, length-bits_of s.args.octets.now)

header_read : (c : Else-number_at-gt3599) → (h : Header) × (header (bits_of c.args.octets.now) 0 ≡ got h 32)
header_read c =
    let long' : 32 ≤ length (bits_of c.args.octets.now) = omega (arith, c.requires.1, length-bits_of c.args.octets.now) in
    header-got (bits_of c.args.octets.now) long' (omega (arith, c.if-number_at-gt3599.false, c.number_at.ensures))

pub returns-then-number_at-gt3599 : goal.returns-then-number_at-gt3599
returns-then-number_at-gt3599 c =
    message-bad (record { id = c.args.mask_id; octets = c.args.mask.now }) c.args.octets.now
    (header-bad (bits_of c.args.octets.now) (long (goal.at.returns-then-number_at-gt3599 c).Start) (omega (arith, c.if-number_at-gt3599.true, c.number_at.ensures)) ∙ ap bad (sym c.refuse.ensures))

pub returns-in_err-own : goal.returns-in_err-own
returns-in_err-own c =
    let (h, e) = header_read (goal.at.returns-in_err-own c).Else-number_at-gt3599 in
    rw (handed c.from_residual.result c.from_residual.ensures.1) (own-bad (record { id = c.args.mask_id; octets = c.args.mask.now }) c.args.octets.now h e c.requires.0 (sym c.bit_at.ensures ∙ c.if-bit_at.true)
    (mask-refused (mask (bits_of c.args.octets.now) 32) 32 c.in_err-own.ensures))

pub plan_blocks-requires : goal.plan_blocks-requires
plan_blocks-requires c =
    let long' : 32 ≤ length (bits_of c.args.octets.now) = omega (arith, c.requires.1, length-bits_of c.args.octets.now) in
    let (m, w) = found (bits_of c.args.octets.now) 32 (omega arith) long' c.in_ok-own.ensures in
    (w.ahead, omega (arith, w.fits, length-bits_of c.args.octets.now))

pub invariant_of-blocks : goal.invariant_of-blocks
invariant_of-blocks c =
    let long' : 32 ≤ length (bits_of c.args.octets.now) = omega (arith, c.requires.1, length-bits_of c.args.octets.now) in
    let (m, w) = found (bits_of c.args.octets.now) 32 (omega arith) long' c.in_ok-own.ensures in
    record { short = c.requires.0; made = ∣ (m.systems, w.stands.made.0, w.stands.made.1) ∣₁ }

pub returns-then-bit_at : goal.returns-then-bit_at
returns-then-bit_at c =
    let (h, e) = header_read (goal.at.returns-then-bit_at c).Else-number_at-gt3599 in
    let long' : 32 ≤ length (bits_of c.args.octets.now) = omega (arith, c.requires.1, length-bits_of c.args.octets.now) in
    let (m, w) = found (bits_of c.args.octets.now) 32 (omega arith) long' c.in_ok-own.ensures in
    own_read (record { id = c.args.mask_id; octets = c.args.mask.now }) c.args.octets.now h e c.requires.0 m c.plan_blocks.result (sym c.bit_at.ensures ∙ c.if-bit_at.true) w
    (c.plan_blocks.ensures h (some m) m.systems w.stands.made.0 (header_at (bits_of c.args.octets.now) h e).flags w.stands.made.1)

pub returns-then-needs_mask : goal.returns-then-needs_mask
returns-then-needs_mask c =
    let (h, e) = header_read (goal.at.returns-then-needs_mask c).Else-number_at-gt3599 in
    let n = sym (c.needs_mask.ensures h (header_at (bits_of c.args.octets.now) h e).flags) ∙ c.if-needs_mask.true in
    lent-message (record { id = c.args.mask_id; octets = c.args.mask.now }) c.args.octets.now h e c.requires.0 (sym c.bit_at.ensures ∙ c.if-bit_at.false) c.plan_lent.result n (c.plan_lent.ensures h e n)

pub plan_blocks-requires-2 : goal.plan_blocks-requires-2
plan_blocks-requires-2 c =
    (omega arith, omega (arith, c.requires.1))

pub invariant_of-blocks-2 : goal.invariant_of-blocks-2
invariant_of-blocks-2 c = record { short = c.requires.0; made = ∣ ([], 0, none_made (c.no_mask.ensures 0)) ∣₁ }

pub returns : goal.returns
returns c =
    let (h, e) = header_read (goal.at.returns c).Else-number_at-gt3599 in
    let x = (header_at (bits_of c.args.octets.now) h e).flags in
    let n = sym (c.needs_mask.ensures h x) ∙ c.if-needs_mask.false in
    let k = c.no_mask.ensures 0 in
    none_read (record { id = c.args.mask_id; octets = c.args.mask.now }) c.args.octets.now h e c.requires.0 (sym c.bit_at.ensures ∙ c.if-bit_at.false) c.plan_blocks-2.result n k
    (c.plan_blocks-2.ensures h none [] 0 x (none_made k))
