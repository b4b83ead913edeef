-- After the octets that are read, `whole` is the number of their bits.
-- Each multiplies it by 256 and is added; there are at most nine, so the number fits.
use mathlib.Core.Path.{refl, sym, ap, ◌∙◌}
use Prim.Native.Nat.{ℕ, ◌+◌, ◌*◌}
use native.Mathlib.Omega.{arith}
use lib.Seq.{take_all}
use borrow.Author.Rules.{rules}
use Rattle.bits.specs.Bits.{value, bits_of}
use Rattle.bits.proofs.Runs.{run-octet, run-room}
use Rattle.bits.proofs.gather.Goals as goal

pub loop-octet-init : goal.loop-octet-init
unfolding value bits_of
loop-octet-init c = refl

pub overflow_mul-whole : goal.overflow_mul-whole
overflow_mul-whole c =
    let l = c.loop-octet in
    record { fits = omega (arith, l.invariant, run-room c.args.octets.now l.octet-index 64 (search rules)) }

pub overflow_add-whole : goal.overflow_add-whole
overflow_add-whole c =
    let l = c.loop-octet in
    record { fits = omega (arith, l.invariant, run-room c.args.octets.now l.octet-index 64 (search rules), c.from.ensures, (c.type_inv.octets l.octet-index).fits) }

pub loop-octet-preserved : goal.loop-octet-preserved
loop-octet-preserved c =
    let l = c.loop-octet in
    let s = c.args.octets.now in
    ap (λ (v : ℕ). v * 256 + c.from.result) l.invariant ∙ sym (run-octet s l.octet-index c.from.result (search rules) c.from.ensures (search rules))

pub returns : goal.returns
returns c =
    let l = c.loop-octet in
    let s = c.args.octets.now in
    l.invariant ∙ ap (λ (t : _). value (bits_of t)) (take_all l.octet-index s (search rules))
