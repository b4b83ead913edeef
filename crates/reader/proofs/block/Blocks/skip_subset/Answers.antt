-- Where its flag is 0 nothing is read; else it is the block.
use mathlib.Core.Bool.{Bool}
use mathlib.Core.Path.{refl, sym, subst, ◌∙◌}
use Rattle.bits.specs.Bits.{bits_of}
use Rattle.std.specs.Prelude.{None, Ok}
use Rattle.reader.specs.Steps.{SubsetReadIf}
use Rattle.reader.proofs.block.Blocks.skip_subset.Goals as goal

pub returns-then-not-bit_at : goal.returns-then-not-bit_at
returns-then-not-bit_at c =
    λ ss place k.
    let a = c.args in
    let f = sym c.bit_at.ensures ∙ c.if-not-bit_at.true in
    subst (λ (b : Bool). SubsetReadIf b ss (bits_of a.self.now.octets.now) a.at (Ok (record { plan = record { first = None; second = None }; end = a.at }))) (sym f) refl

pub returns : goal.returns
returns c =
    λ ss place k.
    let a = c.args in
    let f = sym c.bit_at.ensures ∙ c.if-not-bit_at.false in
    subst (λ (b9 : Bool). SubsetReadIf b9 ss (bits_of a.self.now.octets.now) a.at c.read_subset.result) (sym f) (c.read_subset.ensures ss place k)
