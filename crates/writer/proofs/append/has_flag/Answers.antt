-- The flags are the six low bits of octet 1.
use mathlib.Core.Path.{◌∙◌}
use Rattle.writer.proofs.RecordFields.{flag_at}
use Rattle.writer.proofs.append.has_flag.Goals as goal

pub returns : goal.returns
returns c =
    c.bit_at.ensures ∙ flag_at c.args.records.now c.args.k c.requires
