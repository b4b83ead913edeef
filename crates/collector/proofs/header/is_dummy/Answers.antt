-- The first 24 bits are AF3BC3 where the three octets are AF, 3B and C3, and only there.
use mathlib.Core.Path.{◌∙◌}
use Rattle.collector.proofs.Headers.{dummy-is}
use Rattle.collector.proofs.header.is_dummy.Goals as goal

pub returns : goal.returns
returns c = c.starts_with.ensures.value ∙ dummy-is c.args.page.now c.fits-page c.told-page
