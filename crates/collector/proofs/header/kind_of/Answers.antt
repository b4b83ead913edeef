-- The type is two bits of the first octet.
use mathlib.Core.Path.{sym}
use borrow.Author.Rules.{rules}
use Rattle.collector.proofs.Headers.{kind-is}
use Rattle.collector.proofs.header.kind_of.Goals as goal

pub returns : goal.returns
returns c = sym (kind-is c.args.page.now (search rules))
