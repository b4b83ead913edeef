-- Each field of the key is that of the header.
use borrow.Author.Rules.{rules}
use Rattle.pagecode.specs.Field.{Octets}
use Rattle.collector.proofs.Headers.{status-is, number_is, size_is}
use Rattle.collector.proofs.header.key_of.Goals as goal

pub returns : goal.returns
returns c =
    let page = c.args.page.now in
    let o : Octets page = search rules in
    simp (status-is page o, number_is page o, size_is page o)
