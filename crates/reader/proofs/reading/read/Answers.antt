-- Octets that are not pages are refused at once; of pages, what is read is what `read_octets` reads.
use native.Mathlib.Omega.{arith}
use lib.ListN.{length}
use Rattle.reader.specs.Reader.{Call}
use Rattle.reader.proofs.Answers.{not-pages, bad-pages, reads-pages}
use Rattle.reader.proofs.reading.read.Goals as goal
use Rattle.reader.proofs.reading.read.Goals.{then-n-lt53-via-then-n-lt53, then-n-lt53-via-else-n-lt53+then-n-gt1696, then-n-lt53-via-else-n-lt53+else-n-gt1696+then-n-ne0}
use Rattle.reader.proofs.reading.read.Goals.{Start}

pub returns-then-n-lt53 : goal.returns-then-n-lt53
returns-then-n-lt53 c =
    let call : Call = record { octets = c.args.message.now; lent = record { id = c.args.mask_id; octets = c.args.mask.now }; room = length c.args.records.now } in
    let n = length c.args.message.now in
    bad-pages call c.args.records.now
    (not-pages n λ x y z. elim c.then-n-lt53.branch [
      | then-n-lt53-via-then-n-lt53 w ↦ omega arith
      | then-n-lt53-via-else-n-lt53+then-n-gt1696 w ↦ omega arith
      | then-n-lt53-via-else-n-lt53+else-n-gt1696+then-n-ne0 w ↦ w.if-n-ne0.true z
    ]) c.refuse.ensures

pub returns : goal.returns
returns c =
    let call : Call = record { octets = c.args.message.now; lent = record { id = c.args.mask_id; octets = c.args.mask.now }; room = length c.args.records.now } in
    let n = length c.args.message.now in
    reads-pages call c.args.records.now _ _ (omega (arith, c.if-n-lt53.false)) c.if-n-gt1696.false c.if-n-ne0.false
    c.read_octets.ensures
