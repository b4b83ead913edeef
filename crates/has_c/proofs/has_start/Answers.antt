-- The code is that of the answer, and the octets are those of the call behind it.
use mathlib.Core.Path.{subst}
use Rattle.pagecode.specs.Answer.{Answer}
use Rattle.has_c.specs.Codes.{Is, page_code}
use Rattle.has_c.proofs.has_start.Goals as goal

pub returns : goal.returns
returns c =
    let s = c.start in
    (subst (λ (a : Answer). Is (page_code 0 a) c.page_code.result) s.ensures.0 c.page_code.ensures, s.ensures.1)
