-- What the pages behind those that are judged are answered is what all are.
-- Each that is judged is good, or its refusal is the answer.
use Rattle.std.specs.Prelude.{◌≡◌, drop}
use Rattle.encode.specs.Pages.{pages_answer}
use Rattle.encode.proofs.Message.judge.Given as goal

abbrev pub invariant-loop-page : goal.invariant-loop-page
invariant-loop-page l = pages_answer l.self.octets.now l.self.status l.self.number l.pages ≡ pages_answer l.self.octets.now l.self.status l.self.number (drop l.page-index l.pages)
