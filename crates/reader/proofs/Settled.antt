-- Two results that the contract of `read` allows, or that of `read_octets`, are equal, the lent buffer included.
-- Both are those of the same reading.
use mathlib.Core.List.{List}
use mathlib.Core.Path.{◌≡◌, sym, ◌∙◌}
use Prim.Native.Nat.{ℕ}
use Rattle.mt1.specs.Parse.{Outcome}
use Rattle.mt1.specs.Message.{Message}
use Rattle.std.specs.Prelude.{Result}
use Rattle.mt1.specs.declared.answer.RefusalAt.{RefusalAt}
use Rattle.reader.specs.Reader.{Call, Reads}

pub one-reading : (how : Call → Outcome Message) (c : Call) (before : List ℕ) (a a' : Result ℕ RefusalAt) (after after' : List ℕ) → Reads how c before a after → Reads how c before a' after'
    → (a ≡ a') × (after ≡ after')
one-reading how c before a a' after after' r r' = (r.answered ∙ sym r'.answered, r.buffer ∙ sym r'.buffer)
