-- Two results that the contract of `replay` allows are equal, the lent buffer included.
-- The answer is one, and the buffer is told by it.
use Prim.Native.Nat.{ℕ}
use mathlib.Core.List.{List}
use mathlib.Core.Path.{◌≡◌, sym, ap, ◌∙◌}
use Rattle.std.specs.Prelude.{Result}
use Rattle.refusal.specs.declared.Refusal.{Refusal}
use Rattle.drive.specs.Drive.{log_of, replay_buffer, Replays}

pub one-replay : (timeout : ℕ) (octets before : List ℕ) (r r' : Result ℕ Refusal) (after after' : List ℕ)
    → Replays timeout octets before r after → Replays timeout octets before r' after' → (r ≡ r') × (after ≡ after')
one-replay timeout octets before r r' after after' x x' =
    let e = x.answered ∙ sym x'.answered in
    (e, x.buffer ∙ ap (λ (a : Result ℕ Refusal). replay_buffer a (log_of timeout octets) before) e ∙ sym x'.buffer)
