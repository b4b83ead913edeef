-- Two results that the contract of a call allows are equal, the lent buffer included.
-- Both are codes of the answer that the call behind it gives, which is one.
use Prim.Native.Nat.{ℕ}
use native.Mathlib.Omega.{arith}
use mathlib.Core.List.{List}
use mathlib.Core.Path.{◌≡◌, sym, ap, ◌∙◌}
use Rattle.pagecode.specs.Encode.{Encoded}
use Rattle.pagecode.specs.Solve.{Solved}
use Rattle.pagecode.proofs.Settled.{one-encoding, one_solution}
use Rattle.reader.specs.Reader as reader
use Rattle.reader.proofs.Settled.{one-reading}
use Rattle.writer.specs.Writer as writer
use Rattle.writer.proofs.Settled.{one-writing}
use Rattle.collector.specs.Feed.{Call}
use Rattle.image.specs.Octets.{Image}
use Rattle.image.specs.Calls.{Feeds}
use Rattle.image.proofs.Settled.{one-feed}
use Rattle.drive.specs.Drive.{Replays}
use Rattle.drive.proofs.Settled.{one-replay}
use Rattle.has_c.specs.Codes.{Code, Is, Codes, page_code, read_code, value_code, fed_code}

-- a code is that of one number
pub one_number : (c d : Code) (r r' : ℕ) → c ≡ d → Is c r → Is d r' → r ≡ r'
one_number c d r r' e x y =
    let n = x.high ∙ ap (λ (k : Code). k.number) e ∙ sym y.high in
    let v = x.low ∙ ap (λ (k : Code). k.value) e ∙ sym y.low in
    omega (arith, n, v)

-- one result only: an answer allowed beside what is written
abbrev pub One : {A B : Type 0} → (A → B → Type 0) → (A → Code) → Type 0
One {A} {B} Allowed code = (after after' : B) (r r' : ℕ) → Codes (λ a. Allowed a after) code r → Codes (λ a. Allowed a after') code r' → (r ≡ r') × (after ≡ after')

one_code : {A B : Type 0} (Allowed : A → B → Type 0) (code : A → Code)
    → ((a a' : A) (after after' : B) → Allowed a after → Allowed a' after' → (a ≡ a') × (after ≡ after')) → One Allowed code
one_code Allowed code one after after' r r' (a, w, e) (a', w', e') =
    let (same, buffer) = one a a' after after' w w' in
    (one_number (code a) (code a') r r' (ap code same) e e', buffer)

pub one-page : (m : List ℕ) (status number page : ℕ) (before : List ℕ) → One (Encoded m status number page before) (page_code 0)
one-page m status number page before = one_code (Encoded m status number page before) (page_code 0) (one-encoding m status number page before)

pub one-solving : (contents numbers before : List ℕ) (k : ℕ) → One (Solved contents numbers before) (page_code k)
one-solving contents numbers before k = one_code (Solved contents numbers before) (page_code k) (one_solution contents numbers before)

pub one-read : (c : reader.Call) (before : List ℕ) → One (reader.Reads reader.reading c before) read_code
one-read c before = one_code (reader.Reads reader.reading c before) read_code (one-reading reader.reading c before)

pub one-write : (c : writer.Call) (before : List ℕ) → One (writer.Writes c before) value_code
one-write c before = one_code (writer.Writes c before) value_code (one-writing c before)

pub one-replaying : (timeout : ℕ) (octets before : List ℕ) → One (Replays timeout octets before) value_code
one-replaying timeout octets before = one_code (Replays timeout octets before) value_code (one-replay timeout octets before)

-- of a feed, head and store are written beside the buffer
pub one-fed : (held : Image) (call : Call) (before : List ℕ) (next next' : Image) (after after' : List ℕ) (r r' : ℕ)
    → Codes (λ a. Feeds held call before a next after) fed_code r → Codes (λ a. Feeds held call before a next' after') fed_code r' → (r ≡ r') × (next ≡ next') × (after ≡ after')
one-fed held call before next next' after after' r r' (a, w, e) (a', w', e') =
    let (same, image, buffer) = one-feed held call before a a' next next' after after' w w' in
    (one_number (fed_code a) (fed_code a') r r' (ap fed_code same) e e', image, buffer)
