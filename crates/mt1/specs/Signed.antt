-- What a correction or a bias means: 01, Message type 1 ("Corrections and biases are two's complement").
-- Leans on nothing.
use Rattle.std.specs.Prelude.{ℕ, ◌*◌, cond, ltb, ℤ, pos}
use Rattle.std.proofs.Math.IntN.{sub_ℕ}

-- the number that a field means, of whose values half the number is `half`: 4096 for 13 bits, 2048 for 12, 1024 for 11, 32768 for a record's two octets
unfoldable pub signed : ℕ → ℕ → ℤ
signed half v = cond (ltb v half) (pos v) (sub_ℕ v (2 * half))
