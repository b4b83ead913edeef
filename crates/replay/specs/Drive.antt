-- An entry of a recorded drive. Only private contracts cite this file.
-- Leans on nothing.
use Rattle.std.specs.Prelude.{ℕ, ◌+◌, ◌*◌, List, get_or}

-- its second: four octets, the highest first
unfoldable pub second_of : List ℕ → ℕ
second_of entry = ((get_or entry 0 0 * 256 + get_or entry 1 0) * 256 + get_or entry 2 0) * 256 + get_or entry 3 0
