-- The reference time: 01, Records, last paragraph.
-- Leans on nothing.
use Rattle.std.specs.Prelude.{ℕ, ◌+◌, ◌*◌, ◌/◌, cond, ltb, Result, Ok, Err}
use Rattle.refusal.specs.declared.Refusal.{Refusal}
use Rattle.refusal.specs.declared.Refusal.TheVariants.{Second, Toh}

-- "reception second and time of hour; SECOND, TOH. The answer is the start of the reception hour plus the time of hour."
unfoldable pub reference_time : ℕ → ℕ → Result ℕ Refusal
reference_time second time =
    cond (ltb 2477260799 second) (Err Second)
    (cond (ltb 3599 time) (Err Toh)
    (Ok (second / 3600 * 3600 + time)))
