-- The number of a refusal is 25 or less: it fits in an octet.
-- Each case has its number in the table, and the last is 25.
use Prim.Native.Nat.{◌≤◌}
use native.Mathlib.Omega.{arith}
use Rattle.refusal.specs.Number.{number_of}
use Rattle.refusal.specs.declared.Refusal.{Refusal}
use Rattle.refusal.specs.declared.Refusal.TheVariants.{Length, Out, Second, Clock, Dummy, Stop, Status, Kind, PageNumber, Done, Repeat, Conflict, Full, Timeout, Id, Toh, Mask, Short, Count, System, Twice, NavMsg, Validity, Form, Long}

pub at_most : (r : Refusal) → number_of r ≤ 25
at_most Length = omega arith
at_most Out = omega arith
at_most Second = omega arith
at_most Clock = omega arith
at_most Dummy = omega arith
at_most Stop = omega arith
at_most Status = omega arith
at_most Kind = omega arith
at_most PageNumber = omega arith
at_most Done = omega arith
at_most Repeat = omega arith
at_most Conflict = omega arith
at_most Full = omega arith
at_most Timeout = omega arith
at_most Id = omega arith
at_most Toh = omega arith
at_most Mask = omega arith
at_most Short = omega arith
at_most Count = omega arith
at_most System = omega arith
at_most Twice = omega arith
at_most NavMsg = omega arith
at_most Validity = omega arith
at_most Form = omega arith
at_most Long = omega arith
