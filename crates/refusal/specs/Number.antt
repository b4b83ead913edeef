-- The numbers of the refusals: 01, Refusal numbers. Kind is TYPE of the table.
-- Leans on nothing.
use Rattle.std.specs.Prelude.{ℕ}
use Rattle.refusal.specs.declared.Refusal.{Refusal}
use Rattle.refusal.specs.declared.Refusal.TheVariants.{Length, Out, Second, Clock, Dummy, Stop, Status, Kind, PageNumber, Done, Repeat, Conflict, Full, Timeout, Id, Toh, Mask, Short, Count, System, Twice, NavMsg, Validity, Form, Long}

abbrev pub number_of : Refusal → ℕ
number_of Length = 1
number_of Out = 2
number_of Second = 3
number_of Clock = 4
number_of Dummy = 5
number_of Stop = 6
number_of Status = 7
number_of Kind = 8
number_of PageNumber = 9
number_of Done = 10
number_of Repeat = 11
number_of Conflict = 12
number_of Full = 13
number_of Timeout = 14
number_of Id = 15
number_of Toh = 16
number_of Mask = 17
number_of Short = 18
number_of Count = 19
number_of System = 20
number_of Twice = 21
number_of NavMsg = 22
number_of Validity = 23
number_of Form = 24
number_of Long = 25
