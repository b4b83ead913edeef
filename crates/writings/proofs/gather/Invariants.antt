-- What is shown so far stands at the start of the list, and the script only grows shorter.
-- Each window is shown behind it, as far as there is room.
use Rattle.std.specs.Prelude.{◌≤◌, length}
use Rattle.writings.proofs.gather.Given as goal

abbrev pub invariant-loop : goal.invariant-loop
invariant-loop l = (l.end ≤ length l.list) × (length l.script.rest.now ≤ length l.initial.script.rest.now)
