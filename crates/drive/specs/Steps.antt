-- What the steps of the code do: for private contracts alone. No public contract cites it.
-- Leans on the drive, and on how the code holds a collector.
use Rattle.std.specs.Prelude.{ℕ, ◌+◌, ◌*◌, ◌≤◌, List, [], ◌∷◌, ◌≡◌, length, take, Result, Ok, Err}
use Rattle.refusal.specs.Number.{number_of}
use Rattle.lists.specs.Lists.{laid}
use Rattle.collector.specs.declared.state.Head.{Head}
use Rattle.collector.specs.declared.state.Fed.{Fed}
use Rattle.collector.specs.declared.state.Fed.TheVariants.{Kept, Ready}
use Rattle.refusal.specs.declared.Refusal.{Refusal}
use Rattle.collector.specs.Feed.{Collector, feed}
use Rattle.collector.specs.Valid.{Valid}
use Rattle.collector.specs.Image.{collector_image}
use Rattle.drive.specs.Drive.{entry_of, logged}

-- the log from a place on, laid over what stood there, and where it then ends
pub record Appends (before : List ℕ) (at : ℕ) (octets after : List ℕ) (end : ℕ) : Type 0 where
  pub log : after ≡ laid before at octets
  pub ends : end ≡ at + length octets

-- an answer as the code has it: its number fits in an octet, and its message in a buffer of 1,696
abbrev pub Small : Result Fed Refusal → Type 0
Small (Ok (Kept n)) = n ≤ 31
Small (Ok (Ready k)) = k ≤ 32
Small (Err r) = Unit {0}

-- its log, the message being in the front of a buffer
abbrev pub fed_log : Result Fed Refusal → List ℕ → List ℕ
fed_log (Ok (Kept n)) out = 1 ∷ n ∷ []
fed_log (Ok (Ready k)) out = 2 ∷ k ∷ take (k * 53) out
fed_log (Err r) out = 3 ∷ number_of r ∷ []

-- a head and a store that hold c
pub record State (c : Collector) (head : Head) (store : List ℕ) : Type 0 where
  pub valid : Valid c
  pub image : record { head = head; store = store } ≡ collector_image c

-- from `at` on there is room for what an entry logs
pub record Roomy (c : Collector) (head : Head) (store entry : List ℕ) (at room : ℕ) : Type 0 where
  pub state : State c head store
  pub fits : at + length (logged (feed c (entry_of entry)).answer) ≤ room

-- an entry is fed to c, and its answer logged
pub record Does (c : Collector) (entry before : List ℕ) (at : ℕ) (head : Head) (end : ℕ) (store after : List ℕ) : Type 0 where
  pub state : State (feed c (entry_of entry)).after head store
  pub appends : Appends before at (logged (feed c (entry_of entry)).answer) after end
