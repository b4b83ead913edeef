-- A collector that our own calls made from a fresh one: 01, How much each contract must say. The one definition that a contract may require.
-- Leans on the collector.
use Rattle.std.specs.Prelude.{◌≤◌, ◌<◌, ◌≡◌, true, List, [], ◌∷◌, length}
use Rattle.pagecode.specs.Field.{Octets}
use Rattle.pagecode.specs.Page.{legal}
use Rattle.lists.specs.Lists.{Every}
use Rattle.collector.specs.Lists.{Nodup}
use Rattle.collector.specs.Place.{Key, Held, Place, free, waiting, done, has_key, find, numbers, FirstIs}
use Rattle.collector.specs.Feed.{Collector}

pub record KeyOk (k : Key) : Type 0 where
  pub status : k.status ≤ 1
  pub number : k.number ≤ 31
  pub some : 1 ≤ k.size
  pub few : k.size ≤ 32

pub record PageOk (k : Key) (p : Held) : Type 0 where
  pub legal-number : legal k.size p.number ≡ true
  pub long : length p.content ≡ 53
  pub octets : Octets p.content

-- an open place holds 1 to k-1 pages with different legal numbers
pub record OpenOk (k : Key) (pages : List Held) : Type 0 where
  pub key : KeyOk k
  pub some : 1 ≤ length pages
  pub few : length pages < k.size
  pub differ : Nodup (numbers pages)
  pub each : Every (PageOk k) pages

abbrev pub PlaceOk : Place → Type 0
PlaceOk free = Unit {0}
PlaceOk (waiting k first pages) = OpenOk k pages
PlaceOk (done k first) = KeyOk k

-- no two places have one key
abbrev pub Apart : List Place → Type 0
Apart [] = Unit {0}
Apart (p ∷ ps) = ((k : Key) → has_key k p ≡ true → find k ps ≡ free) × Apart ps

pub record Valid (c : Collector) : Type 0 where
  pub least : 1 ≤ c.timeout
  pub most : c.timeout ≤ 600
  pub range : c.last ≤ 2477260799
  pub eight : length c.places ≡ 8
  pub apart : Apart c.places
  pub past : Every (FirstIs (λ first. first ≤ c.last)) c.places
  pub each : Every PlaceOk c.places
