-- The starred cases of 01, Checked by hand, over the written definitions, as one table; and document 01's listing example.
use Rattle.std.specs.Prelude.{true, false, List, [], ◌∷◌, ◌≡◌, ℕ, ◌+◌, ◌*◌, ◌<◌, get_or, set, replicate}
use Rattle.std.proofs.Math.Option.{Option, none, some}
use Rattle.pagecode.specs.Field.{◌⊗◌}
use Rattle.pagecode.specs.Page.{content, legal, Header, header_octets, header_of, is_dummy}
use Rattle.refusal.specs.declared.Refusal.TheVariants.{Dummy, Toh}
use Rattle.collector.specs.Feed.{judge, bad as bad_page}
use Rattle.bits.specs.Bits.{bits_of}
use Rattle.mt1.specs.Parse.{Outcome, got, bad, refuse}
use Rattle.mt1.specs.Message.{Header as MessageHeader, System, Message}
use Rattle.mt1.specs.Mt1.{header, used, message}
use Rattle.mt1.specs.Records.{records}

-- "Size 32, one octet of page 32 is 1, all else 0": at that place j, the octet of page p
abbrev pub octet_at : ℕ → ℕ → ℕ
octet_at j p = get_or (content 32 (set (replicate 1696 0) (31 * 53 + j) 1) p) j 0

-- "Header 446121: operational, type 1, number 3, size 2, page 33"
abbrev pub operational : Header
operational = record { status = 1; reserved = 0; kind = 1; number = 3; size = 2; page = 33 }

-- "E0F200A9: time 3599, clock full only, Mask ID 5, IOD Set 9"
abbrev pub clock_full_only : MessageHeader
clock_full_only = record { time = 3599; flags = false ∷ false ∷ true ∷ false ∷ false ∷ false ∷ []; reserved = 0; mask_id = 5; iod_set = 9 }

-- "Input 00AA0022 12 8000000000 8000 0015FFEA, then 37 octets AA"
abbrev pub listed : List ℕ
listed = 0x00 ∷ 0xAA ∷ 0x00 ∷ 0x22 ∷ 0x12 ∷ 0x80 ∷ 0 ∷ 0 ∷ 0 ∷ 0 ∷ 0x80 ∷ 0 ∷ 0x00 ∷ 0x15 ∷ 0xFF ∷ 0xEA ∷ replicate 37 0xAA

-- the records of what is read, "no mask lent"; none if it is refused
abbrev pub systems_of : Option (List System) → List System
systems_of none = []
systems_of (some ss) = ss

abbrev pub records_read : Outcome Message → List ℕ
records_read (got m end) = records (systems_of (used none m.header m.mask)) m
records_read (bad r) = []

pub record CheckedByHand : Type 0 where
  pub sixteen : 16 ⊗ 16 ≡ 29
  pub inverses : 2 ⊗ 142 ≡ 1
  pub nought : 0 ⊗ 77 ≡ 0
  pub page-32 : (j : ℕ) → j < 53 → octet_at j 32 ≡ 1
  pub page-33 : (j : ℕ) → j < 53 → octet_at j 33 ≡ 251
  pub page-34 : (j : ℕ) → j < 53 → octet_at j 34 ≡ 252
  pub page-254 : (j : ℕ) → j < 53 → octet_at j 254 ≡ 216
  pub page-255 : (j : ℕ) → j < 53 → octet_at j 255 ≡ 88
  pub header_read : header_of (0x44 ∷ 0x61 ∷ 0x21 ∷ []) ≡ operational
  pub header-written : header_octets operational ≡ 0x44 ∷ 0x61 ∷ 0x21 ∷ []
  -- "AF3BC3: DUMMY, though it would read as page 195"
  pub dummy : is_dummy (0xAF ∷ 0x3B ∷ 0xC3 ∷ []) ≡ true
  pub dummy-judged : (content : List ℕ) → judge (0xAF ∷ 0x3B ∷ 0xC3 ∷ content) ≡ bad_page Dummy
  pub dummy-page : (header_of (0xAF ∷ 0x3B ∷ 0xC3 ∷ [])).page ≡ 195
  -- "Size 1: page 2 refused, 33 legal. Size 32: 32 legal, 0 refused"
  pub size-1-page-2 : legal 1 2 ≡ false
  pub size-1-page-33 : legal 1 33 ≡ true
  pub size-32-page-32 : legal 32 32 ≡ true
  pub size-32-page-0 : legal 32 0 ≡ false
  pub message-header : header (bits_of (0xE0 ∷ 0xF2 ∷ 0x00 ∷ 0xA9 ∷ [])) 0 ≡ got clock_full_only 32
  -- "Time 3600: TOH"
  pub time-3600 : header (bits_of (0xE1 ∷ 0x02 ∷ 0x00 ∷ 0xA9 ∷ [])) 0 ≡ bad (refuse Toh 0)
  -- the listing example, which is not starred
  pub listing : records_read (message (record { id = 0; octets = [] }) (bits_of listed) 0) ≡
      0x01 ∷ 0x28 ∷ 0x01 ∷ 0x02 ∷ 0x00 ∷ 0x0A ∷ 0xFF ∷ 0x05 ∷ 0xFF ∷ 0xFF ∷ 0xFF ∷ 0x00 ∷ 0x00 ∷ 0x00 ∷ 0x00 ∷ 0x00
      ∷ 0x02 ∷ 0x00 ∷ 0x02 ∷ 0x00 ∷ 0x00 ∷ 0x01 ∷ 0xFF ∷ 0x80 ∷ 0x00 ∷ 0x00 ∷ 0x00 ∷ 0x00 ∷ 0x80 ∷ 0x00 ∷ 0x00 ∷ 0x00
      ∷ 0x03 ∷ 0x00 ∷ 0x00 ∷ 0x00 ∷ 0xFF ∷ 0xFF ∷ 0x80 ∷ 0x00 ∷ 0x80 ∷ 0x00 ∷ 0x80 ∷ 0x00 ∷ 0xFF ∷ 0xFD ∷ 0x80 ∷ 0x00
      ∷ 0x04 ∷ 0x00 ∷ 0x00 ∷ 0x00 ∷ 0x80 ∷ 0x00 ∷ 0x80 ∷ 0x00 ∷ 0xFF ∷ 0x00 ∷ 0x00 ∷ 0x00 ∷ 0x00 ∷ 0x00 ∷ 0x00 ∷ 0x00 ∷ []
