-- The parser and `encode` are inverse to each other: 00, demand 2, of message type 1 in bits.
-- Leans on the parser, on `encode` and on which messages there are.
use Rattle.std.specs.Prelude.{ℕ, Bool, List, ◌++◌, ◌≡◌, length, drop}
use Rattle.mt1.specs.Parse.{got}
use Rattle.mt1.specs.Message.{System, Message}
use Rattle.mt1.specs.Mt1.{Lent, lent_for, message}
use Rattle.mt1.specs.Encode.{encode}
use Rattle.mt1.specs.Valid.{Ok}

-- what reads to a message, and ends there
pub record Encoding (lent : Lent) (bs : List Bool) (m : Message) (end : ℕ) (ss : List System) : Type 0 where
  pub valid : Ok (lent_for lent m.header.mask_id) ss m
  pub bits : bs ≡ encode ss m ++ drop end bs
  pub ends : end ≡ length (encode ss m)

pub record Inverse (lent : Lent) : Type 0 where
  -- what `encode` writes of a valid message reads back to it, whatever follows
  pub back : (ss : List System) (m : Message) (rest : List Bool) → Ok (lent_for lent m.header.mask_id) ss m
      → message lent (encode ss m ++ rest) 0 ≡ got m (length (encode ss m))
  -- what reads to a message is its `encode`, reserved bits and the order of the subset included
  pub again : (bs : List Bool) (m : Message) (end : ℕ) → message lent bs 0 ≡ got m end → (ss : List System) × Encoding lent bs m end ss
