-- The reader is lent octets enough, not too many, and a buffer as long as it asks: what it answers and writes decides.
use Prim.Native.Nat.{ℕ}
use lib.ListN.{replicate, length-replicate}
use borrow.Author.Rules.{rules}
use Rattle.bits.specs.Bits.{bits_of}
use Rattle.writer.proofs.ReadBack.{Decides, reading-decides, told-refused, told-same, told-other}
use Rattle.writer.proofs.writing.reads_back.Goals as goal
use Rattle.writer.proofs.writing.reads_back.Goals.{After-read_octets}

decides : (a : After-read_octets) → Decides (record { id = a.args.mask_id; octets = a.args.mask.now }) (bits_of a.args.octets.now) a.args.records.now a.read_octets.result a.read_octets.new.records
decides a =
    reading-decides (record { id = a.args.mask_id; octets = a.args.mask.now }) a.args.octets.now (replicate 21808 0) a.args.records.now a.read_octets.result a.read_octets.new.records
    (length-replicate {A = ℕ} 21808 0)
    a.requires.0
    a.requires.1
    a.read_octets.ensures
    a.requires.2.whole

pub returns-in_default : goal.returns-in_default
returns-in_default c = told-refused (decides (goal.at.returns-in_default c).After-read_octets) c.in_default.is

pub returns-then-n-records : goal.returns-then-n-records
returns-then-n-records c = told-same (decides (goal.at.returns-then-n-records c).After-read_octets) c.in-Ok.is c.if-n-records.true c.eq.ensures

pub returns-else-n-records : goal.returns-else-n-records
returns-else-n-records c = told-other (decides (goal.at.returns-else-n-records c).After-read_octets) c.in-Ok.is c.if-n-records.false (search rules)
