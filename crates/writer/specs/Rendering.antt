-- How the code renders a list of records as bits, whatever its octets are: for private contracts alone. No public contract and no theorem of the demands cites it.
-- Leans on bit strings, and on the header of a list of records.
use Rattle.std.specs.Prelude.{ℕ, zero, suc, ◌+◌, ◌-◌, ◌/◌, ◌%◌, ◌≤◌, Bool, false, not, ◌&&◌, cond, List, [], ◌∷◌, ◌++◌, ◌≡◌, eqb, length, get_or, take, drop}
use Rattle.bits.specs.Bits.{num, bits, bits_of, number_at}
use Rattle.mt1.specs.Message.{has_mask}
use Rattle.mt1.specs.Mt1.{iod_bits}
use Rattle.writer.specs.declared.append.Body.{Body}
use Rattle.writer.specs.declared.part.Part.{Part}
use Rattle.writer.specs.declared.part.Part.TheVariants.{Orbit, Clock, Chosen, SubsetClock, Code, Phase, Cell}
use Rattle.writer.specs.Writer.{pair, header_of}

-- bits put behind those of a body, if they have room
pub record Appends (before after : Body) (bs : List Bool) : Type 0 where
  pub ends : before.bits + length bs ≤ 163840 → after.bits ≡ before.bits + length bs
  pub bits : before.bits + length bs ≤ 163840 → take after.bits (bits_of after.octets) ≡ take before.bits (bits_of before.octets) ++ bs
  pub room : length after.octets ≡ length before.octets

-- ---- records: of each function the list begins with a record
-- whole records, one at least, and not more than a message can have
pub record Whole (l : List ℕ) : Type 0 where
  pub some : 16 ≤ length l
  pub few : length l ≤ 21808
  pub whole : length l % 16 ≡ 0

abbrev pub is_kind : ℕ → List ℕ → Bool
is_kind k l = eqb (get_or l 0 0) k

-- what f makes of n records, each seen with what follows it
unfoldable pub gather : ℕ → (List ℕ → List Bool) → List ℕ → List Bool
gather zero f l = []
gather (suc n) f l = f l ++ gather n f (drop 16 l)

-- a satellite's subset clock is there
abbrev pub is_chosen : List ℕ → Bool
is_chosen l = not (eqb (pair l 14) 32768)

-- the record is the cell of a signal
abbrev pub is_cell : ℕ → List ℕ → Bool
is_cell g l = is_kind 4 l && eqb (get_or l 3 0) g

-- a satellite's row of the cell mask: for each masked signal, from g on, whether its cell is next
unfoldable pub row : List Bool → ℕ → List ℕ → List Bool
unfolding bits
row [] g l = []
row (b ∷ bs) g l = cond b (bits 1 (num (is_cell g l)) ++ row bs (suc g) (cond (is_cell g l) (drop 16 l) l)) (row bs (suc g) l)

-- ---- a system: the list begins with its record
abbrev pub signals_of : List ℕ → List Bool
signals_of s = take 16 (drop 96 (bits_of s))

-- the kind of record that a part is taken of
abbrev pub kind_of : Part → ℕ
kind_of Orbit = 3
kind_of Clock = 3
kind_of Chosen = 3
kind_of SubsetClock = 3
kind_of Code = 4
kind_of Phase = 4
kind_of Cell = 3

-- a satellite's orbit, behind its reference IOD
abbrev pub orbit_fields : List ℕ → List ℕ → List Bool
orbit_fields s l = bits (iod_bits (get_or s 2 0)) (pair l 4) ++ (bits 13 (pair l 6) ++ (bits 12 (pair l 8) ++ bits 12 (pair l 10)))

-- what a part takes of the record at the front of l, which is one of the system s
unfoldable pub part_of : Part → List ℕ → List ℕ → List Bool
unfolding bits bits_of row
part_of Orbit s l = cond (is_kind 3 l) (orbit_fields s l) []
part_of Clock s l = cond (is_kind 3 l) (bits 13 (pair l 12)) []
part_of Chosen s l = cond (is_kind 3 l) (bits 1 (num (is_chosen l))) []
part_of SubsetClock s l = cond (is_kind 3 l && is_chosen l) (bits 13 (pair l 14)) []
part_of Code s l = cond (is_kind 4 l) (bits 11 (pair l 4)) []
part_of Phase s l = cond (is_kind 4 l) (bits 11 (pair l 6) ++ bits 2 (get_or l 8 0)) []
part_of Cell s l = cond (is_kind 3 l) (row (signals_of s) 0 (drop 16 l)) []

unfoldable pub gathered : Part → List ℕ → List Bool
unfolding gather part_of
gathered part s = gather (length s / 16) (part_of part s) s

-- a system of the mask
unfoldable pub system_part : List ℕ → List Bool
unfolding bits bits_of number_at gathered
system_part s =
    cond (is_kind 2 s)
    (bits 4 (get_or s 2 0) ++ (bits 56 (number_at (bits_of s) 56 56) ++ (bits 1 (get_or s 3 0) ++ (cond (eqb (get_or s 3 0) 1) (gathered Cell s) [] ++ bits 3 (get_or s 4 0)))))
    []

unfoldable pub multiplier_part : List ℕ → List Bool
unfolding bits
multiplier_part s = cond (is_kind 2 s) (bits 2 (get_or s 5 0)) []

abbrev pub in_subset : List ℕ → Bool
in_subset s = is_kind 2 s && not (eqb (get_or s 6 0) 255)

unfoldable pub subset_part : List ℕ → List Bool
unfolding bits gathered
subset_part s = cond (in_subset s) (bits 4 (get_or s 2 0) ++ (bits 2 (get_or s 6 0) ++ (gathered Chosen s ++ gathered SubsetClock s))) []

-- ---- the message: the list begins with the header record, and a and b are the records of the first and of the second system
unfoldable pub header_part : List ℕ → List Bool
unfolding bits
header_part l = bits 12 (pair l 4) ++ (bits 6 (get_or l 1 0) ++ (bits 4 0 ++ (bits 5 (get_or l 2 0) ++ bits 5 (get_or l 3 0))))

unfoldable pub mask_part : List ℕ → List ℕ → List ℕ → List Bool
unfolding bits header_of system_part
mask_part l a b = cond (has_mask (header_of l)) (bits 4 (num (is_kind 2 a) + num (is_kind 2 b)) ++ (system_part a ++ (system_part b ++ bits 6 0))) []

-- the interval of the kth flag's block, if that is there
abbrev pub interval_part : List ℕ → ℕ → List Bool
interval_part l k = cond (get_or (header_of l).flags k false) (bits 4 (get_or l (5 + k) 0)) []

-- the block of the kth flag, with its interval
unfoldable pub block_part : List ℕ → ℕ → List Bool → List Bool
unfolding bits header_of
block_part l k body = cond (get_or (header_of l).flags k false) (bits 4 (get_or l (5 + k) 0) ++ body) []

abbrev pub both : Part → List ℕ → List ℕ → List Bool
both part a b = gathered part a ++ gathered part b

abbrev pub clocks_part : List ℕ → List ℕ → List Bool
clocks_part a b = multiplier_part a ++ (multiplier_part b ++ both Clock a b)

abbrev pub subsets_part : List ℕ → List ℕ → List Bool
subsets_part a b = bits 4 (num (in_subset a) + num (in_subset b)) ++ (subset_part a ++ subset_part b)

unfoldable pub rendered_of : List ℕ → List ℕ → List ℕ → List Bool
unfolding header_part mask_part block_part gathered multiplier_part bits subset_part
rendered_of l a b =
    header_part l
    ++ (mask_part l a b
    ++ (block_part l 1 (both Orbit a b)
    ++ (block_part l 2 (clocks_part a b)
    ++ (block_part l 3 (subsets_part a b)
    ++ (block_part l 4 (both Code a b)
    ++ block_part l 5 (both Phase a b))))))

-- how many octets of n records stand before the first that is a system's
unfoldable pub until_system : ℕ → List ℕ → ℕ
until_system zero l = 0
until_system (suc n) l = cond (is_kind 2 l) 0 (16 + until_system n (drop 16 l))

-- where the second system's records begin: behind the header record, a system's own record, and others that are no system's
unfoldable pub second_at : List ℕ → ℕ
unfolding until_system
second_at l = cond (eqb (length l) 16) 16 (32 + until_system (length l / 16 - 2) (drop 32 l))

unfoldable pub rendered : List ℕ → List Bool
unfolding rendered_of second_at
rendered l = rendered_of l (take (second_at l - 16) (drop 16 l)) (drop (second_at l) l)
