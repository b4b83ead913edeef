-- How many bits a part takes at most: of a record, and of a system's records.
-- A part's fields have fixed widths, the IOD at most 10 bits, and a row has at most one bit for each signal; a system has so many records.
use Prim.Native.Nat.{ℕ, zero, suc, ◌*◌, ◌/◌, ◌≤◌}
use native.Mathlib.Omega.{arith}
use mathlib.Core.Bool.{Bool, true, false, ◌&&◌, cond}
use mathlib.Core.List.{List, [], ◌∷◌, ◌++◌}
use lib.ListN.{length, get_or, drop, length-append, length-take}
use Rattle.lists.proofs.Tests.{if_le}
use Rattle.bits.specs.Bits.{num, bits, bits_of}
use Rattle.bits.proofs.Values.{length-bits}
use Rattle.mt1.specs.Mt1.{iod_bits}
use Rattle.mt1.proofs.Blocks.{iod-le}
use Rattle.writer.specs.declared.part.Part.{Part}
use Rattle.writer.specs.declared.part.Part.TheVariants.{Orbit, Clock, Chosen, SubsetClock, Code, Phase, Cell}
use Rattle.writer.specs.Writer.{pair}
use Rattle.writer.specs.Rendering.{is_kind, is_chosen, is_cell, gather, row, signals_of, part_of, gathered}

-- the most bits that a part takes of a record, and of a system
abbrev weight : Part → ℕ
weight Orbit = 47
weight Clock = 13
weight Chosen = 1
weight SubsetClock = 13
weight Code = 11
weight Phase = 13
weight Cell = 16

unfoldable pub most : Part → List ℕ → ℕ
most part s = weight part * (length s / 16)

row-most : (bs : List Bool) (g : ℕ) (l : List ℕ) → length (row bs g l) ≤ length bs
unfolding row
row-most [] g l = omega arith
row-most (true ∷ bs) g l =
    let b = is_cell g l in
    let rest = row bs (suc g) (cond b (drop 16 l) l) in
    omega (arith, length-append (bits 1 (num b)) rest, length-bits 1 (num b), row-most bs (suc g) (cond b (drop 16 l) l))
row-most (false ∷ bs) g l = omega (arith, row-most bs (suc g) l)

part-weight : (part : Part) (s l : List ℕ) → length (part_of part s l) ≤ weight part
unfolding part_of
part-weight Orbit s l =
    let a = bits (iod_bits (get_or s 2 0)) (pair l 4) in
    let b = bits 13 (pair l 6) in
    let c = bits 12 (pair l 8) in
    let d = bits 12 (pair l 10) in
    if_le (is_kind 3 l) (a ++ (b ++ (c ++ d))) 47
    (omega (arith, length-append a (b ++ (c ++ d)), length-append b (c ++ d), length-append c d, length-bits (iod_bits (get_or s 2 0)) (pair l 4), length-bits 13 (pair l 6), length-bits 12 (pair l 8), length-bits 12 (pair l 10), iod-le (get_or s 2 0)))
part-weight Clock s l = if_le (is_kind 3 l) (bits 13 (pair l 12)) 13 (omega (arith, length-bits 13 (pair l 12)))
part-weight Chosen s l = if_le (is_kind 3 l) (bits 1 (num (is_chosen l))) 1 (omega (arith, length-bits 1 (num (is_chosen l))))
part-weight SubsetClock s l = if_le (is_kind 3 l && is_chosen l) (bits 13 (pair l 14)) 13 (omega (arith, length-bits 13 (pair l 14)))
part-weight Code s l = if_le (is_kind 4 l) (bits 11 (pair l 4)) 11 (omega (arith, length-bits 11 (pair l 4)))
part-weight Phase s l =
    let a = bits 11 (pair l 6) in
    let b = bits 2 (get_or l 8 0) in
    if_le (is_kind 4 l) (a ++ b) 13 (omega (arith, length-append a b, length-bits 11 (pair l 6), length-bits 2 (get_or l 8 0)))
part-weight Cell s l =
    if_le (is_kind 3 l) (row (signals_of s) 0 (drop 16 l)) 16
    (omega (arith, row-most (signals_of s) 0 (drop 16 l), length-take 16 (drop 96 (bits_of s))))

gather-most : (w n : ℕ) (f : List ℕ → List Bool) → ((l : List ℕ) → length (f l) ≤ w) → (l : List ℕ) → length (gather n f l) ≤ w * n
unfolding gather
gather-most w zero f h l = omega arith
gather-most w (suc n) f h l = omega (arith, length-append (f l) (gather n f (drop 16 l)), h l, gather-most w n f h (drop 16 l))

pub gathered-most : (part : Part) (s : List ℕ) → length (gathered part s) ≤ most part s
unfolding gathered most
gathered-most part s = gather-most (weight part) (length s / 16) (part_of part s) (part-weight part s) s
