-- How many bits each part of a message has at most, and that all parts together have room.
-- Lengths add; a part that is left out has no bits; a record of 16 octets has 114 bits in all parts together.
use Prim.Native.Nat.{ℕ, ◌+◌, ◌-◌, ◌≤◌}
use native.Mathlib.Omega.{arith}
use mathlib.Core.Bool.{Bool, false, cond}
use mathlib.Core.List.{List, [], ◌++◌}
use lib.Dec.{eqb}
use lib.ListN.{length, get_or, take, drop, length-append, length-take, length-drop}
use Rattle.lists.proofs.Tests.{if_le, on_bool}
use Rattle.bits.specs.Bits.{num, bits, bits_of, number_at}
use Rattle.bits.proofs.Values.{length-bits}
use Rattle.writer.specs.declared.part.Part.{Part}
use Rattle.writer.specs.declared.part.Part.TheVariants.{Orbit, Clock, Chosen, SubsetClock, Code, Phase, Cell}
use Rattle.mt1.specs.Message.{has_mask}
use Rattle.writer.specs.Writer.{pair, header_of}
use Rattle.writer.specs.Rendering.{is_kind, in_subset, gathered, system_part, multiplier_part, subset_part, header_part, mask_part, block_part, both, clocks_part, subsets_part, rendered_of, second_at, rendered}
use Rattle.writer.proofs.Weights.{most, gathered-most}

-- ---- how many bits
pub bits-few : (n v : ℕ) → length (bits n v) ≤ n
bits-few n v = omega (arith, length-bits n v)

append-few : (xs ys : List Bool) (n k : ℕ) → length xs ≤ n → length ys ≤ k → length (xs ++ ys) ≤ n + k
append-few xs ys n k h g = omega (arith, length-append xs ys, h, g)

pub multiplier-few : (s : List ℕ) → length (multiplier_part s) ≤ 2
unfolding multiplier_part
multiplier-few s = if_le (is_kind 2 s) (bits 2 (get_or s 5 0)) 2 (bits-few 2 (get_or s 5 0))

pub cells-few : (s : List ℕ) → length (cond (eqb (get_or s 3 0) 1) (gathered Cell s) []) ≤ most Cell s
cells-few s = if_le (eqb (get_or s 3 0) 1) (gathered Cell s) (most Cell s) (gathered-most Cell s)

pub system-few : (s : List ℕ) → length (system_part s) ≤ 64 + most Cell s
unfolding system_part
system-few s =
    let id = bits 4 (get_or s 2 0) in
    let masks = bits 56 (number_at (bits_of s) 56 56) in
    let flag = bits 1 (get_or s 3 0) in
    let cells = cond (eqb (get_or s 3 0) 1) (gathered Cell s) [] in
    let navigation = bits 3 (get_or s 4 0) in
    if_le (is_kind 2 s) (id ++ (masks ++ (flag ++ (cells ++ navigation)))) (64 + most Cell s)
    (omega (
      arith,
      length-append id (masks ++ (flag ++ (cells ++ navigation))),
      length-append masks (flag ++ (cells ++ navigation)),
      length-append flag (cells ++ navigation),
      length-append cells navigation,
      bits-few 4 (get_or s 2 0),
      bits-few 56 (number_at (bits_of s) 56 56),
      bits-few 1 (get_or s 3 0),
      cells-few s,
      bits-few 3 (get_or s 4 0),
    ))

pub subset-few : (s : List ℕ) → length (subset_part s) ≤ 6 + most Chosen s + most SubsetClock s
unfolding subset_part
subset-few s =
    let id = bits 4 (get_or s 2 0) in
    let multiplier = bits 2 (get_or s 6 0) in
    if_le (in_subset s) (id ++ (multiplier ++ (gathered Chosen s ++ gathered SubsetClock s))) (6 + most Chosen s + most SubsetClock s)
    (omega (
      arith,
      length-append id (multiplier ++ (gathered Chosen s ++ gathered SubsetClock s)),
      length-append multiplier (gathered Chosen s ++ gathered SubsetClock s),
      length-append (gathered Chosen s) (gathered SubsetClock s),
      bits-few 4 (get_or s 2 0),
      bits-few 2 (get_or s 6 0),
      gathered-most Chosen s,
      gathered-most SubsetClock s,
    ))

pub header-few : (l : List ℕ) → length (header_part l) ≤ 32
unfolding header_part
header-few l =
    append-few (bits 12 (pair l 4)) (bits 6 (get_or l 1 0) ++ (bits 4 0 ++ (bits 5 (get_or l 2 0) ++ bits 5 (get_or l 3 0)))) 12 20 (bits-few 12 (pair l 4))
    (append-few (bits 6 (get_or l 1 0)) (bits 4 0 ++ (bits 5 (get_or l 2 0) ++ bits 5 (get_or l 3 0))) 6 14 (bits-few 6 (get_or l 1 0))
    (append-few (bits 4 0) (bits 5 (get_or l 2 0) ++ bits 5 (get_or l 3 0)) 4 10 (bits-few 4 0)
    (append-few (bits 5 (get_or l 2 0)) (bits 5 (get_or l 3 0)) 5 5 (bits-few 5 (get_or l 2 0)) (bits-few 5 (get_or l 3 0)))))

-- of the mask, and of a block behind its interval
abbrev pub mask_most : List ℕ → List ℕ → ℕ
mask_most a b = 138 + most Cell a + most Cell b

abbrev pub both_most : Part → List ℕ → List ℕ → ℕ
both_most part a b = most part a + most part b

abbrev pub clocks_most : List ℕ → List ℕ → ℕ
clocks_most a b = 4 + both_most Clock a b

abbrev pub subsets_most : List ℕ → List ℕ → ℕ
subsets_most a b = 16 + (most Chosen a + most SubsetClock a + most Chosen b + most SubsetClock b)

pub mask-few : (l a b : List ℕ) → length (mask_part l a b) ≤ mask_most a b
unfolding mask_part
mask-few l a b =
    let count = num (is_kind 2 a) + num (is_kind 2 b) in
    if_le (has_mask (header_of l)) (bits 4 count ++ (system_part a ++ (system_part b ++ bits 6 0))) (mask_most a b)
    (omega (
      arith,
      length-append (bits 4 count) (system_part a ++ (system_part b ++ bits 6 0)),
      length-append (system_part a) (system_part b ++ bits 6 0),
      length-append (system_part b) (bits 6 0),
      bits-few 4 count,
      system-few a,
      system-few b,
      bits-few 6 0,
    ))

pub block-few : (l : List ℕ) (k : ℕ) (body : List Bool) (n : ℕ) → length body ≤ n → length (block_part l k body) ≤ 4 + n
unfolding block_part
block-few l k body n h =
    if_le (get_or (header_of l).flags k false) (bits 4 (get_or l (5 + k) 0) ++ body) (4 + n) (append-few (bits 4 (get_or l (5 + k) 0)) body 4 n (bits-few 4 (get_or l (5 + k) 0)) h)

pub both-few : (part : Part) (a b : List ℕ) → length (both part a b) ≤ both_most part a b
both-few part a b = append-few (gathered part a) (gathered part b) (most part a) (most part b) (gathered-most part a) (gathered-most part b)

pub clocks-few : (a b : List ℕ) → length (clocks_part a b) ≤ clocks_most a b
clocks-few a b =
    omega (
      arith,
      length-append (multiplier_part a) (multiplier_part b ++ both Clock a b),
      length-append (multiplier_part b) (both Clock a b),
      multiplier-few a,
      multiplier-few b,
      both-few Clock a b,
    )

pub subsets-few : (a b : List ℕ) → length (subsets_part a b) ≤ subsets_most a b
subsets-few a b =
    let count = num (in_subset a) + num (in_subset b) in
    omega (
      arith,
      length-append (bits 4 count) (subset_part a ++ subset_part b),
      length-append (subset_part a) (subset_part b),
      bits-few 4 count,
      subset-few a,
      subset-few b,
    )

-- ---- room
rendered-most : (l a b : List ℕ)
    → length (rendered_of l a b) ≤ 32 + (mask_most a b + ((4 + both_most Orbit a b) + ((4 + clocks_most a b) + ((4 + subsets_most a b) + ((4 + both_most Code a b) + (4 + both_most Phase a b))))))
unfolding rendered_of
rendered-most l a b =
    append-few (header_part l) _ 32 _ (header-few l)
    (append-few (mask_part l a b) _ (mask_most a b) _ (mask-few l a b)
    (append-few (block_part l 1 (both Orbit a b)) _ (4 + both_most Orbit a b) _ (block-few l 1 (both Orbit a b) (both_most Orbit a b) (both-few Orbit a b))
    (append-few (block_part l 2 (clocks_part a b)) _ (4 + clocks_most a b) _ (block-few l 2 (clocks_part a b) (clocks_most a b) (clocks-few a b))
    (append-few (block_part l 3 (subsets_part a b)) _ (4 + subsets_most a b) _ (block-few l 3 (subsets_part a b) (subsets_most a b) (subsets-few a b))
    (append-few (block_part l 4 (both Code a b)) (block_part l 5 (both Phase a b)) (4 + both_most Code a b) (4 + both_most Phase a b)
    (block-few l 4 (both Code a b) (both_most Code a b) (both-few Code a b))
    (block-few l 5 (both Phase a b) (both_most Phase a b) (both-few Phase a b)))))))

all_fit : (l a b : List ℕ) → length a + length b ≤ 21792 → length (rendered_of l a b) ≤ 163840
unfolding most
all_fit l a b h = omega (arith, rendered-most l a b, h)

second-least : (l : List ℕ) → 16 ≤ second_at l
unfolding second_at
second-least l = on_bool (eqb (length l) 16) (λ e. rw e (omega arith)) (λ e. rw e (omega arith))

pub rendered-few : (l : List ℕ) → length l ≤ 21808 → length (rendered l) ≤ 163840
unfolding rendered
rendered-few l h =
    let p = second_at l in
    all_fit l (take (p - 16) (drop 16 l)) (drop p l)
    (omega (arith, h, second-least l, length-take (p - 16) (drop 16 l), length-drop 16 l, length-drop p l))
