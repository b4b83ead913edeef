-- The four octets of a number below 2^32 are those of the number that it was cut of.
use mathlib.Core.List.{List, [], ◌∷◌}
use mathlib.Core.Path.{◌≡◌, refl, ap, ◌∙◌}
use Prim.Native.Nat.{ℕ, ◌/◌, ◌%◌}
use native.Mathlib.Omega.{arith}
use lib.ListN.{get_or}
use Rattle.std.specs.Int.{w32, to_be_bytes}
use Rattle.lists.specs.Lists.{laid}
use Rattle.image.specs.Octets.{word}
use Rattle.image.proofs.octets.put_word.Goals as goal

cut : (n : ℕ) → to_be_bytes w32 (n % 4294967296) ≡ word n
cut n =
    let a : n % 4294967296 / 16777216 % 256 ≡ n / 16777216 % 256 = omega arith in
    let b : n % 4294967296 / 65536 % 256 ≡ n / 65536 % 256 = omega arith in
    let c : n % 4294967296 / 256 % 256 ≡ n / 256 % 256 = omega arith in
    let d : n % 4294967296 % 256 ≡ n % 256 = omega arith in
    rw (a, b, c, d) refl

-- the four octets by their places
named : (bytes : List ℕ) (n : ℕ) → bytes ≡ word n → get_or bytes 0 0 ∷ get_or bytes 1 0 ∷ get_or bytes 2 0 ∷ get_or bytes 3 0 ∷ [] ≡ word n
named bytes n e = rw e refl

pub returns : goal.returns
returns c =
    let a = c.args in
    c.put_octets.ensures ∙ ap (laid a.out.now a.at) (named c.to_be_bytes.result a.n (c.to_be_bytes.ensures ∙ cut a.n))
