-- The run lies in as many octets as hold it and the bits before it in the first.
-- What stands behind it is divided away, and what stands before it is above 2 ^ n.
use mathlib.Core.Path.{◌≡◌, sym, ap, ap₂, ◌∙◌}
use Prim.Native.Nat.{ℕ, ◌+◌, ◌*◌, ◌/◌, ◌%◌, ◌^◌, ◌-◌, ◌<◌}
use native.Mathlib.Nat.{one-mul, mod-eq_of_lt}
use native.Mathlib.Omega.{arith}
use lib.ListN.{take, drop}
use lib.Pow.{pow-lt}
use Rattle.bits.specs.Bits.{value, bits_of}
use Rattle.bits.proofs.Runs.{run-number}
use Rattle.bits.proofs.run_at.Goals as goal

pub returns : goal.returns
returns c =
    let a = c.args in
    let s = a.octets.now in
    let first : ℕ = a.at / 8 in
    let before : ℕ = a.at % 8 in
    let count : ℕ = (before + a.n + 7) / 8 in
    let few : a.n < 128 = omega (arith, c.requires.0) in
    let divisor : 1 * 2 ^ a.n % 2 ^ 128 ≡ 2 ^ a.n = rw one-mul (mod-eq_of_lt (pow-lt few)) in
    let octets : first + count - first ≡ count = omega arith in
    let place : a.at ≡ 8 * first + before = omega arith in
    ap (λ (k : ℕ). c.gather-whole.result / 2 ^ k % (1 * 2 ^ a.n % 2 ^ 128)) (omega arith)
    ∙ ap₂ (λ (w d : ℕ). w / 2 ^ (8 * count - before - a.n) % d) (c.gather-whole.ensures ∙ ap (λ (k : ℕ). value (bits_of (take k (drop first s)))) octets) divisor
    ∙ sym (ap (λ (k : ℕ). value (take a.n (drop k (bits_of s)))) place ∙ run-number s first before count a.n (omega (arith, c.requires.1)) (omega arith))
