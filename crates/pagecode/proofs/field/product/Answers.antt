-- Each turn moves one summand of `shift_add` into the sum.
-- The lowest bit of a without its first i bits is bit i, and the half of that is a without one more.
use mathlib.Core.Path.{◌≡◌, sym, ap, ap₂, ◌∙◌}
use Prim.Native.Nat.{ℕ, suc, ◌+◌, ◌-◌, ◌*◌, ◌/◌, ◌%◌, ◌^◌, ◌<◌}
use native.Mathlib.Omega.{arith}
use lib.Pow.{shr-shr}
use borrow.Author.Rules.{rules}
use Rattle.pagecode.specs.Field.{◌⊕◌, ◌⊗◌, double, shift_add}
use Rattle.pagecode.proofs.Linear.{add_step, ⊕-assoc, ⊕-zero, zero-⊕}
use Rattle.pagecode.proofs.field.product.Goals as goal

summand : (a turn i : ℕ) → i < 8 → shift_add (8 - i) (a / 2 ^ i) turn ≡ a / 2 ^ i % 2 * turn ⊕ shift_add (8 - (i + 1)) (a / 2 ^ (i + 1)) (double turn)
summand a turn i h =
    let left : 8 - i ≡ suc (8 - (i + 1)) = omega arith in
    ap (λ (n : ℕ). shift_add n (a / 2 ^ i) turn) left
    ∙ add_step (8 - (i + 1)) (a / 2 ^ i) turn
    ∙ ap (λ (x : ℕ). a / 2 ^ i % 2 * turn ⊕ shift_add (8 - (i + 1)) x (double turn)) (shr-shr a i 1)

-- a turn adds what bit i chooses, and the next doubling is twice the last one
next : (a b total turn i x y : ℕ) → i < 8 → x ≡ a / 2 ^ i % 2 * turn → y ≡ double turn → total ⊕ shift_add (8 - i) (a / 2 ^ i) turn ≡ a ⊗ b
    → (total ⊕ x) ⊕ shift_add (8 - (i + 1)) (a / 2 ^ (i + 1)) y ≡ a ⊗ b
next a b total turn i x y h chosen twice e =
    rw chosen (rw twice (⊕-assoc total _ _ ∙ ap (λ (s : ℕ). total ⊕ s) (sym (summand a turn i h)) ∙ e))

pub loop-bit-init : goal.loop-bit-init
unfolding ◌⊗◌
loop-bit-init c =
    let whole : c.args.a / 2 ^ 0 ≡ c.args.a = omega arith in
    let octet : c.args.b ≡ c.args.b % 256 = omega (arith, c.ranges) in
    zero-⊕ _ ∙ ap₂ (shift_add 8) whole octet

pub loop-bit-preserved : goal.loop-bit-preserved
unfolding ◌⊕◌
loop-bit-preserved c =
    let l = c.loop-bit in
    next c.args.a c.args.b l.total l.turn l.bit _ _ c.loop-bit-test.true (search rules) c.doubled-turn.ensures l.invariant

pub returns : goal.returns
unfolding shift_add
returns c =
    let l = c.loop-bit in
    let all : 8 - l.bit ≡ 0 = omega (arith, c.loop-bit-test.false) in
    sym (⊕-zero l.total) ∙ ap (λ (n : ℕ). l.total ⊕ shift_add n (c.args.a / 2 ^ l.bit) l.turn) (sym all) ∙ l.invariant
