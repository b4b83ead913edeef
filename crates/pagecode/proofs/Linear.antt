-- The sum is a group's, of octets an octet, and the product is additive in each factor.
-- Shift-and-add goes digit by digit, and the exclusive or is a sum of each digit.
use mathlib.Core.Path.{◌≡◌, refl, sym, ap, ap₂, ◌∙◌}
use Prim.Native.Nat.{ℕ, zero, suc, ◌*◌, ◌/◌, ◌%◌, ◌^◌, ◌<◌, suc-le-suc}
use native.Mathlib.Nat.{zero-lt-suc, mod-lt, zero-mul, one-mul, add-zero, pow-suc, div-add-mod'}
use native.Mathlib.Numerals.{add-one}
use native.Mathlib.Omega.{arith}
use lib.Bits.{bit_xor, xor_lt, xor_self, xor_comm, xor_assoc, xor_zero_r, xor_block, xor_shr, xor_mod, xor_shifted}
use lib.Arith.{lt-one}
use lib.Pow.{shr_lt}
use Rattle.pagecode.specs.Field.{◌⊕◌, ◌⊗◌, double, shift_add}

pub ⊕-comm : (a b : ℕ) → a ⊕ b ≡ b ⊕ a
unfolding ◌⊕◌
⊕-comm = xor_comm

pub ⊕-assoc : (a b c : ℕ) → (a ⊕ b) ⊕ c ≡ a ⊕ (b ⊕ c)
unfolding ◌⊕◌
⊕-assoc = xor_assoc

pub ⊕-self : (a : ℕ) → a ⊕ a ≡ 0
unfolding ◌⊕◌
⊕-self = xor_self

pub ⊕-zero : (a : ℕ) → a ⊕ 0 ≡ a
unfolding ◌⊕◌
⊕-zero = xor_zero_r

pub zero-⊕ : (a : ℕ) → 0 ⊕ a ≡ a
zero-⊕ a = ⊕-comm 0 a ∙ ⊕-zero a

pub ⊕-lt : (a b : ℕ) → a < 256 → b < 256 → a ⊕ b < 256
unfolding ◌⊕◌
⊕-lt = xor_lt 8

pub ⊕-left-comm : (a b c : ℕ) → a ⊕ (b ⊕ c) ≡ b ⊕ (a ⊕ c)
⊕-left-comm a b c = sym (⊕-assoc a b c) ∙ ap (λ (x : ℕ). x ⊕ c) (⊕-comm a b) ∙ ⊕-assoc b a c

pub ⊕-self-left : (a b : ℕ) → a ⊕ (a ⊕ b) ≡ b
⊕-self-left a b = sym (⊕-assoc a a b) ∙ ap (λ (x : ℕ). x ⊕ b) (⊕-self a) ∙ zero-⊕ b

pub ruleset ring = (⊕-assoc, ⊕-comm, ⊕-left-comm, ⊕-self, ⊕-self-left, ⊕-zero, zero-⊕)

abbrev pub Additive : (ℕ → ℕ) → Type 0
Additive f = (x y : ℕ) → f (x ⊕ y) ≡ f x ⊕ f y

pub two : (x : ℕ) → x % 2 < 2
two x = mod-lt x (zero-lt-suc 1)

-- a bit times a number
bit-l : (p q m : ℕ) → p < 2 → q < 2 → (p ⊕ q) * m ≡ p * m ⊕ q * m
bit-l zero q m h k = simp (zero-mul, zero-⊕)
bit-l (suc zero) zero m h k = simp (zero-mul, one-mul, ⊕-zero)
bit-l (suc zero) (suc zero) m h k = simp (zero-mul, one-mul, ⊕-self)
bit-l (suc zero) (suc (suc q)) m h k = absurd (omega arith)
bit-l (suc (suc p)) q m h k = absurd (omega arith)

bit-r : (p x y : ℕ) → p < 2 → p * (x ⊕ y) ≡ p * x ⊕ p * y
bit-r zero x y h = simp (zero-mul, zero-⊕)
bit-r (suc zero) x y h = simp one-mul
bit-r (suc (suc p)) x y h = absurd (omega arith)

pub ⊕-odd : (a b m : ℕ) → (a ⊕ b) % 2 * m ≡ a % 2 * m ⊕ b % 2 * m
unfolding ◌⊕◌
⊕-odd a b m = ap (λ (x : ℕ). x * m) (xor_mod a b 1) ∙ bit-l (a % 2) (b % 2) m (two a) (two b)

pub ⊕-half : (a b : ℕ) → (a ⊕ b) / 2 ≡ a / 2 ⊕ b / 2
unfolding ◌⊕◌
⊕-half a b = xor_shr a b 1

pub ⊕-twice : (a b : ℕ) → (a ⊕ b) * 2 ≡ a * 2 ⊕ b * 2
unfolding ◌⊕◌
⊕-twice a b = sym (ap₂ bit_xor (sym (add-zero (a * 2))) (sym (add-zero (b * 2))) ∙ xor_block 1 a b 0 0 (zero-lt-suc 1) (zero-lt-suc 1) ∙ add-zero (bit_xor a b * 2))

pub swap : (a b c d : ℕ) → (a ⊕ b) ⊕ (c ⊕ d) ≡ (a ⊕ c) ⊕ (b ⊕ d)
swap a b c d = simp (⊕-assoc, ⊕-left-comm)

⊕-mod : (x y : ℕ) → (x ⊕ y) % 256 ≡ x % 256 ⊕ y % 256
unfolding ◌⊕◌
⊕-mod x y = xor_mod x y 8

pub double-⊕ : Additive double
unfolding ◌⊕◌ double
double-⊕ x y =
    ap₂ ◌⊕◌ (ap (λ (n : ℕ). n % 2 * 29) (xor_shr x y 7) ∙ ⊕-odd (x / 128) (y / 128) 29) (ap (λ (n : ℕ). n % 256) (⊕-twice x y) ∙ ⊕-mod (x * 2) (y * 2))
    ∙ swap (x / 128 % 2 * 29) (y / 128 % 2 * 29) _ _

-- what `shift_add` does, with the sum shut
pub add_step : (n a b : ℕ) → shift_add (suc n) a b ≡ a % 2 * b ⊕ shift_add n (a / 2) (double b)
unfolding ◌⊕◌ shift_add
add_step n a b = refl

add-l : (n b : ℕ) → Additive (λ a. shift_add n a b)
unfolding shift_add
add-l zero b x y = sym (⊕-self 0)
add-l (suc n) b x y =
    add_step n (x ⊕ y) b
    ∙ ap₂ ◌⊕◌ (⊕-odd x y b) (ap (λ (k : ℕ). shift_add n k (double b)) (⊕-half x y) ∙ add-l n (double b) (x / 2) (y / 2))
    ∙ swap _ _ _ _ ∙ sym (ap₂ ◌⊕◌ (add_step n x b) (add_step n y b))

add_r : (n a : ℕ) → Additive (shift_add n a)
unfolding shift_add
add_r zero a x y = sym (⊕-self 0)
add_r (suc n) a x y =
    add_step n a (x ⊕ y)
    ∙ ap₂ ◌⊕◌ (bit-r (a % 2) x y (two a)) (ap (shift_add n (a / 2)) (double-⊕ x y) ∙ add_r n (a / 2) (double x) (double y))
    ∙ swap _ _ _ _ ∙ sym (ap₂ ◌⊕◌ (add_step n a x) (add_step n a y))

pub ⊗-add-l : (b x y : ℕ) → (x ⊕ y) ⊗ b ≡ x ⊗ b ⊕ y ⊗ b
unfolding ◌⊗◌
⊗-add-l b = add-l 8 (b % 256)

pub ⊗-add-r : (a x y : ℕ) → a ⊗ (x ⊕ y) ≡ a ⊗ x ⊕ a ⊗ y
unfolding ◌⊗◌
⊗-add-r a x y = ap (shift_add 8 a) (⊕-mod x y) ∙ add_r 8 a (x % 256) (y % 256)

-- ---- additive functions that agree at the powers of two below 2 ^ k agree below 2 ^ k
additive_zero : (f : ℕ → ℕ) → Additive f → f 0 ≡ 0
additive_zero f h = ap f (sym (⊕-self 0)) ∙ h 0 0 ∙ ⊕-self (f 0)

by_digits : (x : ℕ) → x ≡ x / 2 * 2 ⊕ x % 2
unfolding ◌⊕◌
by_digits x = sym (xor_shifted (x / 2) 1 (x % 2) (two x) ∙ div-add-mod' x 2)

pub agree : (k : ℕ) (f g : ℕ → ℕ) → Additive f → Additive g → ((i : ℕ) → i < k → f (2 ^ i) ≡ g (2 ^ i)) → (x : ℕ) → x < 2 ^ k → f x ≡ g x
agree zero f g hf hg e x h = ap f (lt-one h) ∙ additive_zero f hf ∙ sym (ap g (lt-one h) ∙ additive_zero g hg)
agree (suc k) f g hf hg e x h =
    ap f (by_digits x) ∙ hf (x / 2 * 2) (x % 2)
    ∙ ap₂ ◌⊕◌
    (agree k (λ y. f (y * 2)) (λ y. g (y * 2)) (λ y z. ap f (⊕-twice y z) ∙ hf (y * 2) (z * 2)) (λ y z. ap g (⊕-twice y z) ∙ hg (y * 2) (z * 2))
    (λ i l. ap f (sym (pow-suc 2 i)) ∙ e (suc i) (suc-le-suc l) ∙ ap g (pow-suc 2 i)) (x / 2) (shr_lt k 1 (rw add-one h)))
    (bit (x % 2) (two x))
    ∙ sym (ap g (by_digits x) ∙ hg (x / 2 * 2) (x % 2))
  where
    bit : (r : ℕ) → r < 2 → f r ≡ g r
    bit zero l = additive_zero f hf ∙ sym (additive_zero g hg)
    bit (suc zero) l = e 0 (zero-lt-suc k)
    bit (suc (suc r)) l = absurd (omega arith)
