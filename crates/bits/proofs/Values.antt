-- A number's bits and the number that bits are: each undoes the other; a run of a number's bits is a part of the number.
-- By induction on the bits: the first of n + 1 bits weighs 2 ^ n, and what the others are is below that.
use mathlib.Core.Path.{◌≡◌, refl, sym, ap, ap₂, ◌∙◌}
use mathlib.Core.Bool.{Bool, true, false}
use mathlib.Core.List.{List, [], ◌∷◌, ◌++◌}
use Prim.Native.Nat.{ℕ, zero, suc, ◌+◌, ◌*◌, ◌/◌, ◌%◌, ◌^◌, ◌-◌, ◌≤◌, ◌<◌}
use native.Mathlib.Nat.{pow-zero, pow-suc, mod-one, zero-mul, zero-add, suc-add, mul_assoc, add_assoc, add-mul, mul_comm, mul-add-div_right}
use native.Mathlib.Numerals.{one-add}
use native.Mathlib.Omega.{arith}
use lib.Dec.{eqb}
use lib.ListN.{length, get_or, take, drop, length-append}
use lib.Seq.{take_at, drop_at}
use lib.Pow.{pow_pos, pow-add, mod-pow-add, high, shr-shr}
use Rattle.bits.specs.Bits.{num, odd, bits, value}

-- ---- a bit
num-eqb : (x : ℕ) → x < 2 → num (eqb x 1) ≡ x
num-eqb zero h = refl
num-eqb (suc zero) h = refl
num-eqb (suc (suc x)) h = omega arith

pub num-odd : (x : ℕ) → num (odd x) ≡ x % 2
num-odd x = num-eqb (x % 2) (omega arith)

pub odd-num : (b : Bool) → odd (num b) ≡ b
odd-num true = refl
odd-num false = refl

pub odd-mod : (x : ℕ) → odd (x % 2) ≡ odd x
odd-mod x = let e : x % 2 % 2 ≡ x % 2 = omega arith in ap (λ (y : ℕ). eqb y 1) e

pub num-is : (b : Bool) → eqb (num b) 1 ≡ b
num-is true = refl
num-is false = refl

pub num-few : (b : Bool) → num b ≤ 1
num-few true = omega arith
num-few false = omega arith

pub bit-one : (b : Bool) → bits 1 (num b) ≡ b ∷ []
unfolding bits
bit-one true = refl
bit-one false = refl

-- ---- a number's bits
pub length-bits : (n v : ℕ) → length (bits n v) ≡ n
unfolding bits
length-bits zero v = refl
length-bits (suc n) v = ap suc (length-bits n v)

pub bits_at : (n v i : ℕ) → i < n → get_or (bits n v) i false ≡ odd (v / 2 ^ (n - 1 - i))
unfolding bits
bits_at zero v i h = absurd (let z : ⊥ = omega arith in z)
bits_at (suc n) v zero h = let e : suc n - 1 - 0 ≡ n = omega arith in rw e
bits_at (suc n) v (suc i) h = let e : suc n - 1 - suc i ≡ n - 1 - i = omega arith in rw e (bits_at n v i (omega arith))

bits-split : (a b v : ℕ) → bits (a + b) v ≡ bits a (v / 2 ^ b) ++ bits b v
unfolding bits
bits-split zero b v = rw zero-add
bits-split (suc a) b v =
    let e : v / 2 ^ (a + b) ≡ v / 2 ^ b / 2 ^ a = ap (λ (x : ℕ). v / 2 ^ x) (omega arith) ∙ sym (shr-shr v b a) in
    rw (suc-add, e) (ap {B = List Bool} (λ r. odd (v / 2 ^ b / 2 ^ a) ∷ r) (bits-split a b v))

-- bits above the n-th do not count
bits-add : (n h v : ℕ) → bits n (h * 2 ^ n + v) ≡ bits n v
unfolding bits
bits-add zero h v = refl
bits-add (suc n) h v =
    let e : h * 2 ^ suc n ≡ h * 2 * 2 ^ n = ap (λ (x : ℕ). h * x) (pow-suc 2 n ∙ mul_comm (2 ^ n) 2) ∙ sym (mul_assoc h 2 (2 ^ n)) in
    let f : (h * 2 + v / 2 ^ n) % 2 ≡ v / 2 ^ n % 2 = omega arith in
    rw e (ap₂ {C = List Bool} (λ (x : Bool) (y : List Bool). x ∷ y)
    (ap odd (mul-add-div_right (pow_pos n) (h * 2) v) ∙ ap (λ (x : ℕ). eqb x 1) f)
    (bits-add n (h * 2) v))

-- ---- the number that bits are
pub value-lt : (bs : List Bool) → value bs < 2 ^ length bs
unfolding value
value-lt [] = omega arith
value-lt (true ∷ bs) = omega (arith, value-lt bs, pow-suc 2 (length bs))
value-lt (false ∷ bs) = omega (arith, value-lt bs, pow-suc 2 (length bs))

pub value-append : (xs ys : List Bool) → value (xs ++ ys) ≡ value xs * 2 ^ length ys + value ys
unfolding value
value-append [] ys = rw (zero-mul, zero-add)
value-append (b ∷ xs) ys =
    ap₂ (λ (x y : ℕ). num b * x + y) (ap (λ (x : ℕ). 2 ^ x) (length-append xs ys) ∙ pow-add 2 (length xs) (length ys)) (value-append xs ys)
    ∙ sym (add_assoc (num b * (2 ^ length xs * 2 ^ length ys)) (value xs * 2 ^ length ys) (value ys))
    ∙ ap (λ (x : ℕ). x + value xs * 2 ^ length ys + value ys) (sym (mul_assoc (num b) (2 ^ length xs) (2 ^ length ys)))
    ∙ ap (λ (x : ℕ). x + value ys) (sym (add-mul (num b * 2 ^ length xs) (value xs) (2 ^ length ys)))

pub value-bits : (n v : ℕ) → value (bits n v) ≡ v % 2 ^ n
unfolding bits value
value-bits zero v = sym (ap (λ (x : ℕ). v % x) (pow-zero 2) ∙ mod-one v)
value-bits (suc n) v =
    ap₂ (λ (x y : ℕ). x * 2 ^ y + value (bits n v)) (num-odd (v / 2 ^ n)) (length-bits n v)
    ∙ ap (λ (x : ℕ). v / 2 ^ n % 2 * 2 ^ n + x) (value-bits n v)
    ∙ sym (ap (λ (x : ℕ). v % 2 ^ x) (sym (one-add n)) ∙ mod-pow-add v 1 n)

all-bits : (bs : List Bool) → bits (length bs) (value bs) ≡ bs
unfolding bits value
all-bits [] = refl
all-bits (b ∷ bs) =
    ap₂ {C = List Bool} (λ (x : Bool) (y : List Bool). x ∷ y)
    (ap odd (high (num b) (length bs) (value-lt bs)) ∙ odd-num b)
    (bits-add (length bs) (num b) (value bs) ∙ all-bits bs)

pub bits-value : (n : ℕ) (bs : List Bool) → length bs ≡ n → bits n (value bs) ≡ bs
bits-value n bs e = ap (λ (k : ℕ). bits k (value bs)) (sym e) ∙ all-bits bs

-- so numbers that are alike in n bits have the same n bits
pub bits-low : (n v w : ℕ) → v % 2 ^ n ≡ w % 2 ^ n → bits n v ≡ bits n w
bits-low n v w e =
    sym (bits-value n (bits n v) (length-bits n v)) ∙ ap (bits n) (value-bits n v ∙ e ∙ sym (value-bits n w)) ∙ bits-value n (bits n w) (length-bits n w)

-- m of w bits, from the o-th on
pub bits-part : (w x o m : ℕ) → o + m ≤ w → value (take m (drop o (bits w x))) ≡ x / 2 ^ (w - o - m) % 2 ^ m
bits-part w x o m h =
    let r : ℕ = w - o - m in
    let e : w ≡ o + (m + r) = omega arith in
    ap (λ (k : ℕ). value (take m (drop o (bits k x)))) e
    ∙ rw (bits-split o (m + r) x, drop_at (bits o (x / 2 ^ (m + r))) (bits (m + r) x) o (length-bits o _), bits-split m r x, take_at (bits m (x / 2 ^ r)) (bits r x) m (length-bits m _))
    (value-bits m (x / 2 ^ r))
