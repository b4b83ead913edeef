-- The laws of the product: it is commutative and associative, an octet, and has 0 and 1.
-- Both sides of a law are additive in each factor, so it holds where it holds at the powers of two, which antt computes.
use mathlib.Core.Path.{◌≡◌, refl, sym, ap, ap₂, ◌∙◌, subst}
use mathlib.Core.Bool.{Bool, true}
use Prim.Native.Nat.{ℕ, zero, suc, ◌*◌, ◌/◌, ◌%◌, ◌^◌, ◌<◌}
use native.Mathlib.Nat.{zero-lt-suc, mod-lt, mod-eq_of_lt}
use native.Mathlib.Numerals.{add-one}
use native.Mathlib.Omega.{arith}
use lib.Dec.{eqb, ltb, lit<}
use borrow.Author.Tests.{eqb-true, ltb-true}
use lib.Pow.{field, mod-mod-pow}
use Rattle.pagecode.specs.Field.{◌⊕◌, ◌⊗◌, double, shift_add}
use Rattle.pagecode.proofs.Everywhere.{all, below}
use Rattle.pagecode.proofs.Linear.{agree, add_step, ⊗-add-l, ⊗-add-r, ⊕-self, ⊕-lt}

-- ---- the product looks at the low eight bits alone
low : (k a b : ℕ) → shift_add k (a % 2 ^ k) b ≡ shift_add k a b
unfolding shift_add
low zero a b = refl
low (suc k) a b =
    add_step k (a % 2 ^ suc k) b
    ∙ ap₂ (λ (x y : ℕ). x * b ⊕ shift_add k y (double b)) (ap (λ (n : ℕ). a % 2 ^ n % 2) (sym (add-one k)) ∙ mod-mod-pow a k 1) (ap (λ (n : ℕ). a % 2 ^ n / 2) (sym (add-one k)) ∙ field a k 1)
    ∙ ap (λ (x : ℕ). a % 2 * b ⊕ x) (low k (a / 2) (double b))
    ∙ sym (add_step k a b)

pub ⊗-low-l : (a b : ℕ) → a % 256 ⊗ b ≡ a ⊗ b
unfolding ◌⊗◌
⊗-low-l a b = low 8 a (b % 256)

pub ⊗-low-r : (a b : ℕ) → a ⊗ (b % 256) ≡ a ⊗ b
unfolding ◌⊗◌
⊗-low-r a b = ap (shift_add 8 a) (mod-eq_of_lt (mod-lt b (zero-lt-suc 255)))

oct : (a : ℕ) → a % 256 < 256
oct a = mod-lt a (zero-lt-suc 255)

-- ---- a b = b a
comm-test : ℕ → ℕ → Bool
unfolding ◌⊗◌
comm-test i j = eqb (2 ^ i ⊗ 2 ^ j) (2 ^ j ⊗ 2 ^ i)

comm_table : all 8 (λ i. all 8 (comm-test i)) ≡ true
unfolding comm-test
comm_table = refl

comm-at : (i j : ℕ) → i < 8 → j < 8 → 2 ^ i ⊗ 2 ^ j ≡ 2 ^ j ⊗ 2 ^ i
unfolding comm-test
comm-at i j h k = eqb-true (2 ^ i ⊗ 2 ^ j) (2 ^ j ⊗ 2 ^ i) (below 8 (comm-test i) (below 8 (λ m. all 8 (comm-test m)) comm_table i h) j k)

comm_oct : (a b : ℕ) → a < 256 → b < 256 → a ⊗ b ≡ b ⊗ a
comm_oct a b ha hb =
    agree 8 (λ x. x ⊗ b) (λ x. b ⊗ x) (⊗-add-l b) (⊗-add-r b)
    (λ i h. agree 8 (λ y. 2 ^ i ⊗ y) (λ y. y ⊗ 2 ^ i) (⊗-add-r (2 ^ i)) (⊗-add-l (2 ^ i)) (λ j k. comm-at i j h k) b hb) a ha

pub ⊗-comm : (a b : ℕ) → a ⊗ b ≡ b ⊗ a
⊗-comm a b = sym (⊗-low-l a b ∙ refl) ∙ sym (⊗-low-r (a % 256) b) ∙ comm_oct (a % 256) (b % 256) (oct a) (oct b) ∙ ⊗-low-l b (a % 256) ∙ ⊗-low-r b a

-- ---- (a b) c = a (b c)
assoc-test : ℕ → ℕ → ℕ → Bool
unfolding ◌⊗◌
assoc-test i j k = eqb (2 ^ i ⊗ 2 ^ j ⊗ 2 ^ k) (2 ^ i ⊗ (2 ^ j ⊗ 2 ^ k))

assoc_table : all 8 (λ i. all 8 (λ j. all 8 (assoc-test i j))) ≡ true
unfolding assoc-test
assoc_table = refl

assoc-at : (i j k : ℕ) → i < 8 → j < 8 → k < 8 → 2 ^ i ⊗ 2 ^ j ⊗ 2 ^ k ≡ 2 ^ i ⊗ (2 ^ j ⊗ 2 ^ k)
unfolding assoc-test
assoc-at i j k hi hj hk =
    eqb-true (2 ^ i ⊗ 2 ^ j ⊗ 2 ^ k) (2 ^ i ⊗ (2 ^ j ⊗ 2 ^ k))
    (below 8 (assoc-test i j) (below 8 (λ m. all 8 (assoc-test i m)) (below 8 (λ n. all 8 (λ m. all 8 (assoc-test n m))) assoc_table i hi) j hj) k hk)

assoc_oct : (a b c : ℕ) → a < 256 → b < 256 → c < 256 → a ⊗ b ⊗ c ≡ a ⊗ (b ⊗ c)
assoc_oct a b c ha hb hc =
    agree 8 (λ x. x ⊗ b ⊗ c) (λ x. x ⊗ (b ⊗ c)) (λ x y. ap (λ (n : ℕ). n ⊗ c) (⊗-add-l b x y) ∙ ⊗-add-l c (x ⊗ b) (y ⊗ b)) (⊗-add-l (b ⊗ c))
    (λ i hi. agree 8 (λ x. 2 ^ i ⊗ x ⊗ c) (λ x. 2 ^ i ⊗ (x ⊗ c)) (λ x y. ap (λ (n : ℕ). n ⊗ c) (⊗-add-r (2 ^ i) x y) ∙ ⊗-add-l c _ _) (λ x y. ap (λ (n : ℕ). 2 ^ i ⊗ n) (⊗-add-l c x y) ∙ ⊗-add-r (2 ^ i) _ _)
    (λ j hj. agree 8 (λ x. 2 ^ i ⊗ 2 ^ j ⊗ x) (λ x. 2 ^ i ⊗ (2 ^ j ⊗ x)) (⊗-add-r (2 ^ i ⊗ 2 ^ j)) (λ x y. ap (λ (n : ℕ). 2 ^ i ⊗ n) (⊗-add-r (2 ^ j) x y) ∙ ⊗-add-r (2 ^ i) _ _)
    (λ k hk. assoc-at i j k hi hj hk) c hc) b hb) a ha

pub ⊗-assoc : (a b c : ℕ) → a ⊗ b ⊗ c ≡ a ⊗ (b ⊗ c)
⊗-assoc a b c =
    sym (⊗-low-r (a ⊗ b) c ∙ refl) ∙ ap (λ (x : ℕ). x ⊗ (c % 256)) (sym (⊗-low-r a b ∙ refl) ∙ sym (⊗-low-l a (b % 256)))
    ∙ assoc_oct (a % 256) (b % 256) (c % 256) (oct a) (oct b) (oct c)
    ∙ ⊗-low-l a _ ∙ ap (λ (x : ℕ). a ⊗ x) (⊗-low-r (b % 256) c ∙ ⊗-low-l b c)

pub ⊗-left-comm : (a b c : ℕ) → a ⊗ (b ⊗ c) ≡ b ⊗ (a ⊗ c)
⊗-left-comm a b c = sym (⊗-assoc a b c) ∙ ap (λ (x : ℕ). x ⊗ c) (⊗-comm a b) ∙ ⊗-assoc b a c

-- ---- bounds, nought and one
pub double-lt : (x : ℕ) → x < 256 → double x < 256
double-lt x h = ltb-true (double x) 256 (below 256 (λ y. ltb (double y) 256) (unfold double in refl) x h)

shift_add-lt : (n a b : ℕ) → b < 256 → shift_add n a b < 256
unfolding shift_add
shift_add-lt zero a b h = lit< tt
shift_add-lt (suc n) a b h =
    subst (λ (x : ℕ). x < 256) (sym (add_step n a b)) (⊕-lt _ _ (bit (a % 2) (mod-lt a (zero-lt-suc 1))) (shift_add-lt n (a / 2) (double b) (double-lt b h)))
  where
    bit : (p : ℕ) → p < 2 → p * b < 256
    bit zero l = omega arith
    bit (suc zero) l = omega arith
    bit (suc (suc p)) l = absurd (omega arith)

pub ⊗-lt : (a b : ℕ) → a ⊗ b < 256
unfolding ◌⊗◌
⊗-lt a b = shift_add-lt 8 a (b % 256) (oct b)

pub ⊗-zero : (a : ℕ) → a ⊗ 0 ≡ 0
⊗-zero a = ap (λ (x : ℕ). a ⊗ x) (sym (⊕-self 0)) ∙ ⊗-add-r a 0 0 ∙ ⊕-self (a ⊗ 0)

pub zero-⊗ : (a : ℕ) → 0 ⊗ a ≡ 0
zero-⊗ a = ⊗-comm 0 a ∙ ⊗-zero a

pub one-⊗ : (a : ℕ) → a < 256 → 1 ⊗ a ≡ a
one-⊗ a h = eqb-true (1 ⊗ a) a (below 256 (λ y. eqb (1 ⊗ y) y) (unfold ◌⊗◌ in refl) a h)

pub ⊗-one : (a : ℕ) → a < 256 → a ⊗ 1 ≡ a
⊗-one a h = ⊗-comm a 1 ∙ one-⊗ a h
