-- The powers of α below 255 are different and come round; logarithms and inverses; there are no divisors of 0.
-- Each table's rule is one test over the whole table, carried to each entry by a lemma.
use mathlib.Core.Path.{◌≡◌, refl, sym, ap, ◌∙◌}
use mathlib.Core.Bool.{true}
use mathlib.Core.Logic.{◌≢◌}
use Prim.Native.Nat.{ℕ, zero, suc, ◌+◌, ◌*◌, ◌/◌, ◌%◌, ◌<◌}
use native.Mathlib.Nat.{zero-add, suc-add, div-add-mod'}
use native.Mathlib.Omega.{arith}
use lib.Dec.{eqb, ltb, lit<}
use borrow.Author.Tests.{eqb-true, ltb-true}
use lib.ListN.{get_or}
use Rattle.pagecode.specs.Field.{◌⊗◌, double, power, Logarithm, Inverse}
use Rattle.pagecode.proofs.Everywhere.{all, below}
use Rattle.pagecode.proofs.Laws.{⊗-comm, ⊗-assoc, ⊗-zero, one-⊗, double-lt}
use Rattle.pagecode.proofs.Tables.{powers, logs, inverses}

pub power-lt : (n : ℕ) → power n < 256
unfolding power
power-lt zero = lit< tt
power-lt (suc n) = double-lt (power n) (power-lt n)

pub double-is : (x : ℕ) → x < 256 → double x ≡ 2 ⊗ x
double-is x h = eqb-true (double x) (2 ⊗ x) (below 256 (λ y. eqb (double y) (2 ⊗ y)) (unfold double ◌⊗◌ in refl) x h)

pub power-suc : (n : ℕ) → power (suc n) ≡ 2 ⊗ power n
unfolding power
power-suc n = double-is (power n) (power-lt n)

pub power-add : (m n : ℕ) → power (m + n) ≡ power m ⊗ power n
power-add zero n = ap power (zero-add n) ∙ sym (unfold power in one-⊗ (power n) (power-lt n))
power-add (suc m) n = ap power (suc-add m n) ∙ power-suc (m + n) ∙ ap (λ (x : ℕ). 2 ⊗ x) (power-add m n) ∙ sym (⊗-assoc 2 (power m) (power n)) ∙ ap (λ (x : ℕ). x ⊗ power n) (sym (power-suc m))

-- ---- the tables' rules
powers-test : all 255 (λ i. eqb (get_or powers i 0) (power i)) ≡ true
unfolding powers power
powers-test = refl

logs-test : all 255 (λ i. eqb (get_or powers (get_or logs (suc i) 0) 0) (suc i)) ≡ true
unfolding powers logs
logs-test = refl

logs-lt-test : all 256 (λ i. ltb (get_or logs i 0) 255) ≡ true
unfolding logs
logs-lt-test = refl

logs-powers-test : all 255 (λ i. eqb (get_or logs (get_or powers i 0) 0) i) ≡ true
unfolding logs powers
logs-powers-test = refl

inverses-test : all 255 (λ i. eqb (suc i ⊗ get_or inverses (suc i) 0) 1) ≡ true
unfolding inverses ◌⊗◌
inverses-test = refl

inverses-lt-test : all 256 (λ i. ltb (get_or inverses i 0) 256) ≡ true
unfolding inverses
inverses-lt-test = refl

pub inverses-lt : (a : ℕ) → a < 256 → get_or inverses a 0 < 256
inverses-lt a h = ltb-true (get_or inverses a 0) 256 (below 256 (λ k. ltb (get_or inverses k 0) 256) inverses-lt-test a h)

pub powers-at : (i : ℕ) → i < 255 → get_or powers i 0 ≡ power i
powers-at i h = eqb-true (get_or powers i 0) (power i) (below 255 (λ k. eqb (get_or powers k 0) (power k)) powers-test i h)

pub logs-lt : (a : ℕ) → a < 256 → get_or logs a 0 < 255
logs-lt a h = ltb-true (get_or logs a 0) 255 (below 256 (λ k. ltb (get_or logs k 0) 255) logs-lt-test a h)

pub power-log : (a : ℕ) → a < 256 → a ≢ 0 → power (get_or logs a 0) ≡ a
power-log zero h n = absurd (n refl)
power-log (suc a) h n =
    sym (powers-at (get_or logs (suc a) 0) (logs-lt (suc a) h))
    ∙ eqb-true (get_or powers (get_or logs (suc a) 0) 0) (suc a) (below 255 (λ i. eqb (get_or powers (get_or logs (suc i) 0) 0) (suc i)) logs-test a (omega arith))

pub log-power : (i : ℕ) → i < 255 → get_or logs (power i) 0 ≡ i
log-power i h =
    ap (λ (x : ℕ). get_or logs x 0) (sym (powers-at i h))
    ∙ eqb-true (get_or logs (get_or powers i 0) 0) i (below 255 (λ k. eqb (get_or logs (get_or powers k 0) 0) k) logs-powers-test i h)

pub power-inj : (i j : ℕ) → i < 255 → j < 255 → power i ≡ power j → i ≡ j
power-inj i j h k e = sym (log-power i h) ∙ ap (λ (x : ℕ). get_or logs x 0) e ∙ log-power j k

pub power-255 : power 255 ≡ 1
unfolding power
power-255 = refl

pub power-wrap : (n : ℕ) → power (255 + n) ≡ power n
power-wrap n = power-add 255 n ∙ ap (λ (x : ℕ). x ⊗ power n) power-255 ∙ one-⊗ (power n) (power-lt n)

turns : (q r : ℕ) → power (q * 255 + r) ≡ power r
turns zero r = ap power whole
  where
    whole : 0 * 255 + r ≡ r
    whole = omega arith
turns (suc q) r = ap power more ∙ power-wrap (q * 255 + r) ∙ turns q r
  where
    more : suc q * 255 + r ≡ 255 + (q * 255 + r)
    more = omega arith

pub power-round : (n : ℕ) → power n ≡ power (n % 255)
power-round n = ap power (sym (div-add-mod' n 255)) ∙ turns (n / 255) (n % 255)

pub ⊗-inverse : (a : ℕ) → a < 256 → a ≢ 0 → a ⊗ get_or inverses a 0 ≡ 1
⊗-inverse zero h n = absurd (n refl)
⊗-inverse (suc a) h n = eqb-true (suc a ⊗ get_or inverses (suc a) 0) 1 (below 255 (λ i. eqb (suc i ⊗ get_or inverses (suc i) 0) 1) inverses-test a (omega arith))

-- no divisors of nought
pub cancel : (a x : ℕ) → a < 256 → a ≢ 0 → x < 256 → a ⊗ x ≡ 0 → x ≡ 0
cancel a x h n k e =
    sym (one-⊗ x k) ∙ ap (λ (y : ℕ). y ⊗ x) (sym (⊗-comm (get_or inverses a 0) a ∙ ⊗-inverse a h n)) ∙ ⊗-assoc (get_or inverses a 0) a x
    ∙ ap (λ (y : ℕ). get_or inverses a 0 ⊗ y) e ∙ ⊗-zero (get_or inverses a 0)

pub power-ne : (n : ℕ) → power n ≢ 0
power-ne zero e = absurd (unfold power in omega (arith, e))
power-ne (suc n) e = power-ne n (cancel 2 (power n) (lit< tt) (omega arith) (power-lt n) (sym (power-suc n) ∙ e))

-- what the tables' functions promise
pub inverse-of : (a : ℕ) → a < 256 → Inverse a (get_or inverses a 0)
unfolding inverses
inverse-of a h = record { some = ⊗-inverse a h; none = λ e. ap (λ (x : ℕ). get_or inverses x 0) e }

pub logarithm-of : (a : ℕ) → a < 256 → Logarithm a (get_or logs a 0)
unfolding logs
logarithm-of a h = record { some = power-log a h; none = λ e. ap (λ (x : ℕ). get_or logs x 0) e; small = logs-lt a h }
