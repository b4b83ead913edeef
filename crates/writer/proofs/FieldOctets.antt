-- A field's value in two octets of a record: the number they are, and that its low bits are the field's.
-- Two octets are one number and its bits above the field do not count; each value takes two octets, there or absent.
use Prim.Native.Nat.{ℕ, suc, ◌+◌, ◌*◌, ◌-◌, ◌^◌, ◌<◌}
use native.Mathlib.Nat.{suc-add}
use native.Mathlib.Omega.{arith}
use mathlib.Core.Bool.{false}
use mathlib.Core.List.{List, ◌++◌}
use mathlib.Core.Option.{Option, none, some}
use mathlib.Core.Path.{◌≡◌, refl}
use lib.Dec.{eqb}
use borrow.Author.Tests.{ne_eqb}
use Rattle.bits.specs.Bits.{bits}
use Rattle.bits.proofs.Values.{bits-low}
use Rattle.mt1.specs.Records.{two, widened, iod_or, signed_or}
use Rattle.mt1.proofs.Signs.{widened-cases}
use Rattle.writer.specs.Writer.{pair}

-- ---- bits
-- a value is widened by a multiple of 2 ^ n
pub widened-13 : (v : ℕ) → bits 13 (widened 4096 v) ≡ bits 13 v
widened-13 v = widened-cases (λ w. bits 13 w ≡ bits 13 v) 4096 v (λ h. refl) (λ h. bits-low 13 (v + (65536 - 2 * 4096)) v (omega arith))

pub widened-12 : (v : ℕ) → bits 12 (widened 2048 v) ≡ bits 12 v
widened-12 v = widened-cases (λ w. bits 12 w ≡ bits 12 v) 2048 v (λ h. refl) (λ h. bits-low 12 (v + (65536 - 2 * 2048)) v (omega arith))

pub widened-11 : (v : ℕ) → bits 11 (widened 1024 v) ≡ bits 11 v
widened-11 v = widened-cases (λ w. bits 11 w ≡ bits 11 v) 1024 v (λ h. refl) (λ h. bits-low 11 (v + (65536 - 2 * 1024)) v (omega arith))

-- what is there is not what stands for the absent
pub there-13 : (v : ℕ) → v < 2 ^ 13 → eqb (widened 4096 v) 32768 ≡ false
there-13 v l =
    ne_eqb (widened 4096 v) 32768
    (widened-cases (λ w. w ≡ 32768 → ⊥) 4096 v (λ h e. let z : ⊥ = omega arith in z) (λ h e. let z : ⊥ = omega arith in z))

-- ---- octets
-- the number of a value's two octets
abbrev pub word_of : ℕ → Option ℕ → ℕ
word_of half none = 32768
word_of half (some v) = widened half v

pub two-pair : (v : ℕ) (l : List ℕ) → pair (two v ++ l) 0 ≡ v
two-pair v l = omega arith

pub signed-front : (half : ℕ) (v : Option ℕ) (l : List ℕ) → pair (signed_or half v ++ l) 0 ≡ word_of half v
unfolding signed_or
signed-front half none l = refl
signed-front half (some v) l = two-pair (widened half v) l

-- what stands behind
pub iod-pair : (v : Option ℕ) (l : List ℕ) (k : ℕ) → pair (iod_or v ++ l) (suc (suc k)) ≡ pair l k
iod-pair none l k = simp suc-add
iod-pair (some v) l k = simp suc-add

pub signed-pair : (half : ℕ) (v : Option ℕ) (l : List ℕ) (k : ℕ) → pair (signed_or half v ++ l) (suc (suc k)) ≡ pair l k
unfolding signed_or
signed-pair half none l k = simp suc-add
signed-pair half (some v) l k = simp suc-add
