-- Bits put one behind another: nothing is put, two stretches are one, and how a number is put.
-- The first bits of the buffer stay what they are, so what was put before is there; where both stretches have room, so has the first.
use Prim.Native.Nat.{ℕ, ◌+◌, ◌≤◌}
use native.Mathlib.Nat.{add-zero}
use native.Mathlib.Omega.{arith}
use mathlib.Core.Bool.{Bool, true, false, cond, false≢true, true≢false}
use mathlib.Core.List.{List, [], ◌++◌, append-nil, append_assoc}
use mathlib.Core.Path.{◌≡◌, refl, sym, ap, subst, ◌∙◌}
use lib.ListN.{length, get_or, take, length-append}
use borrow.Author.Tests.{le-leb, leb-true}
use Rattle.lists.proofs.Laid.{laid-take}
use Rattle.lists.proofs.Tests.{and_left}
use mir.Val.{bool_byte}
use Rattle.bits.specs.Bits.{num, bits, bits_of, octets_of, fits_in, is_number, put_at}
use Rattle.bits.proofs.Values.{length-bits}
use Rattle.bits.proofs.Octets.{length-bits_of}
use Rattle.bits.proofs.Runs.{is-number}
use Rattle.bits.proofs.Puts.{put-room, length-put, bits_put}
use Rattle.writer.specs.declared.append.Body.{Body}
use Rattle.writer.specs.Writer.{header_of}
use Rattle.writer.specs.Rendering.{Appends, interval_part, block_part}

pub appends-none : (d : Body) → Appends d d []
appends-none d = record { ends = λ h. sym (add-zero d.bits); bits = λ h. sym (append-nil (take d.bits (bits_of d.octets))); room = refl }

pub appends-join : {a b c : Body} {xs ys : List Bool} → Appends a b xs → Appends b c ys → Appends a c (xs ++ ys)
appends-join {a} {b} {c} {xs} {ys} p q = record {
  ends = λ h. omega (arith, p.ends (first h), q.ends (then h), length-append xs ys);
  bits = λ h. q.bits (then h) ∙ ap (λ (l : List Bool). l ++ ys) (p.bits (first h)) ∙ append_assoc (take a.bits (bits_of a.octets)) xs ys;
  room = q.room ∙ p.room;
}
  where
    first : a.bits + length (xs ++ ys) ≤ 163840 → a.bits + length xs ≤ 163840
    first h = omega (arith, h, length-append xs ys)

    then : a.bits + length (xs ++ ys) ≤ 163840 → b.bits + length ys ≤ 163840
    then h = omega (arith, h, length-append xs ys, p.ends (first h))

-- bits that are others
pub appends-is : {a b : Body} {xs ys : List Bool} → xs ≡ ys → Appends a b xs → Appends a b ys
appends-is {a} {b} e p = subst (λ (bs : List Bool). Appends a b bs) e p

-- ---- a number
-- that is another one
pub appends-number : {a b : Body} (n : ℕ) {v w : ℕ} → v ≡ w → Appends a b (bits n v) → Appends a b (bits n w)
appends-number n e p = appends-is (ap (bits n) e) p

-- a flag as a number
byte-num : (b : Bool) → bool_byte b ≡ num b
byte-num true = refl
byte-num false = refl

pub flag-number : {v : ℕ} {x y : Bool} → v ≡ bool_byte x → x ≡ y → v ≡ num y
flag-number e f = e ∙ byte-num _ ∙ ap num f

pub appends-flag : {a b : Body} {v : ℕ} {x y : Bool} → v ≡ bool_byte x → x ≡ y → Appends a b (bits 1 v) → Appends a b (bits 1 (num y))
appends-flag e f p = appends-number 1 (flag-number e f) p

module _ (d : Body) (n v : ℕ) (few : n ≤ 64) (octets : length d.octets ≡ 20480) where
  number : d.bits + length (bits n v) ≤ 163840 → is_number (bits_of d.octets) d.bits n ≡ true
  number h = is-number (bits_of d.octets) d.bits n (le-leb (d.bits + n) (length (bits_of d.octets)) (omega (arith, length-bits_of d.octets, length-bits n v, octets, h))) few

  -- it has room
  pub number-ends : true ≡ is_number (bits_of d.octets) d.bits n → d.bits + n ≤ 163840
  number-ends e =
      omega (arith, length-bits_of d.octets, octets, leb-true (d.bits + n) (length (bits_of d.octets)) (and_left (fits_in (bits_of d.octets) d.bits n) _ (sym e)))

  module _ (e : List ℕ) (q : e ≡ octets_of (put_at (bits_of d.octets) d.bits n v)) where
    same : bits_of e ≡ put_at (bits_of d.octets) d.bits n v
    same = ap bits_of q ∙ bits_put d.octets d.bits n v

    as-long : length e ≡ length d.octets
    as-long = omega (arith, length-bits_of e, length-bits_of d.octets, ap length same, length-put (bits_of d.octets) d.bits n v)

    pub appends-put : Appends d (record { octets = e; bits = d.bits + n }) (bits n v)
    appends-put = record {
      ends = λ h. ap (λ (m : ℕ). d.bits + m) (sym (length-bits n v));
      bits =
          λ h.
          ap (λ (m : ℕ). take (d.bits + m) (bits_of e)) (sym (length-bits n v))
          ∙ ap (take (d.bits + length (bits n v))) (same ∙ put-room (bits_of d.octets) d.bits n v (number h))
          ∙ laid-take (bits_of d.octets) d.bits (bits n v) (omega (arith, length-bits_of d.octets, octets, h));
      room = as-long;
    }

    -- it has none
    pub appends-full : false ≡ is_number (bits_of d.octets) d.bits n → Appends d (record { octets = e; bits = d.bits }) (bits n v)
    appends-full f = record { ends = λ h. absurd (false≢true (f ∙ number h)); bits = λ h. absurd (false≢true (f ∙ number h)); room = as-long }

-- ---- a part that is there or not
pub appends-not : (d : Body) (b : Bool) (bs : List Bool) → b ≡ false → Appends d d (cond b bs [])
appends-not d true bs e = absurd (true≢false e)
appends-not d false bs e = appends-none d

pub appends-if : {d e : Body} (b : Bool) {bs : List Bool} → b ≡ true → Appends d e bs → Appends d e (cond b bs [])
appends-if true e p = p
appends-if false e p = absurd (false≢true e)

-- a block, behind its interval
module _ (l : List ℕ) (k : ℕ) {a b : Body} {there : Bool} (e : there ≡ get_or (header_of l).flags k false) (p : Appends a b (interval_part l k)) where
  interval : (flag : Bool) → there ≡ flag → Appends a b (cond flag (bits 4 (get_or l (5 + k) 0)) [])
  interval flag f = appends-is (ap (λ (x : Bool). cond x (bits 4 (get_or l (5 + k) 0)) []) (sym e ∙ f)) p

  pub block-none : (bs : List Bool) → there ≡ false → Appends a b (block_part l k bs)
  unfolding block_part
  block-none bs f = appends-is (ap (λ (x : Bool). cond x (bits 4 (get_or l (5 + k) 0) ++ bs) []) (sym f ∙ e)) (interval false f)

  pub block-there : {c : Body} {bs : List Bool} → there ≡ true → Appends b c bs → Appends a c (block_part l k bs)
  unfolding block_part
  block-there f q = appends-if _ (sym e ∙ f) (appends-join (interval true f) q)
