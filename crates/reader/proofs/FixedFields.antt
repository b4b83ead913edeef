-- What is read at fixed places: the header's fields, the interval of a block, the octets of a system's two masks.
-- Each field is as wide as the ICD says, so it begins that far behind the one before it.
use Prim.Native.Nat.{ℕ, zero, suc, ◌+◌, ◌*◌, ◌/◌, ◌%◌, ◌^◌, ◌<◌}
use native.Mathlib.Omega.{arith}
use mathlib.Core.Bool.{Bool, true, false}
use mathlib.Core.List.{List, [], ◌∷◌, ◌++◌}
use mathlib.Core.Option.{Option, none, some}
use mathlib.Core.Path.{◌≡◌, refl, sym, ap, ap₂, ◌∙◌}
use lib.Dec.{eqb}
use lib.ListN.{length, get_or, take, drop, length-drop, take-append-drop}
use Rattle.bits.specs.Bits.{num, bits, value, octets, octets_of, number_at}
use Rattle.bits.proofs.Values.{length-bits, value-append}
use Rattle.bits.proofs.Runs.{run-lt}
use Rattle.std.specs.Int.{w64, to_be_bytes, from_be_bytes}
use Rattle.std.proofs.lemmas.Nat.{be_bytes_8}
use Rattle.reader.specs.declared.mask.SystemPlan.{SystemPlan}
use Rattle.mt1.specs.Message.{Header, System, Block}
use Rattle.mt1.specs.Encode.{header_bits, block_bits}
use Rattle.mt1.specs.Valid.{HeaderOk, BlockOk, IfFlag}
use Rattle.mt1.specs.Records.{two, part, octet_or, interval_of}
use Rattle.mt1.proofs.Spans.{Span, span-split}
use Rattle.reader.specs.Steps.{Place, Stands, body_bits}
use Rattle.reader.specs.Recording.{Below, SystemStands}
use Rattle.reader.proofs.RowValues.{Value, span-read, number_read}

pub split : {bs : List Bool} {from end : ℕ} (xs ys : List Bool) (w : ℕ) → length xs ≡ w → Span bs from (xs ++ ys) end → Span bs from xs (from + w) × Span bs (from + w) ys end
split xs ys w e s = rw e at (span-split xs ys s)

-- ---- the header
pub record HeaderRead (bs : List Bool) (h : Header) : Type 0 where
  pub time : number_at bs 0 12 ≡ h.time
  pub flags : number_at bs 12 6 ≡ value h.flags
  pub mask_id : number_at bs 22 5 ≡ h.mask_id
  pub iod_set : number_at bs 27 5 ≡ h.iod_set

pub header_read : (bs : List Bool) (h : Header) → HeaderOk h → Span bs 0 (header_bits h) 32 → HeaderRead bs h
unfolding header_bits
header_read bs h k s =
    let i = bits 5 h.mask_id ++ bits 5 h.iod_set in
    let a = split (bits 12 h.time) (h.flags ++ (bits 4 h.reserved ++ i)) 12 (length-bits 12 h.time) s in
    let b = split h.flags (bits 4 h.reserved ++ i) 6 k.flags a.1 in
    let c = split (bits 4 h.reserved) i 4 (length-bits 4 h.reserved) b.1 in
    let d = split (bits 5 h.mask_id) (bits 5 h.iod_set) 5 (length-bits 5 h.mask_id) c.1 in
    record {
      time = number_read 12 h.time (omega arith) (omega (arith, k.time)) a.0;
      flags = span-read 6 h.flags k.flags (omega arith) b.0;
      mask_id = number_read 5 h.mask_id (omega arith) k.mask_id d.0;
      iod_set = number_read 5 h.iod_set (omega arith) k.iod_set d.1;
    }

-- ---- a block's interval
interval-here : (bs : List Bool) {A : Type 0} (f : A → List Bool) (P : A → Type 0) (flag : Bool) (place : Place) (b : Option (Block A))
    → IfFlag flag (BlockOk P) b → Stands bs place (block_bits f) b → Value bs place 4 (part (λ x. x.interval) b)
unfolding block_bits
interval-here bs f P flag place none k s = (s, tt)
interval-here bs f P true place (some x) k s = ((s.0, s.1, (_, (span-split (bits 4 x.interval) (f x.body) s.2.1).0)), omega (arith, k.interval))
interval-here bs f P false place (some x) k s = absurd k

-- as it is recorded
pub interval-octet : (bs : List Bool) {A : Type 0} (f : A → List Bool) (P : A → Type 0) (flag : Bool) (place : Place) (b : Option (Block A))
    → IfFlag flag (BlockOk P) b → Stands bs place (block_bits f) b
    → {r : ℕ} → ((u : Option ℕ) → Stands bs place (bits 4) u → Below (2 ^ 4) u → r ≡ octet_or u) → r ≡ interval_of b
interval-octet bs f P flag place b k s g = let v = interval-here bs f P flag place b k s in g (part (λ x. x.interval) b) v.0 v.1

-- ---- a system's masks
-- the number that octets are, the first the highest
abbrev weigh : List ℕ → ℕ
weigh [] = 0
weigh (x ∷ xs) = x * 2 ^ (8 * length xs) + weigh xs

length-octets : (k : ℕ) (xs : List Bool) → length (octets k xs) ≡ k
unfolding octets
length-octets zero xs = refl
length-octets (suc k) xs = omega (arith, length-octets k (drop 8 xs))

value-octets : (k : ℕ) (xs : List Bool) → length xs ≡ 8 * k → value xs ≡ weigh (octets k xs)
unfolding octets value
value-octets zero [] e = refl
value-octets zero (x ∷ xs) e = absurd (let z : ⊥ = omega arith in z)
value-octets (suc k) xs e =
    let l : length (drop 8 xs) ≡ 8 * length (octets k (drop 8 xs)) = omega (arith, length-drop 8 xs, length-octets k (drop 8 xs)) in
    ap value (sym (take-append-drop 8 xs)) ∙ value-append (take 8 xs) (drop 8 xs)
    ∙ ap₂ {C = ℕ} (λ (n m : ℕ). value (take 8 xs) * 2 ^ n + m) l (value-octets k (drop 8 xs) (omega (arith, length-drop 8 xs)))

octets-few : (k : ℕ) (xs : List Bool) (i : ℕ) → get_or (octets k xs) i 0 < 256
unfolding octets
octets-few zero xs i = omega arith
octets-few (suc k) xs zero = run-lt 8 xs
octets-few (suc k) xs (suc i) = octets-few k (drop 8 xs) i

-- as the octets of its number
pub forty : (xs : List Bool) {r : List ℕ} → length xs ≡ 40 → r ≡ to_be_bytes w64 (value xs)
    → get_or r 3 0 ∷ get_or r 4 0 ∷ get_or r 5 0 ∷ get_or r 6 0 ∷ get_or r 7 0 ∷ [] ≡ octets_of xs
unfolding octets octets_of
forty xs e f =
    let same : weigh (octets 5 xs) ≡ from_be_bytes w64 (0 ∷ 0 ∷ 0 ∷ octets 5 xs) = omega arith in
    let all = be_bytes_8 (0 ∷ 0 ∷ 0 ∷ octets 5 xs) (value xs) refl few (value-octets 5 xs e ∙ same) in
    let five : length xs / 8 ≡ 5 = omega arith in
    rw (f ∙ all, five) refl
  where
    few : (i : ℕ) → get_or (0 ∷ 0 ∷ 0 ∷ octets 5 xs) i 0 < 256
    few zero = omega arith
    few (suc zero) = omega arith
    few (suc (suc zero)) = omega arith
    few (suc (suc (suc i))) = octets-few 5 xs i

pub sixteen : (xs : List Bool) {r : List ℕ} → length xs ≡ 16 → r ≡ two (value xs) → get_or r 0 0 ∷ get_or r 1 0 ∷ [] ≡ octets_of xs
unfolding octets octets_of
sixteen xs e f =
    let a = value (take 8 xs) in
    let b = value (take 8 (drop 8 xs)) in
    let v : value xs ≡ a * 256 + b = omega (arith, value-octets 2 xs e) in
    let high : value xs / 256 ≡ a = omega (arith, v, run-lt 8 (drop 8 xs)) in
    let low : value xs % 256 ≡ b = omega (arith, v, run-lt 8 (drop 8 xs)) in
    let both : length xs / 8 ≡ 2 = omega arith in
    rw (f, high, low, both) refl

pub record SystemReads (bs : List Bool) (s : System) (plan : SystemPlan) : Type 0 where
  pub id : plan.id % 256 ≡ s.id
  pub flag : num plan.flag ≡ s.cell_flag
  pub navigation : 0 ≡ s.navigation
  pub satellites : number_at bs plan.place 40 ≡ value s.satellites
  pub signals : number_at bs (plan.place + 40) 16 ≡ value s.signals

-- a bit as a number
num-flag : (v : ℕ) → v < 2 → num (eqb v 1) ≡ v
num-flag zero l = refl
num-flag (suc zero) l = refl
num-flag (suc (suc v)) l = absurd (let z : ⊥ = omega arith in z)

pub system-reads : (bs : List Bool) (s : System) (plan : SystemPlan) → SystemStands bs s plan → SystemReads bs s plan
unfolding body_bits
system-reads bs s plan t =
    let o = t.ok in
    let e = ap (λ (p : SystemPlan). p.id) t.planned in
    let f = ap (λ (p : SystemPlan). p.flag) t.planned in
    let a = split s.satellites (s.signals ++ (bits 1 s.cell_flag ++ (s.cells ++ bits 3 s.navigation))) 40 o.satellites t.bits.1 in
    let b = split s.signals (bits 1 s.cell_flag ++ (s.cells ++ bits 3 s.navigation)) 16 o.signals a.1 in
    record {
      id = omega (arith, e, t.known);
      flag = ap num f ∙ num-flag s.cell_flag o.cell_flag;
      navigation = sym o.navigation;
      satellites = span-read 40 s.satellites o.satellites (omega arith) a.0;
      signals = span-read 16 s.signals o.signals (omega arith) b.0;
    }
