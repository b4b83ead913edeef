-- The header and a mask, where they stand: the code's reading of them is the parser's.
-- The header's bits stand at its fields' places, a mask's systems each behind its GNSS ID.
use Prim.{tt}
use Prim.Native.Nat.{ℕ, ◌+◌, ◌≤◌, ◌<◌}
use native.Mathlib.Omega.{arith}
use mathlib.Core.Bool.{Bool}
use mathlib.Core.List.{List, [], ◌∷◌}
use mathlib.Core.Path.{◌≡◌, refl, sym, ap}
use lib.ListN.{length, take, drop, length-append}
use borrow.Author.Tests.{le-leb, lt-ltb, le-ltb}
use Rattle.bits.specs.Bits.{bits, value, number_at}
use Rattle.bits.proofs.Values.{length-bits}
use Rattle.bits.proofs.Runs.{number_fits}
use Rattle.lists.specs.Lists.{Every}
use Rattle.refusal.specs.declared.Refusal.TheVariants as refusal
use Rattle.mt1.specs.declared.answer.RefusalAt.{RefusalAt}
use Rattle.mt1.specs.Parse.{Outcome, got, bad, refuse, ◌>>=◌, ret, raw, field, judged}
use Rattle.mt1.specs.Message.{Header, System, Mask}
use Rattle.mt1.specs.Mt1.{header, mask}
use Rattle.mt1.specs.Encode.{each, header_bits, system_bits, mask_bits}
use Rattle.mt1.specs.Valid.{SystemOk}
use Rattle.mt1.specs.Records.{at}
use Rattle.mt1.proofs.Spans.{Span, span-split}
use Rattle.mt1.proofs.Masks.{header-reads, mask-reads}
use Rattle.reader.specs.declared.mask.MaskPlan.{MaskPlan}
use Rattle.reader.specs.declared.field.Read.{Read}
use Rattle.std.specs.Prelude.{Ok, Err}
use Rattle.reader.specs.Steps.{StandsAt, body_bits, mask_plan, mask_answer, MaskStands}
use Rattle.reader.proofs.SystemSteps.{body-length}
use Rattle.reader.proofs.FixedFields.{split, header_read}

-- ---- the header
module _ (bs : List Bool) (l : 32 ≤ length bs) where
  time : number_at bs 0 12 ≡ value (take 12 (drop 0 bs))
  time = number_fits bs 0 12 (omega (arith, l)) (omega arith)

  pub header-bad : 3599 < number_at bs 0 12 → header bs 0 ≡ bad (refuse refusal.Toh 0)
  unfolding header ◌>>=◌ judged field raw
  header-bad h = rw (le-leb 12 (length bs) (omega (arith, l)), le-ltb (value (take 12 bs)) 3600 (omega (arith, h, time)))

  pub header-got : number_at bs 0 12 ≤ 3599 → (h : Header) × (header bs 0 ≡ got h 32)
  unfolding header ◌>>=◌ ret judged field raw
  header-got h = (
    record { time = value (take 12 bs); flags = take 6 (drop 12 bs); reserved = value (take 4 (drop 18 bs)); mask_id = value (take 5 (drop 22 bs)); iod_set = value (take 5 (drop 27 bs)) },
    rw (
      le-leb 12 (length bs) (omega (arith, l)),
      lt-ltb (value (take 12 bs)) 3600 (omega (arith, h, time)),
      le-leb 18 (length bs) (omega (arith, l)),
      le-leb 22 (length bs) (omega (arith, l)),
      le-leb 27 (length bs) (omega (arith, l)),
      le-leb 32 (length bs) l,
    ),
  )

-- what a header that is read tells
pub record HeaderAt (bs : List Bool) (h : Header) : Type 0 where
  pub span : Span bs 0 (header_bits h) 32
  pub flags : h.flags ≡ take 6 (drop 12 bs)
  pub mask_id : number_at bs 22 5 ≡ h.mask_id

pub header_at : (bs : List Bool) (h : Header) → header bs 0 ≡ got h 32 → HeaderAt bs h
unfolding header_bits
header_at bs h e =
    let t = header-reads.sound bs 0 h 32 (omega arith) e in
    let ok = t.ok in
    let s2 = (split (bits 12 h.time) _ 12 (length-bits 12 h.time) t.span).1 in
    record {
      span = t.span;
      flags = sym (rw ok.flags at (split h.flags _ 6 ok.flags s2).0.here);
      mask_id = (header_read bs h ok t.span).mask_id;
    }

-- ---- a mask
-- the first of several systems, behind its GNSS ID, and the others
first-system : (bs : List Bool) (s : System) (ss : List System) (place : ℕ) {end : ℕ} → SystemOk s → Span bs place (each system_bits (s ∷ ss)) end
    → Span bs (place + 4) (body_bits s) (place + 4 + (60 + length s.cells)) × Span bs (place + 4 + (60 + length s.cells)) (each system_bits ss) end
unfolding each system_bits body_bits
first-system bs s ss place o t =
    let (u, v) = span-split (system_bits s) (each system_bits ss) t in
    let w = (span-split (bits 4 s.id) (body_bits s) u).1 in
    let p : place + length (bits 4 s.id) ≡ place + 4 = omega (arith, length-bits 4 s.id) in
    let q : place + length (system_bits s) ≡ place + 4 + (60 + length s.cells) =
    omega (arith, length-bits 4 s.id, body-length s o, length-append (bits 4 s.id) (body_bits s)) in
    (rw (p, q) at w, rw q at v)

eight : (place : ℕ) → place + 4 + 4 ≡ place + 8
eight place = omega arith

systems-stand : (bs : List Bool) (ss : List System) (place : ℕ) {end : ℕ} → Every SystemOk ss → Span bs (place + 4) (each system_bits ss) end
    → StandsAt bs (mask_plan ss place).first.place (at ss 0) × StandsAt bs (mask_plan ss place).second.place (at ss 1)
unfolding mask_plan at
systems-stand bs [] place o t = (tt, tt)
systems-stand bs (s ∷ []) place o t = ((_, rw (eight place) at (first-system bs s [] (place + 4) o.0 t).0), tt)
systems-stand bs (s ∷ r ∷ ss) place o t =
    let (u, v) = first-system bs s (r ∷ ss) (place + 4) o.0 t in
    let w = (first-system bs r ss (place + 8 + (60 + length s.cells)) o.1.0 (rw (eight place) at v)).0 in
    ((_, rw (eight place) at u), (_, w))

-- a mask that is read, and the code's plan of it
pub record Found (bs : List Bool) (place : ℕ) (m : Mask) (plan : MaskPlan) (end : ℕ) : Type 0 where
  pub read : mask bs place ≡ got m end
  pub stands : MaskStands bs m.systems plan
  pub ahead : place ≤ end
  pub fits : end ≤ length bs

mask-stands : (bs : List Bool) (m : Mask) (place : ℕ) {end : ℕ} → place ≤ 32 → place ≤ length bs → mask bs place ≡ got m end → Found bs place m (mask_plan m.systems place) end
unfolding mask_bits
mask-stands bs m place {end} near l e =
    let t = mask-reads.sound bs place m end l e in
    let o = t.ok in
    let s = (span-split (bits 4 (length m.systems)) _ t.span).1 in
    let u = (span-split (each system_bits m.systems) _ s).0 in
    let p : place + length (bits 4 (length m.systems)) ≡ place + 4 = omega (arith, length-bits 4 (length m.systems)) in
    let w = systems-stand bs m.systems place o.systems (rw p at u) in record {
      read = e;
      stands = record { made = (place, record { planned = refl; few = o.few; each = o.systems; differ = o.ids }); near = near; first = w.0; second = w.1 };
      ahead = omega (arith, t.span.after);
      fits = t.span.fits;
    }

-- what the code's reading of a mask tells
pub found : (bs : List Bool) (place : ℕ) {read : Read MaskPlan} → place ≤ 32 → place ≤ length bs → Ok read ≡ mask_answer place (mask bs place) → (m : Mask) × Found bs place m read.plan read.end
found bs place {read} near l = by-case (mask bs place) refl
  where
    by-case : (o : Outcome Mask) → mask bs place ≡ o → Ok read ≡ mask_answer place o → (m : Mask) × Found bs place m read.plan read.end
    by-case (got m n) t e =
        let h : read ≡ record { plan = mask_plan m.systems place; end = n } = cc in
        let p : read.plan ≡ mask_plan m.systems place = ap (λ (x : Read MaskPlan). x.plan) h in
        let q : read.end ≡ n = ap (λ (x : Read MaskPlan). x.end) h in
        (m, rw (p, q) (mask-stands bs m place near l t))
    by-case (bad r) t e = absurd (let z : ◌≡◌ {A = ℕ} 0 1 = cc in omega arith)

pub mask-refused : (o : Outcome Mask) (place : ℕ) {r : RefusalAt} → Err r ≡ mask_answer place o → o ≡ bad r
mask-refused (got m end) place e = absurd (let z : ◌≡◌ {A = ℕ} 0 1 = cc in omega arith)
mask-refused (bad y) place {r} e = let h : y ≡ r = cc in ap bad h
