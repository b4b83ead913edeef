-- What the parser of a system says where the code answers: by exits, in the order of the fields.
-- Each field's outcome settles the next step; a system is as long as its bits, of which its cells are at most 640.
use Prim.Native.Nat.{ℕ, zero, suc, ◌+◌, ◌*◌, ◌≤◌}
use native.Mathlib.Nat.{mul-le-mul}
use native.Mathlib.Omega.{arith}
use mathlib.Core.Bool.{Bool, true, false, cond}
use mathlib.Core.List.{List, ◌++◌}
use mathlib.Core.Path.{◌≡◌, refl, sym, ap, ◌∙◌}
use lib.Dec.{eqb}
use lib.ListN.{length, take, drop, replicate, length-append}
use borrow.Author.Tests.{leb-true}
use Rattle.bits.specs.Bits.{bits, fits_in}
use Rattle.bits.proofs.Values.{length-bits}
use Rattle.lists.proofs.Tests.{on_bool}
use Rattle.std.specs.Prelude.{Ok, Err}
use Rattle.refusal.specs.declared.Refusal.TheVariants as refusal
use Rattle.mt1.specs.declared.answer.RefusalAt.{RefusalAt}
use Rattle.mt1.specs.Parse.{Outcome, got, bad, refuse, ◌>>=◌, ret, raw, field, judged}
use Rattle.mt1.specs.Message.{System, count, cell_bits, cells_of}
use Rattle.mt1.specs.Mt1.{system}
use Rattle.mt1.specs.Valid.{SystemOk}
use Rattle.mt1.proofs.Combinators.{bad-got}
use Rattle.mt1.proofs.Masks.{system-reads}
use Rattle.mt1.proofs.Counts.{satellites-few, signals-few}
use Rattle.reader.specs.declared.mask.SystemPlan.{SystemPlan}
use Rattle.reader.specs.declared.field.Read.{Read}
use Rattle.reader.specs.Steps.{body_bits, system_plan, system_answer, system_end}
use Rattle.reader.proofs.Fields.{raw-there, raw-short}

-- ---- a system from its cell mask on
count-true : (n : ℕ) → count (replicate n true) ≡ n
unfolding count
count-true zero = refl
count-true (suc n) = omega (arith, count-true n)

count-cond : (flag : Bool) (cells : List Bool) (n : ℕ) → count (cond flag cells (replicate n true)) ≡ cond flag (count cells) n
count-cond true cells n = refl
count-cond false cells n = count-true n

pub cells-few : (flag : Bool) {n s g : ℕ} → n ≡ cond flag (s * g) 0 → s ≤ 40 → g ≤ 16 → n ≤ 640
cells-few true e p q = omega (arith, e, mul-le-mul p q)
cells-few false e p q = omega (arith, e)

module _ (id flag place : ℕ) (bs a b : List Bool) {s g n : ℕ} (ha : s ≡ count a) (hb : g ≡ count b) {masked : Bool} (hm : masked ≡ eqb flag 1) (hn : n ≡ cond masked (s * g) 0) where
  all : n ≡ cond (eqb flag 1) (cell_bits a b) 0
  all = rw (← ha, ← hb, ← hm) hn

  pub cells-bad : {r : RefusalAt} → raw n bs (place + 57) ≡ bad r → Err r ≡ system_answer place (system_end id a b flag bs (place + 57))
  unfolding system_end ◌>>=◌
  cells-bad e = rw (← all, e) refl

  module _ {m : ℕ} (he : (m ≡ place + 57 + n) × (fits_in bs (place + 57) n ≡ true)) where
    here : raw n bs (place + 57) ≡ got (take n (drop (place + 57) bs)) m
    here = rw he.0 (raw-there n bs (place + 57) he.1)

    pub navigation-bad : {r : RefusalAt} → field 3 bs m ≡ bad r → Err r ≡ system_answer place (system_end id a b flag bs (place + 57))
    unfolding system_end ◌>>=◌ judged
    navigation-bad e = rw (← all, here, e) refl

    pub navigation-wrong : {v : ℕ} → field 3 bs m ≡ got v (m + 3) → eqb v 0 ≡ false
        → Err (refuse refusal.NavMsg m) ≡ system_answer place (system_end id a b flag bs (place + 57))
    unfolding system_end ◌>>=◌ judged
    navigation-wrong e f = rw (← all, here, e, f) refl

    pub system-made : {v k : ℕ} → field 3 bs m ≡ got v (m + 3) → eqb v 0 ≡ true → k ≡ cond masked (count (take n (drop (place + 57) bs))) (s * g)
        → Ok (record { plan = record { id = id; place = place; satellites = s; signals = g; flag = masked; cells = k }; end = m + 3 })
        ≡ system_answer place (system_end id a b flag bs (place + 57))
    unfolding system_end ◌>>=◌ ret judged cells_of
    system-made e f h = rw (← all, here, e, f, h, hm, count-cond (eqb flag 1) (take n (drop (place + 57) bs)) (cell_bits a b), ha, hb) refl

-- ---- a system behind its GNSS ID
module _ (id place : ℕ) (bs : List Bool) where
  pub satellites-bad : {r : RefusalAt} → raw 40 bs place ≡ bad r → system id bs place ≡ bad r
  unfolding system ◌>>=◌
  satellites-bad e = rw e

  module _ {m : ℕ} (hm : (m ≡ place + 40) × (fits_in bs place 40 ≡ true)) where
    pub signals-bad : {r : RefusalAt} → raw 16 bs m ≡ bad r → system id bs place ≡ bad r
    unfolding system ◌>>=◌
    signals-bad e = rw (raw-there 40 bs place hm.1, ← hm.0, e)

    module _ {k : ℕ} (hk : (k ≡ m + 16) × (fits_in bs m 16 ≡ true)) where
      pub flag-bad : {r : RefusalAt} → field 1 bs k ≡ bad r → system id bs place ≡ bad r
      unfolding system ◌>>=◌
      flag-bad e = rw (raw-there 40 bs place hm.1, ← hm.0, raw-there 16 bs m hk.1, ← hk.0, e)

      pub to-cells : {flag : ℕ} → field 1 bs k ≡ got flag (k + 1) → system id bs place ≡ system_end id (take 40 (drop place bs)) (take 16 (drop m bs)) flag bs (place + 57)
      unfolding system system_end ◌>>=◌
      to-cells e =
          let p : k + 1 ≡ place + 57 = omega (arith, hm.0, hk.0) in
          rw (raw-there 40 bs place hm.1, ← hm.0, raw-there 16 bs m hk.1, ← hk.0, e, p) refl

-- ---- what a system's answer tells
pub system-bad : (place : ℕ) (o : Outcome System) {r : RefusalAt} → Err r ≡ system_answer place o → o ≡ bad r
system-bad place (got v end) e = absurd (let z : ◌≡◌ {A = ℕ} 0 1 = cc in omega arith)
system-bad place (bad y) {r} e = let h : y ≡ r = cc in ap bad h

pub system-got {ℓ} : {X : Type ℓ} (place : ℕ) (o : Outcome System) {f : Read SystemPlan} → Ok f ≡ system_answer place o
    → ((s : System) → o ≡ got s f.end → f.plan ≡ system_plan s place → X) → X
system-got place (got s m) {f} e k =
    let h : f ≡ record { plan = system_plan s place; end = m } = cc in
    k s (ap (got s) (sym (ap (λ (x : Read SystemPlan). x.end) h))) (ap (λ (x : Read SystemPlan). x.plan) h)
system-got place (bad y) e k = absurd (let z : ◌≡◌ {A = ℕ} 0 1 = cc in omega arith)

-- how long it is
pub mask-cells : (s : System) → SystemOk s → length s.cells ≤ 640
mask-cells s o = cells-few (eqb s.cell_flag 1) o.cells (satellites-few s o) (signals-few s o)

pub body-length : (s : System) → SystemOk s → length (body_bits s) ≡ 60 + length s.cells
unfolding body_bits
body-length s o = omega (
  arith,
  o.satellites,
  o.signals,
  length-bits 1 s.cell_flag,
  length-bits 3 s.navigation,
  length-append s.satellites (s.signals ++ (bits 1 s.cell_flag ++ (s.cells ++ bits 3 s.navigation))),
  length-append s.signals (bits 1 s.cell_flag ++ (s.cells ++ bits 3 s.navigation)),
  length-append (bits 1 s.cell_flag) (s.cells ++ bits 3 s.navigation),
  length-append s.cells (bits 3 s.navigation),
)

pub record Long (id place : ℕ) (s : System) (end : ℕ) : Type 0 where
  pub of : s.id ≡ id
  pub ends : end ≡ place + (60 + length s.cells)
  pub few : length s.cells ≤ 640

pub system-long : (id place : ℕ) (bs : List Bool) {s : System} {end : ℕ} → system id bs place ≡ got s end → Long id place s end
unfolding body_bits
system-long id place bs {s} {end} e = on_bool (fits_in bs place 40)
    (λ f.
    let t = (system-reads id).sound bs place s end (omega (arith, leb-true (place + 40) (length bs) f)) e in
    let o = t.ok.1 in
    record {
      of = t.ok.0;
      ends = t.span.after ∙ ap (λ (k : ℕ). place + k) (body-length s o);
      few = mask-cells s o;
    })
    (λ f. absurd (bad-got (sym (satellites-bad id place bs (raw-short 40 bs place f)) ∙ e)))

pub system-near : (id place : ℕ) (bs : List Bool) {f : Read SystemPlan} → Ok f ≡ system_answer place (system id bs place) → f.end ≤ place + 700
system-near id place bs e = system-got place (system id bs place) e λ s h p.
    let l = system-long id place bs h in
    omega (arith, l.ends, l.few)
