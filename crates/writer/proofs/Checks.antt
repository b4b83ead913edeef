-- The first checks, one after another, and what is answered behind them.
-- Each is the test of the definition; a list of over 1,363 records is no message's.
use Prim.Native.Nat.{ℕ, ◌%◌, ◌≤◌, ◌<◌}
use native.Mathlib.Omega.{arith}
use mathlib.Core.Bool.{true, false, ◌&&◌}
use mathlib.Core.List.{List}
use mathlib.Core.Option.{none, some}
use mathlib.Core.Path.{◌≡◌, refl, sym, ap, ◌∙◌}
use lib.Dec.{eqb, ltb}
use lib.ListN.{length}
use Rattle.std.specs.Prelude.{Result, Err}
use borrow.Author.Tests.{eq-eqb, ne_eqb, ltb-true, eqb-true}
use Rattle.lists.proofs.Tests.{and_left, and_right}
use Rattle.refusal.specs.declared.Refusal.{Refusal}
use Rattle.refusal.specs.declared.Refusal.TheVariants.{Out, Mask, Form}
use Rattle.mt1.proofs.Combinators.{some-none}
use Rattle.writer.specs.Writer.{Call, are_records, header_of, is_header, lacks_mask, check, Judged, Writes}
use Rattle.writer.specs.Rendering.{Whole}
use Rattle.writer.proofs.Written.{records-few, judged-unread}

-- ---- whole records
module _ (l : List ℕ) (e : (are_records (length l) && is_header l) ≡ true) where
  are-records : are_records (length l) ≡ true
  are-records = and_left (are_records (length l)) (is_header l) e

  list-whole : length l % 16 ≡ 0
  list-whole = eqb-true (length l % 16) 0 (and_right (ltb 0 (length l)) (eqb (length l % 16) 0) are-records)

  list-long : 16 ≤ length l
  list-long = omega (arith, ltb-true 0 (length l) (and_left (ltb 0 (length l)) (eqb (length l % 16) 0) are-records), list-whole)

  pub list-records : length l ≤ 21808 → Whole l
  list-records h = record { some = list-long; few = h; whole = list-whole }

-- ---- what the checks refuse
module _ (c : Call) where
  pub check-out : (c.room ≡ 1696 → ⊥) → check c ≡ some Out
  unfolding check
  check-out h = rw (ne_eqb c.room 1696 h)

  module _ (room : c.room ≡ 1696) where
    pub check-form : (are_records (length c.records) && is_header c.records) ≡ false → check c ≡ some Form
    unfolding check
    check-form e = rw (eq-eqb c.room 1696 room, e)

    module _ (list : (are_records (length c.records) && is_header c.records) ≡ true) where
      pub check-mask : lacks_mask c.lent (header_of c.records) ≡ true → check c ≡ some Mask
      unfolding check
      check-mask e = rw (eq-eqb c.room 1696 room, list, e)

      pub check-none : lacks_mask c.lent (header_of c.records) ≡ false → check c ≡ none
      unfolding check
      check-none e = rw (eq-eqb c.room 1696 room, list, e)

-- ---- the contract
module _ (c : Call) (before : List ℕ) where
  pub writes-refused : {r : Refusal} → check c ≡ some r → Writes c before (Err r) before
  writes-refused {r} e = record {
    checks = λ s q. let z : some r ≡ some s = sym e ∙ q in ap Err cc;
    judged = λ q. absurd (some-none (sym e ∙ q));
    kept = λ w q. refl;
  }

  pub writes-judged : {answer : Result ℕ Refusal} {after : List ℕ} → check c ≡ none → Judged c.lent c.records before answer after
      → ((r : Refusal) → answer ≡ Err r → after ≡ before) → Writes c before answer after
  writes-judged e j k = record { checks = λ s q. absurd (some-none (sym q ∙ e)); judged = λ q. j; kept = k }

  pub writes-many : check c ≡ none → 21808 < length c.records → Writes c before (Err Form) before
  writes-many e n = writes-judged e (judged-unread c.lent c.records before before λ s. let z : ⊥ = omega (arith, n, (records-few c.lent s.0 c.records s.2).1) in z) (λ w q. refl)
