-- What `read` and `read_octets` answer, check by check: LENGTH, OUT, the message's own refusal, or the number of its records, which are written.
-- Each check is one test of `reading_if`; the systems that a message uses are those of its plan.
use Prim.Native.Nat.{ℕ, ◌*◌, ◌/◌, ◌%◌, ◌≤◌}
use native.Mathlib.Omega.{arith}
use mathlib.Core.Bool.{Bool, true, false, ◌&&◌}
use mathlib.Core.List.{List}
use mathlib.Core.Path.{◌≡◌, sym, ap, ap₂, subst, ◌∙◌}
use lib.Dec.{eqb, leb}
use lib.ListN.{length}
use borrow.Author.Tests.{leb-true, le-leb, eqb-true, eq-eqb, ne_eqb}
use Rattle.lists.specs.Lists.{laid}
use Rattle.lists.proofs.Tests.{on_bool, and_left, and_right}
use Rattle.bits.specs.Bits.{bits_of}
use Rattle.pagecode.specs.Encode.{are_pages}
use Rattle.refusal.specs.declared.Refusal.TheVariants as refusal
use Rattle.mt1.specs.declared.answer.RefusalAt.{RefusalAt}
use Rattle.mt1.specs.Parse.{Outcome, got, bad, refuse}
use Rattle.mt1.specs.Message.{System, Message}
use Rattle.mt1.specs.Mt1.{Lent, message}
use Rattle.mt1.specs.Records.{records}
use Rattle.mt1.proofs.Inverted.{records-used}
use Rattle.std.specs.Prelude.{Result, Ok, Err}
use Rattle.reader.specs.declared.plan.Plan.{Plan}
use Rattle.reader.specs.Reader.{Call, reading_if, reading, reading_octets, Reads}
use Rattle.reader.specs.Steps.{source, Planned}

pub not-pages : (n : ℕ) → (53 ≤ n → n ≤ 1696 → n % 53 ≡ 0 → ⊥) → are_pages (n / 53) n ≡ false
unfolding are_pages
not-pages n h = on_bool (are_pages (n / 53) n)
    (λ t.
    let a = leb-true 1 (n / 53) (and_left (leb 1 (n / 53)) (leb (n / 53) 32 && eqb n (n / 53 * 53)) t) in
    let b = and_right (leb 1 (n / 53)) (leb (n / 53) 32 && eqb n (n / 53 * 53)) t in
    let d = leb-true (n / 53) 32 (and_left (leb (n / 53) 32) (eqb n (n / 53 * 53)) b) in
    let e = eqb-true n (n / 53 * 53) (and_right (leb (n / 53) 32) (eqb n (n / 53 * 53)) b) in
    absurd (h (omega (arith, a)) (omega (arith, d)) (omega (arith, e))))
    (λ t. t)

pub pages : (n : ℕ) → 53 ≤ n → n ≤ 1696 → n % 53 ≡ 0 → are_pages (n / 53) n ≡ true
unfolding are_pages
pages n a b e = ap₂ ◌&&◌ (le-leb 1 (n / 53) (omega arith)) (ap₂ ◌&&◌ (le-leb (n / 53) 32 (omega arith)) (eq-eqb n (n / 53 * 53) (omega (arith, e))))

between : (n : ℕ) → 4 ≤ n → n ≤ 20480 → (leb 4 n && leb n 20480) ≡ true
between n a b = ap₂ ◌&&◌ (le-leb 4 n a) (le-leb n 20480 b)

not-between : (n : ℕ) → (4 ≤ n → n ≤ 20480 → ⊥) → (leb 4 n && leb n 20480) ≡ false
not-between n h = on_bool (leb 4 n && leb n 20480)
    (λ t. absurd (h (leb-true 4 n (and_left (leb 4 n) (leb n 20480) t)) (leb-true n 20480 (and_right (leb 4 n) (leb n 20480) t))))
    (λ t. t)

same-reading : (c : Call) → 53 ≤ length c.octets → length c.octets ≤ 1696 → length c.octets % 53 ≡ 0 → reading c ≡ reading_octets c
unfolding reading reading_octets
same-reading c a b e = let n = length c.octets in ap (λ (good : Bool). reading_if good c) (pages n a b e ∙ sym (between n (omega (arith, a)) (omega (arith, b))))

-- whose octets the mask is in
pub from-source : {lent : Lent} {octets : List ℕ} {m : Message} {ss : List System} {plan : Plan} {f g : Bool} → f ≡ g
    → Planned lent octets (source f octets lent.octets) m ss plan → Planned lent octets (source g octets lent.octets) m ss plan
from-source {lent} {octets} {m} {ss} {plan} e t = subst (λ (b : Bool). Planned lent octets (source b octets lent.octets) m ss plan) e t

refuses : (how : Call → Outcome Message) (c : Call) (before : List ℕ) {r : RefusalAt} → how c ≡ bad r → Reads how c before (Err r) before
refuses how c before e = record { answered = rw e; buffer = rw e }

module _ (c : Call) (before : List ℕ) where
  pub bad-pages : {r : RefusalAt} → are_pages (length c.octets / 53) (length c.octets) ≡ false → r ≡ refuse refusal.Length 0 → Reads reading c before (Err r) before
  unfolding reading
  bad-pages p e = refuses reading c before (rw (p, e))

  pub bad-length : {r : RefusalAt} → (4 ≤ length c.octets → length c.octets ≤ 20480 → ⊥) → r ≡ refuse refusal.Length 0 → Reads reading_octets c before (Err r) before
  unfolding reading_octets
  bad-length h e = refuses reading_octets c before (rw (not-between (length c.octets) h, e))

  -- of pages, the same is read
  pub reads-pages : (a : Result ℕ RefusalAt) (after : List ℕ) → 53 ≤ length c.octets → length c.octets ≤ 1696 → length c.octets % 53 ≡ 0 → Reads reading_octets c before a after → Reads reading c before a after
  reads-pages a after l m e x =
      let d = same-reading c l m e in
      record { answered = rw d x.answered; buffer = rw d x.buffer }

  module _ (l : 4 ≤ length c.octets) (m : length c.octets ≤ 20480) where
    pub bad-room : {r : RefusalAt} → (c.room ≡ 21808 → ⊥) → r ≡ refuse refusal.Out 0 → Reads reading_octets c before (Err r) before
    unfolding reading_octets
    bad-room h e = refuses reading_octets c before (rw (between (length c.octets) l m, ne_eqb c.room 21808 h, e))

    module _ (h : c.room ≡ 21808) where
      pub is-message : reading_octets c ≡ message c.lent (bits_of c.octets) 0
      unfolding reading_octets
      is-message = rw (between (length c.octets) l m, eq-eqb c.room 21808 h)

      pub bad-message : {r : RefusalAt} → message c.lent (bits_of c.octets) 0 ≡ bad r → Reads reading_octets c before (Err r) before
      bad-message e = refuses reading_octets c before (is-message ∙ e)

      pub reads-message : (m : Message) (end : ℕ) (ss : List System) (plan : Plan) (sourced after : List ℕ) (n : ℕ) → message c.lent (bits_of c.octets) 0 ≡ got m end
          → Planned c.lent c.octets sourced m ss plan → n ≡ length (records ss m) → after ≡ laid before 0 (records ss m) → Reads reading_octets c before (Ok (n / 16)) after
      reads-message m end ss plan sourced after n e t i j =
          let d = is-message ∙ e in
          let k = records-used c.lent ss m t.ok.used in
          record { answered = rw (d, k, i); buffer = rw (d, k, j) }
