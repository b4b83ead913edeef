-- Octets read to records exactly if the reader answers how many these are, and writes them.
-- The records of a message are whole, so that their number says how long they are, and they are laid at the front of the buffer.
use Prim.Native.Nat.{ℕ, ◌/◌, ◌%◌, ◌≤◌}
use native.Mathlib.Omega.{arith}
use mathlib.Core.Bool.{Bool, true, false, false≢true}
use mathlib.Core.List.{List}
use mathlib.Core.Path.{◌≡◌, refl, sym, ap, ◌∙◌}
use lib.Dec.{eqb}
use lib.ListN.{length, take}
use lib.Pointwise.{pointwise}
use Rattle.std.proofs.lemmas.Bool.Decides.{Decides-eqb}
use Rattle.std.proofs.lemmas.Slice.Eq.{slice_eq-Decides}
use Rattle.std.specs.Prelude.{Result, Ok, Err}
use Rattle.lists.specs.Lists.{laid}
use Rattle.lists.proofs.Laid.{laid-front}
use Rattle.bits.specs.Bits.{bits_of}
use Rattle.mt1.specs.declared.answer.RefusalAt.{RefusalAt}
use Rattle.mt1.specs.Parse.{Outcome, got, bad}
use Rattle.mt1.specs.Message.{Message}
use Rattle.mt1.specs.Mt1.{Lent, message}
use Rattle.mt1.specs.Records.{records_of}
use Rattle.reader.specs.Reader.{reading_octets, answer_of, buffer_of, Reads}
use Rattle.reader.proofs.Answers.{is-message}
use Rattle.writer.specs.Writer.{ReadsTo}
use Rattle.writer.proofs.Written.{records-few}

records-same : {i j : ℕ} → ◌≡◌ {A = Result ℕ RefusalAt} (Ok i) (Ok j) → i ≡ j
records-same e = cc

records-refused : {n : ℕ} {r : RefusalAt} → ◌≡◌ {A = Result ℕ RefusalAt} (Ok n) (Err r) → ⊥
records-refused e = let z : ◌≡◌ {A = ℕ} 0 1 = cc in omega arith

-- ---- what the reader makes of an outcome
module _ (lent : Lent) (bs : List Bool) (l : List ℕ) where
  counted : ReadsTo lent bs l → answer_of lent (message lent bs 0) ≡ Ok (length l / 16)
  counted t = ap (answer_of lent) t.reads ∙ ap (λ (x : List ℕ). Ok (length x / 16)) t.records

  laid-there : (before : List ℕ) → ReadsTo lent bs l → take (length l) (buffer_of lent (message lent bs 0) before) ≡ l
  laid-there before t =
      ap (λ (o : Outcome Message). take (length l) (buffer_of lent o before)) t.reads
      ∙ ap (λ (x : List ℕ). take (length l) (laid before 0 x)) t.records
      ∙ laid-front before l (length l) refl

  read-from : (before : List ℕ) (o : Outcome Message) → message lent bs 0 ≡ o → answer_of lent o ≡ Ok (length l / 16) → length l % 16 ≡ 0 → take (length l) (buffer_of lent o before) ≡ l → ReadsTo lent bs l
  read-from before (bad r) e a w b = absurd (records-refused (sym a))
  read-from before (got m end) e a w b =
      let v = (records-few lent bs (records_of lent m) (record { m = m; end = end; reads = e; records = refl })).0 in
      let n : length (records_of lent m) ≡ length l = omega (arith, records-same a, v, w) in
      record {
        m = m;
        end = end;
        reads = e;
        records =
            sym (laid-front before (records_of lent m) (length (records_of lent m)) refl)
            ∙ ap (λ (k : ℕ). take k (laid before 0 (records_of lent m))) n
            ∙ b;
      }

-- ---- what `read_octets` answers and writes decides whether bits read to l
pub record Decides (lent : Lent) (bs : List Bool) (l : List ℕ) (answer : Result ℕ RefusalAt) (after : List ℕ) : Type 0 where
  -- they do not if it refuses or has another number of records
  pub refused : {r : RefusalAt} → answer ≡ Err r → ReadsTo lent bs l → ⊥
  pub other : {n : ℕ} → answer ≡ Ok n → (n ≡ length l / 16 → ⊥) → ReadsTo lent bs l → ⊥
  -- with that number they do exactly if l stands at the front of the buffer
  pub same : {n : ℕ} → answer ≡ Ok n → n ≡ length l / 16 → take (length l) after ≡ l → ReadsTo lent bs l
  pub stands : ReadsTo lent bs l → take (length l) after ≡ l

-- by that number, and by whether the records at the front of the buffer are those of l
abbrev pub Told : Lent → List Bool → List ℕ → Bool → Type 0
Told lent bs l told = (told ≡ true → ReadsTo lent bs l) × (ReadsTo lent bs l → told ≡ true)

pub told-refused : {lent : Lent} {bs : List Bool} {l after : List ℕ} {answer : Result ℕ RefusalAt} {r : RefusalAt} → Decides lent bs l answer after → answer ≡ Err r → Told lent bs l false
told-refused d e = (λ f. absurd (false≢true f), λ t. absurd (d.refused e t))

pub told-other : {lent : Lent} {bs : List Bool} {l after : List ℕ} {answer : Result ℕ RefusalAt} {n : ℕ} {told : Bool} → Decides lent bs l answer after → answer ≡ Ok n → (n ≡ length l / 16 → ⊥)
    → told ≡ false → Told lent bs l told
told-other d e o q = (λ f. absurd (false≢true (sym q ∙ f)), λ t. absurd (d.other e o t))

pub told-same : {lent : Lent} {bs : List Bool} {l after : List ℕ} {answer : Result ℕ RefusalAt} {n : ℕ} {told : Bool} → Decides lent bs l answer after → answer ≡ Ok n → n ≡ length l / 16
    → told ≡ pointwise eqb (take (length l) after) l → Told lent bs l told
told-same {l = l} {after = after} {told = told} d e n q =
    let (if, only) = slice_eq-Decides Decides-eqb (take (length l) after) l told q in
    (λ t. d.same e n (if t), λ t. only (d.stands t))

-- of as many octets as it takes, in a buffer as long as it asks
module _ (lent : Lent) (octets before l : List ℕ) (answer : Result ℕ RefusalAt) (after : List ℕ) (room : length before ≡ 21808) (enough : 4 ≤ length octets) (most : length octets ≤ 20480)
    (reads : Reads reading_octets (record { octets = octets; lent = lent; room = length before }) before answer after) where
  is_read : reading_octets (record { octets = octets; lent = lent; room = length before }) ≡ message lent (bits_of octets) 0
  is_read = is-message _ before enough most room

  answered : answer ≡ answer_of lent (message lent (bits_of octets) 0)
  answered = reads.answered ∙ ap (answer_of lent) is_read

  buffer : after ≡ buffer_of lent (message lent (bits_of octets) 0) before
  buffer = reads.buffer ∙ ap (λ (o : Outcome Message). buffer_of lent o before) is_read

  answers-count : ReadsTo lent (bits_of octets) l → answer ≡ Ok (length l / 16)
  answers-count t = answered ∙ counted lent (bits_of octets) l t

  pub reading-decides : length l % 16 ≡ 0 → Decides lent (bits_of octets) l answer after
  reading-decides whole = record {
    refused = λ e t. records-refused (sym (answers-count t) ∙ e);
    other = λ e d t. d (records-same (sym e ∙ answers-count t));
    same = λ e d b. read-from lent (bits_of octets) l before (message lent (bits_of octets) 0) refl (sym answered ∙ e ∙ ap Ok d) whole (ap (take (length l)) (sym buffer) ∙ b);
    stands = λ t. ap (take (length l)) buffer ∙ laid-there lent (bits_of octets) l before t;
  }
