-- Two results that the contract of `write` allows are equal, the lent buffer included.
-- The first checks refuse alike; behind them each answer says something of the list alone, and what is so written of a list is one bit string.
use Prim.Native.Nat.{ℕ}
use mathlib.Core.Bool.{Bool}
use mathlib.Core.List.{List}
use mathlib.Core.Logic.{◌⊎◌, inl, inr}
use mathlib.Core.Option.{Option, none, some}
use mathlib.Core.Path.{◌≡◌, refl, sym, ap, ◌∙◌}
use Rattle.std.specs.Prelude.{Result, Ok, Err}
use Rattle.lists.specs.Lists.{laid}
use Rattle.bits.specs.Bits.{octets_of}
use Rattle.refusal.specs.declared.Refusal.{Refusal}
use Rattle.refusal.specs.declared.Refusal.TheVariants.{Form, Long}
use Rattle.mt1.specs.Mt1.{Lent}
use Rattle.writer.specs.Writer.{Call, check, Judged, Writes}
use Rattle.writer.proofs.Written.{size-refused}
use Rattle.writer.proofs.Unique.{one_written}

-- ---- behind the first checks
module _ (lent : Lent) (l before : List ℕ) where
  -- what one refuses the other refuses
  same-refusal : (a a' : Result ℕ Refusal) (after after' : List ℕ) → Judged lent l before a after → Judged lent l before a' after' → (r : Refusal) → a ≡ Err r → a' ≡ Err r
  same-refusal a a' after after' j j' r e = pick (j.only r e)
    where
      pick : (r ≡ Form) ⊎ (r ≡ Long) → a' ≡ Err r
      pick (inl f) = j'.form.1 (j.form.0 (e ∙ ap Err f)) ∙ ap Err (sym f)
      pick (inr f) = j'.long.1 (j.long.0 (e ∙ ap Err f)) ∙ ap Err (sym f)

  one-judgement : (a a' : Result ℕ Refusal) (after after' : List ℕ) → Judged lent l before a after → Judged lent l before a' after'
      → ((r : Refusal) → a ≡ Err r → after ≡ before) → ((r : Refusal) → a' ≡ Err r → after' ≡ before) → (a ≡ a') × (after ≡ after')
  one-judgement (Err r) a' after after' j j' kept kept' =
      let e = same-refusal (Err r) a' after after' j j' r refl in
      (sym e, kept r refl ∙ sym (kept' r e))
  one-judgement (Ok k) (Err r) after after' j j' kept kept' = absurd (size-refused (same-refusal (Err r) (Ok k) after' after j' j r refl))
  one-judgement (Ok k) (Ok k') after after' j j' kept kept' =
      let (bs, w, e) = j.size k refl in
      let (bs', w', e') = j'.size k' refl in
      let (n, b) = one_written lent l k k' bs bs' w w' in
      (ap Ok n, e ∙ ap (λ (x : List Bool). laid before 0 (octets_of x)) b ∙ sym e')

pub one-writing : (c : Call) (before : List ℕ) (a a' : Result ℕ Refusal) (after after' : List ℕ) → Writes c before a after → Writes c before a' after' → (a ≡ a') × (after ≡ after')
one-writing c before a a' after after' w w' = pick (check c) refl
  where
    pick : (o : Option Refusal) → check c ≡ o → (a ≡ a') × (after ≡ after')
    pick none e = one-judgement c.lent c.records before a a' after after' (w.judged e) (w'.judged e) w.kept w'.kept
    pick (some r) e =
        let f = w.checks r e in
        let f' = w'.checks r e in
        (f ∙ sym f', w.kept r f ∙ sym (w'.kept r f'))
