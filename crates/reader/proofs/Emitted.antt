-- The records of a planned message: the header's, then those of the mask's systems, of which there are none, one or two.
-- What each of the two calls of `emit_system` needs and tells, at the system that stands there.
use Prim.Native.Nat.{ℕ, ◌+◌, ◌≤◌}
use native.Mathlib.Nat.{zero-add}
use native.Mathlib.Omega.{arith}
use mathlib.Core.List.{List, [], ◌∷◌, ◌++◌, append-nil, append_assoc}
use mathlib.Core.Option.{some, some-injective}
use mathlib.Core.Path.{◌≡◌, sym, ap, ap₂, ◌∙◌}
use lib.ListN.{length, length-append}
use Rattle.lists.specs.Lists.{laid}
use Rattle.mt1.specs.Message.{System, Message}
use Rattle.mt1.specs.Mt1.{Lent}
use Rattle.mt1.specs.Records.{at, header_record, system_records, records}
use Rattle.mt1.proofs.Elements.{at_there}
use Rattle.mt1.proofs.Counts.{length-header}
use Rattle.reader.specs.declared.mask.SystemPlan.{SystemPlan}
use Rattle.reader.specs.declared.plan.Plan.{Plan}
use Rattle.reader.specs.declared.record.Rows.{Rows}
use Rattle.reader.specs.Steps.{Planned}
use Rattle.reader.specs.Recording.{Emits, first_rows, second_rows}
use Rattle.reader.proofs.Emitting.{Wrote, wrote_record, wrote_then, wrote-length, system-next, system-le}
use Rattle.reader.proofs.Systems.{systems-are, ok_at, first-emits, second-emits}

-- what a call of `emit_system` tells
abbrev pub Told : List ℕ → List ℕ → SystemPlan → Rows → ℕ → ℕ → ℕ → List ℕ → List ℕ → Type 0
Told octets sourced plan rows p o o' d d' = (m : Message) (s : System) → Emits octets sourced plan rows m p s
    → (o' ≡ o + length (system_records m p (s ∷ []))) × (d' ≡ laid d o (system_records m p (s ∷ [])))

wrote_told : {octets sourced : List ℕ} {plan : SystemPlan} {rows : Rows} {p o o' : ℕ} {d d' : List ℕ} (m : Message) (s : System)
    → Told octets sourced plan rows p o o' d d' → Emits octets sourced plan rows m p s → Wrote (system_records m p (s ∷ [])) o o' d d'
wrote_told m s told e = record { end = (told m s e).0; buffer = (told m s e).1 }

-- the records of so many systems
records-none : (ss : List System) (m : Message) → length ss ≡ 0 → header_record m ≡ records ss m
unfolding records system_records
records-none [] m e = sym (append-nil (header_record m))
records-none (s ∷ ss) m e = absurd (let z : ⊥ = omega arith in z)

records-one : (ss : List System) (m : Message) {s : System} → length ss ≡ 1 → at ss 0 ≡ some s → header_record m ++ system_records m 0 (s ∷ []) ≡ records ss m
unfolding records at
records-one [] m e f = absurd (let z : ⊥ = omega arith in z)
records-one (x ∷ []) m {s} e f = rw (some-injective x s f)
records-one (x ∷ y ∷ ss) m e f = absurd (let z : ⊥ = omega arith in z)

records-two : (ss : List System) (m : Message) {s t : System} → length ss ≡ 2 → at ss 0 ≡ some s → at ss 1 ≡ some t
    → (header_record m ++ system_records m 0 (s ∷ [])) ++ system_records m 1 (t ∷ []) ≡ records ss m
unfolding records at
records-two [] m e f g = absurd (let z : ⊥ = omega arith in z)
records-two (x ∷ []) m e f g = absurd (let z : ⊥ = omega arith in z)
records-two (x ∷ y ∷ []) m {s} {t} e f g =
    append_assoc (header_record m) (system_records m 0 (s ∷ [])) (system_records m 1 (t ∷ []))
    ∙ ap (λ (l : List ℕ). header_record m ++ l) (sym (system-next m 0 s (t ∷ [])))
    ∙ ap₂ (λ (a b : System). header_record m ++ system_records m 0 (a ∷ b ∷ [])) (sym (some-injective x s f)) (sym (some-injective y t g))
records-two (x ∷ y ∷ z ∷ ss) m e f g = absurd (let z : ⊥ = omega arith in z)

done : {o : ℕ} {d d' : List ℕ} (ss : List System) (m : Message) {l : List ℕ} → l ≡ records ss m → Wrote l 0 o d d' → (o ≡ length (records ss m)) × (d' ≡ laid d 0 (records ss m))
done {o} {d} ss m {l} e w = (w.end ∙ zero-add (length l) ∙ ap length e, w.buffer ∙ ap (laid d 0) e)

module _ {lent : Lent} {octets sourced : List ℕ} {m : Message} {ss : List System} {plan : Plan} (planned : Planned lent octets sourced m ss plan) where
  pub wrote-header : {r d d' : List ℕ} → r ≡ header_record m → d' ≡ laid d 0 r → Wrote (header_record m) 0 16 d d'
  wrote-header = wrote_record (header_record m) (length-header m)

  -- no system
  pub emitted-none : {d d' : List ℕ} → plan.mask.systems ≡ 0 → Wrote (header_record m) 0 16 d d' → (16 ≡ length (records ss m)) × (d' ≡ laid d 0 (records ss m))
  emitted-none e w = done ss m (records-none ss m (sym (systems-are planned) ∙ e)) w

  -- the first
  module _ (not_None : plan.mask.systems ≡ 0 → ⊥) where
    first : (s : System) × (at ss 0 ≡ some s)
    first = at_there ss 0 (omega (arith, not_None, systems-are planned))

    first_short : length (system_records m 0 (first.0 ∷ [])) ≤ 10896
    first_short = system-le m 0 first.0 (ok_at planned 0 first.1)

    module _ {rows : Rows} (rows_are : rows ≡ first_rows plan) where
      first_of : Emits octets sourced plan.mask.first rows m 0 first.0
      first_of = rw rows_are (first-emits planned first.1 (omega (arith, not_None, systems-are planned)))

      pub first-there : (x : Message) × (s : System) × Emits octets sourced plan.mask.first rows x 0 s
      first-there = (m, first.0, first_of)

      wrote-first : {o : ℕ} {d d' d'' : List ℕ} → length d ≡ 21808 → Wrote (header_record m) 0 16 d d' → Told octets sourced plan.mask.first rows 0 16 o d' d''
          → Wrote (header_record m ++ system_records m 0 (first.0 ∷ [])) 0 o d d''
      wrote-first l w told = wrote_then (header_record m) (system_records m 0 (first.0 ∷ [])) (omega (arith, l, length-header m, first_short)) w (wrote_told m first.0 told first_of)

      -- what is left behind it
      pub first-room : {o : ℕ} {d d' d'' : List ℕ} → length d ≡ 21808 → Wrote (header_record m) 0 16 d d' → Told octets sourced plan.mask.first rows 0 16 o d' d''
          → (o + 10896 ≤ length d'') × (o ≤ 16000)
      first-room {o} {d} l w told =
          let a = system_records m 0 (first.0 ∷ []) in
          let e = (told m first.0 first_of).0 in
          let room : 0 + length (header_record m ++ a) ≤ length d = omega (arith, l, length-header m, length-append (header_record m) a, first_short) in
          (omega (arith, l, e, first_short, wrote-length (header_record m ++ a) room (wrote-first l w told)), omega (arith, e, first_short))

      pub emitted-one : {o : ℕ} {d d' d'' : List ℕ} → plan.mask.systems ≡ 1 → length d ≡ 21808 → Wrote (header_record m) 0 16 d d'
          → Told octets sourced plan.mask.first rows 0 16 o d' d'' → (o ≡ length (records ss m)) × (d'' ≡ laid d 0 (records ss m))
      emitted-one e l w told = done ss m (records-one ss m (sym (systems-are planned) ∙ e) first.1) (wrote-first l w told)

    -- and the second
    module _ (not-one : plan.mask.systems ≡ 1 → ⊥) where
      two : length ss ≡ 2
      two = omega (arith, not_None, not-one, systems-are planned, planned.mask.made.1.few)

      second : (t : System) × (at ss 1 ≡ some t)
      second = at_there ss 1 (omega (arith, two))

      module _ {rows : Rows} (rows_are : rows ≡ second_rows plan) where
        second-of : Emits octets sourced plan.mask.second rows m 1 second.0
        second-of = rw rows_are (second-emits planned first.1 second.1 (omega (arith, two)))

        pub second-there : (x : Message) × (s : System) × Emits octets sourced plan.mask.second rows x 1 s
        second-there = (m, second.0, second-of)

        pub emitted-two : {rows₁ : Rows} {o o' : ℕ} {d d' d'' d''' : List ℕ} → rows₁ ≡ first_rows plan → length d ≡ 21808 → Wrote (header_record m) 0 16 d d'
            → Told octets sourced plan.mask.first rows₁ 0 16 o d' d'' → Told octets sourced plan.mask.second rows 1 o o' d'' d'''
            → (o' ≡ length (records ss m)) × (d''' ≡ laid d 0 (records ss m))
        emitted-two {rows₁} {o} {o'} {d} first-are l w told told' =
            let a = system_records m 0 (first.0 ∷ []) in
            let b = system_records m 1 (second.0 ∷ []) in
            let room : 0 + (length (header_record m ++ a) + length b) ≤ length d =
            omega (arith, l, length-header m, length-append (header_record m) a, first_short, system-le m 1 second.0 (ok_at planned 1 second.1)) in
            done ss m (records-two ss m two first.1 second.1)
            (wrote_then (header_record m ++ a) b room (wrote-first first-are l w told) (wrote_told m second.0 told' second-of))
