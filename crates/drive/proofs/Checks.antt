-- The checks of `replay` in their order: the first that fails is the answer, and nothing is written; where none fails, the log is.
-- `replay_answer` tests the same in the same order, and a start of a time-out is good where it is 1 to 600.
use mathlib.Core.Bool.{true, false}
use mathlib.Core.List.{List, ◌++◌}
use mathlib.Core.Path.{◌≡◌, refl, sym, ap, ◌∙◌, subst}
use Prim.Native.Nat.{ℕ, ◌*◌, ◌/◌}
use native.Mathlib.Nat.{zero-add}
use lib.ListN.{length, drop}
use borrow.Author.Tests.{eq-eqb, ne_eqb}
use Rattle.refusal.specs.declared.Refusal.{Refusal}
use Rattle.refusal.specs.declared.Refusal.TheVariants.{Length, Out, Timeout}
use Rattle.std.specs.Prelude.{Ok, Err}
use Rattle.pagecode.specs.Answer.{Answer}
use Rattle.lists.specs.Lists.{laid}
use Rattle.lists.proofs.Tests.{on_bool}
use Rattle.collector.specs.declared.state.Collector.{Collector as CollectorImage}
use Rattle.collector.specs.Feed.{fresh, startable, start_answer, begun}
use Rattle.collector.specs.Image.{collector_image}
use Rattle.drive.specs.Drive.{log_of, are_entries, replay_answer, Replays}
use Rattle.drive.specs.Steps.{Appends, State}
use Rattle.drive.proofs.Room.{valid-start}

-- ---- a start
module _ (timeout : ℕ) where
  pub started : {a : Answer} → a ≡ start_answer timeout → a ≡ Ok tt → startable timeout ≡ true
  unfolding start_answer
  started e g = on_bool (startable timeout) (λ s. s) (λ s. let f = rw s at e in let never : ⊥ = cc in absurd never)

  pub not-started : {a : Answer} {r : Refusal} → a ≡ start_answer timeout → a ≡ Err r → (startable timeout ≡ false) × (r ≡ Timeout)
  unfolding start_answer
  not-started e g = on_bool (startable timeout) (λ s. let f = rw s at e in let never : ⊥ = cc in absurd never) (λ s. (s, let f = rw s at e in cc))

  begun_fresh : startable timeout ≡ true → begun timeout ≡ fresh timeout
  unfolding begun
  begun_fresh s = rw s

  -- the collector that is held is fresh, and its head has the time-out
  pub held-timeout : {image : CollectorImage} → startable timeout ≡ true → image ≡ collector_image (begun timeout) → image.head.timeout ≡ timeout
  held-timeout s e = ap (λ (x : CollectorImage). x.head.timeout) (e ∙ ap collector_image (begun_fresh s))

  pub held-fresh : {image : CollectorImage} → startable timeout ≡ true → image ≡ collector_image (begun timeout)
      → State (fresh image.head.timeout) image.head image.store
  held-fresh {image} s e =
      subst (λ (t : ℕ). State (fresh t) image.head image.store) (sym (held-timeout s e))
      (record { valid = valid-start timeout s; image = e ∙ ap collector_image (begun_fresh s) })

-- ---- the answer and the buffer
module _ (timeout : ℕ) (octets before : List ℕ) where
  pub no-entries : are_entries (length octets) ≡ false → Replays timeout octets before (Err Length) before
  unfolding replay_answer
  no-entries w = record { answered = rw w; buffer = refl }

  module _ (w : are_entries (length octets) ≡ true) where
    pub no_room : (length before ≡ 55 * (length octets / 64) → ⊥) → Replays timeout octets before (Err Out) before
    unfolding replay_answer
    no_room l = record { answered = rw (w, ne_eqb (length before) (55 * (length octets / 64)) l); buffer = refl }

    module _ (l : length before ≡ 55 * (length octets / 64)) where
      pub no_start : startable timeout ≡ false → Replays timeout octets before (Err Timeout) before
      unfolding replay_answer
      no_start s = record { answered = rw (w, eq-eqb (length before) (55 * (length octets / 64)) l, s); buffer = refl }

      pub goes : {after : List ℕ} {end t : ℕ} → startable timeout ≡ true → t ≡ timeout → Appends before 0 (log_of t octets) after end → Replays timeout octets before (Ok end) after
      unfolding replay_answer laid
      goes {after} {end} s e a =
          let b = subst (λ (x : ℕ). Appends before 0 (log_of x octets) after end) e a in
          let n = b.ends ∙ zero-add (length (log_of timeout octets)) in
          record {
            answered = rw (w, eq-eqb (length before) (55 * (length octets / 64)) l, s) (ap (λ (k : ℕ). Ok k) n);
            buffer = b.log ∙ ap (λ (k : ℕ). log_of timeout octets ++ drop k before) (sym b.ends);
          }
