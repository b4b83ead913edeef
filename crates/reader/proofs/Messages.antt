-- The message: its header, the mask that it uses, and the blocks behind the mask.
-- What is read tells whose mask is used, and the parser goes on with its systems; a plan of the blocks is then one of the message.
use Prim.Native.Nat.{ℕ, ◌≤◌}
use native.Mathlib.Omega.{arith}
use mathlib.Core.Bool.{Bool, true, false}
use mathlib.Core.List.{List, []}
use mathlib.Core.Option.{Option, none, some}
use mathlib.Core.Path.{◌≡◌, refl, sym, ap, subst, ◌∙◌}
use lib.Dec.{eqb}
use lib.ListN.{length, get_or}
use borrow.Author.Tests.{eq-eqb, ne_eqb}
use Rattle.bits.specs.Bits.{bits_of}
use Rattle.lists.proofs.Tests.{on_bool}
use Rattle.refusal.specs.declared.Refusal.TheVariants as refusal
use Rattle.mt1.specs.declared.answer.RefusalAt.{RefusalAt}
use Rattle.mt1.specs.Parse.{Outcome, got, bad, refuse, ◌>>=◌, ret, fail, optional}
use Rattle.mt1.specs.Message.{Header, has_orbit, has_clock, has_subset, has_code, has_phase, System, Mask, Message}
use Rattle.mt1.specs.Mt1.{header, mask, block, orbits, clocks, subset, codes, phases, needs_mask, used, or_mask, behind, Lent, lent_for, is_none, message}
use Rattle.mt1.specs.Records.{at}
use Rattle.mt1.proofs.Combinators.{next-elim}
use Rattle.mt1.proofs.Inverted.{message-reads}
use Rattle.reader.specs.declared.mask.MaskPlan.{MaskPlan}
use Rattle.reader.specs.declared.plan.Plan.{Plan}
use Rattle.std.specs.Prelude.{Result, Ok, Err}
use Rattle.std.specs.Result.{is_err}
use Rattle.reader.specs.Steps.{mask_plan, mask_answer, MaskOf, MaskStands, blocks, BlocksStand, BlocksRead, source, LentRead, MessageRead, Planned}
use Rattle.reader.proofs.Planning.{flag}
use Rattle.reader.proofs.Headers.{header_at, Found}

-- ---- the mask that is lent
pub lent_other : (lent : Lent) (id : ℕ) → (lent.id ≡ id → ⊥) → lent_for lent id ≡ none
unfolding lent_for
lent_other lent id h = rw (ne_eqb lent.id id h)

pub lent-unclean : (lent : Lent) (id : ℕ) {r : RefusalAt} → mask (bits_of lent.octets) 0 ≡ bad r → lent_for lent id ≡ none
unfolding lent_for
lent-unclean lent id e = on_bool (eqb lent.id id) (λ t. rw (t, e)) (λ t. rw t)

pub lent-clean : (lent : Lent) (id : ℕ) {m : Mask} {end : ℕ} → lent.id ≡ id → mask (bits_of lent.octets) 0 ≡ got m end → lent_for lent id ≡ some m
unfolding lent_for
lent-clean lent id h e = rw (eq-eqb lent.id id h, e)

-- whether it is lacking, as the code's reading of it tells
pub lent-lacking : (lent : Lent) (id : ℕ) → lent.id ≡ id → is_err (mask_answer 0 (mask (bits_of lent.octets) 0)) ≡ is_none (lent_for lent id)
lent-lacking lent id h = by-case (mask (bits_of lent.octets) 0) refl
  where
    by-case : (o : Outcome Mask) → mask (bits_of lent.octets) 0 ≡ o → is_err (mask_answer 0 o) ≡ is_none (lent_for lent id)
    by-case (got m end) e = sym (ap is_none (lent-clean lent id h e))
    by-case (bad r) e = sym (ap is_none (lent-unclean lent id e))

module _ (lent : Lent) (h : Header) (n : needs_mask h ≡ true) (octets : List ℕ) where
  pub lent-missing : {r : RefusalAt} → r ≡ refuse refusal.Mask 22 → lent_for lent h.mask_id ≡ none → LentRead lent h octets (Err r)
  unfolding ◌>>=◌ used fail
  lent-missing f e = rw (e, n, f)

  pub lent-read : (m : Mask) (plan : MaskPlan) (r : Result Plan RefusalAt) → lent_for lent h.mask_id ≡ some m → MaskStands (bits_of lent.octets) m.systems plan
      → BlocksRead h none m.systems (bits_of octets) 32 true plan r → LentRead lent h octets r
  unfolding ◌>>=◌ used ret
  lent-read m plan (Ok p) e s (x, end, b, t, l, k) = (x, end, m, e, b, t, l, rw k s)
  lent-read m plan (Err r) e s b = rw (e, n) b

-- ---- the message
keeps : (h : Header) (own : Option Mask) (ss : List System) (bs : List Bool) (place : ℕ) {m : Message} {end : ℕ} → blocks h own ss bs place ≡ got m end → (m.header ≡ h) × (m.mask ≡ own)
unfolding blocks ◌>>=◌ ret
keeps h own ss bs place e =
    next-elim (optional (has_orbit h) (block (orbits ss)) bs place) _ e λ os a _ e1.
    next-elim (optional (has_clock h) (block (clocks ss)) bs a) _ e1 λ cs b _ e2.
    next-elim (optional (has_subset h) (block (subset ss)) bs b) _ e2 λ sub c _ e3.
    next-elim (optional (has_code h) (block (codes ss)) bs c) _ e3 λ xs d _ e4.
    next-elim (optional (has_phase h) (block (phases ss)) bs d) _ e4 λ ps f _ e5. ((cc), (cc))

unused : (lent : Option Mask) (h : Header) → needs_mask h ≡ false → used lent h none ≡ some []
unfolding used
unused none h n = rw n
unused (some m) h n = rw n

lent-used : (m : Mask) (h : Header) → needs_mask h ≡ true → used (some m) h none ≡ some m.systems
unfolding used
lent-used m h n = rw n

pub none_made : {plan : MaskPlan} → plan ≡ mask_plan [] 0 → MaskOf [] 0 plan
none_made e = record { planned = e; few = omega arith; each = tt; differ = tt }

no-mask : (bs : List Bool) {plan : MaskPlan} → plan ≡ mask_plan [] 0 → MaskStands bs [] plan
unfolding mask_plan at
no-mask bs e = record { made = (0, none_made e); near = omega arith; first = tt; second = tt }

module _ (lent : Lent) (octets : List ℕ) where
  pub message-bad : {r : RefusalAt} → header (bits_of octets) 0 ≡ bad r → message lent (bits_of octets) 0 ≡ bad r
  unfolding message ◌>>=◌
  message-bad e = rw e

  module _ (h : Header) (e : header (bits_of octets) 0 ≡ got h 32) (short : length octets ≤ 20480) where
    pub own-bad : {r : RefusalAt} → get_or (bits_of octets) 12 false ≡ true → mask (bits_of octets) 32 ≡ bad r → message lent (bits_of octets) 0 ≡ bad r
    unfolding message behind ◌>>=◌
    own-bad f b = rw (e, flag h (bits_of octets) (header_at (bits_of octets) h e).flags 0 (omega arith), f, b)

    own-got : (m : Mask) {place : ℕ} → get_or (bits_of octets) 12 false ≡ true → mask (bits_of octets) 32 ≡ got m place
        → message lent (bits_of octets) 0 ≡ blocks h (some m) m.systems (bits_of octets) place
    unfolding message behind blocks ◌>>=◌ ret used
    own-got m f b = rw (e, flag h (bits_of octets) (header_at (bits_of octets) h e).flags 0 (omega arith), f, b)

    not_own : get_or (bits_of octets) 12 false ≡ false → message lent (bits_of octets) 0 ≡ (or_mask (used (lent_for lent h.mask_id) h none) >>= blocks h none) (bits_of octets) 32
    unfolding message behind blocks ◌>>=◌ ret
    not_own f = rw (e, flag h (bits_of octets) (header_at (bits_of octets) h e).flags 0 (omega arith), f)

    -- where the message uses these systems, and they stand in these octets
    module _ (own : Option Mask) (ss : List System) (place : ℕ) (s : message lent (bits_of octets) 0 ≡ blocks h own ss (bits_of octets) place)
        (u : used (lent_for lent h.mask_id) h own ≡ some ss) (sourced : List ℕ) where
      stands : (m : Message) (end : ℕ) (plan : Plan) → blocks h own ss (bits_of octets) place ≡ got m end → MaskStands (bits_of sourced) ss plan.mask
          → BlocksStand (bits_of octets) ss m plan → Planned lent octets sourced m ss plan
      stands m end plan b w t =
          let (o, k) = keeps h own ss (bits_of octets) place b in
          let (ss', ok) = ((message-reads lent).sound (bits_of octets) 0 m end (omega arith) (s ∙ b)).ok in
          let v : some ss' ≡ some ss = sym ok.used ∙ rw (o, k) u in
          let d : ss' ≡ ss = cc in
          record { ok = rw d at ok; header = rw o (header_at (bits_of octets) h e).span; mask = w; blocks = t; short = short }

    -- its own mask, or none, is in its octets
    message-read : (own : Option Mask) (ss : List System) (place : ℕ) (plan : MaskPlan) (r : Result Plan RefusalAt) → message lent (bits_of octets) 0 ≡ blocks h own ss (bits_of octets) place
        → used (lent_for lent h.mask_id) h own ≡ some ss → MaskStands (bits_of octets) ss plan → BlocksRead h own ss (bits_of octets) place false plan r → MessageRead lent octets r
    message-read own ss place w (Ok plan) s u t (m, end, b, v, l, k) =
        (m, end, ss, s ∙ b, subst (λ (f : Bool). Planned lent octets (source f octets lent.octets) m ss plan) (sym l) (stands own ss place s u octets m end plan b (rw k t) v))
    message-read own ss place w (Err r) s u t b = s ∙ b

    pub own_read : (m : Mask) {place : ℕ} {plan : MaskPlan} (r : Result Plan RefusalAt) → get_or (bits_of octets) 12 false ≡ true → Found (bits_of octets) 32 m plan place
        → BlocksRead h (some m) m.systems (bits_of octets) place false plan r → MessageRead lent octets r
    unfolding used
    own_read m {place} {plan} r f w = message-read (some m) m.systems place plan r (own-got m f w.read) refl w.stands

    module _ (f : get_or (bits_of octets) 12 false ≡ false) where
      uses : (ss : List System) → used (lent_for lent h.mask_id) h none ≡ some ss → message lent (bits_of octets) 0 ≡ blocks h none ss (bits_of octets) 32
      unfolding ◌>>=◌ ret
      uses ss u = not_own f ∙ rw u

      pub none_read : {plan : MaskPlan} (r : Result Plan RefusalAt) → needs_mask h ≡ false → plan ≡ mask_plan [] 0 → BlocksRead h none [] (bits_of octets) 32 false plan r → MessageRead lent octets r
      none_read {plan} r n k = let u = unused (lent_for lent h.mask_id) h n in message-read none [] 32 plan r (uses [] u) u (no-mask (bits_of octets) k)

      pub lent-message : (r : Result Plan RefusalAt) → needs_mask h ≡ true → LentRead lent h octets r → MessageRead lent octets r
      lent-message (Ok plan) n (m, end, w, i, b, t, l, v) =
          let u : used (lent_for lent h.mask_id) h none ≡ some w.systems = rw i (lent-used w h n) in (
            m,
            end,
            w.systems,
            uses w.systems u ∙ b,
            subst (λ (f : Bool). Planned lent octets (source f octets lent.octets) m w.systems plan) (sym l) (stands none w.systems 32 (uses w.systems u) u lent.octets m end plan b v t),
          )
      lent-message (Err r) n b = not_own f ∙ b
