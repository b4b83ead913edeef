-- The entries one after another: one more feeds the collector that the others left, and its answer is logged behind theirs.
-- The code holds that collector, and its log is the log of the entries so far.
use mathlib.Core.List.{List, [], ◌∷◌, ◌++◌, append-nil, append_assoc}
use mathlib.Core.Path.{◌≡◌, refl, sym, ap, ◌∙◌, subst}
use Prim.Native.Nat.{ℕ, zero, suc, ◌+◌, ◌*◌, ◌/◌, ◌≤◌, ◌<◌}
use native.Mathlib.Numerals.{add-one}
use native.Mathlib.Omega.{arith}
use lib.ListN.{length, take, drop, length-append, length-drop}
use lib.Seq.{take_at, drop_at, drop-drop}
use Rattle.lists.proofs.Laid.{laid_none}
use Rattle.collector.specs.declared.state.Head.{Head}
use Rattle.collector.specs.Feed.{Collector, Call, fresh, feed, run, answers}
use Rattle.drive.specs.Drive.{entry_of, entries_of, logged, logs, log_of}
use Rattle.drive.specs.Steps.{Appends, State, Roomy, Does}
use Rattle.drive.proofs.Appending.{appends-both}

-- ---- one call more
run-snoc : (c : Collector) (fs : List Call) (f : Call) → run c (fs ++ (f ∷ [])) ≡ (feed (run c fs) f).after
run-snoc c [] f = refl
run-snoc c (g ∷ fs) f = run-snoc (feed c g).after fs f

logs-snoc : (c : Collector) (fs : List Call) (f : Call) → logs (answers c (fs ++ (f ∷ []))) ≡ logs (answers c fs) ++ logged (feed (run c fs) f).answer
logs-snoc c [] f = append-nil (logged (feed c f).answer)
logs-snoc c (g ∷ fs) f =
    ap (λ (l : List ℕ). logged (feed c g).answer ++ l) (logs-snoc (feed c g).after fs f)
    ∙ sym (append_assoc (logged (feed c g).answer) (logs (answers (feed c g).after fs)) (logged (feed (run (feed c g).after fs) f).answer))

-- ---- one entry more
-- entry i, and the collector after the first i
abbrev pub entry_at : ℕ → List ℕ → List ℕ
entry_at i octets = take 64 (drop (i * 64) octets)

abbrev pub after : ℕ → ℕ → List ℕ → Collector
after timeout i octets = run (fresh timeout) (entries_of i octets)

abbrev pub log_first : ℕ → ℕ → List ℕ → List ℕ
log_first timeout i octets = logs (answers (fresh timeout) (entries_of i octets))

pub length-entries : (n : ℕ) (octets : List ℕ) → length (entries_of n octets) ≡ n
length-entries zero octets = refl
length-entries (suc n) octets = ap suc (length-entries n (drop 64 octets))

entries_next : (i : ℕ) (octets : List ℕ) → entries_of (suc i) octets ≡ entries_of i octets ++ (entry_of (entry_at i octets) ∷ [])
entries_next zero octets = refl
entries_next (suc i) octets =
    ap (λ (l : List Call). entry_of (take 64 octets) ∷ l) (entries_next i (drop 64 octets))
    ∙ ap (λ (l : List ℕ). entry_of (take 64 octets) ∷ (entries_of i (drop 64 octets) ++ (entry_of (take 64 l) ∷ []))) (drop-drop (i * 64) 64 octets ∙ ap (λ (n : ℕ). drop n octets) far)
  where
    far : 64 + i * 64 ≡ suc i * 64
    far = omega arith

module _ (timeout i : ℕ) (octets : List ℕ) where
  after_next : after timeout (suc i) octets ≡ (feed (after timeout i octets) (entry_of (entry_at i octets))).after
  after_next = ap (run (fresh timeout)) (entries_next i octets) ∙ run-snoc (fresh timeout) (entries_of i octets) (entry_of (entry_at i octets))

  log-next : log_first timeout (suc i) octets ≡ log_first timeout i octets ++ logged (feed (after timeout i octets) (entry_of (entry_at i octets))).answer
  log-next = ap (λ (fs : List Call). logs (answers (fresh timeout) fs)) (entries_next i octets) ∙ logs-snoc (fresh timeout) (entries_of i octets) (entry_of (entry_at i octets))

  length-next : length (log_first timeout (suc i) octets) ≡ length (log_first timeout i octets) + length (logged (feed (after timeout i octets) (entry_of (entry_at i octets))).answer)
  length-next = ap length log-next ∙ length-append (log_first timeout i octets) (logged (feed (after timeout i octets) (entry_of (entry_at i octets))).answer)

-- ---- the loop
-- the next 64 octets of those that are left are entry i
pub record Next (octets : List ℕ) (i : ℕ) (entry rest : List ℕ) : Type 0 where
  pub part : entry ≡ entry_at i octets
  pub left : rest ≡ drop ((i + 1) * 64) octets
  pub more : i < length octets / 64

pub next-entry : {octets was entry rest : List ℕ} {i : ℕ} → i * 64 ≤ length octets → was ≡ drop (i * 64) octets → was ≡ entry ++ rest → length entry ≡ 64 → Next octets i entry rest
next-entry {octets} {was} {entry} {rest} {i} h e f l =
    let both : entry ++ rest ≡ drop (i * 64) octets = sym f ∙ e in
    let far : i * 64 + 64 ≡ (i + 1) * 64 = omega arith in
    let long : length entry + length rest + i * 64 ≡ length octets = omega (arith, length-append entry rest, ap length both, length-drop (i * 64) octets) in
    record {
      part = sym (take_at entry rest 64 l) ∙ ap (take 64) both;
      left = sym (drop_at entry rest 64 l) ∙ ap (drop 64) both ∙ drop-drop 64 (i * 64) octets ∙ ap (λ (n : ℕ). drop n octets) far;
      more = omega arith;
    }

-- after i entries
pub record Going (timeout i : ℕ) (octets : List ℕ) (head : Head) (store before log : List ℕ) (at : ℕ) : Type 0 where
  pub state : State (after timeout i octets) head store
  pub appends : Appends before 0 (log_first timeout i octets) log at

pub going-none : (timeout : ℕ) (octets : List ℕ) (head : Head) (store log : List ℕ) → State (fresh timeout) head store → Going timeout 0 octets head store log log 0
going-none timeout octets head store log s = record { state = s; appends = record { log = laid_none log 0 []; ends = refl } }

module _ {timeout i at : ℕ} {octets store before log entry : List ℕ} {head : Head} (e : entry ≡ entry_at i octets) (g : Going timeout i octets head store before log at) where
  -- one more entry has room where its log has
  pub going-roomy : (room : ℕ) → length (log_first timeout (suc i) octets) ≤ room → Roomy (after timeout i octets) head store entry at room
  going-roomy room l =
      record {
        state = g.state;
        fits =
            subst (λ (x : List ℕ). at + length (logged (feed (after timeout i octets) (entry_of x)).answer) ≤ room) (sym e)
            (omega (arith, l, g.appends.ends, length-next timeout i octets));
      }

  pub going_next : {store' log' : List ℕ} {head' : Head} {end : ℕ} → length (log_first timeout (suc i) octets) ≤ length before
      → Does (after timeout i octets) entry log at head' end store' log' → Going timeout (i + 1) octets head' store' before log' end
  going_next {store'} {log'} {head'} {end} room l =
      let w = subst (λ (x : List ℕ). Does (after timeout i octets) x log at head' end store' log') e l in
      subst (λ (n : ℕ). Going timeout n octets head' store' before log' end) (sym (add-one i))
      (record {
        state = subst (λ (c : Collector). State c head' store') (sym (after_next timeout i octets)) w.state;
        appends =
            subst (λ (x : List ℕ). Appends before 0 x log' end) (sym (log-next timeout i octets))
            (appends-both (omega (arith, room, length-next timeout i octets)) g.appends w.appends);
      })

pub going_done : {timeout i at : ℕ} {octets store before log : List ℕ} {head : Head} → i ≡ length octets / 64 → Going timeout i octets head store before log at
    → Appends before 0 (log_of timeout octets) log at
unfolding log_of
going_done {timeout} {at = at} {octets = octets} {before = before} {log = log} e g = subst (λ (n : ℕ). Appends before 0 (log_first timeout n octets) log at) e g.appends
