-- The programs that document 01 wants refused, refuted by demand 3's exact answers alone, whatever their state is; and that the collector gives these answers.
-- The trial: messages 1 and 2 of one page, message 3 of three, time-out 60, seconds 100 to 159, one page again at 160. It shows too that demand 3's premises can be met.
use mathlib.Core.Bool.{true, false}
use mathlib.Core.List.Memᴰ
use mathlib.Core.List.{List, [], ◌∷◌, ◌++◌, map, Memᴰ}
use mathlib.Core.Path.{◌≡◌, refl, sym, ap, ◌∙◌}
use Prim.Native.Nat.{ℕ, zero, suc, ◌+◌, ◌≤◌, zero-le}
use native.Mathlib.Omega.{arith}
use lib.ListN.{replicate}
use Rattle.refusal.specs.declared.Refusal.TheVariants.{Done}
use Rattle.pagecode.specs.Field.{Octets}
use Rattle.pagecode.specs.Page.{legal, content, encoded_page, header_octets, header_bits}
use Rattle.pagecode.proofs.Promises.{content-octets}
use Rattle.lists.specs.Lists.{Every}
use Rattle.collector.specs.Lists.{add}
use Rattle.collector.specs.Place.{Key, same_key}
use Rattle.collector.specs.Feed.{Collector, Answer, kept, ready, refused, Call, fresh, feed, run}
use Rattle.collector.specs.Demand.{Message, key_for, Sound, Sent, Fed, Of, call, Setting, seen, expected, is_ready}
use Rattle.collector.specs.Demand3.{Start, new, used}
use Rattle.lists.proofs.Tests.{clash}
use Rattle.collector.proofs.Lists.{every_mem}
use Rattle.collector.proofs.Keeps.{valid-fresh, valid-run, clock-run}
use Rattle.collector.proofs.Demand3Proved.{demand3}

-- ---- messages and feeds to try them on
zeros : (n : ℕ) → Octets (replicate n 0)
zeros zero i = omega arith
zeros (suc n) zero = omega arith
zeros (suc n) (suc i) = zeros n i

-- message `number`, of one page; and one of three
one : ℕ → Message
one n = record { status = 1; number = n; size = 1; octets = replicate 53 0 }

three : Message
three = record { status = 1; number = 3; size = 3; octets = replicate 159 0 }

one-sound : (n : ℕ) → n ≤ 31 → Sound (one n)
unfolding one
one-sound n h = record { status = omega arith; number = h; some = omega arith; few = omega arith; long = refl; octets = zeros 53 }

three-sound : Sound three
unfolding three
three-sound = record { status = omega arith; number = omega arith; some = omega arith; few = omega arith; long = refl; octets = zeros 159 }

ms : List Message
ms = one 1 ∷ one 2 ∷ three ∷ []

apart_by : (k : Key) (ks : List Key) → Every (λ (j : Key). k.number ≡ j.number → ⊥) ks → Memᴰ k ks → ⊥
apart_by k ks ev i = every_mem (λ (j : Key). k.number ≡ j.number → ⊥) ks ev k i refl

sent : Sent ms
unfolding ms one three
sent =
    record {
      few = omega arith;
      sound = λ m i. every_mem Sound ms (one-sound 1 (omega arith), (one-sound 2 (omega arith), (three-sound, tt))) m i;
      apart = (
        (λ i. apart_by _ (key_for (one 2) ∷ key_for three ∷ []) ((λ e. omega arith), ((λ e. omega arith), tt)) i),
        ((λ i. apart_by _ (key_for three ∷ []) ((λ e. omega arith), tt) i), ((λ i. Memᴰ.not-nil i), tt)),
      );
    }

-- a page of message 1, fed twice (a); one of message 2 (b); two of message 3 (p, q); and the first again, a time-out later (z)
abbrev fed : ℕ → Message → ℕ → Fed
fed t m n = record { second = t; message = m; page = n }

abbrev a : Fed
a = fed 100 (one 1) 1

abbrev b : Fed
b = fed 101 (one 2) 1

abbrev p : Fed
p = fed 102 three 1

abbrev q : Fed
q = fed 159 three 255

abbrev z : Fed
z = fed 160 (one 1) 1

setting : Setting ms 60 100 (a ∷ a ∷ b ∷ p ∷ q ∷ [])
unfolding ms one three legal
setting =
    let of-a : Of ms a = record { one = Memᴰ.head refl; legal-number = refl } in
    let of-b : Of ms b = record { one = Memᴰ.tail (Memᴰ.head refl); legal-number = refl } in
    let of-p : Of ms p = record { one = Memᴰ.tail (Memᴰ.tail (Memᴰ.head refl)); legal-number = refl } in
    let of-q : Of ms q = record { one = Memᴰ.tail (Memᴰ.tail (Memᴰ.head refl)); legal-number = refl } in
    record { sent = sent; pages = (of-a, (of-a, (of-b, (of-p, (of-q, tt))))); timed = omega arith }

setting-z : Setting ms 60 160 (z ∷ [])
unfolding ms one legal
setting-z = record { sent = sent; pages = (record { one = Memᴰ.head refl; legal-number = refl }, tt); timed = omega arith }

-- a page's octets, its content shut
headed : (c : List ℕ) → Octets c → Octets (header_octets (record { status = 1; reserved = 0; kind = 1; number = 1; size = 1; page = 1 }) ++ c)
unfolding header_octets header_bits
headed c o zero = omega arith
headed c o (suc zero) = omega arith
headed c o (suc (suc zero)) = omega arith
headed c o (suc (suc (suc i))) = o i

octets-a : Octets (call a).page
unfolding one encoded_page
octets-a = headed (content 1 (replicate 53 0) 1) (content-octets 1 (replicate 53 0) 1 (zeros 53))

-- ---- what a collector took before: nothing, or calls with pages of octets up to a time-out ago
pub data Earlier (T t₀ : ℕ) : List Call → Type 0 where
  nothing : Earlier T t₀ []
  some : {old : List Call} (last : ℕ) → 1 ≤ T → T ≤ 600 → last + T ≤ t₀ → Every (λ (f : Call). Octets f.page) old → Every (λ (f : Call). f.second ≤ last) old
      → Earlier T t₀ old

-- ---- any program: its states, a fresh one, what a call answers and leaves
module _ (S : Type 0) (new : ℕ → S) (answer : S → Call → Answer) (next : S → Call → S) where
  abbrev pub after : S → List Call → S
  after s [] = s
  after s (f ∷ fs) = after (next s f) fs

  -- demand 3's exact answers, fresh or used
  abbrev pub Meets : Type 0
  Meets = (ms : List Message) (T : ℕ) (old : List Call) (f₀ : Fed) (fs : List Fed) → Earlier T f₀.second old → Setting ms T f₀.second (f₀ ∷ fs)
      → (pre : List Fed) (f : Fed) (post : List Fed) → (f₀ ∷ fs) ≡ pre ++ (f ∷ post)
      → answer (after (after (new T) old) (map call pre)) (call f) ≡ expected f.message (seen f.message pre) f.page

  module _ (meets : Meets) where
    trial : (pre : List Fed) (f : Fed) (post : List Fed) → (a ∷ a ∷ b ∷ p ∷ q ∷ []) ≡ pre ++ (f ∷ post)
        → answer (after (new 60) (map call pre)) (call f) ≡ expected f.message (seen f.message pre) f.page
    trial = meets ms 60 [] a (a ∷ b ∷ p ∷ q ∷ []) nothing setting

    first : answer (new 60) (call a) ≡ ready 1 (replicate 53 0)
    unfolding one expected
    first = trial [] a (a ∷ b ∷ p ∷ q ∷ []) refl

    second : answer (next (new 60) (call a)) (call a) ≡ refused Done
    unfolding one expected add same_key
    second = trial (a ∷ []) a (b ∷ p ∷ q ∷ []) refl

    third : answer (after (new 60) (map call (a ∷ a ∷ []))) (call b) ≡ ready 1 (replicate 53 0)
    unfolding one expected add same_key
    third = trial (a ∷ a ∷ []) b (p ∷ q ∷ []) refl

    fourth : answer (after (new 60) (map call (a ∷ a ∷ b ∷ []))) (call p) ≡ kept 1
    unfolding one three expected add same_key
    fourth = trial (a ∷ a ∷ b ∷ []) p (q ∷ []) refl

    fifth : answer (after (new 60) (map call (a ∷ a ∷ b ∷ p ∷ []))) (call q) ≡ kept 2
    unfolding one three expected add same_key
    fifth = trial (a ∷ a ∷ b ∷ p ∷ []) q [] refl

    later : answer (next (new 60) (call a)) (call z) ≡ ready 1 (replicate 53 0)
    unfolding one expected
    later = meets ms 60 (call a ∷ []) z [] (some 100 (omega arith) (omega arith) (omega arith) (octets-a, tt) (omega arith)) setting-z [] z [] refl

    -- it does not refuse always, nor say KEPT always
    pub not-never : ((s : S) (f : Call) → is_ready (answer s f) ≡ false) → ⊥
    not-never h = clash (ap is_ready first) (h (new 60) (call a))

    -- it has not one fixed answer
    pub not-fixed : (r : Answer) → ((s : S) (f : Call) → answer s f ≡ r) → ⊥
    not-fixed r h = clash (ap is_ready first) (ap is_ready (h (new 60) (call a) ∙ sym (h (next (new 60) (call a)) (call a)) ∙ second))

    -- it does something
    pub not-idle : ((s : S) (f : Call) → next s f ≡ s) → ⊥
    not-idle h = clash (ap is_ready first) (ap is_ready (ap (λ (s : S). answer s (call a)) (sym (h (new 60) (call a))) ∙ second))

    -- it does not solve its first message and no later one
    pub not-first-only : ((s : S) (f : Call) (gs : List Call) (g : Call) → is_ready (answer s f) ≡ true → is_ready (answer (after (next s f) gs) g) ≡ false) → ⊥
    not-first-only h = clash (ap is_ready third) (h (new 60) (call a) (call a ∷ []) (call b) (ap is_ready first))

    -- a message that came out is not done for good
    pub not-for-good : ((s : S) (f g : Call) → f.page ≡ g.page → is_ready (answer s f) ≡ true → is_ready (answer (next s f) g) ≡ false) → ⊥
    not-for-good h = clash (ap is_ready later) (h (new 60) (call a) (call z) refl (ap is_ready first))

    -- its KEPT count is not a number of its own
    pub not-invented : (n : ℕ) → ((s : S) (f : Call) (k : ℕ) → answer s f ≡ kept k → k ≡ n) → ⊥
    not-invented n h =
        omega (arith, h (after (new 60) (map call (a ∷ a ∷ b ∷ []))) (call p) 1 fourth, h (after (new 60) (map call (a ∷ a ∷ b ∷ p ∷ []))) (call q) 2 fifth)

-- ---- the collector meets them
abbrev pub answer_to : Collector → Call → Answer
answer_to c f = (feed c f).answer

abbrev pub next_of : Collector → Call → Collector
next_of c f = (feed c f).after

after_run : (c : Collector) (fs : List Call) → after Collector fresh answer_to next_of c fs ≡ run c fs
after_run c [] = refl
after_run c (f ∷ fs) = after_run (feed c f).after fs

started : (T t₀ : ℕ) (old : List Call) → Earlier T t₀ old → Start (run (fresh T) old) T t₀
started T t₀ [] nothing = new refl
started T t₀ old (some last least most e os ss) =
    let r = clock-run (fresh T) old last zero-le ss in
    used (valid-run (fresh T) old (valid-fresh T least most) os) r.0 (omega (arith, r.1))

pub collector-meets : Meets Collector fresh answer_to next_of
collector-meets ms T old f₀ fs e h pre f post s =
    ap (λ (c : Collector). (feed c (call f)).answer)
    (after_run (after Collector fresh answer_to next_of (fresh T) old) (map call pre) ∙ ap (λ (c : Collector). run c (map call pre)) (after_run (fresh T) old))
    ∙ (demand3 (run (fresh T) old) ms T f₀ fs (started T f₀.second old e) h).exact pre f post s
