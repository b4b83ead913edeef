-- Demand 3 from a fresh collector: the exact answers, what comes out and how often, what waits, and that the order does not matter.
-- All follow from the exact answer and the invariant of the run (Run): READY comes exactly where the count of different numbers comes to k.
use mathlib.Core.Bool.{Bool, true, false, cond}
use mathlib.Core.List.Memᴰ
use mathlib.Core.List.{List, [], ◌∷◌, ◌++◌, map, Memᴰ, append-nil, append_assoc}
use mathlib.Core.Logic.{◌⊎◌, inl, inr}
use mathlib.Core.Option.{none, some}
use mathlib.Core.Path.{◌≡◌, refl, sym, ap, ap₂, ◌∙◌, subst}
use Prim.Native.Nat.{ℕ, suc, ◌+◌, ◌≤◌, zero-le}
use native.Mathlib.Nat.{le_refl, le_trans, zero-add}
use native.Mathlib.Omega.{arith}
use lib.ListN.{length}
use lib.Dec.{eqb, leb}
use borrow.Author.Tests.{le-leb, lt-leb, leb-true, leb-false, eqb-true, eqb-false}
use Rattle.lists.specs.Lists.{Every, memb}
use Rattle.collector.specs.Lists.{add}
use Rattle.collector.specs.Place.{Key, Held, Place, same_key, is_free, find, pages_in, lookup, numbers}
use Rattle.collector.specs.Feed.{Collector, Answer, ready, fresh, feed, run, answers, held_at}
use Rattle.collector.specs.Demand.{Message, key_for, Sound, Sent, Fed, Of, content_at, call, Timed, Setting, numbers_of, seen, expected, is_ready, outs, SamePages}
use Rattle.collector.specs.Demand3.{is_out, Comes}
use Rattle.lists.proofs.Tests.{on_bool, clash}
use Rattle.collector.proofs.Lists.{every_front, every_back, length-snoc, map_inj, different-same, different-mem, mem-different, memb-iff}
use Rattle.collector.proofs.Places.{same_true, is_free_lem}
use Rattle.collector.proofs.PageCode.{PageOf}
use Rattle.collector.proofs.OnePlace.{place_of, lookup-pages}
use Rattle.collector.proofs.Run.{inv-fresh, step, Reached, walk, seen-own, seen_other}

-- ---- reading `expected`
-- READY comes exactly where the count of different numbers comes to k
ready-step : (m : Message) → Sound m → (s : List ℕ) (n : ℕ) → cond (is_ready (expected m s n)) 1 0 + is_out m s ≡ is_out m (add n s)
unfolding expected add
ready-step m so s n =
    on_bool (leb m.size (length s))
    (λ d.
    let h = leb-true m.size (length s) d in
    on_bool (memb n s)
    (λ e. rw (d, e, d))
    (λ e. rw (d, e, length-snoc s n, le-leb m.size (suc (length s)) (omega arith))))
    (λ d.
    let h = leb-false m.size (length s) d in
    on_bool (memb n s)
    (λ e. rw (d, e, d))
    (λ e. on_bool (eqb (suc (length s)) m.size)
    (λ q. let g = eqb-true (suc (length s)) m.size q in rw (d, e, q, length-snoc s n, le-leb m.size (suc (length s)) (omega arith)))
    (λ q. let g = eqb-false (suc (length s)) m.size q in rw (d, e, q, length-snoc s n, lt-leb m.size (suc (length s)) (omega arith)))))

ready-out : (m : Message) (s : List ℕ) (n k : ℕ) (octets : List ℕ) → ready k octets ≡ expected m s n → Comes m s n k octets
unfolding expected
ready-out m s n k octets =
    on_bool (leb m.size (length s))
    (λ d. rw d (λ e. clash {b = true} refl (ap is_ready e)))
    (λ d. on_bool (memb n s)
    (λ q. rw (d, q) (λ e. clash {b = true} refl (ap is_ready e)))
    (λ q. on_bool (eqb (suc (length s)) m.size)
    (λ z. rw (d, q, z) (λ e. record { size = cc; whole = cc; new = q; kth = eqb-true (suc (length s)) m.size z }))
    (λ z. rw (d, q, z) (λ e. clash {b = true} refl (ap is_ready e)))))

outs-step : (b : Bool) (o x y z : ℕ) → cond b 1 0 + x ≡ y → o + y ≡ z → cond b (suc o) o + x ≡ z
outs-step true o x y z p q = omega arith
outs-step false o x y z p q = omega arith

held_place : (m : Message) → Sound m → (first n : ℕ) (hs : List Held) → Every (PageOf m) hs
    → lookup n (pages_in (place_of m first hs))
    ≡ cond (leb m.size (length (numbers hs))) none (cond (memb n (numbers hs)) (some (content_at m n)) none)
held_place m so first n [] ev = rw (lt-leb m.size 0 so.some)
held_place m so first n (h ∷ hs) ev =
    on_bool (leb m.size (suc (length (numbers hs)))) (λ e. rw e) (λ e. rw e (lookup-pages m n (h ∷ hs) ev))

module _ (ms : List Message) (T t₀ : ℕ) where
  start : (fs : List Fed) → Timed t₀ (t₀ + T) fs → (sent : Sent ms) → Reached ms sent T t₀ (fresh T) [] fs
  start fs h sent = record { from = t₀; inv = inv-fresh ms T t₀; clock = zero-le; lo = le_refl t₀; timed = h }

  -- the exact answer to each feed, with s the different page numbers of its message fed before
  pub exact : (pre : List Fed) (f : Fed) (post : List Fed) → Setting ms T t₀ (pre ++ (f ∷ post))
      → (feed (run (fresh T) (map call pre)) (call f)).answer ≡ expected f.message (seen f.message pre) f.page
  exact pre f post h =
      let r = walk ms h.sent T t₀ [] pre (f ∷ post) (fresh T) (every_front (Of ms) pre (f ∷ post) h.pages) (start (pre ++ (f ∷ post)) h.timed h.sent) in
      let d = r.timed in
      (step ms h.sent T t₀ (run (fresh T) (map call pre)) pre f r.inv
      (every_back (Of ms) pre (f ∷ post) h.pages).0 (le_trans r.lo d.0) d.1 d.2 (le_trans r.clock d.0)).0

  -- what comes out is the message, octet for octet, with its kth different page number
  pub whole : (pre : List Fed) (f : Fed) (post : List Fed) → Setting ms T t₀ (pre ++ (f ∷ post)) → (k : ℕ) (octets : List ℕ)
      → (feed (run (fresh T) (map call pre)) (call f)).answer ≡ ready k octets
      → Comes f.message (seen f.message pre) f.page k octets
  whole pre f post h k octets e = ready-out f.message (seen f.message pre) f.page k octets (sym e ∙ exact pre f post h)

  -- along the run: what has come out so far, and what comes
  outs-from : (sent : Sent ms) (m : Message) → Memᴰ m ms → (fs acc : List Fed) (c : Collector) → Every (Of ms) fs
      → Reached ms sent T t₀ c acc fs
      → outs (key_for m) fs (answers c (map call fs)) + is_out m (seen m acc) ≡ is_out m (seen m (acc ++ fs))
  outs-from sent m i [] acc c ofs r = rw zero-add (ap (λ (l : List Fed). is_out m (seen m l)) (sym (append-nil acc)))
  outs-from sent m i (f ∷ fs) acc c ofs r =
      let h = r.timed in
      let lo : t₀ ≤ f.second = le_trans r.lo h.0 in
      let s = step ms sent T t₀ c acc f r.inv ofs.0 lo h.1 h.2 (le_trans r.clock h.0) in
      let c' = (feed c (call f)).after in
      let ih =
      outs-from sent m i fs (acc ++ (f ∷ [])) c' ofs.1
      (record { from = f.second; inv = s.1; clock = subst (λ (x : ℕ). x ≤ f.second) (sym s.2) (le_refl f.second); lo = lo; timed = h.3 }) in
      let goal = outs (key_for m) fs (answers c' (map call fs)) in
      subst
      (λ (l : List Fed). outs (key_for m) (f ∷ fs) (answers c (map call (f ∷ fs))) + is_out m (seen m acc) ≡ is_out m (seen m l))
      (append_assoc acc (f ∷ []) fs)
      (on_bool (same_key (key_for f.message) (key_for m))
      (λ e.
      let q : f.message ≡ m = map_inj key_for ms sent.apart f.message m ofs.0.one i (same_true (key_for f.message) (key_for m) e) in
      let a : (feed c (call f)).answer ≡ expected m (seen m acc) f.page =
      subst (λ (x : Message). (feed c (call f)).answer ≡ expected x (seen x acc) f.page) q s.0 in
      rw e
      (outs-step (is_ready (feed c (call f)).answer) goal (is_out m (seen m acc)) (is_out m (seen m (acc ++ (f ∷ [])))) _
      (ap (λ (z : Answer). cond (is_ready z) 1 0 + is_out m (seen m acc)) a ∙ ready-step m (sent.sound m i) (seen m acc) f.page
      ∙ ap (is_out m) (sym (seen-own m acc f e)))
      ih))
      (λ e. rw e (ap (λ (l : List ℕ). goal + is_out m l) (sym (seen_other m acc f e)) ∙ ih)))

  -- it comes out once if k different page numbers were fed, and never if fewer
  pub once : (fs : List Fed) → Setting ms T t₀ fs → (m : Message) → Memᴰ m ms
      → outs (key_for m) fs (answers (fresh T) (map call fs)) ≡ is_out m (seen m fs)
  once fs h m i =
      let e = outs-from h.sent m i fs [] (fresh T) h.pages (start fs h.timed h.sent) in
      let z : is_out m [] ≡ 0 = rw (lt-leb m.size 0 (h.sent.sound m i).some) in
      omega (arith, e, z)

  -- ---- what waits
  -- the content held under a key and a number after the feeds
  final : (fs : List Fed) → (h : Setting ms T t₀ fs) → Reached ms h.sent T t₀ (run (fresh T) (map call fs)) fs []
  final fs h =
      walk ms h.sent T t₀ [] fs [] (fresh T) h.pages
      (subst (λ (l : List Fed). Reached ms h.sent T t₀ (fresh T) [] l) (sym (append-nil fs)) (start fs h.timed h.sent))

  pub waits : (fs : List Fed) → Setting ms T t₀ fs → (m : Message) → Memᴰ m ms → (n : ℕ)
      → held_at (run (fresh T) (map call fs)) (key_for m) n
      ≡ cond (leb m.size (length (seen m fs))) none (cond (memb n (seen m fs)) (some (content_at m n)) none)
  unfolding held_at
  waits fs h m i n =
      let st = (final fs h).inv.stands m i in
      ap (λ (p : Place). lookup n (pages_in p)) st.place ∙ held_place m (h.sent.sound m i) st.first n st.pages st.right
      ∙ ap (λ (s : List ℕ). cond (leb m.size (length s)) none (cond (memb n s) (some (content_at m n)) none)) st.numbered

  -- a key under which a page waits is a key of one of the messages
  pub waits-known : (fs : List Fed) → Setting ms T t₀ fs → (k : Key) (n : ℕ)
      → (held_at (run (fresh T) (map call fs)) k n ≡ none) ⊎ Memᴰ k (map key_for ms)
  unfolding held_at
  waits-known fs h k n =
      let p = find k (run (fresh T) (map call fs)).places in
      on_bool (is_free p)
      (λ e. inl (ap (λ (q : Place). lookup n (pages_in q)) (is_free_lem p e)))
      (λ e. inr ((final fs h).inv.known k e))

unmap : (k : Key) (ms : List Message) → Memᴰ k (map key_for ms) → (m : Message) × Memᴰ m ms × (k ≡ key_for m)
unmap k [] i = absurd (Memᴰ.not-nil i)
unmap k (m ∷ ms) (Memᴰ.head e) = (m, Memᴰ.head refl, e)
unmap k (m ∷ ms) (Memᴰ.tail i) = let r = unmap k ms i in (r.0, Memᴰ.tail r.1, r.2)

-- ---- the same pages, in another order, with other repeats, at other seconds
module _ (ms : List Message) (T t₀ t₁ : ℕ)
    (fs gs : List Fed) (hf : Setting ms T t₀ fs) (hg : Setting ms T t₁ gs) (same : SamePages fs gs) where
  same_count : (m : Message) → length (seen m fs) ≡ length (seen m gs)
  same_count m =
      different-same (numbers_of (key_for m) fs) (numbers_of (key_for m) gs) (λ a. (same (key_for m) a).0) (λ a. (same (key_for m) a).1)

  same-memb : (m : Message) (n : ℕ) → memb n (seen m fs) ≡ memb n (seen m gs)
  same-memb m n =
      let x = numbers_of (key_for m) fs in
      let y = numbers_of (key_for m) gs in
      memb-iff n (seen m fs) (seen m gs)
      (λ i. mem-different n y ((same (key_for m) n).0 (different-mem n x i)))
      (λ i. mem-different n x ((same (key_for m) n).1 (different-mem n y i)))

  pub same-messages : (m : Message) → Memᴰ m ms
      → outs (key_for m) fs (answers (fresh T) (map call fs)) ≡ outs (key_for m) gs (answers (fresh T) (map call gs))
  same-messages m i =
      once ms T t₀ fs hf m i ∙ ap (λ (x : ℕ). cond (leb m.size x) 1 0) (same_count m) ∙ sym (once ms T t₁ gs hg m i)

  same-held : (m : Message) → Memᴰ m ms → (n : ℕ)
      → held_at (run (fresh T) (map call fs)) (key_for m) n ≡ held_at (run (fresh T) (map call gs)) (key_for m) n
  same-held m i n =
      waits ms T t₀ fs hf m i n
      ∙ ap₂ (λ (x : ℕ) (b : Bool). cond (leb m.size x) none (cond b (some (content_at m n)) none)) (same_count m) (same-memb m n)
      ∙ sym (waits ms T t₁ gs hg m i n)

  pub same-waiting : (k : Key) (n : ℕ)
      → held_at (run (fresh T) (map call fs)) k n ≡ held_at (run (fresh T) (map call gs)) k n
  same-waiting k n = go (waits-known ms T t₀ fs hf k n) (waits-known ms T t₁ gs hg k n)
    where
      x : Collector
      x = run (fresh T) (map call fs)

      y : Collector
      y = run (fresh T) (map call gs)

      known : Memᴰ k (map key_for ms) → held_at x k n ≡ held_at y k n
      known i = let r = unmap k ms i in subst (λ (j : Key). held_at x j n ≡ held_at y j n) (sym r.2) (same-held r.0 r.1 n)

      go : (held_at x k n ≡ none) ⊎ Memᴰ k (map key_for ms) → (held_at y k n ≡ none) ⊎ Memᴰ k (map key_for ms) → held_at x k n ≡ held_at y k n
      go (inl e) (inl e') = e ∙ sym e'
      go (inl e) (inr i) = known i
      go (inr i) (inl e') = known i
      go (inr i) (inr i') = known i
