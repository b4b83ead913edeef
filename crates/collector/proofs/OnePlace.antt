-- The pages of one message at one place: what the place holds after some of its pages, and the exact answer to one more.
-- Free, open or done, by the count of different numbers; with the last of them the pages are solved to the message (PageCode).
use mathlib.Core.Bool.{true, false, cond}
use mathlib.Core.List.{List, [], ◌∷◌, ◌++◌}
use mathlib.Core.Option.{none, some}
use mathlib.Core.Path.{◌≡◌, refl, sym, ap, ◌∙◌, subst}
use Prim.Native.Nat.{ℕ, suc}
use native.Mathlib.Omega.{arith}
use lib.ListN.{length}
use lib.Dec.{eqb, leb}
use borrow.Author.Tests.{leb-true, le-leb, lt-leb, leb-false, eqb-true, eqb-false, eq-eqb}
use Rattle.pagecode.specs.Page.{legal}
use Rattle.lists.specs.Lists.{Every, memb}
use Rattle.collector.specs.Lists.{Nodup, add}
use Rattle.collector.specs.Place.{Held, Place, free, waiting, done, lookup, numbers}
use Rattle.collector.specs.Feed.{same_octets, grow, again, arrive}
use Rattle.collector.specs.Demand.{Message, key_for, Sound, content_at, expected}
use Rattle.lists.proofs.Tests.{on_bool, clash}
use Rattle.collector.proofs.Lists.{length-snoc, every-snoc, nodup-snoc, mem-memb}
use Rattle.collector.proofs.Places.{numbers-length, numbers-snoc}
use Rattle.collector.proofs.PageCode.{solved, PageOf}

same-octets : (l : List ℕ) → same_octets l l ≡ true
same-octets [] = refl
same-octets (x ∷ xs) = rw (eq-eqb x x refl, same-octets xs)

-- the different pages of a message so far, with one more
unfoldable pub add_page : Held → List Held → List Held
add_page p hs = cond (memb p.number (numbers hs)) hs (hs ++ (p ∷ []))

pub numbers-add : (p : Held) (hs : List Held) → numbers (add_page p hs) ≡ add p.number (numbers hs)
unfolding add_page add
numbers-add p hs = on_bool (memb p.number (numbers hs)) (λ e. rw e) (λ e. rw e (numbers-snoc hs p))

pub every-page : (P : Held → Type 0) (p : Held) (hs : List Held) → P p → Every P hs → Every P (add_page p hs)
unfolding add_page
every-page P p hs q h = on_bool (memb p.number (numbers hs)) (λ e. rw e h) (λ e. rw e (every-snoc P hs p h q))

-- a message's place, with hs its different pages so far
abbrev pub place_of : Message → ℕ → List Held → Place
place_of m first [] = free
place_of m first (h ∷ hs) = cond (leb m.size (suc (length (numbers hs)))) (done (key_for m) first) (waiting (key_for m) first (h ∷ hs))

abbrev pub first_of : List Held → ℕ → ℕ → ℕ
first_of [] first t = t
first_of (h ∷ hs) first t = first

pub lookup-pages : (m : Message) (n : ℕ) (hs : List Held) → Every (PageOf m) hs
    → lookup n hs ≡ cond (memb n (numbers hs)) (some (content_at m n)) none
lookup-pages m n [] ev = refl
lookup-pages m n (h ∷ hs) ev =
    on_bool (eqb n h.number)
    (λ e. rw e (ap some (ev.0 ∙ ap (content_at m) (sym (eqb-true n h.number e)))))
    (λ e. rw e (lookup-pages m n hs ev.1))

module _ (m : Message) (so : Sound m) (first t : ℕ) (p : Held)
    (l : legal m.size p.number ≡ true) (page : PageOf m p) where
  arrive-free : arrive free (key_for m) t p ≡ record { answer = expected m [] p.number; place = place_of m t (add_page p []) }
  unfolding arrive grow expected add_page
  arrive-free =
      on_bool (eqb 1 m.size)
      (λ e.
      let h = eqb-true 1 m.size e in
      let o = solved m so (p ∷ []) ((λ i. elim i [ ]), tt) (l, tt) (page, tt) h in
      rw (lt-leb m.size 0 (omega arith), e, le-leb m.size 1 (omega arith), o))
      (λ e.
      let h = eqb-false 1 m.size e in
      let s = so.some in
      rw (lt-leb m.size 0 (omega arith), e, lt-leb m.size 1 (omega arith)))

  module _ (h : Held) (hs : List Held) where
    arrive-done : leb m.size (suc (length (numbers hs))) ≡ true
        → arrive (place_of m first (h ∷ hs)) (key_for m) t p
        ≡ record { answer = expected m (numbers (h ∷ hs)) p.number; place = place_of m first (add_page p (h ∷ hs)) }
    unfolding arrive expected add_page
    arrive-done d =
        let q = leb-true m.size (suc (length (numbers hs))) d in
        rw d
        (on_bool (memb p.number (numbers (h ∷ hs)))
        (λ e. rw (e, d))
        (λ e. rw (e, numbers-snoc hs p, length-snoc (numbers hs) p.number, le-leb m.size (suc (suc (length (numbers hs)))) (omega arith))))

    arrive-repeat : Every (PageOf m) (h ∷ hs) → leb m.size (suc (length (numbers hs))) ≡ false → memb p.number (numbers (h ∷ hs)) ≡ true
        → arrive (place_of m first (h ∷ hs)) (key_for m) t p
        ≡ record { answer = expected m (numbers (h ∷ hs)) p.number; place = place_of m first (add_page p (h ∷ hs)) }
    unfolding arrive again expected add_page
    arrive-repeat ev d e =
        simp (d, lookup-pages m p.number (h ∷ hs) ev, e, page, same-octets (content_at m p.number))

    arrive-next : Nodup (numbers (h ∷ hs)) → Every (λ j. legal m.size j ≡ true) (numbers (h ∷ hs)) → Every (PageOf m) (h ∷ hs)
        → leb m.size (suc (length (numbers hs))) ≡ false → memb p.number (numbers (h ∷ hs)) ≡ false
        → arrive (place_of m first (h ∷ hs)) (key_for m) t p
        ≡ record { answer = expected m (numbers (h ∷ hs)) p.number; place = place_of m first (add_page p (h ∷ hs)) }
    unfolding arrive again grow expected add_page
    arrive-next nd ls ev d e =
        let q = leb-false m.size (suc (length (numbers hs))) d in
        let all = (h ∷ hs) ++ (p ∷ []) in
        let n = length (numbers hs) in
        let len : length (hs ++ (p ∷ [])) ≡ suc n = length-snoc hs p ∙ ap suc (sym (numbers-length hs)) in
        rw (d, lookup-pages m p.number (h ∷ hs) ev, e, len, numbers-length (hs ++ (p ∷ [])) ∙ len)
        (on_bool (eqb (suc (suc n)) m.size)
        (λ z.
        let g = eqb-true (suc (suc n)) m.size z in
        let o =
        solved m so all
        (subst Nodup (sym (numbers-snoc (h ∷ hs) p))
        (nodup-snoc (numbers (h ∷ hs)) p.number nd (λ i. clash (mem-memb p.number (numbers (h ∷ hs)) i) e)))
        (subst (Every (λ j. legal m.size j ≡ true)) (sym (numbers-snoc (h ∷ hs) p))
        (every-snoc (λ j. legal m.size j ≡ true) (numbers (h ∷ hs)) p.number ls l))
        (every-snoc (PageOf m) (h ∷ hs) p ev page) (ap suc len ∙ g) in
        rw (z, le-leb m.size (suc (suc n)) (omega arith), o))
        (λ z.
        let g = eqb-false (suc (suc n)) m.size z in
        rw (z, lt-leb m.size (suc (suc n)) (omega arith))))

  -- the exact answer, and the place after it
  pub arrive-exact : (hs : List Held) → Nodup (numbers hs) → Every (λ j. legal m.size j ≡ true) (numbers hs) → Every (PageOf m) hs
      → arrive (place_of m first hs) (key_for m) t p
      ≡ record { answer = expected m (numbers hs) p.number; place = place_of m (first_of hs first t) (add_page p hs) }
  arrive-exact [] nd ls ev = arrive-free
  arrive-exact (h ∷ hs) nd ls ev =
      on_bool (leb m.size (suc (length (numbers hs))))
      (λ d. arrive-done h hs d)
      (λ d. on_bool (memb p.number (numbers (h ∷ hs))) (λ e. arrive-repeat h hs ev d e) (λ e. arrive-next h hs nd ls ev d e))
