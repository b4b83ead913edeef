-- k pages of a message with different legal numbers give the message again: pagecode's unique solution, in the collector's words.
-- Such pages pass the tests of pagecode's `Solvable`, the message has them, and no other has.
use mathlib.Core.Bool.{Bool, true, ◌||◌}
use mathlib.Core.List.{List, [], ◌∷◌, ◌++◌}
use mathlib.Core.Path.{◌≡◌, refl, sym, ap, ap₂, ◌∙◌, subst}
use Prim.Native.Nat.{ℕ, zero, suc, ◌*◌}
use native.Mathlib.Omega.{arith}
use lib.ListN.{length, length-append}
use lib.Dec.{eqb}
use borrow.Author.Tests.{le-leb, eq-eqb}
use Rattle.pagecode.specs.Encode.{are_pages}
use Rattle.pagecode.specs.Field.{Octets}
use Rattle.pagecode.specs.Page.{legal}
use Rattle.pagecode.specs.Solve.{contents_at, all_legal, is_in, different}
use Rattle.pagecode.proofs.Promises.{content-length, content-octets, Solvable, solution-only}
use Rattle.lists.specs.Lists.{Every, memb}
use Rattle.collector.specs.Lists.{Nodup}
use Rattle.collector.specs.Place.{Key, Held, numbers, contents}
use Rattle.collector.specs.Feed.{message_of}
use Rattle.collector.specs.Valid.{KeyOk, PageOk}
use Rattle.collector.specs.Demand.{Message, key_for, Sound, content_at}
use Rattle.lists.proofs.Tests.{on_bool}
use Rattle.collector.proofs.Lists.{memb-true}
use Rattle.collector.proofs.Places.{numbers-length}

-- a page with the content that a message has under its number; and page n as it is held
abbrev pub PageOf : Message → Held → Type 0
PageOf m p = p.content ≡ content_at m p.number

abbrev pub page_at : Message → ℕ → Held
page_at m n = record { number = n; content = content_at m n }

-- ---- pages that can be solved
in-memb : (n : ℕ) (l : List ℕ) → is_in n l ≡ memb n l
unfolding is_in
in-memb n [] = refl
in-memb n (x ∷ xs) = ap (λ (b : Bool). eqb n x || b) (in-memb n xs)

different-true : (l : List ℕ) → Nodup l → different l ≡ true
unfolding different
different-true [] d = refl
different-true (x ∷ xs) d =
    rw (in-memb x xs, different-true xs d.1) (on_bool (memb x xs) (λ e. absurd (d.0 (memb-true x xs e))) (λ e. rw e))

every-legal : (k : Key) (pages : List Held) → Every (PageOk k) pages → all_legal k.size (numbers pages) ≡ true
unfolding all_legal
every-legal k [] ev = refl
every-legal k (p ∷ ps) ev = rw (ev.0.legal-number, every-legal k ps ev.1)

-- a page of 53 octets
abbrev pub Long : Held → Type 0
Long p = length p.content ≡ 53

pub contents-length : (pages : List Held) → Every Long pages → length (contents pages) ≡ length pages * 53
contents-length [] e = refl
contents-length (p ∷ ps) e = let ih = contents-length ps e.1 in omega (arith, length-append p.content (contents ps), e.0, ih)

pub long-pages : (k : Key) (pages : List Held) → Every (PageOk k) pages → Every Long pages
long-pages k [] e = tt
long-pages k (p ∷ ps) e = (e.0.long, long-pages k ps e.1)

append-octets : (a b : List ℕ) → Octets a → Octets b → Octets (a ++ b)
append-octets [] b oa ob i = ob i
append-octets (x ∷ a) b oa ob zero = oa 0
append-octets (x ∷ a) b oa ob (suc i) = append-octets a b (λ j. oa (suc j)) ob i

contents-octets : (k : Key) (pages : List Held) → Every (PageOk k) pages → Octets (contents pages)
contents-octets k [] ev i = omega arith
contents-octets k (p ∷ ps) ev i = append-octets p.content (contents ps) ev.0.octets (contents-octets k ps ev.1) i

-- as many pages as the key says, with different legal numbers
pub solvable : (k : Key) → KeyOk k → (pages : List Held) → Nodup (numbers pages) → Every (PageOk k) pages → length pages ≡ k.size
    → Solvable (numbers pages) (contents pages)
unfolding are_pages
solvable k ko pages nd ev l =
    let n = numbers-length pages in
    let few = ko.few in
    let some = ko.some in
    let c = contents-length pages (long-pages k pages ev) in
    record {
      octets = contents-octets k pages ev;
      pages = rw (le-leb 1 (length (numbers pages)) (omega arith), le-leb (length (numbers pages)) 32 (omega arith), eq-eqb (length (contents pages)) (length (numbers pages) * 53) (omega arith));
      legal = subst (λ (s : ℕ). all_legal s (numbers pages) ≡ true) (sym (n ∙ l)) (every-legal k pages ev);
      apart = different-true (numbers pages) nd;
    }

-- ---- pages of a message
contents-are : (m : Message) (pages : List Held) → Every (PageOf m) pages → contents_at m.size m.octets (numbers pages) ≡ contents pages
unfolding contents_at
contents-are m [] ev = refl
contents-are m (p ∷ ps) ev = ap₂ (λ (a b : List ℕ). a ++ b) (sym ev.0) (contents-are m ps ev.1)

pages-ok : (m : Message) → Sound m → (pages : List Held) → Every (λ n. legal m.size n ≡ true) (numbers pages) → Every (PageOf m) pages → Every (PageOk (key_for m)) pages
pages-ok m so [] ls ev = tt
pages-ok m so (p ∷ ps) ls ev = (
  record {
    legal-number = ls.0;
    long = ap length ev.0 ∙ content-length m.size m.octets p.number;
    octets = subst Octets (sym ev.0) (content-octets m.size m.octets p.number so.octets);
  },
  pages-ok m so ps ls.1 ev.1,
)

pub solved : (m : Message) → Sound m → (pages : List Held) → Nodup (numbers pages) → Every (λ n. legal m.size n ≡ true) (numbers pages) → Every (PageOf m) pages
    → length pages ≡ m.size → message_of pages ≡ m.octets
solved m so pages nd ls ev l =
    let n : length (numbers pages) ≡ m.size = numbers-length pages ∙ l in
    solution-only (numbers pages) (contents pages) m.octets
    (solvable (key_for m) (record { status = so.status; number = so.number; some = so.some; few = so.few }) pages nd (pages-ok m so pages ls ev) l)
    (record {
      long = so.long ∙ ap (λ (k : ℕ). k * 53) (sym n);
      octets = so.octets;
      pages = subst (λ (k : ℕ). contents_at k m.octets (numbers pages) ≡ contents pages) (sym n) (contents-are m pages ev);
    })
