-- What the code holds of places: each place's contents in its part of the store, its numbers in its array, zeros behind both.
-- The store has one part of 1,696 octets for each place, so what is laid within a part changes that place alone.
use mathlib.Core.Path.{◌≡◌, refl, sym, ap, ap₂, ◌∙◌}
use mathlib.Core.List.{List, [], ◌∷◌, ◌++◌, append_assoc, append-nil}
use Prim.Native.Nat.{ℕ, zero, suc, ◌+◌, ◌-◌, ◌*◌, ◌≤◌, ◌<◌}
use native.Mathlib.Nat.{add-zero, sub-zero, zero-sub, suc-sub-suc}
use native.Mathlib.Omega.{arith}
use lib.ListN.{length, get_or, set, take, drop, replicate, length-append, length-drop, length-replicate}
use lib.Seq.{take-append-le, take-append_seam, drop-append-le, drop-append-add, take-length}
use Rattle.lists.specs.Lists.{Every, laid}
use Rattle.collector.specs.Place.{Held, Place, free, waiting, done, pages_in, numbers, contents}
use Rattle.collector.specs.Valid.{PlaceOk}
use Rattle.collector.specs.Image.{padded, store_image}
use Rattle.collector.proofs.Lists.{every_get}
use Rattle.collector.proofs.Places.{numbers-length, numbers-snoc}
use Rattle.collector.proofs.PageCode.{Long, contents-length, long-pages}
use Rattle.lists.proofs.Laid.{laid_one, laid-over, laid-first, laid-second}

-- ---- a list, and zeros behind it up to n
pub padded-length : (n : ℕ) (l : List ℕ) → length l ≤ n → length (padded n l) ≡ n
unfolding padded
padded-length n l h = simp (length-append, length-replicate) (omega arith)

pub padded-none : (n : ℕ) → padded n [] ≡ replicate n 0
unfolding padded
padded-none n = ap (λ (k : ℕ). replicate k 0) (sub-zero n)

pub padded-part : (n : ℕ) (l : List ℕ) (k m : ℕ) → k + m ≤ length l → take m (drop k (padded n l)) ≡ take m (drop k l)
unfolding padded
padded-part n l k m h =
    ap (take m) (drop-append-le k l (replicate (n - length l) 0) (omega arith))
    ∙ take-append-le m (drop k l) (replicate (n - length l) 0) (simp length-drop (omega arith))

pub padded-front : (n : ℕ) (l : List ℕ) → take (length l) (padded n l) ≡ l
padded-front n l = padded-part n l 0 (length l) (omega arith) ∙ take-length l

abbrev zeros : ℕ → List ℕ
zeros n = replicate n 0

zeros-drop : (m k : ℕ) → drop m (zeros k) ≡ zeros (k - m)
zeros-drop zero k = ap zeros (sym (sub-zero k))
zeros-drop (suc m) zero = ap zeros (sym (zero-sub (suc m)))
zeros-drop (suc m) (suc k) = zeros-drop m k ∙ ap zeros (sym (suc-sub-suc k m))

-- a list laid behind another, over its zeros
pub padded-more : (n : ℕ) (l c : List ℕ) → laid (padded n l) (length l) c ≡ padded n (l ++ c)
unfolding padded laid
padded-more n l c =
    laid-second l (zeros (n - length l)) 0 (length l) c (sym (add-zero (length l)))
    ∙ ap (λ (r : List ℕ). l ++ (c ++ r)) (zeros-drop (0 + length c) (n - length l) ∙ ap zeros left)
    ∙ sym (append_assoc l c (zeros (n - length (l ++ c))))
  where
    left : n - length l - (0 + length c) ≡ n - length (l ++ c)
    left = simp length-append (omega arith)

pub padded-next : (n : ℕ) (l : List ℕ) (x : ℕ) → length l < n → set (padded n l) (length l) x ≡ padded n (l ++ (x ∷ []))
padded-next n l x h = laid_one (padded n l) (length l) x (omega (arith, padded-length n l (omega arith))) ∙ padded-more n l (x ∷ [])

-- ---- pages, their numbers and their contents
pub contents-snoc : (pages : List Held) (p : Held) → contents (pages ++ (p ∷ [])) ≡ contents pages ++ p.content
contents-snoc [] p = append-nil p.content
contents-snoc (q ∷ ps) p = ap (λ (r : List ℕ). q.content ++ r) (contents-snoc ps p) ∙ sym (append_assoc q.content (contents ps) p.content)

-- the numbers of the pages held, and one more
pub numbers-front : (n : ℕ) (pages : List Held) → take (length pages) (padded n (numbers pages)) ≡ numbers pages
numbers-front n pages = ap (λ (k : ℕ). take k (padded n (numbers pages))) (sym (numbers-length pages)) ∙ padded-front n (numbers pages)

pub numbers-next : (n : ℕ) (pages : List Held) (p : Held) (x : ℕ) → p.number ≡ x → length pages < n
    → set (padded n (numbers pages)) (length pages) x ≡ padded n (numbers (pages ++ (p ∷ [])))
numbers-next n pages p x e h =
    ap₂ (set (padded n (numbers pages))) (sym (numbers-length pages)) (sym e)
    ∙ padded-next n (numbers pages) p.number (simp numbers-length h)
    ∙ ap (padded n) (sym (numbers-snoc pages p))

contents-part : (pages : List Held) (j : ℕ) (z : Held) → Every Long pages → j < length pages → take 53 (drop (j * 53) (contents pages)) ≡ (get_or pages j z).content
contents-part [] j z e h = absurd (omega arith)
contents-part (p ∷ ps) zero z e h = ap (λ (n : ℕ). take n (p.content ++ contents ps)) (sym e.0) ∙ take-append_seam p.content (contents ps)
contents-part (p ∷ ps) (suc j) z e h =
    let far : suc j * 53 ≡ length p.content + j * 53 = omega (arith, e.0) in
    ap (λ (n : ℕ). take 53 (drop n (p.content ++ contents ps))) far ∙ ap (take 53) (drop-append-add p.content (contents ps) (j * 53)) ∙ contents-part ps j z e.1 (omega arith)

-- ---- the store
-- a place whose contents have room in its part, and that part
abbrev pub Roomy : Place → Type 0
Roomy p = length (contents (pages_in p)) ≤ 1696

abbrev pub part : Place → List ℕ
part p = padded 1696 (contents (pages_in p))

pub part_length : (p : Place) → Roomy p → length (part p) ≡ 1696
part_length p r = padded-length 1696 (contents (pages_in p)) r

pub store_length : (ps : List Place) → Every Roomy ps → length (store_image ps) ≡ length ps * 1696
store_length [] r = refl
store_length (p ∷ ps) r =
    let ih = store_length ps r.1 in
    let here = part_length p r.0 in
    simp length-append (omega arith)

roomy_get : (ps : List Place) (i : ℕ) → Every Roomy ps → Roomy (get_or ps i free)
roomy_get ps i r = every_get Roomy ps i free r (omega arith)

-- what is laid within the part of place i
store_laid : (ps : List Place) (i k : ℕ) (c : List ℕ) (q : Place) → Every Roomy ps → i < length ps → k + length c ≤ 1696
    → part q ≡ laid (part (get_or ps i free)) k c → store_image (set ps i q) ≡ laid (store_image ps) (i * 1696 + k) c
store_laid [] i k c q r h l e = absurd (omega arith)
store_laid (p ∷ ps) zero k c q r h l e =
    let here = part_length p r.0 in
    let from : k ≡ zero * 1696 + k = omega arith in
    ap (λ (x : List ℕ). x ++ store_image ps) e ∙ sym (laid-first (part p) (store_image ps) k c (omega arith)) ∙ ap (λ (n : ℕ). laid (part p ++ store_image ps) n c) from
store_laid (p ∷ ps) (suc i) k c q r h l e =
    let here = part_length p r.0 in
    ap (λ (x : List ℕ). part p ++ x) (store_laid ps i k c q r.1 (omega arith) l e)
    ∙ sym (laid-second (part p) (store_image ps) (i * 1696 + k) (suc i * 1696 + k) c (omega arith))

-- place i without pages
pub store-free : (ps : List Place) (i : ℕ) (q : Place) → Every Roomy ps → i < length ps → pages_in q ≡ [] → store_image (set ps i q) ≡ laid (store_image ps) (i * 1696) (replicate 1696 0)
store-free ps i q r h e =
    store_laid ps i 0 (replicate 1696 0) q r h (omega arith)
    (ap (λ (l : List Held). padded 1696 (contents l)) e ∙ padded-none 1696 ∙ sym (laid-over (part (get_or ps i free)) (replicate 1696 0) (omega (arith, part_length (get_or ps i free) (roomy_get ps i r)))))
    ∙ ap (λ (n : ℕ). laid (store_image ps) n (replicate 1696 0)) (add-zero (i * 1696))

-- place i with one page more
pub store-more : (ps : List Place) (i : ℕ) (q q' : Place) (p : Held) → Every Roomy ps → i < length ps → get_or ps i free ≡ q → pages_in q' ≡ pages_in q ++ (p ∷ []) → Long p
    → length (contents (pages_in q)) + 53 ≤ 1696 → store_image (set ps i q') ≡ laid (store_image ps) (i * 1696 + length (contents (pages_in q))) p.content
store-more ps i q q' p r h e m g l =
    store_laid ps i (length (contents (pages_in q))) p.content q' r h (omega arith)
    (ap (λ (l : List Held). padded 1696 (contents l)) m ∙ ap (padded 1696) (contents-snoc (pages_in q) p) ∙ sym (padded-more 1696 (contents (pages_in q)) p.content)
    ∙ ap (λ (x : Place). laid (part x) (length (contents (pages_in q))) p.content) (sym e))

-- what stands within the part of place i
store-part : (ps : List Place) (i k n : ℕ) → Every Roomy ps → i < length ps → k + n ≤ 1696 → take n (drop (i * 1696 + k) (store_image ps)) ≡ take n (drop k (part (get_or ps i free)))
store-part [] i k n r h l = absurd (omega arith)
store-part (p ∷ ps) zero k n r h l =
    let here = part_length p r.0 in
    let from : zero * 1696 + k ≡ k = omega arith in
    ap (λ (m : ℕ). take n (drop m (part p ++ store_image ps))) from ∙ ap (take n) (drop-append-le k (part p) (store_image ps) (omega arith))
    ∙ take-append-le n (drop k (part p)) (store_image ps) (simp length-drop (omega arith))
store-part (p ∷ ps) (suc i) k n r h l =
    let here = part_length p r.0 in
    let far : suc i * 1696 + k ≡ length (part p) + (i * 1696 + k) = omega arith in
    ap (λ (m : ℕ). take n (drop m (part p ++ store_image ps))) far ∙ ap (take n) (drop-append-add (part p) (store_image ps) (i * 1696 + k))
    ∙ store-part ps i k n r.1 (omega arith) l

module _ (ps : List Place) (i : ℕ) (pages : List Held) (r : Every Roomy ps) (h : i < length ps) (e : pages_in (get_or ps i free) ≡ pages) (long : Every Long pages) where
  few : length pages * 53 ≤ 1696
  few = omega (arith, roomy_get ps i r, ap (λ (l : List Held). length (contents l)) e, contents-length pages long)

  -- the contents of the pages that place i holds
  pub store-pages : take (length pages * 53) (drop (i * 1696) (store_image ps)) ≡ contents pages
  store-pages =
      ap (λ (n : ℕ). take (length pages * 53) (drop n (store_image ps))) (sym (add-zero (i * 1696)))
      ∙ store-part ps i 0 (length pages * 53) r h (omega (arith, few))
      ∙ ap₂ (λ (n : ℕ) (l : List Held). take n (padded 1696 (contents l))) (sym (contents-length pages long)) e
      ∙ padded-front 1696 (contents pages)

  -- the content of the jth of them
  pub store-page : (j : ℕ) (z : Held) → j < length pages → take 53 (drop (i * 1696 + j * 53) (store_image ps)) ≡ (get_or pages j z).content
  store-page j z l =
      store-part ps i (j * 53) 53 r h (omega (arith, few))
      ∙ ap (λ (l : List Held). take 53 (drop (j * 53) (padded 1696 (contents l)))) e
      ∙ padded-part 1696 (contents pages) (j * 53) 53 (omega (arith, contents-length pages long))
      ∙ contents-part pages j z long l

-- ---- the places of a collector that our calls made have room
pub roomy-place : (p : Place) → PlaceOk p → Roomy p
roomy-place free o = omega arith
roomy-place (waiting k first pages) o = omega (arith, contents-length pages (long-pages k pages o.each), o.few, o.key.few)
roomy-place (done k first) o = omega arith

pub roomy-places : (ps : List Place) → Every PlaceOk ps → Every Roomy ps
roomy-places [] o = tt
roomy-places (p ∷ ps) o = (roomy-place p o.0, roomy-places ps o.1)

-- the store of eight of them
pub store-whole : (ps : List Place) → length ps ≡ 8 → Every PlaceOk ps → length (store_image ps) ≡ 13568
store-whole ps e o = store_length ps (roomy-places ps o) ∙ ap (λ (n : ℕ). n * 1696) e
