-- What is gathered of records one behind another is what is gathered of each, and so of a system's records by satellite and cell.
-- By induction on the records: what is taken of a record stands in its own octets, or in those of the cells behind it.
use Prim.Native.Nat.{ℕ, zero, suc, ◌+◌, ◌*◌, ◌/◌, ◌%◌, ◌≤◌, ◌<◌}
use native.Mathlib.Nat.{zero-add, suc-add}
use native.Mathlib.Omega.{arith}
use mathlib.Core.Bool.{Bool, false, ◌&&◌, cond}
use mathlib.Core.List.{List, [], ◌∷◌, ◌++◌, append_assoc, append-nil}
use mathlib.Core.Path.{◌≡◌, refl, sym, ap, ap₂, ◌∙◌}
use lib.Dec.{eqb}
use lib.ListN.{length, get_or, drop, length-append, length-drop, get_or-append}
use lib.Seq.{drop-append-le}
use Rattle.lists.proofs.Tests.{on_bool}
use Rattle.mt1.specs.Message.{System, Message, count_before, cells_of}
use Rattle.mt1.specs.Valid.{SystemOk}
use Rattle.mt1.specs.Records.{system_record, satellite_record, cell_record, build, cell_place, cell_records, satellite_records}
use Rattle.mt1.proofs.Counts.{length-system, length-satellite, length-cell, cell-whole, satellite-whole, records_of_system}
use Rattle.mt1.proofs.Building.{build-holds, build-ext}
use Rattle.writer.specs.declared.part.Part.TheVariants.{Orbit, Clock, Chosen, SubsetClock, Code, Phase}
use Rattle.writer.specs.Writer.{pair}
use Rattle.writer.specs.Rendering.{is_kind, gather, part_of}

-- ---- records one behind another
-- of all the records of a list
abbrev pub gather_all : (List ℕ → List Bool) → List ℕ → List Bool
gather_all f x = gather (length x / 16) f x

-- f sees only the first record
abbrev pub Local : (List ℕ → List Bool) → Type 0
Local f = (x y : List ℕ) → 16 ≤ length x → f (x ++ y) ≡ f x

-- f sees only the first record and the cells behind it, of whole records
abbrev pub Splits : (List ℕ → List Bool) → Type 0
Splits f = (x y : List ℕ) → 16 ≤ length x → length x % 16 ≡ 0 → is_kind 4 y ≡ false → f (x ++ y) ≡ f x

-- f sees nothing of y behind whole records
abbrev Blind : (List ℕ → List Bool) → List ℕ → Type 0
Blind f y = (x : List ℕ) → 16 ≤ length x → length x % 16 ≡ 0 → f (x ++ y) ≡ f x

module _ (f : List ℕ → List Bool) (y : List ℕ) (blind : Blind f y) where
  gather-blind : (n m : ℕ) (x : List ℕ) → length x ≡ 16 * n → gather (n + m) f (x ++ y) ≡ gather n f x ++ gather m f y
  unfolding gather
  gather-blind zero m [] e = rw zero-add
  gather-blind zero m (a ∷ x) e = absurd (let z : ⊥ = omega arith in z)
  gather-blind (suc n) m x e =
      rw suc-add
      (ap₂ (λ (a b : List Bool). a ++ b) (blind x (omega arith) (omega arith))
      (ap (gather (n + m) f) (drop-append-le 16 x y (omega arith)) ∙ gather-blind n m (drop 16 x) (omega (arith, length-drop 16 x)))
      ∙ sym (append_assoc (f x) (gather n f (drop 16 x)) (gather m f y)))

  all-blind : (x : List ℕ) → length x % 16 ≡ 0 → gather_all f (x ++ y) ≡ gather_all f x ++ gather_all f y
  all-blind x w =
      let e : length (x ++ y) / 16 ≡ length x / 16 + length y / 16 = omega (arith, length-append x y) in
      ap (λ (n : ℕ). gather n f (x ++ y)) e ∙ gather-blind (length x / 16) (length y / 16) x (omega arith)

build-whole : (h : ℕ → List ℕ) → ((i : ℕ) → length (h i) % 16 ≡ 0) → (n : ℕ) → length (build n h) % 16 ≡ 0
build-whole = build-holds (λ (l : List ℕ). length l % 16 ≡ 0) refl (λ a b v w. omega (arith, length-append a b, v, w))

module _ (f : List ℕ → List Bool) (h : ℕ → List ℕ) (whole : (i : ℕ) → length (h i) % 16 ≡ 0) (blind : (i : ℕ) → Blind f (h i)) where
  build-blind : (n : ℕ) → gather_all f (build n h) ≡ build n (λ i. gather_all f (h i))
  unfolding build gather
  build-blind zero = refl
  build-blind (suc n) = all-blind f (h n) (blind n) (build n h) (build-whole h whole n) ∙ ap (λ (r : List Bool). r ++ gather_all f (h n)) (build-blind n)

all_local : (f : List ℕ → List Bool) → Local f → (x y : List ℕ) → length x % 16 ≡ 0 → gather_all f (x ++ y) ≡ gather_all f x ++ gather_all f y
all_local f l x y = all-blind f y (λ z a w. l z y a) x

pub all-splits : (f : List ℕ → List Bool) → Splits f → (x y : List ℕ) → length x % 16 ≡ 0 → is_kind 4 y ≡ false → gather_all f (x ++ y) ≡ gather_all f x ++ gather_all f y
all-splits f s x y w k = all-blind f y (λ z a v. s z y a v k) x w

build-local : (f : List ℕ → List Bool) → Local f → (h : ℕ → List ℕ) → ((i : ℕ) → length (h i) % 16 ≡ 0)
    → (n : ℕ) → gather_all f (build n h) ≡ build n (λ i. gather_all f (h i))
build-local f l h w = build-blind f h w (λ i z a v. l z (h i) a)

pub build-splits : (f : List ℕ → List Bool) → Splits f → (h : ℕ → List ℕ) → ((i : ℕ) → length (h i) % 16 ≡ 0) → ((i : ℕ) → is_kind 4 (h i) ≡ false)
    → (n : ℕ) → gather_all f (build n h) ≡ build n (λ i. gather_all f (h i))
build-splits f s h w k = build-blind f h w (λ i z a v. s z (h i) a v (k i))

pub all_none : (f : List ℕ → List Bool) → gather_all f [] ≡ []
unfolding gather
all_none f = refl

pub all_one : (f : List ℕ → List Bool) (r : List ℕ) → length r ≡ 16 → gather_all f r ≡ f r
unfolding gather
all_one f r e = ap (λ (n : ℕ). gather (n / 16) f r) e ∙ append-nil (f r)

-- ---- parts that see only the record: all but the cell mask
module _ (x y : List ℕ) (here : 16 ≤ length x) where
  octet-front : (i : ℕ) → i < 16 → get_or (x ++ y) i 0 ≡ get_or x i 0
  octet-front i h = get_or-append x y 0 i (omega arith)

  pair-front : (i : ℕ) → i < 15 → pair (x ++ y) i ≡ pair x i
  pair-front i h = ap₂ (λ (a b : ℕ). 256 * a + b) (octet-front i (omega arith)) (octet-front (i + 1) (omega arith))

  pub kind-front : (k : ℕ) → is_kind k (x ++ y) ≡ is_kind k x
  kind-front k = ap (λ (a : ℕ). eqb a k) (octet-front 0 (omega arith))

pub orbit-local : (s : List ℕ) → Local (part_of Orbit s)
unfolding part_of
orbit-local s x y h = rw (kind-front x y h 3, pair-front x y h 4 (omega arith), pair-front x y h 6 (omega arith), pair-front x y h 8 (omega arith), pair-front x y h 10 (omega arith))

pub clock-local : (s : List ℕ) → Local (part_of Clock s)
unfolding part_of
clock-local s x y h = rw (kind-front x y h 3, pair-front x y h 12 (omega arith))

pub chosen-local : (s : List ℕ) → Local (part_of Chosen s)
unfolding part_of
chosen-local s x y h = rw (kind-front x y h 3, pair-front x y h 14 (omega arith))

pub subset-clock-local : (s : List ℕ) → Local (part_of SubsetClock s)
unfolding part_of
subset-clock-local s x y h = rw (kind-front x y h 3, pair-front x y h 14 (omega arith))

pub code_local : (s : List ℕ) → Local (part_of Code s)
unfolding part_of
code_local s x y h = rw (kind-front x y h 4, pair-front x y h 4 (omega arith))

pub phase-local : (s : List ℕ) → Local (part_of Phase s)
unfolding part_of
phase-local s x y h = rw (kind-front x y h 4, pair-front x y h 6 (omega arith), octet-front x y h 8 (omega arith))

-- ---- a system's records
-- something at each cell that is listed, in the order of the records
unfoldable pub cellwise : {A : Type 0} → System → (ℕ → List A) → ℕ → ℕ → List A
unfolding cell_place cells_of count_before
cellwise s h i g = cond (get_or s.signals g false && get_or (cells_of s) (cell_place s i g) false) (h (count_before (cells_of s) (cell_place s i g))) []

-- something at each satellite, and then at its cells
abbrev pub rowwise : {A : Type 0} → System → (ℕ → List A) → (ℕ → List A) → ℕ → List A
rowwise s g h i = cond (get_or s.satellites i false) (g (count_before s.satellites i) ++ build 16 (cellwise s h i)) []

-- a part that takes nothing of the system's own record, g n of the nth satellite's and h n of the nth cell's, whichever these are
module _ (m : Message) (p : ℕ) (s : System) (o : SystemOk s) (f : List ℕ → List Bool) (local : Local f) (g h : ℕ → List Bool)
    (system : f (system_record m p s) ≡ []) (satellite : (i n : ℕ) → f (satellite_record m p s i n) ≡ g n) (cell : (i j n : ℕ) → f (cell_record m p i j n) ≡ h n) where
  of-cell : (i j : ℕ) → gather_all f (cell_records m p s i j) ≡ cellwise s h i j
  unfolding cell_records cellwise
  of-cell i j =
      let n : ℕ = count_before (cells_of s) (cell_place s i j) in
      on_bool (get_or s.signals j false && get_or (cells_of s) (cell_place s i j) false)
      (λ q. rw q (all_one f (cell_record m p i j n) (length-cell m p i j n) ∙ cell i j n))
      (λ q. rw q (all_none f))

  of-satellite : (i : ℕ) → gather_all f (satellite_records m p s i) ≡ rowwise s g h i
  unfolding satellite_records
  of-satellite i =
      let n : ℕ = count_before s.satellites i in
      let r : List ℕ = satellite_record m p s i n in
      let row : List ℕ = build 16 (cell_records m p s i) in
      on_bool (get_or s.satellites i false)
      (λ q. rw q (
      all_local f local r row (omega (arith, length-satellite m p s i n))
      ∙ ap₂ (λ (a b : List Bool). a ++ b) (all_one f r (length-satellite m p s i n) ∙ satellite i n)
      (build-local f local (cell_records m p s i) (cell-whole m p s i) 16 ∙ build-ext 16 _ (cellwise s h i) (λ j l. of-cell i j))))
      (λ q. rw q (all_none f))

  pub of-system : gather_all f (records_of_system m p s) ≡ build 40 (rowwise s g h)
  of-system =
      let r : List ℕ = system_record m p s in
      all_local f local r (build 40 (satellite_records m p s)) (omega (arith, length-system m p s o))
      ∙ ap₂ (λ (a b : List Bool). a ++ b) (all_one f r (length-system m p s o) ∙ system)
      (build-local f local (satellite_records m p s) (satellite-whole m p s o) 40 ∙ build-ext 40 _ (rowwise s g h) (λ i l. of-satellite i))
