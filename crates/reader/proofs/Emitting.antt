-- Records written one behind another, and how long they are.
-- What is laid behind what is laid is both laid at once; every record has 16 octets, so a satellite's are at most 17 records and a system's 681.
use Prim.Native.Nat.{ℕ, ◌+◌, ◌*◌, ◌≤◌}
use native.Mathlib.Nat.{add-zero, mul-suc}
use native.Mathlib.Numerals.{add-one}
use native.Mathlib.Omega.{arith}
use mathlib.Core.Bool.{false, ◌&&◌}
use mathlib.Core.List.{List, [], ◌∷◌, ◌++◌, append_assoc}
use mathlib.Core.Path.{◌≡◌, sym, ap, ap₂, ◌∙◌}
use lib.ListN.{length, get_or, length-append}
use Rattle.lists.specs.Lists.{laid}
use Rattle.lists.proofs.Laid.{laid_none, laid-laid, laid-length}
use Rattle.lists.proofs.Tests.{if_le}
use Rattle.mt1.specs.Message.{System, Message, count_before, cells_of}
use Rattle.mt1.specs.Valid.{SystemOk}
use Rattle.mt1.specs.Records.{system_record, satellite_record, cell_record, build, cell_place, cell_records, satellite_records, system_records}
use Rattle.mt1.proofs.Counts.{length-system, length-satellite, length-cell, records_of_system, one-system}
use Rattle.mt1.proofs.Building.{build-le, build-next}

-- ---- lengths
pub cells-le : (m : Message) (p : ℕ) (s : System) (i g : ℕ) → length (cell_records m p s i g) ≤ 16
unfolding cell_records
cells-le m p s i g =
    let n = count_before (cells_of s) (cell_place s i g) in
    if_le (get_or s.signals g false && get_or (cells_of s) (cell_place s i g) false) (cell_record m p i g n) 16 (omega (arith, length-cell m p i g n))

pub satellite-le : (m : Message) (p : ℕ) (s : System) (i : ℕ) → length (satellite_records m p s i) ≤ 272
unfolding satellite_records
satellite-le m p s i =
    let n = count_before s.satellites i in
    let r = satellite_record m p s i n in
    let f = cell_records m p s i in
    if_le (get_or s.satellites i false) (r ++ build 16 f) 272 (omega (arith, length-append r (build 16 f), length-satellite m p s i n, build-le 16 16 f (cells-le m p s i)))

-- ---- written: from a place of a buffer up to another
pub record Wrote (l : List ℕ) (from until : ℕ) (before after : List ℕ) : Type 0 where
  pub end : until ≡ from + length l
  pub buffer : after ≡ laid before from l

pub wrote_none : (o : ℕ) (d : List ℕ) → Wrote [] o o d d
wrote_none o d = record { end = sym (add-zero o); buffer = laid_none d o [] }

-- a record, as `store` writes it
pub wrote_record : {o : ℕ} {d d' : List ℕ} (l : List ℕ) {r : List ℕ} → length l ≡ 16 → r ≡ l → d' ≡ laid d o r → Wrote l o (o + 16) d d'
wrote_record {o} {d} l e f h = record { end = ap (λ (k : ℕ). o + k) (sym e); buffer = h ∙ ap (laid d o) f }

pub wrote_then : {o o' o'' : ℕ} {d d' d'' : List ℕ} (l m : List ℕ) → o + (length l + length m) ≤ length d
    → Wrote l o o' d d' → Wrote m o' o'' d' d'' → Wrote (l ++ m) o o'' d d''
wrote_then {o} {o'} {o''} {d} {d'} {d''} l m h a b = record {
  end = omega (arith, a.end, b.end, length-append l m);
  buffer = b.buffer ∙ ap₂ (λ (x : List ℕ) (k : ℕ). laid x k m) a.buffer a.end ∙ laid-laid d o l m h;
}

pub wrote-length : {o o' : ℕ} {d d' : List ℕ} (l : List ℕ) → o + length l ≤ length d → Wrote l o o' d d' → length d' ≡ length d
wrote-length {o} {o'} {d} l h a = ap length a.buffer ∙ laid-length d o l h

-- a turn of a loop
pub wrote-next : {o o' o'' : ℕ} {d d' d'' : List ℕ} (n k : ℕ) (f : ℕ → List ℕ) → ((i : ℕ) → length (f i) ≤ k) → o + k * (n + 1) ≤ length d
    → Wrote (build n f) o o' d d' → Wrote (f n) o' o'' d' d'' → Wrote (build (n + 1) f) o o'' d d''
wrote-next {o} {o'} {o''} {d} {d'} {d''} n k f b h x y =
    let r : o + (length (build n f) + length (f n)) ≤ length d = omega (arith, build-le n k f b, b n, mul-suc k n, ap (λ (j : ℕ). k * j) (add-one n)) in
    rw (build-next n f) (wrote_then (build n f) (f n) r x y)

pub wrote_le : {o o' : ℕ} {d d' : List ℕ} (n k : ℕ) (f : ℕ → List ℕ) → ((i : ℕ) → length (f i) ≤ k) → Wrote (build n f) o o' d d' → o' ≤ o + k * n
wrote_le n k f b w = omega (arith, w.end, build-le n k f b)

pub wrote-start : (f : ℕ → List ℕ) (o : ℕ) (d : List ℕ) → Wrote (build 0 f) o o d d
unfolding build
wrote-start f o d = wrote_none o d

-- a system: its record, then its satellites'
system-is : (m : Message) (p : ℕ) (s : System) (ss : List System) → system_records m p (s ∷ ss) ≡ records_of_system m p s ++ system_records m (p + 1) ss
unfolding system_records
system-is m p s ss =
    ap (λ (k : ℕ). system_record m p s ++ (build 40 (satellite_records m p s) ++ system_records m k ss)) (sym (add-one p))
    ∙ sym (append_assoc (system_record m p s) (build 40 (satellite_records m p s)) (system_records m (p + 1) ss))

pub system-next : (m : Message) (p : ℕ) (s : System) (ss : List System) → system_records m p (s ∷ ss) ≡ system_records m p (s ∷ []) ++ system_records m (p + 1) ss
system-next m p s ss = system-is m p s ss ∙ ap (λ (l : List ℕ). l ++ system_records m (p + 1) ss) (sym (one-system m p s))

module _ (m : Message) (p : ℕ) (s : System) (ok : SystemOk s) where
  satellites-le : length (build 40 (satellite_records m p s)) ≤ 10880
  satellites-le = build-le 40 272 (satellite_records m p s) (satellite-le m p s)

  pub system-le : length (system_records m p (s ∷ [])) ≤ 10896
  system-le = omega (arith, ap length (one-system m p s), length-append (system_record m p s) (build 40 (satellite_records m p s)), length-system m p s ok, satellites-le)

  pub wrote-system : {o o' : ℕ} {d d' d'' : List ℕ} → o + 10896 ≤ length d → Wrote (system_record m p s) o (o + 16) d d'
      → Wrote (build 40 (satellite_records m p s)) (o + 16) o' d' d'' → Wrote (system_records m p (s ∷ [])) o o' d d''
  wrote-system h v w = rw (one-system m p s) (wrote_then (system_record m p s) (build 40 (satellite_records m p s)) (omega (arith, length-system m p s ok, satellites-le)) v w)
