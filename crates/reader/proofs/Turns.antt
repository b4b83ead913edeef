-- A turn over a row's signals and a turn over a system's satellites: what is written, and how far the cursors have come.
-- A signal or satellite that is not masked writes nothing and counts nothing; one that is counts one more, and its record is the next.
use Prim.Native.Nat.{ℕ, ◌+◌, ◌*◌, ◌≤◌, ◌<◌}
use native.Mathlib.Nat.{add-zero, zero-mul, add_assoc, add-mul, one-mul}
use native.Mathlib.Omega.{arith}
use mathlib.Core.Bool.{Bool, true, false, ◌&&◌, cond}
use mathlib.Core.List.{List, [], ◌++◌}
use mathlib.Core.Option.{Option, none, some}
use mathlib.Core.Path.{◌≡◌, refl, sym, ap, ap₂, ◌∙◌}
use lib.ListN.{length, get_or}
use Rattle.lists.specs.Lists.{laid}
use Rattle.bits.specs.Bits.{num, bits_of}
use Rattle.mt1.specs.Message.{System, Subset, Message, count, count_before, cell_bits, cells_of}
use Rattle.mt1.specs.Records.{subset_of, satellite_record, cell_record, build, cell_place, cell_records, satellite_records}
use Rattle.mt1.proofs.Counts.{count-all, before-lt, length-satellite, place_in, satellites-few, bits-few, count-cells}
use Rattle.mt1.proofs.Building.{build-le}
use Rattle.reader.specs.declared.mask.SystemPlan.{SystemPlan}
use Rattle.reader.specs.declared.record.Rows.{Rows}
use Rattle.reader.specs.declared.emit.Cursor.{Cursor}
use Rattle.reader.specs.declared.emit.CellCursor.{CellCursor}
use Rattle.reader.specs.Steps.{Stands, part_bits}
use Rattle.reader.specs.Recording.{SystemStands, SubsetFits, chosen_before, Emits, RowOf, Reached, InRow}
use Rattle.reader.proofs.Fields.{before-next, count-few}
use Rattle.reader.proofs.Masked.{satellite-bit, signal-bit}
use Rattle.reader.proofs.Emitting.{Wrote, wrote_none, wrote_then, cells-le}

before-le : (bs : List Bool) (i : ℕ) → count_before bs i ≤ i
unfolding count_before
before-le bs i = count-few i bs

-- ---- a signal
pub row-start : (s : System) (n cell octet : ℕ) → cell ≡ count_before (cells_of s) (n * count s.signals) → InRow s n 0 (record { signal = 0; cell = cell; octet = octet })
unfolding count_before
row-start s n cell octet e = record { signal = refl; cell = e ∙ ap (count_before (cells_of s)) (sym (add-zero (n * count s.signals))) }

module _ {octets source : List ℕ} {plan : SystemPlan} {rows : Rows} {m : Message} {p : ℕ} {s : System} {i n g : ℕ} {c : CellCursor}
    (emits : Emits octets source plan rows m p s) (of : RowOf s i n) (in_row : InRow s n g c) (few : g < 16) where
  pub signal-told : (b : Bool) → b ≡ get_or (bits_of source) (plan.place + 40 + g) false → b ≡ get_or s.signals g false
  signal-told b e = e ∙ signal-bit s emits.mask g few

  cell-place : n * plan.signals + c.signal ≡ cell_place s i g
  unfolding cell_place
  cell-place = ap₂ (λ (x : ℕ) (y : ℕ). x + y) (ap₂ (λ (x : ℕ) (y : ℕ). x * y) of.number (ap (λ (q : SystemPlan). q.signals) emits.mask.planned)) in_row.signal

  pub signal-few : c.signal < 16
  signal-few = omega (arith, in_row.signal, before-le s.signals g)

  place_is : n * count s.signals + count_before s.signals g ≡ cell_place s i g
  unfolding cell_place
  place_is = ap (λ (x : ℕ). x * count s.signals + count_before s.signals g) of.number

  number_is : c.cell ≡ count_before (cells_of s) (cell_place s i g)
  number_is = in_row.cell ∙ ap (count_before (cells_of s)) place_is

  module _ (on : true ≡ get_or (bits_of source) (plan.place + 40 + g) false) where
    on-signal : get_or s.signals g false ≡ true
    on-signal = sym (signal-told true on)

    pub cell-few : n * plan.signals + c.signal < 640
    cell-few = omega (arith, cell-place, place_in s i g of.masked on-signal, bits-few s emits.mask.ok)

    -- whether it is a cell, as `is_cell` tells
    pub cell-told : (b : Bool)
        → ((t : System) → SystemStands (bits_of source) t plan → n * plan.signals + c.signal < cell_bits t.satellites t.signals → b ≡ get_or (cells_of t) (n * plan.signals + c.signal) false)
        → b ≡ get_or (cells_of s) (cell_place s i g) false
    cell-told b tells =
        tells s emits.mask (omega (arith, cell-place, place_in s i g of.masked on-signal))
        ∙ ap (λ (k : ℕ). get_or (cells_of s) k false) cell-place

    pub cell-lt : true ≡ get_or (cells_of s) (cell_place s i g) false → c.cell < count (cells_of s)
    cell-lt e = omega (arith, number_is, before-lt (cells_of s) (cell_place s i g) (sym e))

    pub number-few : true ≡ get_or (cells_of s) (cell_place s i g) false → c.cell < 640
    number-few e = omega (arith, cell-lt e, count-cells s emits.mask.ok)

  -- what a turn does where the signal is masked or not, and the cell is there or not
  module _ (b x : Bool) (signal-is : b ≡ get_or s.signals g false) (cell-is : x ≡ (b && get_or (cells_of s) (cell_place s i g) false)) where
    turn-records : cond x (cell_record m p i g c.cell) [] ≡ cell_records m p s i g
    unfolding cell_records
    turn-records =
        ap₂ (λ (y : Bool) (k : ℕ). cond y (cell_record m p i g k) []) (cell-is ∙ ap (λ (y : Bool). y && get_or (cells_of s) (cell_place s i g) false) signal-is) number_is

    turn-cells : count_before (cells_of s) (n * count s.signals + count_before s.signals (g + 1)) ≡ c.cell + num x
    turn-cells =
        ap (λ (k : ℕ). count_before (cells_of s) (n * count s.signals + k)) (before-next s.signals g ∙ ap (λ (y : Bool). count_before s.signals g + num y) (sym signal-is))
        ∙ go b cell-is
      where
        go : (y : Bool) → x ≡ (y && get_or (cells_of s) (cell_place s i g) false)
            → count_before (cells_of s) (n * count s.signals + (count_before s.signals g + num y)) ≡ c.cell + num x
        go false e =
            ap (λ (k : ℕ). count_before (cells_of s) (n * count s.signals + k)) (add-zero (count_before s.signals g))
            ∙ sym (ap (λ (y : Bool). c.cell + num y) e ∙ add-zero c.cell ∙ in_row.cell)
        go true e =
            ap (count_before (cells_of s)) (sym (add_assoc (n * count s.signals) (count_before s.signals g) 1) ∙ ap (λ (k : ℕ). k + 1) place_is)
            ∙ before-next (cells_of s) (cell_place s i g)
            ∙ ap₂ (λ (k : ℕ) (y : Bool). k + num y) (sym number_is) (sym e)

    pub cell-turn : (r : CellCursor) (d d' : List ℕ) → r.signal ≡ c.signal + num b → r.cell ≡ c.cell + num x
        → Wrote (cond x (cell_record m p i g c.cell) []) c.octet r.octet d d'
        → InRow s n (g + 1) r × (r.octet ≡ c.octet + length (cell_records m p s i g)) × (d' ≡ laid d c.octet (cell_records m p s i g))
    cell-turn r d d' es ec w =
        let v : Wrote (cell_records m p s i g) c.octet r.octet d d' = rw (← turn-records) w in (
          record {
            signal = es ∙ ap₂ (λ (y : ℕ) (z : Bool). y + num z) in_row.signal signal-is ∙ sym (before-next s.signals g);
            cell = ec ∙ sym turn-cells;
          },
          v.end,
          v.buffer,
        )

-- ---- a satellite
chosen-lt : (t : Option Subset) (n : ℕ) → chosen_before t n ≤ n
unfolding chosen_before
chosen-lt none n = omega arith
chosen-lt (some t) n = before-le t.chosen n

pub system-start : (m : Message) (s : System) (octet : ℕ) → Reached m s 0 (record { satellite = 0; chosen = 0; cell = 0; octet = octet })
unfolding count_before
system-start m s octet = record {
  satellite = refl;
  chosen = go (subset_of m.subset s.id);
  cell = ap (count_before (cells_of s)) (sym (zero-mul (count s.signals)));
}
  where
    go : (t : Option Subset) → 0 ≡ chosen_before t 0
    go t = let l = chosen-lt t 0 in omega arith

module _ {octets source : List ℕ} {plan : SystemPlan} {rows : Rows} {m : Message} {p : ℕ} {s : System} {i : ℕ} {c : Cursor}
    (emits : Emits octets source plan rows m p s) (reached : Reached m s i c) (few : i < 40) where
  satellite-told : (b : Bool) → b ≡ get_or (bits_of source) (plan.place + i) false → b ≡ get_or s.satellites i false
  satellite-told b e = e ∙ satellite-bit s emits.mask i few

  records-are : (b : Bool) (n : ℕ) → b ≡ get_or s.satellites i false → n ≡ count_before s.satellites i
      → cond b (satellite_record m p s i n ++ build 16 (cell_records m p s i)) [] ≡ satellite_records m p s i
  unfolding satellite_records
  records-are b n = ap₂ (λ (y : Bool) (k : ℕ). cond y (satellite_record m p s i k ++ build 16 (cell_records m p s i)) [])

  -- one that is not masked
  pub satellite-off : (d : List ℕ) → false ≡ get_or (bits_of source) (plan.place + i) false
      → Reached m s (i + 1) c × (c.octet ≡ c.octet + length (satellite_records m p s i)) × (d ≡ laid d c.octet (satellite_records m p s i))
  satellite-off d off =
      let e = satellite-told false off in
      let n : count_before s.satellites i ≡ count_before s.satellites (i + 1) =
      sym (before-next s.satellites i ∙ ap (λ (y : Bool). count_before s.satellites i + num y) (sym e) ∙ add-zero (count_before s.satellites i)) in
      let v : Wrote (satellite_records m p s i) c.octet c.octet d d = rw (← (records-are false (count_before s.satellites i) e refl)) (wrote_none c.octet d) in (
        record {
          satellite = reached.satellite ∙ n;
          chosen = reached.chosen ∙ ap (chosen_before (subset_of m.subset s.id)) n;
          cell = reached.cell ∙ ap (λ (k : ℕ). count_before (cells_of s) (k * count s.signals)) n;
        },
        v.end,
        v.buffer,
      )

  pub satellites-are : plan.satellites ≡ count s.satellites
  satellites-are = ap (λ (q : SystemPlan). q.satellites) emits.mask.planned

  pub satellites-most : plan.satellites ≤ 40
  satellites-most = omega (arith, satellites-are, satellites-few s emits.mask.ok)

  pub chosen_is : c.chosen ≡ chosen_before (subset_of m.subset s.id) c.satellite
  chosen_is = reached.chosen ∙ ap (chosen_before (subset_of m.subset s.id)) (sym reached.satellite)

  pub chosen-le : c.chosen ≤ c.satellite
  chosen-le = omega (arith, chosen_is, chosen-lt (subset_of m.subset s.id) c.satellite)

  pub cell-is : c.cell ≡ count_before (cells_of s) (c.satellite * count s.signals)
  cell-is = reached.cell ∙ ap (λ (k : ℕ). count_before (cells_of s) (k * count s.signals)) (sym reached.satellite)

  module _ (on : true ≡ get_or (bits_of source) (plan.place + i) false) where
    pub row-of : RowOf s i c.satellite
    row-of = record { index = few; masked = sym (satellite-told true on); number = reached.satellite }

    pub satellite-lt : c.satellite < plan.satellites
    satellite-lt = omega (arith, satellites-are, reached.satellite, before-lt s.satellites i (sym (satellite-told true on)))

    -- whether it is chosen, as `chosen_at` tells
    module _ (more : ℕ)
        (tells : (t : Option Subset) (satellites : ℕ) → Stands (bits_of octets) rows.part part_bits t → SubsetFits satellites t → c.satellite < satellites
        → chosen_before t c.satellite + more ≡ chosen_before t (c.satellite + 1)) where
      chosen_on : c.chosen + more ≡ chosen_before (subset_of m.subset s.id) (c.satellite + 1)
      chosen_on =
          ap (λ (k : ℕ). k + more) chosen_is
          ∙ tells (subset_of m.subset s.id) (count s.satellites) emits.rows-stand.part emits.rows-stand.part_ok (omega (arith, satellite-lt, satellites-are))

      pub chosen-few : c.chosen + more ≤ 40
      chosen-few = omega (arith, chosen_on, chosen-lt (subset_of m.subset s.id) (c.satellite + 1), satellite-lt, satellites-most)

      pub satellite-turn : (x : CellCursor) (d d' d'' : List ℕ) → c.octet + 272 ≤ length d
          → Wrote (satellite_record m p s i c.satellite) c.octet (c.octet + 16) d d'
          → InRow s c.satellite 16 x → Wrote (build 16 (cell_records m p s i)) (c.octet + 16) x.octet d' d''
          → Reached m s (i + 1) (record { satellite = c.satellite + 1; chosen = c.chosen + more; cell = x.cell; octet = x.octet })
          × (x.octet ≡ c.octet + length (satellite_records m p s i)) × (d'' ≡ laid d c.octet (satellite_records m p s i))
      satellite-turn x d d' d'' room v in_row w =
          let f = cell_records m p s i in
          let r = satellite_record m p s i c.satellite in
          let n : c.satellite + 1 ≡ count_before s.satellites (i + 1) =
          ap₂ (λ (k : ℕ) (y : Bool). k + num y) reached.satellite (satellite-told true on) ∙ sym (before-next s.satellites i) in
          let u = wrote_then r (build 16 f) (omega (arith, length-satellite m p s i c.satellite, build-le 16 16 f (cells-le m p s i))) v w in
          let z : Wrote (satellite_records m p s i) c.octet x.octet d d'' = rw (← (records-are true c.satellite (satellite-told true on) reached.satellite)) u in (
            record {
              satellite = n;
              chosen = chosen_on ∙ ap (chosen_before (subset_of m.subset s.id)) n;
              cell = in_row.cell ∙ ap (count_before (cells_of s)) row-end ∙ ap (λ (k : ℕ). count_before (cells_of s) (k * count s.signals)) n;
            },
            z.end,
            z.buffer,
          )
        where
          row-end : c.satellite * count s.signals + count_before s.signals 16 ≡ (c.satellite + 1) * count s.signals
          row-end = ap (λ (k : ℕ). c.satellite * count s.signals + k) (count-all s.signals 16 (omega (arith, emits.mask.ok.signals)))
              ∙ sym (add-mul c.satellite 1 (count s.signals) ∙ ap (λ (k : ℕ). c.satellite * count s.signals + k) (one-mul (count s.signals)))
