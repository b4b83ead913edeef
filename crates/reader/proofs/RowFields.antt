-- Where the values of a system's nth satellite stand, and of its nth cell.
-- They are the fields of the nth item of a row, one behind another.
use Prim.Native.Nat.{ℕ, ◌+◌, ◌*◌, ◌^◌, ◌≤◌, ◌<◌}
use native.Mathlib.Nat.{mul-le-mul}
use native.Mathlib.Omega.{arith}
use mathlib.Core.Bool.{Bool}
use mathlib.Core.List.{List, ◌++◌}
use mathlib.Core.Option.{Option}
use mathlib.Core.Path.{◌≡◌}
use lib.ListN.{length, length-append}
use Rattle.bits.specs.Bits.{bits}
use Rattle.bits.proofs.Values.{length-bits}
use Rattle.reader.specs.declared.record.Rows.{Rows}
use Rattle.mt1.specs.Message.{System, Orbit, Phase, Message, count, cells_of}
use Rattle.mt1.specs.Mt1.{iod_bits}
use Rattle.mt1.specs.Encode.{orbit_bits, phase_bits}
use Rattle.mt1.specs.Valid.{OrbitOk, PhaseOk}
use Rattle.mt1.specs.Records.{part, body, of_system}
use Rattle.reader.specs.Steps.{Place, Stands}
use Rattle.reader.specs.Recording.{IfSome, onwards, RowsStand}
use Rattle.reader.proofs.RowValues.{Value, onwards-onwards, first, last, item}

-- ---- how wide they are
pub orbit-width : (id : ℕ) (o : Orbit) → length (orbit_bits id o) ≡ iod_bits id + 37
unfolding orbit_bits
orbit-width id o =
    let i = bits (iod_bits id) o.iod in
    let r = bits 13 o.radial in
    let t = bits 12 o.in_track in
    let x = bits 12 o.cross_track in
    let e = length-append i (r ++ (t ++ x)) in
    let f = length-append r (t ++ x) in
    omega (arith, e, f, length-append t x, length-bits (iod_bits id) o.iod, length-bits 13 o.radial, length-bits 12 o.in_track, length-bits 12 o.cross_track)

-- at most 40 of 47 bits each
pub orbit-room : (n w : ℕ) → n ≤ 40 → w ≤ 10 → n * (w + 37) ≤ 1880
orbit-room n w h k =
    let l : w + 37 ≤ 47 = omega arith in
    mul-le-mul h l

pub phase-width : (f : Phase) → length (phase_bits f) ≡ 13
unfolding phase_bits
phase-width f = omega (arith, length-append (bits 11 f.bias) (bits 2 f.discontinuity), length-bits 11 f.bias, length-bits 2 f.discontinuity)

-- ---- an orbit's fields
pub record OrbitValues (bs : List Bool) (place : Place) (w : ℕ) (o : Option Orbit) : Type 0 where
  pub iod : Value bs place w (part (λ x. x.iod) o)
  pub radial : Value bs (onwards place w) 13 (part (λ x. x.radial) o)
  pub in_track : Value bs (onwards place (w + 13)) 12 (part (λ x. x.in_track) o)
  pub cross_track : Value bs (onwards place (w + 25)) 12 (part (λ x. x.cross_track) o)

orbit-values : (bs : List Bool) (id : ℕ) (place : Place) (o : Option Orbit) → IfSome (OrbitOk id) o → Stands bs place (orbit_bits id) o → OrbitValues bs place (iod_bits id) o
unfolding orbit_bits
orbit-values bs id place o k s =
    let w = iod_bits id in
    let a = first bs (OrbitOk id) (λ x. x.iod) w (λ x h. h.iod) place (λ x. bits 13 x.radial ++ (bits 12 x.in_track ++ bits 12 x.cross_track)) o k s in
    let b = first bs (OrbitOk id) (λ x. x.radial) 13 (λ x h. h.radial) (onwards place w) (λ x. bits 12 x.in_track ++ bits 12 x.cross_track) o k a.1 in
    let c = first bs (OrbitOk id) (λ x. x.in_track) 12 (λ x h. h.in_track) (onwards place (w + 13)) (λ x. bits 12 x.cross_track) o k (rw (onwards-onwards place w 13) at b.1) in
    let e : w + 13 + 12 ≡ w + 25 = omega arith in
    record {
      iod = a.0;
      radial = b.0;
      in_track = c.0;
      cross_track = last bs (OrbitOk id) (λ x. x.cross_track) 12 (λ x h. h.cross_track) (onwards place (w + 25)) o k (rw (onwards-onwards place (w + 13) 12, e) at c.1);
    }

-- ---- a phase's
pub record PhaseValues (bs : List Bool) (place : Place) (f : Option Phase) : Type 0 where
  pub bias : Value bs place 11 (part (λ x. x.bias) f)
  pub discontinuity : Value bs (onwards place 11) 2 (part (λ x. x.discontinuity) f)

phase-values : (bs : List Bool) (place : Place) (f : Option Phase) → IfSome PhaseOk f → Stands bs place phase_bits f → PhaseValues bs place f
unfolding phase_bits
phase-values bs place f k s =
    let a = first bs PhaseOk (λ x. x.bias) 11 (λ x h. h.bias) place (λ x. bits 2 x.discontinuity) f k s in
    record { bias = a.0; discontinuity = last bs PhaseOk (λ x. x.discontinuity) 2 (λ x h. h.discontinuity) (onwards place 11) f k a.1 }

-- ---- of the nth in a row
module _ (bs : List Bool) (m : Message) (p : ℕ) (s : System) (rows : Rows) (r : RowsStand bs m p s rows) (n : ℕ) where
  pub orbit-here : n < count s.satellites → OrbitValues bs (onwards rows.orbit (n * (rows.iod + 37))) rows.iod (of_system m.orbits p n)
  orbit-here h =
      let id = s.id in
      let i = item bs (orbit_bits id) (iod_bits id + 37) (OrbitOk id) (count s.satellites) n rows.orbit (orbit-width id) h m.orbits p r.orbit_ok r.orbit in
      rw r.iod (orbit-values bs id (onwards rows.orbit (n * (iod_bits id + 37))) (of_system m.orbits p n) i.1 i.0)

  pub clock-here : n < count s.satellites → Value bs (onwards rows.clock (n * 13)) 13 (of_system (body (λ c. c.clocks) m.clocks) p n)
  clock-here h = item bs (bits 13) 13 (λ v. v < 2 ^ 13) (count s.satellites) n rows.clock (length-bits 13) h (body (λ c. c.clocks) m.clocks) p r.clock_ok r.clock

  pub code_here : n < count (cells_of s) → Value bs (onwards rows.code (n * 11)) 11 (of_system m.codes p n)
  code_here h = item bs (bits 11) 11 (λ v. v < 2 ^ 11) (count (cells_of s)) n rows.code (length-bits 11) h m.codes p r.code_ok r.code

  pub phase-here : n < count (cells_of s) → PhaseValues bs (onwards rows.phase (n * 13)) (of_system m.phases p n)
  phase-here h =
      let i = item bs phase_bits 13 PhaseOk (count (cells_of s)) n rows.phase phase-width h m.phases p r.phase_ok r.phase in
      phase-values bs (onwards rows.phase (n * 13)) (of_system m.phases p n) i.1 i.0
