-- A loop that appends bits, turn after turn: what is appended, and what is left to append. The loop over records is one such.
-- What is left begins with what a turn appends; where nothing is left, all is appended.
use Prim.Native.Nat.{ℕ, suc, ◌+◌, ◌*◌, ◌/◌, ◌-◌, ◌≤◌, ◌<◌}
use native.Mathlib.Omega.{arith}
use mathlib.Core.Bool.{Bool}
use mathlib.Core.List.{List, [], ◌++◌, append-nil, append_assoc}
use mathlib.Core.Path.{◌≡◌, sym, ap, ◌∙◌}
use lib.ListN.{length, drop}
use lib.Seq.{drop-drop}
use Rattle.writer.specs.declared.append.Body.{Body}
use Rattle.writer.specs.declared.part.Part.{Part}
use Rattle.writer.specs.Rendering.{Appends, gather, part_of, gathered}
use Rattle.writer.proofs.Appending.{appends-none, appends-join, appends-is}

-- of `whole` some bits are appended, and `rest` is left
pub record Begun (before after : Body) (whole rest : List Bool) : Type 0 where
  pub done : List Bool
  pub appends : Appends before after done
  pub splits : whole ≡ done ++ rest

pub begun-start : (d : Body) {whole rest : List Bool} → whole ≡ rest → Begun d d whole rest
begun-start d e = record { done = []; appends = appends-none d; splits = e }

pub begun_more : {d e f : Body} {whole rest left bs : List Bool} → Begun d e whole rest → Appends e f bs → rest ≡ bs ++ left → Begun d f whole left
begun_more {left = left} {bs = bs} b p e = record {
  done = b.done ++ bs;
  appends = appends-join b.appends p;
  splits = b.splits ∙ ap (λ (r : List Bool). b.done ++ r) e ∙ sym (append_assoc b.done bs left);
}

pub begun_all : {d e : Body} {whole rest : List Bool} → Begun d e whole rest → rest ≡ [] → Appends d e whole
begun_all b e = appends-is (sym (b.splits ∙ ap (λ (r : List Bool). b.done ++ r) e ∙ append-nil b.done)) b.appends

-- ---- a part of a system's records, of which k are done
module _ (part : Part) (s : List ℕ) where
  abbrev pub left : ℕ → List Bool
  left k = gather (length s / 16 - k) (part_of part s) (drop (16 * k) s)

  pub left-first : gathered part s ≡ left 0
  unfolding gathered
  left-first = let e : length s / 16 - 0 ≡ length s / 16 = omega arith in rw e

  pub left-next : (k : ℕ) → k < length s / 16 → left k ≡ part_of part s (drop (16 * k) s) ++ left (k + 1)
  unfolding gather
  left-next k h =
      let e : length s / 16 - k ≡ suc (length s / 16 - (k + 1)) = omega arith in
      let f : 16 * k + 16 ≡ 16 * (k + 1) = omega arith in
      ap (λ (n : ℕ). gather n (part_of part s) (drop (16 * k) s)) e
      ∙ ap (λ (l : List ℕ). part_of part s (drop (16 * k) s) ++ gather (length s / 16 - (k + 1)) (part_of part s) l) (drop-drop 16 (16 * k) s ∙ ap (λ (n : ℕ). drop n s) f)

  pub left-last : (k : ℕ) → length s / 16 ≤ k → left k ≡ []
  unfolding gather
  left-last k h = let e : length s / 16 - k ≡ 0 = omega arith in rw e
