-- The lists that solving works on: the places of the parity pages, of the missing columns, and of the known ones.
-- There are as many parity pages as pages are missing, and each column is missing or known.
use mathlib.Core.List.{List}
use mathlib.Core.Path.{◌≡◌, sym, subst}
use Prim.Native.Nat.{ℕ, ◌+◌, ◌-◌, ◌≤◌}
use native.Mathlib.Omega.{arith}
use lib.ListN.{length, take}
use Rattle.pagecode.specs.System.{Regular, Equations}
use Rattle.pagecode.specs.Reduction.{ArePlain, Spread, noughts, Marked, AreNoughts, AreOthers, Numbered, PagesLaid, ParityRows, ReducedRows, ReducedSides, Completed}
use Rattle.pagecode.proofs.LegalNumbers.{Pages}
use Rattle.pagecode.proofs.Noughts.{list-front, others-front, list-numbered, list-spread, others-numbered}
use Rattle.pagecode.proofs.SolvedPages.{as_many, regular, completed}

-- ---- the front of a row of places, as long as there are places
module _ (l row at : List ℕ) (n m : ℕ) (is : (at ≡ take m row) × (length at ≡ m)) where
  pub noughts-at : AreNoughts l n row m → AreNoughts l n at (length at)
  noughts-at s = subst (λ (v : List ℕ). AreNoughts l n v (length at)) (sym is.0) (subst (AreNoughts l n (take m row)) (sym is.1) (list-front l row n m s))

  pub others-at : noughts l n + m ≡ n → AreOthers l n row → AreOthers l n at
  others-at e s = subst (AreOthers l n) (sym is.0) (others-front l row n m e s)

-- ---- the three lists
pub record Sought (k : ℕ) (plain marks parity missing known : List ℕ) : Type 0 where
  pub marked : Marked k plain marks
  pub received : AreNoughts plain k parity (length parity)
  pub gaps : AreNoughts marks k missing (length missing)
  pub others : AreOthers marks k known
  pub rest : length missing + length known ≡ k

-- ---- what holds of them
pub record Facts (k : ℕ) (parity missing known : List ℕ) : Type 0 where
  pub many : length parity ≡ length missing
  pub whole : length parity + length known ≡ k
  pub numbered-parity : Numbered (length parity) k parity
  pub numbered-missing : Numbered (length missing) 32 missing
  pub numbered-known : Numbered (length known) 32 known
  pub spread : Spread (length missing) 32 missing

module _ (numbers plain : List ℕ) (few : length numbers ≤ 32) (pages : Pages (length numbers) numbers) (are : ArePlain numbers plain)
    (marks parity missing known : List ℕ) (s : Sought (length numbers) plain marks parity missing known) where
  abbrev k : ℕ
  k = length numbers

  as_long : length parity ≡ length missing
  as_long = as_many numbers plain few pages are marks parity missing (length parity) (length missing) s.marked s.received s.gaps

  left : k - noughts marks k ≡ length known
  left = omega (arith, s.gaps.all, s.rest)

  pub facts-of : Facts k parity missing known
  facts-of = record {
    many = as_long;
    whole = omega (arith, as_long, s.rest);
    numbered-parity = list-numbered plain parity k (length parity) s.received;
    numbered-missing = λ a h. let n = list-numbered marks missing k (length missing) s.gaps a h in (n.0, omega (arith, n.1));
    numbered-known = subst (λ (n : ℕ). Numbered n 32 known) left (others-numbered marks known k 32 few s.others);
    spread = list-spread marks missing k (length missing) s.gaps 32 few;
  }

  module _ (rows square : List (List ℕ)) (rows_are : ParityRows (length parity) numbers parity rows) (reduced : ReducedRows (length missing) missing rows square) where
    short : ReducedRows (length parity) missing rows square
    short = subst (λ (r : ℕ). ReducedRows r missing rows square) (sym as_long) reduced

    pub regular-of : Regular (length parity) square
    regular-of = regular numbers plain few pages are marks parity missing (length parity) (length missing) rows square s.marked s.received s.gaps rows_are short

    pub completed-of : (contents message sides solved after : List ℕ) → ReducedSides (length known) (length parity) known parity rows contents message sides
        → Equations (length parity) square solved sides → PagesLaid (length missing) solved missing message after → Completed numbers plain contents message after
    completed-of contents message sides solved after sides-are equations laid =
        let rest : length known ≡ k - length parity = omega (arith, as_long, s.rest) in
        completed numbers plain few pages are marks parity missing (length parity) (length missing) rows square s.marked s.received s.gaps rows_are short
        known contents message sides solved after s.others (subst (λ (n : ℕ). ReducedSides n (length parity) known parity rows contents message sides) rest sides-are) equations
        (subst (λ (r : ℕ). PagesLaid r solved missing message after) (sym as_long) laid)
