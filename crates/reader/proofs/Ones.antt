-- How many bits of a run are 1, counted place by place.
-- The first of a run of one bit more counts what it is, and the others are the run behind it.
use Prim.Native.Nat.{ℕ, zero, suc, ◌+◌}
use native.Mathlib.Nat.{add-zero}
use native.Mathlib.Omega.{arith}
use mathlib.Core.Bool.{Bool, true, false, cond}
use mathlib.Core.List.{List, [], ◌∷◌}
use mathlib.Core.Path.{◌≡◌, refl, sym, ap, ap₂, ◌∙◌}
use lib.ListN.{get_or, take, drop}
use lib.Seq.{get_or-drop, drop-drop}
use Rattle.std.specs.List.{count_by, range_with_len}
use Rattle.std.proofs.lemmas.List.Sums.{sum_by-cons}
use Rattle.mt1.specs.Message.{count}

first_of : (n : ℕ) (l : List Bool) → count (take (suc n) l) ≡ cond (get_or l 0 false) 1 0 + count (take n (drop 1 l))
unfolding count
first_of zero [] = refl
first_of (suc n) [] = refl
first_of n (true ∷ l) = refl
first_of n (false ∷ l) = refl

from : (bs : List Bool) (at i n : ℕ) → count_by (λ k. get_or bs (at + k) false) (range_with_len i n) ≡ count (take n (drop (at + i) bs))
unfolding count
from bs at i zero = refl
from bs at i (suc n) =
    let p : at + i + 0 ≡ at + i = omega arith in
    let q : drop 1 (drop (at + i) bs) ≡ drop (at + (i + 1)) bs = (let e : at + i + 1 ≡ at + (i + 1) = omega arith in drop-drop 1 (at + i) bs ∙ ap (λ (k : ℕ). drop k bs) e) in
    sum_by-cons (λ k. cond (get_or bs (at + k) false) 1 0) i (range_with_len (i + 1) n)
    ∙ ap₂ (λ (b : Bool) (x : ℕ). cond b 1 0 + x) (ap (λ (k : ℕ). get_or bs k false) (sym p) ∙ sym (get_or-drop (at + i) bs 0 false)) (from bs at (i + 1) n ∙ ap (λ (l : List Bool). count (take n l)) (sym q))
    ∙ sym (first_of n (drop (at + i) bs))

pub ones : (bs : List Bool) (at n : ℕ) → count_by (λ k. get_or bs (at + k) false) (range_with_len 0 n) ≡ count (take n (drop at bs))
ones bs at n = from bs at 0 n ∙ ap (λ (k : ℕ). count (take n (drop k bs))) (add-zero at)
