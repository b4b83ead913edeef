-- Two results that one contract allows are equal (01, How much each contract must say).
-- Where a contract is an equation it is plain; of logarithms the powers below 255 are different, of inverses there are no divisors of 0,
-- and of solving there is one message that has the pages.
use mathlib.Core.Bool.{Bool, true, false}
use mathlib.Core.List.{List, ◌++◌}
use mathlib.Core.Path.{◌≡◌, refl, sym, ap, ◌∙◌, subst}
use Prim.Native.Nat.{ℕ, ◌≤◌, ◌<◌}
use native.Mathlib.Decide.{ℕ_discrete}
use native.Mathlib.Omega.{arith}
use lib.Dec.{eqb}
use lib.ListN.{length, drop}
use Rattle.std.specs.Prelude.{Ok, Err}
use Rattle.refusal.proofs.OneCase.{one-case, no-nought}
use Rattle.refusal.specs.declared.Refusal.{Refusal}
use Rattle.refusal.specs.declared.Refusal.TheVariants.{Length, Out, PageNumber, Repeat}
use Rattle.pagecode.specs.Field.{◌⊗◌, Logarithm, Inverse}
use Rattle.pagecode.specs.Page.{encoded_page}
use Rattle.pagecode.specs.Answer.{Answer, answer_number, check, when_good}
use Rattle.pagecode.specs.Encode.{are_pages, Encoded}
use Rattle.pagecode.specs.Solve.{all_legal, different, solve_answer, SolvedBuffer, Solved}
use Rattle.pagecode.proofs.Laws.{⊗-assoc, ⊗-comm, ⊗-one, one-⊗}
use Rattle.pagecode.proofs.Power.{power-inj}
use Rattle.pagecode.proofs.LegalNumbers.{Pages, pages-of, few-pages}
use Rattle.pagecode.proofs.Solution.{one-message}

pub one-logarithm : (a r s : ℕ) → Logarithm a r → Logarithm a s → r ≡ s
one-logarithm a r s x y = pick (ℕ_discrete a 0)
  where
    pick : Dec (a ≡ 0) → r ≡ s
    pick (yes e) = x.none e ∙ sym (y.none e)
    pick (no d) = power-inj r s x.small y.small (x.some d ∙ sym (y.some d))

pub one-inverse : (a r s : ℕ) → r < 256 → s < 256 → Inverse a r → Inverse a s → r ≡ s
one-inverse a r s hr hs x y = pick (ℕ_discrete a 0)
  where
    pick : Dec (a ≡ 0) → r ≡ s
    pick (yes e) = x.none e ∙ sym (y.none e)
    pick (no d) =
        sym (⊗-one r hr) ∙ ap (λ (z : ℕ). r ⊗ z) (sym (y.some d)) ∙ sym (⊗-assoc r a s) ∙ ap (λ (z : ℕ). z ⊗ s) (⊗-comm r a ∙ x.some d) ∙ one-⊗ s hs

pub one-encoding : (m : List ℕ) (status number page : ℕ) (before : List ℕ) (r s : Answer) (a b : List ℕ)
    → Encoded m status number page before r a → Encoded m status number page before s b → (r ≡ s) × (a ≡ b)
one-encoding m status number page before r s a b x y =
    let e : r ≡ s = x.answered ∙ sym y.answered in
    (e, x.buffer ∙ ap (λ (t : Answer). when_good t (encoded_page m status number page) before) e ∙ sym y.buffer)

-- ---- what a good answer of `solve` tells: its tests held
check-good : (b : Bool) (f : Refusal) (next : Answer) → check b f next ≡ Ok tt → (b ≡ true) × (next ≡ Ok tt)
check-good true f next e = (refl, e)
check-good false f next e = let z : ◌≡◌ {A = ℕ} 0 1 = cc in absurd (omega arith)

good-pages : (contents numbers : List ℕ) (room : ℕ) → solve_answer contents numbers room ≡ Ok tt → (length numbers ≤ 32) × Pages (length numbers) numbers
unfolding solve_answer
good-pages contents numbers room e =
    let pages = check-good (are_pages (length numbers) (length contents)) Length _ e in
    let space = check-good (eqb room 1696) Out _ pages.1 in
    let legal = check-good (all_legal (length numbers) numbers) PageNumber _ space.1 in
    let apart = check-good (different numbers) Repeat (Ok tt) legal.1 in
    let few : length numbers ≤ 32 = few-pages (length numbers) (length contents) pages.0 in
    (few, pages-of numbers few legal.0 apart.0)

one-buffer : (contents numbers before : List ℕ) (r : Answer) (a b : List ℕ) → r ≡ solve_answer contents numbers (length before)
    → SolvedBuffer r contents numbers before a → SolvedBuffer r contents numbers before b → a ≡ b
one-buffer contents numbers before (Ok _) a b e (m, h, x) (n, i, y) =
    let g = good-pages contents numbers (length before) (sym e) in
    x ∙ ap (λ (l : List ℕ). l ++ drop (length l) before) (one-message numbers contents g.0 g.1 m n h i) ∙ sym y
one-buffer contents numbers before (Err f) a b e x y = x ∙ sym y

pub one_solution : (contents numbers before : List ℕ) (r s : Answer) (a b : List ℕ) → Solved contents numbers before r a → Solved contents numbers before s b → (r ≡ s) × (a ≡ b)
one_solution contents numbers before r s a b x y =
    let e : r ≡ s = x.answered ∙ sym y.answered in
    (e, one-buffer contents numbers before r a b x.answered x.buffer (subst (λ (t : Answer). SolvedBuffer t contents numbers before b) (sym e) y.buffer))

-- an answer is known by its number
pub one_answer : (a b : Answer) → answer_number a ≡ answer_number b → a ≡ b
one_answer (Ok _) (Ok _) e = refl
one_answer (Ok _) (Err g) e = absurd (no-nought g (sym e))
one_answer (Err f) (Ok _) e = absurd (no-nought f e)
one_answer (Err f) (Err g) e = ap Err (one-case f g e)
