-- A list laid over another, `laid d at l`: its laws, and the loop that lays it element by element.
-- After j turns the first j elements of l are laid.
use mathlib.Core.Path.{◌≡◌, sym, ap, ap₂, ◌∙◌}
use mathlib.Core.List.{List, [], ◌∷◌, ◌++◌, append_assoc, append-nil}
use Prim.Native.Nat.{ℕ, suc, ◌+◌, ◌-◌, ◌≤◌, ◌<◌}
use native.Mathlib.Numerals.{add-one}
use native.Mathlib.Omega.{arith}
use lib.ListN.{length, get_or, set, take, drop, length-append, length-drop, drop_of_length-le}
use lib.Seq.{take_all, take_at, drop_at, drop-drop, take-append-le, drop-append-le, take-append-add, drop-append-add, set_split, length-take-le, paste, paste-zero, paste-suc}
use Rattle.lists.specs.Lists.{laid}

-- ---- laws
-- what is as long as what it is laid over is all there is
pub laid-over : {A : Type 0} (d l : List A) → length d ≤ length l → laid d 0 l ≡ l
unfolding laid
laid-over {A} d l h = ap (λ (r : List A). l ++ r) (drop_of_length-le d {i = 0 + length l} (omega arith)) ∙ append-nil l

pub laid_one : {A : Type 0} (d : List A) (at : ℕ) (x : A) → at < length d → set d at x ≡ laid d at (x ∷ [])
unfolding laid
laid_one d at x h = set_split d at x h ∙ ap (λ (n : ℕ). take at d ++ (x ∷ drop n d)) (sym (add-one at))

module _ {A : Type 0} (d : List A) (at : ℕ) (l : List A) (room : at + length l ≤ length d) where
  head : length (take at d) ≡ at
  head = length-take-le at d (omega arith)

  from : drop at (laid d at l) ≡ l ++ drop (at + length l) d
  unfolding laid
  from = drop_at (take at d) (l ++ drop (at + length l) d) at head

  pub laid-length : length (laid d at l) ≡ length d
  unfolding laid
  laid-length = simp (length-append, length-drop, head) (omega arith)

  -- what stands behind it
  laid-after : (a : ℕ) → at + length l ≤ a → drop a (laid d at l) ≡ drop a d
  laid-after a h =
      ap (λ (k : ℕ). drop k (laid d at l)) far
      ∙ sym (drop-drop (length l + j) at (laid d at l))
      ∙ ap (drop (length l + j)) from
      ∙ drop-append-add l (drop (at + length l) d) j
      ∙ drop-drop j (at + length l) d
      ∙ ap (λ (k : ℕ). drop k d) near
    where
      j : ℕ
      j = a - (at + length l)

      far : a ≡ at + (length l + j)
      far = omega arith

      near : at + length l + j ≡ a
      near = omega arith

-- the front, up to the end of what is laid
pub laid-take : {A : Type 0} (d : List A) (at : ℕ) (l : List A) → at ≤ length d → take (at + length l) (laid d at l) ≡ take at d ++ l
unfolding laid
laid-take d at l h =
    ap (take (at + length l)) (sym (append_assoc (take at d) l (drop (at + length l) d)))
    ∙ take_at (take at d ++ l) (drop (at + length l) d) (at + length l) (omega (arith, length-append (take at d) l, length-take-le at d h))

pub laid-front : {A : Type 0} (d l : List A) (n : ℕ) → length l ≡ n → take n (laid d 0 l) ≡ l
unfolding laid
laid-front d l n e = take_at l (drop (0 + length l) d) n e

-- one laid behind another is both laid at once
pub laid-laid : {A : Type 0} (d : List A) (at : ℕ) (l m : List A) → at + (length l + length m) ≤ length d
    → laid (laid d at l) (at + length l) m ≡ laid d at (l ++ m)
unfolding laid
laid-laid {A} d at l m h =
    ap₂ (λ (u v : List A). u ++ (m ++ v)) (laid-take d at l (omega arith)) (laid-after d at l (omega arith) (at + length l + length m) (omega arith))
    ∙ append_assoc (take at d) l (m ++ drop (at + length l + length m) d)
    ∙ ap (λ (r : List A). take at d ++ r) (sym (append_assoc l m (drop (at + length l + length m) d)))
    ∙ ap (λ (n : ℕ). take at d ++ ((l ++ m) ++ drop n d)) both
  where
    both : at + length l + length m ≡ at + length (l ++ m)
    both = omega (arith, length-append l m)

-- a list of two parts: laid over the first, or over the second
pub laid-first : {A : Type 0} (a b : List A) (at : ℕ) (l : List A) → at + length l ≤ length a → laid (a ++ b) at l ≡ laid a at l ++ b
unfolding laid
laid-first {A} a b at l h =
    ap₂ (λ (x y : List A). x ++ (l ++ y)) (take-append-le at a b (omega arith)) (drop-append-le (at + length l) a b h)
    ∙ ap (λ (r : List A). take at a ++ r) (sym (append_assoc l (drop (at + length l) a) b))
    ∙ sym (append_assoc (take at a) (l ++ drop (at + length l) a) b)

pub laid-second : {A : Type 0} (a b : List A) (at n : ℕ) (l : List A) → n ≡ length a + at → laid (a ++ b) n l ≡ a ++ laid b at l
unfolding laid
laid-second {A} a b at n l e =
    ap₂ (λ (x y : List A). x ++ (l ++ y)) (ap (λ (k : ℕ). take k (a ++ b)) e ∙ take-append-add a b at) (ap (λ (k : ℕ). drop k (a ++ b)) far ∙ drop-append-add a b (at + length l))
    ∙ append_assoc a (take at b) (l ++ drop (at + length l) b)
  where
    far : n + length l ≡ length a + (at + length l)
    far = omega arith

-- ---- the loop
-- j elements are laid as the library's `paste` lays them
laid-paste : {A : Type 0} (d : List A) (at : ℕ) (l : List A) (j : ℕ) → j ≤ length l → laid d at (take j l) ≡ paste d at l j
unfolding laid
laid-paste d at l j h = ap (λ (n : ℕ). take at d ++ (take j l ++ drop (at + n) d)) (length-take-le j l h) ∙ sym (append_assoc (take at d) (take j l) (drop (at + j) d))

pub laid_none : {A : Type 0} (d : List A) (at : ℕ) (l : List A) → d ≡ laid d at (take 0 l)
laid_none d at l = paste-zero d at l ∙ sym (laid-paste d at l 0 (omega arith))

-- a turn: x, the next element of l, is set at its place n
pub laid_next : {A : Type 0} (x₀ : A) (d : List A) (at : ℕ) (l v : List A) (j n : ℕ) (x : A) → n ≡ at + j → x ≡ get_or l j x₀ → at + j < length d → j < length l
    → v ≡ laid d at (take j l) → set v n x ≡ laid d at (take (j + 1) l)
laid_next {A} x₀ d at l v j n x e g h k i =
    ap (λ (u : List A). set u n x) (i ∙ laid-paste d at l j (omega arith))
    ∙ ap₂ (set (paste d at l j)) e g
    ∙ paste-suc d at l j x₀ h k
    ∙ sym (laid-paste d at l (suc j) (omega arith))
    ∙ ap (λ (m : ℕ). laid d at (take m l)) (sym (add-one j))

pub laid-all : {A : Type 0} (d : List A) (at : ℕ) (l : List A) (j : ℕ) → length l ≤ j → laid d at (take j l) ≡ laid d at l
laid-all d at l j h = ap (laid d at) (take_all j l h)
