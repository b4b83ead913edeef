-- The octets in which the code renders a list, and what it answers by them: their first bits are the rendering, and then the filling.
-- What is read back of them are whole octets, so the rendering and some bits behind it.
use Prim.Native.Nat.{ℕ, zero, suc, ◌+◌, ◌*◌, ◌-◌, ◌/◌, ◌%◌, min, ◌≤◌, ◌<◌}
use native.Mathlib.Nat.{zero-add}
use native.Mathlib.Omega.{arith}
use mathlib.Core.Bool.{Bool, false}
use mathlib.Core.List.{List, [], ◌∷◌, ◌++◌}
use mathlib.Core.Path.{◌≡◌, refl, sym, ap, subst, ◌∙◌}
use lib.ListN.{length, get_or, take, drop, take-append-drop}
use lib.Seq.{take-take}
use Rattle.std.specs.Prelude.{Ok, Err}
use Rattle.lists.specs.Lists.{laid}
use Rattle.bits.specs.Bits.{bits_of, octets_of}
use Rattle.bits.proofs.Octets.{bits_of-take, octets-of-bits}
use Rattle.refusal.specs.declared.Refusal.TheVariants.{Form, Long}
use Rattle.mt1.specs.Mt1.{Lent}
use Rattle.writer.specs.declared.append.Body.{Body}
use Rattle.writer.specs.Writer.{ReadsTo, turns, SoWritten, Judged}
use Rattle.writer.specs.Rendering.{Appends, rendered}
use Rattle.writer.proofs.Filling.{length-turns}
use Rattle.writer.proofs.Placing.{rendered-few}
use Rattle.writer.proofs.Written.{header-long, so-written, judged-form, judged-long, judged-size}

front-octets : (x y : List ℕ) → ((i : ℕ) → get_or (x ++ y) i 0 < 256) → (i : ℕ) → get_or x i 0 < 256
front-octets [] y h i = omega arith
front-octets (a ∷ x) y h zero = h 0
front-octets (a ∷ x) y h (suc i) = front-octets x y (λ j. h (suc j)) i

-- all of a list is copied
pub copied : (x d after : List ℕ) (n : ℕ) → length x ≡ n → after ≡ x ++ drop (length x) d → after ≡ x ++ drop n d
copied x d after n e q = q ∙ ap (λ (i : ℕ). x ++ drop i d) e

laid-front : (d x y : List ℕ) (n : ℕ) → x ≡ y → length y ≡ n → laid d 0 x ≡ y ++ drop n d
unfolding laid
laid-front d x y n e h = rw e (ap (λ (i : ℕ). y ++ drop i d) (zero-add (length y) ∙ h))

module _ (l : List ℕ) {start body : Body} (zero : start.bits ≡ 0) (a : Appends start body (rendered l)) (octets : length body.octets ≡ 20480) (most : length l ≤ 21808)
    (few : ℕ) (ceil : few ≡ body.bits / 8 + min 1 (body.bits % 8)) where
  fits : start.bits + length (rendered l) ≤ 163840
  fits = omega (arith, zero, rendered-few l most)

  pub body_end : body.bits ≡ length (rendered l)
  body_end = omega (arith, a.ends fits, zero)

  pub body-few : body.bits ≤ 163840
  body-few = omega (arith, body_end, rendered-few l most)

  front : take body.bits (bits_of body.octets) ≡ rendered l
  front = a.bits fits ∙ ap (λ (n : ℕ). take n (bits_of start.octets) ++ rendered l) zero

  -- how many octets are read back
  pub few-long : (4 ≤ few) × (few ≤ 20480)
  few-long = (omega (arith, body_end, header-long l, ceil), omega (arith, body-few, ceil))

  abbrev pub back : List ℕ
  back = take few body.octets

  rest : List Bool
  rest = drop body.bits (bits_of back)

  front-bits : take body.bits (bits_of back) ≡ rendered l
  front-bits =
      let h : few ≤ length body.octets = omega (arith, few-long, octets) in
      let e : take body.bits (take (8 * few) (bits_of body.octets)) ≡ take body.bits (bits_of body.octets) = take-take body.bits (8 * few) (bits_of body.octets) (omega (arith, ceil)) in
      ap (take body.bits) (bits_of-take body.octets few h) ∙ e ∙ front

  read-bits : bits_of back ≡ rendered l ++ rest
  unfolding rest
  read-bits = sym (take-append-drop body.bits (bits_of back)) ∙ ap (λ (t : List Bool). t ++ rest) front-bits

  -- ---- what is answered
  module _ (lent : Lent) (before after : List ℕ) where
    pub body-form : (ReadsTo lent (bits_of back) l → ⊥) → Judged lent l before (Err Form) after
    body-form h = judged-form lent l before after rest (λ t. h (subst (λ (bs : List Bool). ReadsTo lent bs l) (sym read-bits) t))

    pub body-long : ReadsTo lent (bits_of back) l → 13568 < body.bits → Judged lent l before (Err Long) after
    body-long t n = judged-long lent l before after (bits_of back) t (omega (arith, n, body_end))

  -- and what is written: the octets x of the pages, in front of what was behind them
  module _ (lent : Lent) (before x : List ℕ) (k : ℕ) (filled : Body) where
    abbrev after : List ℕ
    after = x ++ drop (length (take (53 * k) filled.octets)) before

    pub body-size : ReadsTo lent (bits_of back) l → body.bits ≤ 13568 → k ≡ body.bits / 424 + min 1 (body.bits % 424) → Appends body filled (turns false (424 * k - body.bits)) → length filled.octets ≡ 20480
        → ((i : ℕ) → get_or after i 0 < 256) → x ≡ take (53 * k) filled.octets → Judged lent l before (Ok k) after
    body-size t w c f room o q =
        let end = body.bits in
        let e : k ≡ (end + 423) / 424 = omega (arith, c) in
        let n : length (rendered l) ≡ end = sym body_end in
        let fill = turns false (424 * k - end) in
        let bs = rendered l ++ fill in
        let pages = take (53 * k) filled.octets in
        let space : end + length fill ≤ 163840 = omega (arith, length-turns false (424 * k - end), w, e) in
        let long : 53 * k ≤ length filled.octets = omega (arith, room, w, e) in
        let all : filled.bits ≡ 8 * (53 * k) = omega (arith, f.ends space, length-turns false (424 * k - end), e) in
        let written : bits_of pages ≡ bs =
        bits_of-take filled.octets (53 * k) long ∙ ap (λ (i : ℕ). take i (bits_of filled.octets)) (sym all) ∙ f.bits space ∙ ap (λ (y : List Bool). y ++ fill) front in
        let octets' : octets_of bs ≡ pages = ap octets_of (sym written) ∙ octets-of-bits pages (λ i. subst (λ (y : List ℕ). get_or y i 0 < 256) q (front-octets x (drop (length pages) before) o i)) in
        judged-size lent l before after (bits_of back) t (omega (arith, n, w)) k bs
        (subst (λ (i : ℕ). SoWritten lent l k (rendered l ++ turns false (424 * k - i))) n (so-written lent l (bits_of back) t k (e ∙ ap (λ (i : ℕ). (i + 423) / 424) (sym n)) (omega (arith, n, w))))
        (ap (λ (y : List ℕ). y ++ drop (length pages) before) q ∙ sym (laid-front before (octets_of bs) pages (length pages) octets' refl))
