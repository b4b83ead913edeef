-- What a writer is still to get: what completes the rest of it completes the whole.
use mathlib.Core.Path.{◌≡◌, refl, sym, ap, ◌∙◌, subst}
use mathlib.Core.List.{List, [], ◌∷◌, ◌++◌, append-nil, append_assoc}
use Prim.Native.Nat.{ℕ, zero, suc, ◌+◌, ◌*◌, ◌/◌, ◌≤◌, ◌<◌}
use native.Mathlib.Nat.{mul-le-mul_right, div-mul-le_self, mul-div_cancel, mul-add-div_right, div-eq_of_lt}
use native.Mathlib.Omega.{arith}
use lib.ListN.{length, take, drop, length-append}
use lib.Seq.{take_all, take_at, drop_at, length-take-le}
use Rattle.std.proofs.lemmas.List.{take-take, drop-take}
use Rattle.std.specs.Prelude.{Option, None, Some, Result, Ok, Err, OnOk}
use Rattle.std.specs.Io.KnownBytes.{Appends}
use Rattle.lists.proofs.Laid.{laid-front}
use Rattle.hex_text.specs.Hex.{hex_of, line_of, lines_of, digits_for, Spelt}
use Rattle.hex_text.proofs.Spelling.{hex-append}

appends-both : (before now final : Option (List ℕ)) (l m : List ℕ) → Appends before now l → Appends now final m → Appends before final (l ++ m)
appends-both None now final l m f g = tt
appends-both (Some x) None final l m f g = absurd f
appends-both (Some x) (Some y) None l m f g = absurd g
appends-both (Some x) (Some y) (Some z) l m f g = g ∙ ap (λ (u : List ℕ). u ++ m) f ∙ append_assoc x l m

appends-none : (now : Option (List ℕ)) → Appends now now []
appends-none None = tt
appends-none (Some x) = sym (append-nil x)

-- a writer that held `before` is to get all, and lacks the rest
pub record Lacks (before now : Option (List ℕ)) (rest all : List ℕ) : Type 0 where
  pub completed : (final : Option (List ℕ)) → Appends now final rest → Appends before final all

pub lacks-all : (now : Option (List ℕ)) (rest all : List ℕ) → rest ≡ all → Lacks now now rest all
lacks-all now rest all e = record { completed = λ (final : Option (List ℕ)) (f : Appends now final rest). subst (Appends now final) e f }

pub lacks-less : {before now : Option (List ℕ)} {was all : List ℕ} (next : Option (List ℕ)) (part rest : List ℕ)
    → Lacks before now was all → was ≡ part ++ rest → Appends now next part → Lacks before next rest all
lacks-less {before} {now} {was} {all} next part rest g e f =
    record { completed = λ (final : Option (List ℕ)) (h : Appends next final rest). g.completed final (subst (Appends now final) (sym e) (appends-both now next final part rest f h)) }

pub lacks_none : {before now : Option (List ℕ)} {rest all : List ℕ} → Lacks before now rest all → rest ≡ [] → Appends before now all
lacks_none {before} {now} {rest} {all} g e = g.completed now (subst (Appends now now) (sym e) (appends-none now))

pub lacks-last : {A E : Type 0} {before now : Option (List ℕ)} {rest all part : List ℕ} (final : Option (List ℕ)) (result : Result A E)
    → Lacks before now rest all → rest ≡ part → OnOk result (Appends now final part) → OnOk result (Appends before final all)
lacks-last {now = now} final (Ok x) g e f = g.completed final (subst (Appends now final) (sym e) f)
lacks-last final (Err x) g e f = tt

-- ---- a line
pub line-next : (was part rest : List ℕ) → was ≡ part ++ rest → line_of was ≡ hex_of part ++ line_of rest
unfolding line_of
line-next was part rest e = ap line_of e ∙ ap (λ (l : List ℕ). l ++ (10 ∷ [])) (hex-append part rest) ∙ append_assoc (hex_of part) (hex_of rest) (10 ∷ [])

pub line-end : (rest : List ℕ) → length rest ≡ 0 → line_of rest ≡ 10 ∷ []
unfolding line_of hex_of
line-end [] e = refl
line-end (x ∷ rest) e = absurd (omega arith)

-- with room for all of them the digits stand at the start of the text: who got so much of it got them
pub spelt-all : (now next : Option (List ℕ)) {octets before after : List ℕ} {count : ℕ} (n : ℕ) → Spelt octets before count after → length octets ≤ length before / 2
    → Appends now next (take n after) → n ≡ count → Appends now next (hex_of octets)
unfolding digits_for
spelt-all now next {octets} {before} {after} {count} n s room f e =
    let all : take (length before / 2) octets ≡ octets = take_all (length before / 2) octets room in
    let digits : take n after ≡ hex_of octets = ap (take n) s.text ∙ laid-front before (hex_of (take (length before / 2) octets)) n (sym (e ∙ s.counted)) ∙ ap hex_of all in
    subst (Appends now next) digits f

-- ---- lines
lines-front : (n size : ℕ) (octets : List ℕ) → lines_of n size (take (n * size) octets) ≡ lines_of n size octets
unfolding lines_of
lines-front zero size octets = refl
lines-front (suc n) size octets =
    let far : suc n * size ≡ size + n * size = omega arith in
    let front : take size (take (suc n * size) octets) ≡ take size octets = take-take size (suc n * size) octets (omega arith) in
    let rest : drop size (take (suc n * size) octets) ≡ take (n * size) (drop size octets) = ap (λ (k : ℕ). drop size (take k octets)) far ∙ drop-take size (n * size) octets in
    ap (λ (u : List ℕ). line_of u ++ lines_of n size (drop size (take (suc n * size) octets))) front
    ∙ ap (λ (u : List ℕ). line_of (take size octets) ++ lines_of n size u) rest
    ∙ ap (λ (u : List ℕ). line_of (take size octets) ++ u) (lines-front n size (drop size octets))

-- the lines of all chunks of some octets
abbrev pub all_lines : ℕ → List ℕ → List ℕ
all_lines size octets = lines_of (length octets / size) size octets

-- the octets at the front that fill n chunks have n lines
pub lines-all : (n size : ℕ) (octets front : List ℕ) → 0 < size → n ≤ length octets / size → front ≡ take (n * size) octets → all_lines size front ≡ lines_of n size octets
lines-all n size octets front some few e =
    let room : n * size ≤ length octets = omega (arith, mul-le-mul_right size few, div-mul-le_self (length octets) size) in
    let count : length front / size ≡ n = ap (λ (l : List ℕ). length l / size) e ∙ ap (λ (k : ℕ). k / size) (length-take-le (n * size) octets room) ∙ mul-div_cancel n some in
    ap (λ (k : ℕ). lines_of k size front) count ∙ ap (lines_of n size) e ∙ lines-front n size octets

pub lines-next : (size : ℕ) (was part rest : List ℕ) → 0 < size → was ≡ part ++ rest → length part ≡ size → all_lines size was ≡ line_of part ++ all_lines size rest
unfolding lines_of
lines-next size was part rest some e l =
    let long : length was ≡ 1 * size + length rest = omega (arith, ap length e, length-append part rest) in
    let more : 1 + length rest / size ≡ suc (length rest / size) = omega arith in
    let count : length was / size ≡ suc (length rest / size) = ap (λ (k : ℕ). k / size) long ∙ mul-add-div_right some 1 (length rest) ∙ more in
    ap (λ (k : ℕ). lines_of k size was) count
    ∙ ap (lines_of (suc (length rest / size)) size) e
    ∙ ap (λ (u : List ℕ). line_of u ++ lines_of (length rest / size) size (drop size (part ++ rest))) (take_at part rest size l)
    ∙ ap (λ (u : List ℕ). line_of part ++ lines_of (length rest / size) size u) (drop_at part rest size l)

-- octets that fill no chunk have no line
pub lines-end : (size : ℕ) (rest : List ℕ) → length rest < size → all_lines size rest ≡ []
unfolding lines_of
lines-end size rest few =
    let none : length rest / size ≡ 0 = div-eq_of_lt few in
    ap (λ (k : ℕ). lines_of k size rest) none
