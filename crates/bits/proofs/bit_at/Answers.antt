-- A place in an octet that is there is the octet's bit; behind the last octet the string has ended.
-- Eight places lie in each octet.
use mathlib.Core.Bool.{Bool, false}
use mathlib.Core.List.{List}
use mathlib.Core.Path.{◌≡◌, sym, ap, ◌∙◌}
use Prim.Native.Nat.{ℕ, ◌/◌, ◌%◌, ◌^◌, ◌-◌, ◌≤◌, ◌<◌}
use native.Mathlib.Omega.{arith}
use lib.ListN.{length, get_or, get_or-eq_default}
use denote.Bor.{Bor}
use Rattle.std.specs.Prelude.{Option, Some, None, MatchOption}
use Rattle.std.specs.List.{HoldsAt}
use Rattle.std.proofs.Common.{rules, of_calls}
use Rattle.bits.specs.Bits.{odd, bits_of}
use Rattle.bits.proofs.Octets.{length-bits_of, bits_of-at}
use Rattle.bits.proofs.bit_at.Goals as goal

read : (s : List ℕ) (at : ℕ) (o : Option (Bor ℕ)) (r : Bool)
    → MatchOption o (length s ≤ at / 8) (λ x. (at / 8 < length s) × HoldsAt (λ y. x.now ≡ y) s (at / 8))
    → MatchOption o (r ≡ false) (λ x. r ≡ odd (x.now / 2 ^ (7 - at % 8)))
    → r ≡ get_or (bits_of s) at false
read s at None r h k = k ∙ sym (get_or-eq_default (bits_of s) false (omega (arith, length-bits_of s)))
read s at (Some x) r h k = k ∙ ap (λ (y : ℕ). odd (y / 2 ^ (7 - at % 8))) (h.1 0) ∙ sym (bits_of-at s (at / 8) h.0 at (at % 8) (omega arith) (omega arith))

pub returns : goal.returns
returns c = read c.args.octets.now c.args.at c.get.result _ c.get.ensures.lookup.3 (search (rules, of_calls))
