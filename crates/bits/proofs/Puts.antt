-- A number put in a bit string, and the octets that then are there.
-- Where there is room its bits are laid at the place, so the string is as long as before: still whole octets.
use mathlib.Core.Path.{◌≡◌, sym, ap, ◌∙◌}
use mathlib.Core.Bool.{Bool, true, false}
use mathlib.Core.List.{List}
use Prim.Native.Nat.{ℕ, ◌+◌, ◌<◌}
use native.Mathlib.Omega.{arith}
use lib.Dec.{leb}
use lib.ListN.{length, get_or}
use borrow.Author.Tests.{leb-true}
use Rattle.lists.specs.Lists.{laid}
use Rattle.lists.proofs.Laid.{laid-length}
use Rattle.lists.proofs.Tests.{on_bool, and_left}
use Rattle.bits.specs.Bits.{bits, bits_of, octets_of, fits_in, is_number, put_at}
use Rattle.bits.proofs.Values.{length-bits}
use Rattle.bits.proofs.Octets.{length-bits_of, octets-of-bits, bits-of-octets}

module _ (bs : List Bool) (at n v : ℕ) where
  pub put-room : is_number bs at n ≡ true → put_at bs at n v ≡ laid bs at (bits n v)
  unfolding put_at
  put-room e = rw e

  pub put-none : is_number bs at n ≡ false → put_at bs at n v ≡ bs
  unfolding put_at
  put-none e = rw e

  pub length-put : length (put_at bs at n v) ≡ length bs
  length-put =
      on_bool (is_number bs at n)
      (λ e. ap length (put-room e) ∙ laid-length bs at (bits n v) (omega (arith, length-bits n v, leb-true (at + n) (length bs) (and_left (fits_in bs at n) (leb n 64) e))))
      (λ e. ap length (put-none e))

-- in octets
pub bits_put : (s : List ℕ) (at n v : ℕ) → bits_of (octets_of (put_at (bits_of s) at n v)) ≡ put_at (bits_of s) at n v
bits_put s at n v = bits-of-octets (length s) _ (length-put (bits_of s) at n v ∙ length-bits_of s)

pub octets-put : (s t : List ℕ) (at n v : ℕ) → ((i : ℕ) → get_or t i 0 < 256) → bits_of t ≡ put_at (bits_of s) at n v → t ≡ octets_of (put_at (bits_of s) at n v)
octets-put s t at n v h e = sym (octets-of-bits t h) ∙ ap octets_of e
