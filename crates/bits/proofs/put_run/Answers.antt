-- After k turns the first k bits are laid at their place.
use mathlib.Core.Bool.{false}
use mathlib.Core.Path.{refl, sym, ◌∙◌}
use Prim.Native.Nat.{◌+◌, ◌/◌, ◌^◌, ◌-◌}
use native.Mathlib.Omega.{arith}
use lib.ListN.{length-set}
use borrow.Author.Rules.{rules}
use Rattle.lists.proofs.Laid.{laid_none, laid_next, laid-all}
use Rattle.bits.specs.Bits.{odd, bits, bits_of}
use Rattle.bits.proofs.Values.{length-bits, bits_at}
use Rattle.bits.proofs.Octets.{length-bits_of, set-bit}
use Rattle.bits.proofs.put_run.Goals as goal

pub loop-k-init : goal.loop-k-init
loop-k-init c =
    let a = c.args in
    (search rules, refl, laid_none (bits_of a.out.now) a.at (bits a.n a.v))

pub loop-k-preserved : goal.loop-k-preserved
loop-k-preserved c =
    let a = c.args in
    let s = bits_of a.out.now in
    let k = c.loop-k.k in
    let b = a.v / 2 ^ (a.n - 1 - k) in (
      search rules,
      length-set c.loop-k.out _ _ ∙ c.loop-k.invariant.1,
      set-bit c.loop-k.out _ (search rules) (a.at + k) _ c.with_bit.result (odd b) (omega arith) (search rules) c.with_bit.ensures
          ∙ laid_next
          false
          s
          a.at
          (bits a.n a.v)
          (bits_of c.loop-k.out)
          k
          (a.at + k)
          (odd b)
          refl
          (sym (bits_at a.n a.v k (search rules)))
          (omega (arith, length-bits_of a.out.now))
          (omega (arith, length-bits a.n a.v))
          c.loop-k.invariant.2,
    )

pub returns : goal.returns
returns c =
    let l = c.loop-k in
    let a = c.args in
    l.invariant.2 ∙ laid-all (bits_of a.out.now) a.at (bits a.n a.v) l.k (omega (arith, length-bits a.n a.v))
