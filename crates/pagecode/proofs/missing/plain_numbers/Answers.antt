-- After i turns the first i are those of the first i numbers.
use mathlib.Core.Path.{refl}
use native.Mathlib.Omega.{arith}
use lib.ListN.{get_or}
use Rattle.pagecode.specs.Reduction.{plain_number}
use Rattle.pagecode.proofs.Stored.{store-next}
use borrow.Author.Rules.{rules}
use Rattle.pagecode.proofs.missing.plain_numbers.Goals as goal

pub loop-i-init : goal.loop-i-init
loop-i-init c = (search rules, record { long = refl; is = λ e l. absurd (omega arith) })

pub loop-i-preserved : goal.loop-i-preserved
loop-i-preserved c =
    let numbers = c.args.numbers.now in
    let l = c.loop-i in (
      omega arith,
      store-next 0 (λ e. e) (λ e. plain_number (get_or numbers e 0)) 32 l.plain l.i c.plain_number.result l.invariant.1 c.plain_number.ensures (omega arith) (λ e b d. omega arith),
    )

pub returns : goal.returns
returns c = λ i h. c.loop-i.invariant.1.is i (omega arith)
