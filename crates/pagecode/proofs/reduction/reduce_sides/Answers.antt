-- Each turn makes one right side and lays it.
use mathlib.Core.Path.{◌≡◌, subst}
use Prim.Native.Nat.{ℕ}
use lib.ListN.{length}
use native.Mathlib.Omega.{arith}
use Rattle.pagecode.specs.Reduction.{ReducedSides}
use Rattle.pagecode.proofs.Reducing.{sides_turn}
use borrow.Author.Rules.{rules}
use Rattle.pagecode.proofs.reduction.reduce_sides.Goals as goal

pub loop-a-init : goal.loop-a-init
loop-a-init c = (search rules, λ b i t l. absurd (omega arith))

pub add_known-side-requires : goal.add_known-side-requires
add_known-side-requires c = (omega arith, c.requires.3)

pub loop-a-preserved : goal.loop-a-preserved
loop-a-preserved c =
    let a = c.args in
    let l = c.loop-a in
    let laid = c.lay_page in (
      omega arith,
      sides_turn (length a.known.now) l.a a.known.now a.parity.now a.rows a.contents.now a.message.now c.add_page-content.result c.add_known-side.result l.sides laid.new.out
          (λ i. (c.type_inv.contents i).fits) (rw c.from.ensures at c.add_page-content.ensures) c.add_known-side.ensures laid.ensures l.invariant.1,
    )

pub returns : goal.returns
returns c =
    let a = c.args in
    let l = c.loop-a in
    let all : l.a ≡ length a.parity.now = omega arith in
    subst (λ (m : ℕ). ReducedSides (length a.known.now) m a.known.now a.parity.now a.rows a.contents.now a.message.now l.sides) all l.invariant.1
