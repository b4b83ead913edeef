-- Where p is 0 nothing is laid; else the part that is copied is the page.
use Prim.Native.Nat.{◌-◌, ◌*◌, ◌+◌}
use native.Mathlib.Omega.{arith}
use mathlib.Core.Path.{◌≡◌}
use Rattle.pagecode.proofs.LaidPages.{page-copied, none-laid}
use Rattle.pagecode.proofs.laying.lay_page.Goals as goal

pub returns-then-p-eq0 : goal.returns-then-p-eq0
returns-then-p-eq0 c = none-laid c.args.source.now c.args.out.now c.args.i c.args.p c.if-p-eq0.true

pub returns : goal.returns
returns c =
    let a = c.args in
    let at = (a.p - 1) * 53 in
    let from = a.i * 53 in
    let n : at + 53 - at ≡ 53 = omega arith in
    let m : from + 53 - from ≡ 53 = omega arith in
    page-copied a.source.now a.out.now a.i a.p (at + 53 - at) (from + 53 - from) c.copy_from_slice.new.self c.if-p-eq0.false c.requires.1 c.requires.2 c.told-out n m c.copy_from_slice.ensures.after
