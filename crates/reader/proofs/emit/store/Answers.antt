-- A part of the buffer that is written whole is what was laid there.
use Prim.Native.Nat.{ℕ, ◌+◌, ◌-◌}
use native.Mathlib.Omega.{arith}
use mathlib.Core.Path.{◌≡◌, ap, ◌∙◌}
use lib.ListN.{length, take, drop}
use mathlib.Core.List.{◌++◌}
use borrow.Author.Rules.{rules}
use Rattle.std.proofs.lemmas.Slice.{put_mid-paste}
use Rattle.std.proofs.lemmas.List.Edits.{paste_all}
use Rattle.lists.specs.Lists.{laid}
use Rattle.reader.proofs.emit.store.Goals as goal

pub returns : goal.returns
unfolding laid
returns c =
    let a = c.args in
    let whole : 16 ≡ length a.r = search rules in
    put_mid-paste a.at (a.at + 16 - a.at) a.out.now c.copy_from_slice.new.self a.r 16 c.copy_from_slice.ensures.after (omega arith) whole
    ∙ paste_all a.out.now a.at a.r 16 whole
    ∙ ap (λ (n : ℕ). take a.at a.out.now ++ (a.r ++ drop (a.at + n) a.out.now)) whole
