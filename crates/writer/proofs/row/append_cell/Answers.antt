-- A masked signal adds a bit, and passes its cell if that is next; another adds nothing.
use mathlib.Core.List.{[], ◌++◌}
use mathlib.Core.Path.{sym, ap, ◌∙◌}
use Prim.Native.Nat.{◌+◌}
use lib.ListN.{drop}
use Rattle.bits.specs.Bits.{bits}
use Rattle.writer.specs.Rendering.{row, signals_of}
use Rattle.writer.proofs.Appending.{appends-none, appends-flag}
use Rattle.writer.proofs.Rows.{row-unmasked, row-there, row-elsewhere, behind-first}
use Rattle.writer.proofs.row.append_cell.Goals as goal

pub returns-then-not-bit_at : goal.returns-then-not-bit_at
returns-then-not-bit_at c =
    let a = c.args in
    ([], appends-none a.body.now, row-unmasked a.system.now a.g c.requires a.records.now (sym c.bit_at.ensures ∙ c.if-not-bit_at.true))

pub returns-then-is_next : goal.returns-then-is_next
returns-then-is_next c =
    let a = c.args in
    let s = a.system.now in (
      bits 1 1,
      appends-flag c.from.ensures c.if-is_next.true c.append.ensures,
      row-there s a.g c.requires a.records.now (sym c.bit_at.ensures ∙ c.if-not-bit_at.false) (sym c.is_cell-is_next.ensures ∙ c.if-is_next.true)
          ∙ ap (λ l. bits 1 1 ++ row (drop (a.g + 1) (signals_of s)) (a.g + 1) l) (sym (behind-first a.records.now c.min.result c.min.ensures)),
    )

pub returns : goal.returns
returns c =
    let a = c.args in (
      bits 1 0,
      appends-flag c.from.ensures c.if-is_next.false c.append.ensures,
      row-elsewhere a.system.now a.g c.requires a.records.now (sym c.bit_at.ensures ∙ c.if-not-bit_at.false) (sym c.is_cell-is_next.ensures ∙ c.if-is_next.false),
    )
