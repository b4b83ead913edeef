-- The checks are those of the definition, in its order; behind them the body is judged.
use native.Mathlib.Omega.{arith}
use mathlib.Core.Bool.{true, ◌&&◌}
use mathlib.Core.Option.{none}
use mathlib.Core.Path.{◌≡◌, sym, ◌∙◌}
use lib.ListN.{length}
use Rattle.writer.specs.Writer.{are_records, is_header, check}
use Rattle.writer.proofs.Checks.{list-records, check-out, check-form, check-mask, check-none, writes-refused, writes-judged, writes-many}
use Rattle.writer.proofs.writing.write.Goals as goal
use Rattle.writer.proofs.writing.write.Goals.{Else-lacks, Else-not-is_list}

pub returns-then-out-ne-MESSAGE_OCTETS : goal.returns-then-out-ne-MESSAGE_OCTETS
returns-then-out-ne-MESSAGE_OCTETS c = writes-refused _ c.args.out.now (check-out _ c.if-out-ne-MESSAGE_OCTETS.true)

pub returns-then-not-is_list : goal.returns-then-not-is_list
returns-then-not-is_list c = writes-refused _ c.args.out.now (check-form _ c.if-out-ne-MESSAGE_OCTETS.false (sym c.is_list.ensures ∙ c.if-not-is_list.true))

-- past the second check there are whole records, of which the first is a header record
is-list : (d : Else-not-is_list) → (are_records (length d.args.records.now) && is_header d.args.records.now) ≡ true
is-list d = sym d.is_list.ensures ∙ d.if-not-is_list.false

-- past the third nothing is refused
none-refused : (e : Else-lacks) → check (record { records = e.args.records.now; lent = record { id = e.args.mask_id; octets = e.args.mask.now }; room = length e.args.out.now }) ≡ none
none-refused e = check-none _ e.if-out-ne-MESSAGE_OCTETS.false (sym e.is_list.ensures ∙ e.if-not-is_list.false) (sym e.lacks.ensures ∙ e.if-lacks.false)

pub returns-then-lacks : goal.returns-then-lacks
returns-then-lacks c =
    writes-refused _ c.args.out.now (check-mask _ c.if-out-ne-MESSAGE_OCTETS.false (is-list (goal.at.returns-then-lacks c).Else-not-is_list) (sym c.lacks.ensures ∙ c.if-lacks.true))

pub returns-then-records-gt-RECORDS_OCTETS : goal.returns-then-records-gt-RECORDS_OCTETS
returns-then-records-gt-RECORDS_OCTETS c =
    writes-many _ c.args.out.now (none-refused (goal.at.returns-then-records-gt-RECORDS_OCTETS c).Else-lacks) c.if-records-gt-RECORDS_OCTETS.true

pub write_body-requires : goal.write_body-requires
write_body-requires c =
    let l = c.args.records.now in
    let e = is-list (goal.at.write_body-requires c).Else-not-is_list in
    (list-records l e (omega (arith, c.if-records-gt-RECORDS_OCTETS.false)), c.if-out-ne-MESSAGE_OCTETS.false)

pub returns : goal.returns
returns c = writes-judged _ c.args.out.now (none-refused (goal.at.returns c).Else-lacks) c.write_body.ensures.0 c.write_body.ensures.1
