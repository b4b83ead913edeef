-- The header's record, then those of the first and of the second system, at the places that the plan gives.
use borrow.Author.Rules.{rules}
use Rattle.reader.proofs.Systems.{close}
use Rattle.reader.proofs.Emitted.{wrote-header, emitted-none, first-there, first-room, emitted-one, second-there, emitted-two}
use Rattle.reader.proofs.emit.emit_message.Goals as goal
use Rattle.reader.proofs.emit.emit_message.Goals.{After-store}

pub returns-then-plan-eq0 : goal.returns-then-plan-eq0
returns-then-plan-eq0 c =
    λ lent m ss x.
    emitted-none x c.if-plan-eq0.true (wrote-header x (c.header_record-header.ensures lent c.args.source.now m ss x) c.store.ensures)

pub first_rows-requires : goal.first_rows-requires
first_rows-requires c = close c.requires.1.3

pub emit_system-octet-requires : goal.emit_system-octet-requires
emit_system-octet-requires c =
    let x = c.requires.1.3 in
    let rows = c.first_rows.ensures in
    (search rules, search rules, first-there x c.if-plan-eq0.false rows)

pub returns-then-plan-eq1 : goal.returns-then-plan-eq1
returns-then-plan-eq1 c =
    λ lent m ss x.
    emitted-one x c.if-plan-eq0.false c.first_rows.ensures c.if-plan-eq1.true c.requires.0
    (wrote-header x (c.header_record-header.ensures lent c.args.source.now m ss x) c.store.ensures) c.emit_system-octet.ensures

pub second_rows-requires : goal.second_rows-requires
second_rows-requires c = close c.requires.1.3

pub emit_system-requires : goal.emit_system-requires
emit_system-requires c =
    let (lent, m, ss, x) = c.requires.1 in
    let room =
    first-room x c.if-plan-eq0.false c.first_rows.ensures c.requires.0
    (wrote-header x (c.header_record-header.ensures lent c.args.source.now m ss x) c.store.ensures) c.emit_system-octet.ensures in
    let rows = c.second_rows.ensures in
    (room.0, room.1, second-there x c.if-plan-eq0.false c.if-plan-eq1.false rows)

pub returns : goal.returns
returns c =
    λ lent m ss x.
    emitted-two x c.if-plan-eq0.false c.if-plan-eq1.false c.second_rows.ensures c.first_rows.ensures c.requires.0
    (wrote-header x (c.header_record-header.ensures lent c.args.source.now m ss x) c.store.ensures) c.emit_system-octet.ensures c.emit_system.ensures
