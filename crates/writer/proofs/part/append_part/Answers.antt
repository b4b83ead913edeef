-- Of a record of another kind nothing is taken; of one of its kind each part takes its own fields.
use mathlib.Core.Path.{◌≡◌, sym, ap, ◌∙◌}
use lib.ListN.{get_or}
use Rattle.std.proofs.lemmas.List.{take_rest}
use Rattle.writer.specs.declared.part.Part.TheVariants.{Orbit, Clock, Chosen, SubsetClock, Code, Phase, Cell}
use Rattle.writer.specs.Rendering.{kind_of, row, signals_of}
use Rattle.writer.proofs.Appending.{appends-none, appends-join, appends-is, appends-number, appends-flag, appends-not, appends-if}
use Rattle.writer.proofs.RecordFields.{part_none, appends-part}
use Rattle.writer.proofs.part.append_part.Goals as goal
use Rattle.writer.proofs.part.append_part.Goals.{Else-octet_at-kind_of}

kind : (c : Else-octet_at-kind_of) → get_or c.args.records.now 0 0 ≡ kind_of c.args.part
kind c = sym c.octet_at.ensures ∙ c.if-octet_at-kind_of.false ∙ c.kind_of.ensures

pub returns-then-octet_at-kind_of : goal.returns-then-octet_at-kind_of
returns-then-octet_at-kind_of c =
    let a = c.args in
    appends-is (sym (part_none a.system.now a.records.now a.part (λ e. c.if-octet_at-kind_of.true (c.octet_at.ensures ∙ e ∙ sym c.kind_of.ensures)))) (appends-none a.body.now)

pub returns-in-Orbit : goal.returns-in-Orbit
returns-in-Orbit c =
    let a = c.args in
    appends-part a.system.now a.records.now Orbit c.in-Orbit.is (kind (goal.at.returns-in-Orbit c).Else-octet_at-kind_of) c.append_orbit.ensures

pub returns-in-Clock : goal.returns-in-Clock
returns-in-Clock c =
    let a = c.args in
    appends-part a.system.now a.records.now Clock c.in-Clock.is (kind (goal.at.returns-in-Clock c).Else-octet_at-kind_of) (appends-number 13 c.pair_at.ensures c.append.ensures)

pub returns-in-Chosen : goal.returns-in-Chosen
returns-in-Chosen c =
    let a = c.args in
    appends-part a.system.now a.records.now Chosen c.in-Chosen.is (kind (goal.at.returns-in-Chosen c).Else-octet_at-kind_of)
    (appends-flag c.from.ensures c.is_chosen.ensures c.append-in-Chosen.ensures)

pub returns-then-is_chosen : goal.returns-then-is_chosen
returns-then-is_chosen c =
    let a = c.args in
    appends-part a.system.now a.records.now SubsetClock c.in-SubsetClock.is (kind (goal.at.returns-then-is_chosen c).Else-octet_at-kind_of)
    (appends-if _ (sym c.is_chosen-in-SubsetClock.ensures ∙ c.if-is_chosen.true) (appends-number 13 c.pair_at-then-is_chosen.ensures c.append-then-is_chosen.ensures))

pub returns-else-is_chosen : goal.returns-else-is_chosen
returns-else-is_chosen c =
    let a = c.args in
    appends-part a.system.now a.records.now SubsetClock c.in-SubsetClock.is (kind (goal.at.returns-else-is_chosen c).Else-octet_at-kind_of)
    (appends-not a.body.now _ _ (sym c.is_chosen-in-SubsetClock.ensures ∙ c.if-is_chosen.false))

pub returns-in-Code : goal.returns-in-Code
returns-in-Code c =
    let a = c.args in
    appends-part a.system.now a.records.now Code c.in-Code.is (kind (goal.at.returns-in-Code c).Else-octet_at-kind_of) (appends-number 11 c.pair_at-in-Code.ensures c.append-in-Code.ensures)

pub returns-in-Phase : goal.returns-in-Phase
returns-in-Phase c =
    let a = c.args in
    appends-part a.system.now a.records.now Phase c.in-Phase.is (kind (goal.at.returns-in-Phase c).Else-octet_at-kind_of)
    (appends-join (appends-number 11 c.pair_at-in-Phase.ensures c.append-in-Phase.ensures) (appends-number 2 (c.from-in-Phase.ensures ∙ c.octet_at-in-Phase.ensures) c.append-in-Phase-2.ensures))

pub returns-in-Cell : goal.returns-in-Cell
returns-in-Cell c =
    let a = c.args in
    appends-part a.system.now a.records.now Cell c.in-Cell.is (kind (goal.at.returns-in-Cell c).Else-octet_at-kind_of)
    (appends-is (ap (row (signals_of a.system.now) 0) (take_rest a.records.now 16)) c.append_row.ensures)
