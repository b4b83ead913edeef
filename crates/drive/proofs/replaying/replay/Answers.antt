-- The checks are those of the answer, in their order; a start that is good leaves a fresh collector, whose log the entries make.
use mathlib.Core.Path.{sym, ◌∙◌}
use Rattle.std.proofs.lemmas.Result.{err_from_is_err_and}
use Rattle.drive.proofs.Checks.{started, not-started, held-timeout, held-fresh, no-entries, no_room, no_start, goes}
use Rattle.drive.proofs.replaying.replay.Goals as goal

pub returns-then-not-is_whole : goal.returns-then-not-is_whole
returns-then-not-is_whole c =
    let a = c.args in
    no-entries a.timeout a.entries.now a.log.now (sym c.is_whole.ensures ∙ c.if-not-is_whole.true)

pub returns-then-log-entries : goal.returns-then-log-entries
returns-then-log-entries c =
    let a = c.args in
    no_room a.timeout a.entries.now a.log.now (sym c.is_whole.ensures ∙ c.if-not-is_whole.false) c.if-log-entries.true

pub returns-in_err-started : goal.returns-in_err-started
returns-in_err-started c =
    let a = c.args in
    let p = err_from_is_err_and c.from_residual.result c.from_residual.ensures.1 in
    let n = not-started a.timeout c.start-started.ensures.0 c.in_err-started.was in
    rw (p.1, p.2, n.1)
    (no_start a.timeout a.entries.now a.log.now (sym c.is_whole.ensures ∙ c.if-not-is_whole.false) c.if-log-entries.false n.0)

pub log_entries-requires : goal.log_entries-requires
log_entries-requires c =
    let a = c.args in (
      held-fresh a.timeout (started a.timeout c.start-started.ensures.0 c.in_ok-started.was) c.start-started.ensures.1,
      c.if-log-entries.false,
    )

pub returns : goal.returns
returns c =
    let a = c.args in
    let s = started a.timeout c.start-started.ensures.0 c.in_ok-started.was in
    goes a.timeout a.entries.now a.log.now (sym c.is_whole.ensures ∙ c.if-not-is_whole.false) c.if-log-entries.false s
    (held-timeout a.timeout s c.start-started.ensures.1) c.log_entries.ensures
