-- The checks are those of the definition, in its order; a message that is planned is one that is read, and its records are written.
use native.Mathlib.Omega.{arith}
use mathlib.Core.List.{List}
use mathlib.Core.Path.{◌≡◌, sym, subst}
use Prim.Native.Nat.{ℕ}
use lib.ListN.{length}
use Rattle.reader.specs.Reader.{Call}
use Rattle.reader.specs.Steps.{source, Planned}
use Rattle.reader.proofs.Fields.{handed}
use Rattle.reader.proofs.Answers.{bad-length, bad-room, bad-message, reads-message}
use Rattle.reader.proofs.reading.read_octets.Goals as goal
use Rattle.reader.proofs.reading.read_octets.Goals.{then-n-lt4-via-then-n-lt4, then-n-lt4-via-else-n-lt4+then-n-gt-MOST_OCTETS, then-plan, else-plan}

pub returns-then-n-lt4 : goal.returns-then-n-lt4
returns-then-n-lt4 c =
    let a = c.args in
    let call : Call = record { octets = a.octets.now; lent = record { id = a.mask_id; octets = a.mask.now }; room = length a.records.now } in
    bad-length call a.records.now (λ x y. elim c.then-n-lt4.branch [ then-n-lt4-via-then-n-lt4 w ↦ omega arith | then-n-lt4-via-else-n-lt4+then-n-gt-MOST_OCTETS w ↦ omega arith ]) c.refuse.ensures

pub returns-then-records-ne-RECORDS_OCTETS : goal.returns-then-records-ne-RECORDS_OCTETS
returns-then-records-ne-RECORDS_OCTETS c =
    let a = c.args in
    let call : Call = record { octets = a.octets.now; lent = record { id = a.mask_id; octets = a.mask.now }; room = length a.records.now } in
    bad-room call a.records.now (omega (arith, c.if-n-lt4.false)) (omega (arith, c.if-n-gt-MOST_OCTETS.false)) c.if-records-ne-RECORDS_OCTETS.true c.refuse-then-records-ne-RECORDS_OCTETS.ensures

pub returns-in_err-plan : goal.returns-in_err-plan
returns-in_err-plan c =
    let a = c.args in
    let call : Call = record { octets = a.octets.now; lent = record { id = a.mask_id; octets = a.mask.now }; room = length a.records.now } in
    rw (handed c.from_residual.result c.from_residual.ensures.1)
    (bad-message call a.records.now (omega (arith, c.if-n-lt4.false)) (omega (arith, c.if-n-gt-MOST_OCTETS.false)) c.if-records-ne-RECORDS_OCTETS.false c.in_err-plan.ensures)

pub returns : goal.returns
returns c =
    let a = c.args in
    let plan = c.in_ok-plan.plan in
    let call : Call = record { octets = a.octets.now; lent = record { id = a.mask_id; octets = a.mask.now }; room = length a.records.now } in
    let (m, end, ss, r, t) = c.in_ok-plan.ensures in
    let sourced : c.if-plan.source.now ≡ source plan.lent a.octets.now a.mask.now = elim c.if-plan.branch [
      | then-plan w ↦ rw (w.source-is, w.if-plan.true)
      | else-plan w ↦ rw (w.source-is, w.if-plan.false)
    ] in
    let u = subst (λ (l : List ℕ). Planned call.lent a.octets.now l m ss plan) (sym sourced) t in
    let (i, j) = c.emit_message-written.ensures call.lent m ss u in
    reads-message call a.records.now (omega (arith, c.if-n-lt4.false)) (omega (arith, c.if-n-gt-MOST_OCTETS.false)) c.if-records-ne-RECORDS_OCTETS.false m end ss plan _ _ _ r u i j
