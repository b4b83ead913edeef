-- The case tells what is logged: two octets, and behind a READY the front of the buffer.
use mathlib.Core.Path.{ap}
use native.Mathlib.Omega.{arith}
use Rattle.std.specs.Prelude.{Ok}
use Rattle.collector.specs.declared.state.Fed.{Fed}
use Rattle.drive.proofs.Appending.{appends-long}
use Rattle.drive.proofs.Pieces.{ready-fits, lays-ready}
use Rattle.drive.proofs.logging.Log.push_fed.Goals as goal

pub push_octets-requires : goal.push_octets-requires
push_octets-requires c =
    let a = c.args in
    let s = a.self.now in
    let e = ap (λ (x : Fed). Ok x) c.in-Ready.is in
    let w = ready-fits a.out.now s.end _ c.requires.0 c.requires.1 c.told-out e in
    let p = c.push_pair-in-Ready.ensures.appends in
    omega (arith, w.1, w.2, p.ends, appends-long (omega (arith, w.1, w.2)) p)

pub returns-in-Ready-clause-appends : goal.returns-in-Ready-clause-appends
returns-in-Ready-clause-appends c =
    let a = c.args in
    let s = a.self.now in
    let e = ap (λ (x : Fed). Ok x) c.in-Ready.is in
    let w = ready-fits a.out.now s.end _ c.requires.0 c.requires.1 c.told-out e in
    lays-ready a.out.now s.octets.now _ s.end _ e (omega (arith, w.1, w.2)) c.push_pair-in-Ready.ensures.appends c.push_octets.ensures.appends
