-- Each return is the first check that fails, or the key and the number: a law of each check, on what the callees ensure.
use mathlib.Core.Path.{sym, ◌∙◌}
use Rattle.collector.specs.Feed.{judge}
use Rattle.collector.proofs.Headers.{judged-stop, judged-status, judged-kind, judged-number, judged-good}
use Rattle.collector.proofs.header.judge_page.Goals as goal

pub returns-then-is_dummy : goal.returns-then-is_dummy
unfolding judge
returns-then-is_dummy c = simp (sym c.is_dummy.ensures ∙ c.if-is_dummy.true)

pub returns-then-key-eq3 : goal.returns-then-key-eq3
returns-then-key-eq3 c =
    judged-stop c.args.page.now c.key_of-key.result (sym c.is_dummy.ensures ∙ c.if-is_dummy.false) c.key_of-key.ensures c.if-key-eq3.true

pub returns-then-key-eq2 : goal.returns-then-key-eq2
returns-then-key-eq2 c =
    judged-status c.args.page.now c.key_of-key.result (sym c.is_dummy.ensures ∙ c.if-is_dummy.false) c.key_of-key.ensures c.if-key-eq2.true

pub returns-then-kind_of-ne1 : goal.returns-then-kind_of-ne1
returns-then-kind_of-ne1 c =
    judged-kind
    c.args.page.now
    c.key_of-key.result
    (sym c.is_dummy.ensures ∙ c.if-is_dummy.false)
    c.key_of-key.ensures
    c.if-key-eq3.false
    c.if-key-eq2.false
    (λ e. c.if-kind_of-ne1.true (c.kind_of.ensures ∙ e))

pub returns-then-not-is_legal : goal.returns-then-not-is_legal
returns-then-not-is_legal c =
    judged-number
    c.args.page.now
    c.key_of-key.result
    (sym c.is_dummy.ensures ∙ c.if-is_dummy.false)
    c.key_of-key.ensures
    c.if-key-eq3.false
    c.if-key-eq2.false
    (sym c.kind_of.ensures ∙ c.if-kind_of-ne1.false)
    c.fits-page
    (rw (c.from.ensures, c.from-2.ensures) at (sym c.is_legal.ensures ∙ c.if-not-is_legal.true))

pub returns : goal.returns
returns c =
    judged-good
    c.args.page.now
    c.key_of-key.result
    (sym c.is_dummy.ensures ∙ c.if-is_dummy.false)
    c.key_of-key.ensures
    c.if-key-eq3.false
    c.if-key-eq2.false
    (sym c.kind_of.ensures ∙ c.if-kind_of-ne1.false)
    c.fits-page
    (rw (c.from.ensures, c.from-2.ensures) at (sym c.is_legal.ensures ∙ c.if-not-is_legal.false))
