use Rattle.cert_text.proofs.PlainFormLemmas.{score_at_end}
use Rattle.std.proofs.Common.{rules}
use Rattle.cert_text.proofs.plain_form.score_line.Goals as goal

pub returns : goal.returns
returns c =
    score_at_end c.in_ok-fixture.fixture c.in_ok-home.home c.in_ok-away.away c.args.text.now
    c.in_ok-fixture.rest.now c.in_ok-home.rest.now c.in_ok-away.rest.now (search rules)
    (search rules) (search rules) (search rules)
