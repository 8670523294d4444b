use Rattle.std.proofs.Common.{ap, ◌∙◌}
use Rattle.std.specs.List.{list_all}
use Rattle.serde_json.specs.Read.{read}
use Rattle.cert_text.specs.Forms.{line_in}
use Rattle.cert_text.specs.Lines.{is_printed}
use Rattle.cert_text.proofs.PrintedLemmas.{line_printed}
use Rattle.cert_text.proofs.ReadBackLemmas.{line_in-written, read-written}
use Rattle.cert_text.proofs.line.write_line.Goals as goal

pub returns-clause-printed : goal.returns-clause-printed
returns-clause-printed c =
    ap (list_all is_printed) c.in_ok-text.ensures.text
    ∙ line_printed c.args.line.now c.requires.in_range

pub returns-clause-json : goal.returns-clause-json
returns-clause-json c =
    ap read c.in_ok-text.ensures.text ∙ read-written c.args.line.now c.requires.in_range

pub returns-clause-reads_back : goal.returns-clause-reads_back
returns-clause-reads_back c =
    ap line_in c.in_ok-text.ensures.text
    ∙ line_in-written c.args.line.now c.requires.in_range c.line_text.ensures.kept
