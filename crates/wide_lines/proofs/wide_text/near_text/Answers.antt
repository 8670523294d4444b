use Rattle.std.proofs.Common.{ap, ◌∙◌}
use Rattle.std.specs.List.{list_all}
use Rattle.cert_text.specs.Lines.{is_printed}
use Rattle.wide_lines.specs.WideTexts.{wide_line_in}
use Rattle.wide_lines.proofs.NearTextLemmas.{near_printed, near_reads_back}
use Rattle.wide_lines.proofs.wide_text.near_text.Goals as goal

pub returns-clause-printed : goal.returns-clause-printed
returns-clause-printed c =
    ap (list_all is_printed) c.in_ok-text.ensures
    ∙ near_printed c.args.fresh c.args.rival c.requires

pub returns-clause-reads_back : goal.returns-clause-reads_back
returns-clause-reads_back c =
    ap wide_line_in c.in_ok-text.ensures ∙ near_reads_back c.args.fresh c.args.rival c.requires
