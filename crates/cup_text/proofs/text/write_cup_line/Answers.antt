use Rattle.std.proofs.Common.{ap, ◌∙◌}
use Rattle.std.specs.Prelude.{option_and_then}
use Rattle.std.specs.List.{list_all}
use Rattle.cert_text.specs.Lines.{is_printed}
use Rattle.cup_text.specs.CupForms.{cup_line_of_value}
use Rattle.cup_text.proofs.CupPrintedLemmas.{cup_printed}
use Rattle.cup_text.proofs.CupBackLemmas.{cup_line_back}
use Rattle.cup_text.proofs.text.write_cup_line.Goals as goal

pub returns-clause-printed : goal.returns-clause-printed
returns-clause-printed c =
    ap (list_all is_printed) c.in_ok-text.ensures.text
    ∙ cup_printed c.args.line.now c.requires.in_range

pub returns-clause-reads_back : goal.returns-clause-reads_back
returns-clause-reads_back c =
    ap (option_and_then cup_line_of_value) c.in_ok-text.ensures.json
    ∙ cup_line_back c.args.line.now c.requires.in_range
