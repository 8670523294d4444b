use Rattle.std.proofs.Common.{sym, ap, ◌∙◌, ◌==◌, length, nat_le, false, ◌≡◌, arith}
use Rattle.std.proofs.lemmas.Bool.Decides.{nat_tests}
use Rattle.std.specs.List.{list_any}
use Rattle.league_core.specs.declared.sheet.Sheet.{Sheet}
use Rattle.league_core.specs.game.Limits.{most_lines}
use Rattle.league_core.specs.game.Sheets.{is_line}
use Rattle.fixture_sheet.proofs.DraftLemmas.{line_added-ok}
use Rattle.fixture_sheet.proofs.draft.Draft.add_line.Goals as goal

pub returns : goal.returns
returns c =
    let room : nat_le most_lines (length c.args.self.lines) ≡ false = grind (arith, nat_tests) in
    line_added-ok c.args.self c.in_ok-with_line.field-0 c.args.line
    (sym (c.if-not-is_line.ensures ∙ ap (λ n. is_line n c.args.line) c.len.ensures
    ∙ ap (λ (s : Sheet). is_line (length s.clubs) c.args.line) c.self.view_is))
    (sym (c.if-has_line.ensures ∙ ap (list_any (λ other. other == c.args.line)) c.as_slice.ensures
    ∙ ap (λ (s : Sheet). list_any (λ other. other == c.args.line) s.lines) c.self.view_is))
    room c.in_ok-with_line.ensures
