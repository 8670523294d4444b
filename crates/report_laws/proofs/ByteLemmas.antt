-- The bytes of answers are read as the lines of answers, so a report of them is accepted.
use Rattle.std.proofs.Common.{sym, ap, subst, List, map, Some}
use Rattle.std.specs.Prelude.{length}
use Rattle.league_core.specs.game.Seasons.{unplayed_season}
use Rattle.line_tokens.specs.declared.token.Token.{Token}
use Rattle.kept_lines.specs.LineLists.{numbered}
use Rattle.report_lines.proofs.WrittenLemmas.{written_back}
use Rattle.report_laws.specs.inside.AcceptedReports.{AreAnswersWritten}
use Rattle.report_laws.specs.inside.AcceptedBytes.{WrittenAnswersAreAccepted}
use Rattle.report_laws.proofs.ReportLemmas.{report_of_answers}

pub bytes_of_answers : WrittenAnswersAreAccepted
bytes_of_answers kind sheet entries told unsettled position lines end answers are behind is =
    let Told : List Token → Type 0 = λ tokens. AreAnswersWritten kind sheet entries
    (unplayed_season (length sheet.clubs) (length sheet.fixtures)) 0 tokens unsettled in
    ap Some
    (report_of_answers
    (record { kind = kind; sheet = sheet; lines = map numbered lines; end = end }) entries
    unsettled
    (subst Told (sym (written_back told position lines end are behind is)) answers))
