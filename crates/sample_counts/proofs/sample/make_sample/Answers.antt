use Rattle.std.proofs.Common.{List, sym, subst}
use Rattle.league_core.specs.declared.sheet.Sheet.{Sheet}
use Rattle.league_core.specs.declared.season.Event.{Event}
use Rattle.league_core.specs.game.Sheets.{IsWithinLimits}
use Rattle.league_core.specs.game.Seasons.{AreEventsOf}
use Rattle.sample_counts.specs.Samples.{sample_sheet}
use Rattle.sample_counts.proofs.SampleLemmas.{sample_within, sample_told}
use Rattle.sample_counts.proofs.sample.make_sample.Goals as goal

pub returns-clause-limits : goal.returns-clause-limits
returns-clause-limits c =
    let P : Sheet → Type 0 = λ sheet. IsWithinLimits sheet in
    subst P (sym c.in_ok-sheet.ensures) sample_within

pub returns-clause-of_sheet : goal.returns-clause-of_sheet
returns-clause-of_sheet c =
    let P : Sheet → Type 0 = λ sheet. AreEventsOf sheet c.in_ok-events.events.items in
    let Q : List Event → Type 0 = λ events. AreEventsOf sample_sheet events in
    subst P (sym c.in_ok-sheet.ensures)
    (subst Q (sym c.in_ok-events.ensures) (sample_told c.args.seed))
