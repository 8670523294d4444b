use Rattle.std.proofs.Common.{[], ◌∷◌}
use Rattle.answer_rows.specs.Parts.{IsMadeOf}
use Rattle.what_if.specs.declared.outcome.Outcome.TheVariants.{Home, Draw, Away}
use Rattle.what_if.specs.WhenTexts.{IsOutcomeText}
use Rattle.what_if.proofs.PartLemmas.{played_league}
use Rattle.what_if.proofs.PartPutsLemmas.{puts_first, stops_first, puts_last, puts_as}
use Rattle.what_if.proofs.WhenLemmas.{outcomes_there}
use Rattle.what_if.proofs.when.put_outcomes.Goals as goal

pub returns-in-Err-clause-text : goal.returns-in-Err-clause-text
returns-in-Err-clause-text g c =
    let sheet = c.args.stage.now.sheet in
    let season = c.args.stage.now.season in
    let league = played_league sheet c.sheet-sheet.result.now season c.season-season.result.now
    c.sheet-sheet.ensures.sheet c.season-season.ensures.season c.sheet-sheet.ensures.limits
    c.season-season.ensures.of_sheet in
    let IsPart = IsOutcomeText sheet season c.args.about.epoch c.args.about.fixture in
    let later = Draw ∷ Away ∷ [] in
    puts_as (IsMadeOf IsPart (Home ∷ later)) _ _ c.put_outcome.result c.in-Err.stop c.in-Err.is
    (stops_first IsPart Home later _ _ c.put_outcome.result c.in-Err.stop c.in-Err.is
    (outcomes_there sheet season c.args.about.epoch c.args.about.fixture later league
    c.requires.open_match)
    c.put_outcome.ensures.text)

pub returns-in-Err-put_outcome-clause-text : goal.returns-in-Err-put_outcome-clause-text
returns-in-Err-put_outcome-clause-text g c =
    let sheet = c.args.stage.now.sheet in
    let season = c.args.stage.now.season in
    let league = played_league sheet c.sheet-sheet.result.now season c.season-season.result.now
    c.sheet-sheet.ensures.sheet c.season-season.ensures.season c.sheet-sheet.ensures.limits
    c.season-season.ensures.of_sheet in
    let IsPart = IsOutcomeText sheet season c.args.about.epoch c.args.about.fixture in
    let last = Away ∷ [] in
    puts_as (IsMadeOf IsPart (Home ∷ Draw ∷ last)) _ _ c.put_outcome-2.result
    c.in-Err-put_outcome.stop c.in-Err-put_outcome.is
    (puts_first IsPart Home (Draw ∷ last) _ _ _ c.put_outcome-2.result
    (outcomes_there sheet season c.args.about.epoch c.args.about.fixture (Draw ∷ last) league
    c.requires.open_match)
    c.in-Ok.ensures.text
    (stops_first IsPart Draw last _ _ c.put_outcome-2.result c.in-Err-put_outcome.stop
    c.in-Err-put_outcome.is
    (outcomes_there sheet season c.args.about.epoch c.args.about.fixture last league
    c.requires.open_match)
    c.put_outcome-2.ensures.text))

pub returns-clause-text : goal.returns-clause-text
returns-clause-text g c =
    let sheet = c.args.stage.now.sheet in
    let season = c.args.stage.now.season in
    let league = played_league sheet c.sheet-sheet.result.now season c.season-season.result.now
    c.sheet-sheet.ensures.sheet c.season-season.ensures.season c.sheet-sheet.ensures.limits
    c.season-season.ensures.of_sheet in
    let IsPart = IsOutcomeText sheet season c.args.about.epoch c.args.about.fixture in
    let last = Away ∷ [] in
    puts_first IsPart Home (Draw ∷ last) _ _ _ c.put_outcome-3.result
    (outcomes_there sheet season c.args.about.epoch c.args.about.fixture (Draw ∷ last) league
    c.requires.open_match)
    c.in-Ok.ensures.text
    (puts_first IsPart Draw last _ _ _ c.put_outcome-3.result
    (outcomes_there sheet season c.args.about.epoch c.args.about.fixture last league
    c.requires.open_match)
    c.in-Ok-put_outcome.ensures.text
    (puts_last IsPart Away _ _ c.put_outcome-3.result c.put_outcome-3.ensures.text))
