use Rattle.std.proofs.Common.{true, List, sym, subst}
use Rattle.std.proofs.lemmas.List.Sums.{AllPass-from_list_all}
use Rattle.cup_text.specs.declared.cup_line.CupLine.{CupLine}
use Rattle.cup_text.specs.CupRanges.{is_cup_line}
use Rattle.cup_answers.specs.CupTexts.{ShowsInCup}
use Rattle.cup_rows.specs.inside.VerdictLines.{word_of_finding}
use Rattle.cup_rows.proofs.FoundFormLemmas.{HaveForms, found_fits}
use Rattle.cup_rows.proofs.FoundWithinLemmas.{found_within}
use Rattle.cup_rows.proofs.OpenTextLemmas.{found_shown}
use Rattle.cup_rows.proofs.found.all_lines.Goals as goal

pub verdict_lines-requires-clause-within : goal.verdict_lines-requires-clause-within
verdict_lines-requires-clause-within c =
    let seated = rw c.unwrap-seat.ensures at c.seat_of.ensures.found in
    found_within c.args.cup.now c.args.seasons.now c.requires.cup c.requires.seasons
    c.have_results.ensures c.args.found.now.club c.unwrap-seat.result c.args.found.now.finding
    seated c.requires.found.finding

pub returns-clause-shown : goal.returns-clause-shown
returns-clause-shown c =
    let seated = rw c.unwrap-seat.ensures at c.seat_of.ensures.found in
    let found = c.args.found.now in
    subst (λ (lines : List CupLine). ShowsInCup true c.args.cup.now c.args.seasons.now found.club
    (word_of_finding found.finding) lines) (sym c.in_ok-lines.ensures)
    (found_shown c.args.cup.now c.args.seasons.now found.club c.unwrap-seat.result found.finding
    c.requires.cup seated c.requires.found.finding)

pub returns-clause-forms : goal.returns-clause-forms
returns-clause-forms c =
    let seated = rw c.unwrap-seat.ensures at c.seat_of.ensures.found in
    let found = c.args.found.now in
    let forms = subst HaveForms (sym c.in_ok-lines.ensures)
    (found_fits c.args.cup.now c.args.seasons.now c.requires.cup c.requires.seasons
    c.have_results.ensures found.club c.unwrap-seat.result found.finding seated
    c.requires.found.finding) in
    λ k d inside. AllPass-from_list_all is_cup_line _ forms k d inside
