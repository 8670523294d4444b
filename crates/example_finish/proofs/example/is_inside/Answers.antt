use Rattle.std.proofs.Common.{◌≡◌, ◌<◌, ◌≤◌, ℕ, IsTrue, length, nat_le, sym, ap, ◌∙◌, subst, arith}
use Rattle.std.proofs.lemmas.Bool.{le-leb}
use Rattle.league_core.specs.declared.question.Question.{Question}
use Rattle.league_core.specs.declared.club_set.ClubSet.{ClubSet}
use Rattle.league_core.specs.game.Sheets.{IsWithinLimits, clubs_of}
use Rattle.league_core.specs.game.Sums.{has_club}
use Rattle.league_core.specs.game.ClubSets.{clubs_in}
use Rattle.league_core.specs.game.Ranking.{is_inside, place_of}
use Rattle.league_core.specs.inside.LotsFor.{lots_for_claim, order_without_lots}
use Rattle.final_rank.proofs.TierLemmas.{below_clubs}
use Rattle.example_finish.specs.inside.ProposalViews.{sheet_asked, finish_asked}
use Rattle.example_finish.specs.inside.GroupStandings.{IsStandingOf, by_points_in}
use Rattle.example_finish.proofs.GroupStandingLemmas.{standing_without_lots, itself_by_points}
use Rattle.example_finish.proofs.GroupStandingLemmas.{level_in_group}
use Rattle.example_finish.proofs.PlaceLemmas.{behind_by_points, before_by_points}
use Rattle.example_finish.proofs.example.is_inside.Goals as goal
use Rattle.league_core.proofs.plain.Numbers.{not_le}

pub returns-then-question-len : goal.returns-then-question-len
returns-then-question-len c =
    let asked = c.args.proposed.now in
    let q = asked.question in
    let sheet = sheet_asked asked in
    let lots = lots_for_claim (length sheet.clubs) q.club q.claim in
    let limits : IsWithinLimits sheet =
    subst IsWithinLimits c.sheet-sheet.ensures.sheet c.sheet-sheet.ensures.limits in
    let behind = behind_by_points sheet (finish_asked asked) lots q.club
    c.stand_by_points-tier.result limits c.stand_by_points-tier.ensures in
    let line : c.question-question.result.now.line ≡ q.line =
    ap (λ (p : Question). p.line) c.question-question.ensures.value in
    sym (not_le (place_of sheet (finish_asked asked) lots q.club) q.line
    (omega (arith, behind, line, c.len.ensures)))

pub returns-then-len-question : goal.returns-then-len-question
returns-then-len-question c =
    let asked = c.args.proposed.now in
    let q = asked.question in
    let sheet = sheet_asked asked in
    let lots = lots_for_claim (length sheet.clubs) q.club q.claim in
    let limits : IsWithinLimits sheet =
    subst IsWithinLimits c.sheet-sheet.ensures.sheet c.sheet-sheet.ensures.limits in
    let below : q.club < length sheet.clubs =
    subst (λ (p : Question). p.club < length sheet.clubs) c.question-question.ensures.value
    c.question-question.ensures.of_sheet in
    let before = before_by_points sheet (finish_asked asked) lots q.club
    c.stand_by_points-tier.result c.union.result limits below c.stand_by_points-tier.ensures
    c.union.ensures in
    let line : c.question-question.result.now.line ≡ q.line =
    ap (λ (p : Question). p.line) c.question-question.ensures.value in
    sym (le-leb (place_of sheet (finish_asked asked) lots q.club) q.line
    (omega (arith, before, line, c.len-2.ensures)))

pub stand_in-near-requires-clause-of_group : goal.stand_in-near-requires-clause-of_group
stand_in-near-requires-clause-of_group c = λ x has.
    let asked = c.args.proposed.now in
    below_clubs (sheet_asked asked) x
    (level_in_group (by_points_in (sheet_asked asked) (finish_asked asked))
    (clubs_of (sheet_asked asked)) asked.question.club c.stand_by_points-tier.result
    c.stand_by_points-tier.ensures x has)

pub stand_in-near-requires-clause-among : goal.stand_in-near-requires-clause-among
stand_in-near-requires-clause-among c =
    let asked = c.args.proposed.now in
    let q = asked.question in
    let sheet = sheet_asked asked in
    let below : q.club < length sheet.clubs =
    subst (λ (p : Question). p.club < length sheet.clubs) c.question-question.ensures.value
    c.question-question.ensures.of_sheet in
    subst (λ (p : Question). IsTrue (has_club (clubs_in c.stand_by_points-tier.result.level)
    p.club))
    (sym c.question-question.ensures.value)
    (itself_by_points sheet (finish_asked asked) q.club c.stand_by_points-tier.result below
    c.stand_by_points-tier.ensures)

pub returns : goal.returns
returns c =
    let asked = c.args.proposed.now in
    let p = c.question-question.result.now in
    let sheet = sheet_asked asked in
    let finish = finish_asked asked in
    let tier = c.stand_by_points-tier.result in
    let same = c.question-question.ensures.value in
    let limits : IsWithinLimits sheet =
    subst IsWithinLimits c.sheet-sheet.ensures.sheet c.sheet-sheet.ensures.limits in
    let few : length sheet.clubs ≤ 32 = omega (arith, limits.most_clubs) in
    let first : IsStandingOf (by_points_in sheet finish) (clubs_of sheet) p.club tier =
    subst (λ (q : Question). IsStandingOf (by_points_in sheet finish) (clubs_of sheet) q.club tier)
    (sym same) c.stand_by_points-tier.ensures in
    let stands : IsStandingOf (order_without_lots sheet finish) (clubs_of sheet) p.club
    c.then.result =
    subst (λ (level : ClubSet). IsStandingOf (order_without_lots sheet finish) (clubs_of sheet)
    p.club
    (record { ahead = c.then.result.ahead; level = level })) (sym c.then.ensures.level)
    (standing_without_lots sheet finish p.club tier c.stand_in-near.result c.then.result.ahead few
    first c.stand_in-near.ensures c.then.ensures.ahead) in
    ap (λ (place : ℕ). nat_le place p.line)
    (c.place.ensures sheet finish p.club limits c.question-question.ensures.of_sheet stands)
    ∙ ap (λ (q : Question). is_inside sheet finish (lots_for_claim (length sheet.clubs) q.club
    q.claim)
    q.club q.line) same
