use Rattle.std.proofs.Common.{◌≡◌, ◌<◌, ℕ, List, length, ap, ◌∙◌, subst}
use Rattle.std.specs.List.{range_with_len}
use Rattle.league_core.specs.declared.sheet.Sheet.{Sheet}
use Rattle.league_core.specs.game.Sheets.{clubs_of}
use Rattle.final_rank.proofs.TierLemmas.{below_clubs}
use Rattle.league_core.specs.game.HeadToHead.{greater_first}
use Rattle.example_finish.specs.inside.ProposalViews.{sheet_asked, finish_asked}
use Rattle.example_finish.specs.inside.GroupStandings.{IsStandingOf, by_points_in, by_number_in}
use Rattle.example_finish.proofs.GroupStandingLemmas.{standing_agrees}
use Rattle.example_finish.proofs.lead.stand_by_points.Goals as goal

pub returns : goal.returns
returns c =
    let asked = c.args.proposed.now in
    let sheet = sheet_asked asked in
    let finish = finish_asked asked in
    let club = asked.question.club in
    let points = c.args.points.now in
    let own : c.question.result.now.club ≡ club = ap (λ q. q.club) c.question.ensures.value in
    let below : club < length sheet.clubs =
    subst (λ (n : ℕ). n < length sheet.clubs) own c.question.ensures.of_sheet in
    let all : range_with_len 0 c.len-clubs.result ≡ clubs_of sheet =
    ap (λ (n : ℕ). range_with_len 0 n)
    (c.len-clubs.ensures ∙ ap (λ (s : Sheet). length s.clubs) c.sheet.ensures.sheet) in
    let by : IsStandingOf (by_number_in points) (clubs_of sheet) club c.by_points.result =
    subst (λ (n : ℕ). IsStandingOf (by_number_in points) (clubs_of sheet) n c.by_points.result) own
    (subst (λ (group : List ℕ). IsStandingOf (by_number_in points) group
    c.question.result.now.club c.by_points.result) all c.by_points.ensures) in
    standing_agrees (by_number_in points) (by_points_in sheet finish) (clubs_of sheet) club
    c.by_points.result
    (λ x has. λ i. greater_first (c.requires.points x (below_clubs sheet x has) i)
    (c.requires.points club below i))
    by
