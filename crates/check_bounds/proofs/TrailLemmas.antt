-- The way to a zone: what a step more makes of it, and what going back over the last one leaves.
use Rattle.std.proofs.Common.{◌≡◌, ℕ, ◌&&◌, true, List, [], ◌∷◌, ◌++◌, length, reverse}
use Rattle.std.proofs.Common.{Option, sym, subst, arith}
use Rattle.std.specs.List.{list_all}
use Rattle.std.proofs.lemmas.List.{reverse-append}
use Rattle.league_core.specs.declared.sheet.Sheet.{Sheet}
use Rattle.league_core.specs.declared.season.Score.{Score}
use Rattle.league_core.specs.declared.question.Question.{Question}
use Rattle.league_core.specs.declared.zone.Test.{Test}
use Rattle.league_core.specs.declared.zone.Literal.{Literal}
use Rattle.league_core.specs.declared.zone.Reason.{Reason}
use Rattle.league_core.specs.game.Results.{Results}
use Rattle.league_core.specs.game.Sums.{has_club}
use Rattle.league_core.specs.game.ClubSets.{clubs_in}
use Rattle.league_core.specs.search.Zones.{is_test_of, marked_before, marked_after}
use Rattle.league_core.specs.search.Options.{options_in, has_option}
use Rattle.league_core.specs.search.Reasons.{has_reason}
use Rattle.league_core.proofs.OptionLemmas.{length-options_from}
use Rattle.check_bounds.specs.declared.score_domain.ScoreDomain.{ScoreDomain}
use Rattle.check_bounds.specs.declared.step.Marks.{Marks}
use Rattle.check_bounds.specs.declared.step.Step.{Step}
use Rattle.check_bounds.specs.inside.Zones.{AreAllExtremesOf, CutsBy, IsTestWithin}
use Rattle.check_bounds.specs.inside.Refutes.{refutes_over}
use Rattle.check_bounds.specs.inside.Trails.{undone, IsCutWithin, literals_up, zone_of, AreMarks}
use Rattle.check_bounds.specs.inside.Trails.{AreOfZone, LeadTo, IsTrail}
use Rattle.check_bounds.proofs.ScoreDomainLemmas.{test_within}
use Rattle.check_bounds.proofs.MeaningLemmas.{has_reason-is}

-- the last step stands first when steps are turned round
turned-push : (steps : List Step) (step : Step)
    → reverse (steps ++ step ∷ []) ≡ step ∷ reverse steps
turned-push steps step = reverse-append steps (step ∷ [])

-- domains and marks are those of the zone of the steps
here : (limit : ℕ) (scores : List (Option Score)) (up : List Step) (scopes : List ScoreDomain)
    (marks : Marks) → LeadTo limit scores up scopes marks
    → AreOfZone limit scores (literals_up up) scopes marks
here limit scores [] scopes marks leads = leads
here limit scores (step ∷ up) scopes marks leads = leads.0

pub of_trail : (sheet : Sheet) (season : Results) (scopes : List ScoreDomain) (marks : Marks)
    (steps : List Step) → IsTrail sheet season scopes marks steps
    → AreOfZone sheet.goal_limit season.scores (zone_of steps) scopes marks
of_trail sheet season scopes marks steps way =
    here sheet.goal_limit season.scores (reverse steps) scopes marks way.leads

-- a test of the sheet is of one of the domains, or of a club that a set can have
pub within_trail : (sheet : Sheet) (season : Results) (scopes : List ScoreDomain) (marks : Marks)
    (steps : List Step) (test : Test) → IsTrail sheet season scopes marks steps
    → is_test_of sheet test ≡ true
    → IsTestWithin (length scopes) test × IsTestWithin 600 test
within_trail sheet season scopes marks steps test way is =
    let many = (of_trail sheet season scopes marks steps way).fixtures.many in
    let all = length-options_from sheet.goal_limit (zone_of steps) 0 season.scores in
    let of_sheet = way.league.of_sheet.scores in
    let few = way.league.limits.most_clubs in
    let fixtures = way.league.limits.most_fixtures in (
      test_within sheet (length scopes) test (omega (arith, many, all, of_sheet))
          (omega (arith, few)) is,
      test_within sheet 600 test fixtures (omega (arith, few)) is,
    )

-- a step more leads on
pub leads_on : (sheet : Sheet) (season : Results) (old new : List ScoreDomain) (marks : Marks)
    (steps : List Step) (step : Step) → IsTrail sheet season old step.marks steps
    → CutsBy old new step.literal → IsCutWithin (length new) step.cut → undone new step.cut ≡ old
    → ((zone : List Literal) → AreMarks step.marks zone
    → AreMarks marks (zone ++ step.literal ∷ []))
    → IsTrail sheet season new marks (steps ++ step ∷ [])
leads_on sheet season old new marks steps step way cuts within back marked =
    let limit = sheet.goal_limit in
    let scores = season.scores in
    let before = of_trail sheet season old step.marks steps way in
    let Up : List Step → Type 0 = λ up. LeadTo limit scores up new marks in
    let Before : List ScoreDomain → Type 0 =
    λ scopes. LeadTo limit scores (reverse steps) scopes step.marks in
    record {
      league = way.league;
      leads = subst Up (sym (turned-push steps step)) (
        record {
          fixtures = cuts limit (zone_of steps) scores before.fixtures;
          rivals = marked (zone_of steps) before.rivals;
        },
        within,
        subst Before (sym back) way.leads,
      );
    }

-- over the last step the way goes back
pub leads_back : (sheet : Sheet) (season : Results) (scopes : List ScoreDomain) (marks : Marks)
    (steps : List Step) (step : Step) → IsTrail sheet season scopes marks (steps ++ step ∷ [])
    → IsCutWithin (length scopes) step.cut
    × IsTrail sheet season (undone scopes step.cut) step.marks steps
leads_back sheet season scopes marks steps step way =
    let Up : List Step → Type 0 =
    λ up. LeadTo sheet.goal_limit season.scores up scopes marks in
    let leads = subst Up (turned-push steps step) way.leads in
    (leads.1, record { league = way.league; leads = leads.2 })

-- a reason over the extremes of a zone, with its marks as sets, is the reason in the zone
pub reason_of : (sheet : Sheet) (season : Results) (question : Question) (zone : List Literal)
    (corners : List (List Score)) (marks : Marks) (reason : Reason)
    → AreAllExtremesOf corners (options_in sheet season zone) → AreMarks marks zone
    → (list_all has_option corners && refutes_over sheet season question corners
    (has_club (clubs_in marks.before)) (has_club (clubs_in marks.after)) reason)
    ≡ has_reason sheet season question zone reason
reason_of sheet season question zone corners marks reason are marked =
    let before : has_club (clubs_in marks.before) ≡ marked_before zone =
    λ i rival. marked.before rival i in
    let after : has_club (clubs_in marks.after) ≡ marked_after zone =
    λ i rival. marked.after rival i in
    has_reason-is sheet season question zone corners (has_club (clubs_in marks.before))
    (has_club (clubs_in marks.after)) reason are before after
