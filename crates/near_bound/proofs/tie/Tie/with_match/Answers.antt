use Rattle.std.proofs.Common.{sym, ◌∙◌, subst}
use Rattle.league_core.specs.declared.sheet.Fixture.{Fixture}
use Rattle.near_bound.proofs.CommonFitLemmas.{StaysOut}
use Rattle.near_bound.proofs.MeetingLemmas.{one_meets, none_meets}
use Rattle.near_bound.proofs.tie.Tie.with_match.Goals as goal

pub returns-then-has_one_at_most : goal.returns-then-has_one_at_most
returns-then-has_one_at_most c =
    one_meets c.args.self.now c.args.club c.args.fixture c.args.apart c.requires.tie
    c.requires.of_sheet (c.has_one_at_most.ensures c.if-has_one_at_most.true)

pub met-requires-clause-sides : goal.met-requires-clause-sides
met-requires-clause-sides c = λ other not_club not_rival.
    subst (λ (m : Fixture). StaysOut m other) c.match_of-teams.ensures.is
    (λ e. not_club (sym e ∙ c.if-teams-club.true), λ e. not_rival (sym e))

pub met-requires-then-teams-club-2-clause-sides : goal.met-requires-then-teams-club-2-clause-sides
met-requires-then-teams-club-2-clause-sides c = λ other not_club not_rival.
    subst (λ (m : Fixture). StaysOut m other) c.match_of-teams.ensures.is
    (λ e. not_rival (sym e), λ e. not_club (sym e ∙ c.if-teams-club-2.true))

pub returns : goal.returns
returns c =
    none_meets c.args.self.now c.args.club c.args.fixture c.match_of-teams.result c.args.apart
    c.requires.tie c.requires.of_sheet c.match_of-teams.ensures.is c.if-teams-club.false
    c.if-teams-club-2.false
