use Rattle.std.proofs.Common.{◌≡◌, ◌==◌, ◌&&◌, ℕ, not, nat_lt, ap, sym, ◌∙◌, length}
use Rattle.std.specs.List.{list_all}
use Rattle.std.proofs.Math.Bool.{or-false}
use Rattle.league_core.specs.game.Sums.{has_club}
use Rattle.league_core.specs.game.ClubSets.{clubs_in}
use Rattle.league_core.proofs.ClubSetLemmas.{has_club-range}
use Rattle.league_core.proofs.ClubLemmas.{has_member-not_empty, list_all-rest_empty}
use Rattle.line_tokens.proofs.ranges.is_set_for.Goals as goal
use Rattle.league_core.proofs.plain.Numbers.{eqb-swap}

pub returns-then-not-is_empty : goal.returns-then-not-is_empty
returns-then-not-is_empty c =
    let clubs = clubs_in c.args.set in
    let own = c.args.question.now.club in
    let test = λ (club : ℕ). nat_lt club (length c.args.sheet.now.clubs) && not (club == own) in
    let rivals : (club : ℕ) → has_club (clubs_in c.without-rivals.result) club ≡ test club =
    λ club. c.without-rivals.ensures club
    ∙ ap (λ xs. has_club xs club && not (has_club (clubs_in c.single.result) club)) c.first.ensures
    ∙ ap (λ b. b && not (has_club (clubs_in c.single.result) club))
    (has_club-range c.len.result club)
    ∙ ap (λ xs. nat_lt club c.len.result && not (has_club xs club)) c.single.ensures
    ∙ ap (λ b. nat_lt club c.len.result && not b) (or-false (own == club) ∙ eqb-swap own club)
    ∙ ap (λ n. nat_lt club n && not (club == own)) c.len.ensures in
    list_all-rest_empty test clubs (clubs_in c.without.result)
    c.is_empty-then-not-is_empty.result
    (λ club. c.without.ensures club ∙ ap (λ b. has_club clubs club && not b) (rivals club))
    c.is_empty-then-not-is_empty.ensures
    ∙ ap (λ b. b && list_all test clubs)
    (ap not (sym c.if-not-is_empty.true)
    ∙ has_member-not_empty clubs c.is_empty.result c.is_empty.ensures)
