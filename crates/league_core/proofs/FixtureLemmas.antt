-- The fixtures of a sheet: each is a match of two different clubs of it.
use Rattle.std.proofs.Common.{◌≡◌, ◌≢◌, ℕ, ◌<◌, true, not, ◌&&◌, ◌==◌, nat_lt, length, get_or, sym}
use Rattle.std.proofs.Common.{ap, ◌∙◌, arith}
use Rattle.std.proofs.lemmas.Bool.{and_parts, eq-eqb, ltb-true, true≢false}
use Rattle.league_core.specs.declared.sheet.Sheet.{Sheet}
use Rattle.league_core.specs.declared.sheet.Fixture.{Fixture}
use Rattle.league_core.specs.game.Sheets.{IsWithinLimits, is_fixture}
use Rattle.league_core.proofs.plain.Lists.{list_all-at}

-- a match has two different clubs
pub clubs_apart : (clubs : ℕ) (match : Fixture) → is_fixture clubs match ≡ true
    → match.home ≢ match.away
clubs_apart clubs match is same =
    let different = (and_parts (nat_lt match.home clubs && nat_lt match.away clubs)
    (not (match.home == match.away)) is).1 in
    true≢false (sym different ∙ ap not (eq-eqb match.home match.away same))

-- both are clubs
pub ends_low : (clubs : ℕ) (match : Fixture) → is_fixture clubs match ≡ true
    → (match.home < clubs) × (match.away < clubs)
ends_low clubs match is =
    let both = and_parts (nat_lt match.home clubs && nat_lt match.away clubs)
    (not (match.home == match.away)) is in
    let low = and_parts (nat_lt match.home clubs) (nat_lt match.away clubs) both.0 in
    (ltb-true match.home clubs low.0, ltb-true match.away clubs low.1)

-- a fixture of a sheet has two different clubs of it
pub fixture_of_sheet : (sheet : Sheet) (k : ℕ) (d : Fixture) → IsWithinLimits sheet
    → k < length sheet.fixtures
    → ((get_or sheet.fixtures k d).home < 24) × ((get_or sheet.fixtures k d).away < 24)
    × ((get_or sheet.fixtures k d).home ≢ (get_or sheet.fixtures k d).away)
fixture_of_sheet sheet k d limits within =
    let match = get_or sheet.fixtures k d in
    let clubs = length sheet.clubs in
    let is = list_all-at (is_fixture clubs) sheet.fixtures k d within limits.fixtures in
    let low = ends_low clubs match is in (
      omega (arith, low.0, limits.most_clubs),
      omega (arith, low.1, limits.most_clubs),
      clubs_apart clubs match is,
    )
