-- Points decide first; if no rival is level, they decide alone.
use Rattle.std.proofs.Common.{◌≡◌, ℕ, ◌<◌, ◌≤◌, Bool, ◌&&◌, true, List, [], ◌∷◌, filter, length}
use Rattle.std.proofs.Common.{ap, sym, ◌∙◌, arith}
use Rattle.std.specs.List.{range_with_len}
use Rattle.std.proofs.lemmas.Bool.{ltb-true}
use Rattle.std.proofs.lemmas.List.{get_or-replicate}
use Rattle.league_core.specs.declared.sheet.Sheet.{Sheet}
use Rattle.league_core.specs.declared.season.Score.{Score}
use Rattle.league_core.specs.declared.sure.Sure.TheVariants.{Level, Unknown}
use Rattle.league_core.specs.game.Results.{Results}
use Rattle.league_core.specs.game.ClubSets.{clubs_in}
use Rattle.league_core.specs.game.Sums.{has_club}
use Rattle.league_core.specs.search.PointRanges.{points_range}
use Rattle.league_core.specs.search.SureOrder.{sure_then, sure_by_range, sure_by_points, sure_by}
use Rattle.league_core.specs.search.SureOrder.{is_level, level_on_points}
use Rattle.league_core.proofs.ClubSetLemmas.{filter_agree_in, has_club-range, has_club-filter}
use Rattle.league_core.proofs.SureLemmas.{sure_then-level}
use Rattle.check_bounds.specs.declared.int_range.IntRange.{IntRange}
use Rattle.check_bounds.specs.inside.IntRanges.{as_sum_range, range_at}
use Rattle.check_bounds.specs.inside.Steps.{sure_at, sure_by_tables, is_level_by_tables}
use Rattle.check_bounds.proofs.StepLemmas.{stays}
use Rattle.check_bounds.proofs.RivalLemmas.{rival_below, rival_parts, alone_is}
use Rattle.check_bounds.proofs.tie_rounds.sure_against.Goals as goal

-- the table has each club's points
abbrev HasPoints : Sheet → Results → List (List Score) → List IntRange → Type 0
HasPoints sheet season corners table = (club : ℕ) → club < 32
    → as_sum_range (range_at table club) ≡ points_range sheet season corners (club ∷ [])

-- what such a table says of a club is what the points say
by_points : (sheet : Sheet) (season : Results) (corners : List (List Score)) (table : List IntRange)
    (club other : ℕ) → HasPoints sheet season corners table → club < 32 → other < 32
    → sure_by_tables (table ∷ []) club other ≡ sure_by_points sheet season corners other club
by_points sheet season corners table club other has own inside =
    sure_then-level _
    ∙ (λ i. sure_by_range (has other inside i) (has club own i))

-- the clubs that are level by it are those on the club's points
level_group : (sheet : Sheet) (season : Results) (corners : List (List Score))
    (table : List IntRange) (club clubs : ℕ) (group : List ℕ)
    → HasPoints sheet season corners table → club < 32 → length sheet.clubs ≤ 24
    → clubs ≡ length sheet.clubs
    → group ≡ filter (is_level_by_tables (table ∷ []) club) (range_with_len 0 clubs)
    → group ≡ level_on_points sheet season corners club
level_group sheet season corners table club clubs group has own few are is =
    is
    ∙ ap (λ n. filter (is_level_by_tables (table ∷ []) club) (range_with_len 0 n)) are
    ∙ filter_agree_in (is_level_by_tables (table ∷ []) club)
    (λ other. is_level (sure_by_points sheet season corners other club))
    (range_with_len 0 (length sheet.clubs))
    (λ other member.
    let inside : other < length sheet.clubs =
    ltb-true other (length sheet.clubs) (sym (has_club-range (length sheet.clubs) other) ∙ member)
    in
    ap is_level (by_points sheet season corners table club other has own
    (omega (arith, inside, few))))

-- a rival that is level by the points is of the group
of_group : (sheet : Sheet) (season : Results) (corners : List (List Score)) (club rival : ℕ)
    (group : List ℕ) → group ≡ level_on_points sheet season corners club
    → has_club (range_with_len 0 (length sheet.clubs)) rival ≡ true
    → is_level (sure_by_points sheet season corners rival club) ≡ true
    → has_club group rival ≡ true
of_group sheet season corners club rival group group_is member level =
    let test : ℕ → Bool = λ other. is_level (sure_by_points sheet season corners other club) in
    ap (λ xs. has_club xs rival) group_is
    ∙ has_club-filter test (range_with_len 0 (length sheet.clubs)) rival
    ∙ ap (λ b. b && test rival) member
    ∙ level

pub returns-then-is_alone : goal.returns-then-is_alone
returns-then-is_alone c = λ rival is.
    let cells = c.args.cells.now in
    let sheet = cells.sheet in
    let season = c.args.season.now in
    let club = c.args.club in
    let table = c.points_table.result in
    let many : length c.sheet.result.now.clubs ≡ length sheet.clubs =
    ap (λ (s : Sheet). length s.clubs) c.sheet.ensures.value in
    let few : length sheet.clubs ≤ 24 = omega (arith, many, c.sheet.ensures.limits.most_clubs) in
    let below : rival < 32 =
    let there = rival_below (length sheet.clubs) club rival is in omega (arith, there, few) in
    let parts = rival_parts (length sheet.clubs) club rival is in
    let group = level_group sheet season cells.corners table club _
    (clubs_in c.level_in-group.result) c.points_table.ensures c.requires few
    (c.len-clubs.ensures ∙ many)
    (c.level_in-group.ensures
    ∙ ap (filter (is_level_by_tables (table ∷ []) club)) c.first.ensures) in
    let first : sure_at c.step.new.answers rival ≡ sure_by_points sheet season cells.corners rival
    club =
    c.step.ensures rival below
    ∙ ap (λ s. sure_then s (sure_by_tables (table ∷ []) club rival))
    (get_or-replicate 32 rival Level Unknown below)
    ∙ by_points sheet season cells.corners table club rival c.points_table.ensures c.requires below
    in
    first
    ∙ stays (sure_by_points sheet season cells.corners rival club) _
    (λ level. parts.1 (alone_is (clubs_in c.level_in-group.result) club rival
    (sym c.is_alone.ensures ∙ c.if-is_alone.true)
    (of_group sheet season cells.corners club rival (clubs_in c.level_in-group.result) group
    parts.0 level)))

pub returns : goal.returns
returns c = λ rival is.
    let cells = c.args.cells.now in
    let sheet = cells.sheet in
    let season = c.args.season.now in
    let club = c.args.club in
    let table = c.points_table.result in
    let many : length c.sheet.result.now.clubs ≡ length sheet.clubs =
    ap (λ (s : Sheet). length s.clubs) c.sheet.ensures.value in
    let few : length sheet.clubs ≤ 24 = omega (arith, many, c.sheet.ensures.limits.most_clubs) in
    let below : rival < 32 =
    let there = rival_below (length sheet.clubs) club rival is in omega (arith, there, few) in
    let parts = rival_parts (length sheet.clubs) club rival is in
    let group = level_group sheet season cells.corners table club _
    (clubs_in c.level_in-group.result) c.points_table.ensures c.requires few
    (c.len-clubs.ensures ∙ many)
    (c.level_in-group.ensures
    ∙ ap (filter (is_level_by_tables (table ∷ []) club)) c.first.ensures) in
    let first : sure_at c.step.new.answers rival ≡ sure_by_points sheet season cells.corners rival
    club =
    c.step.ensures rival below
    ∙ ap (λ s. sure_then s (sure_by_tables (table ∷ []) club rival))
    (get_or-replicate 32 rival Level Unknown below)
    ∙ by_points sheet season cells.corners table club rival c.points_table.ensures c.requires below
    in
    c.take_criteria.ensures rival below parts.1
    (λ level. of_group sheet season cells.corners club rival (clubs_in c.level_in-group.result)
    group parts.0 (sym (ap is_level first) ∙ level))
    ∙ (λ i. sure_then (first i) (sure_by sheet.order sheet cells.corners (group i) rival club))
