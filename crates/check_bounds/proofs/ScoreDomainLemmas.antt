-- Domains that have the options of a zone, fixture by fixture, and what a literal leaves of them.
use Rattle.std.proofs.Common.{◌≡◌, ℕ, ◌<◌, ◌≤◌, ◌≢◌, ◌⊎◌, true, false, not, ◌&&◌}
use Rattle.std.proofs.Common.{◌==◌, nat_lt, List, [], ◌∷◌, ◌++◌, length, get_or, set, Option, Some}
use Rattle.std.proofs.Common.{None}
use Rattle.std.proofs.Common.{refl, sym, ap, subst, ◌∙◌, inl, inr, arith}
use Rattle.std.specs.List.{list_all}
use Rattle.std.proofs.Math.Bool.{and-true}
use Rattle.std.proofs.lemmas.Bool.{cases_eq, eq-eqb, ne_eqb, ltb-true, lt-ltb, and_parts, and_from}
use Rattle.std.proofs.lemmas.List.{length-set, get_or-set_same, get_or-set_other}
use Rattle.std.proofs.lemmas.List.{get_or_append_left, get_or_push, length_push}
use Rattle.league_core.specs.declared.sheet.Sheet.{Sheet}
use Rattle.league_core.specs.declared.sheet.Fixture.{Fixture}
use Rattle.league_core.specs.declared.season.Score.{Score}
use Rattle.league_core.specs.game.Results.{Results}
use Rattle.league_core.specs.game.Sheets.{is_fixture}
use Rattle.league_core.specs.game.Seasons.{IsLeague}
use Rattle.check_bounds.specs.inside.Tables.{ArePlayedOver}
use Rattle.league_core.specs.declared.zone.Test.{Test}
use Rattle.league_core.specs.declared.zone.Test.TheVariants.{Home, Draw, HomeMost, AwayMost, Rival}
use Rattle.league_core.specs.declared.zone.Literal.{Literal}
use Rattle.league_core.specs.game.Finishes.{may_end}
use Rattle.league_core.specs.search.Zones.{is_on, passes, is_as_said, is_test_of}
use Rattle.league_core.specs.search.Options.{meets_literal, options_from, options_in, has_score}
use Rattle.league_core.proofs.OptionLemmas.{has_score-options_of}
use Rattle.league_core.proofs.OptionLemmas.{length-options_from}
use Rattle.league_core.proofs.LiteralLemmas.{options_at, options_at-with, meets-other, meets-own}
use Rattle.check_bounds.specs.declared.score_domain.ScoreDomain.{ScoreDomain}
use Rattle.check_bounds.specs.inside.ScoreDomains.{is_left, IsScoreDomainOf}
use Rattle.check_bounds.specs.inside.ExtremeScores.{AreExtremesOf}
use Rattle.check_bounds.specs.inside.Zones.{AreAllExtremesOf, CutsBy, IsTestWithin}

-- if no fixture is tested, each domain stays
pub takes_mark : (scopes : List ScoreDomain) (literal : Literal)
    → ((number : ℕ) → is_on number literal.test ≡ false) → CutsBy scopes scopes literal
takes_mark scopes literal off limit zone scores are = record {
  many = are.many ∙ length-options_from limit zone 0 scores
      ∙ sym (length-options_from limit (zone ++ literal ∷ []) 0 scores);
  each = λ k d within score.
      let inside : k < length scores = omega (
        arith,
        are.many,
        length-options_from limit zone 0
            scores,
      ) in
      are.each k d within score
      ∙ sym (and-true (has_score (get_or (options_from limit zone 0 scores) k []) score))
      ∙ ap (λ b. has_score (get_or (options_from limit zone 0 scores) k []) score && b)
      (sym (meets-other k score literal (off k)))
      ∙ sym (options_at-with limit zone literal scores k score inside);
}

-- if a fixture is tested, its domain is cut, and each other stays
pub takes_cut : (scopes : List ScoreDomain) (fixture : ℕ) (scope : ScoreDomain) (literal : Literal)
    → fixture < length scopes → ((number : ℕ) → is_on number literal.test ≡ (fixture == number))
    → ((d : ScoreDomain) (score : Score)
    → is_left scope score ≡
    (is_left (get_or scopes fixture d) score && is_as_said literal.yes (passes literal.test score)))
    → CutsBy scopes (set scopes fixture scope) literal
takes_cut scopes fixture scope literal in_range on cut limit zone scores are = record {
  many = length-set scopes fixture scope ∙ are.many ∙ length-options_from limit zone 0 scores
      ∙ sym (length-options_from limit (zone ++ literal ∷ []) 0 scores);
  each = λ k d within score.
      let below : k < length scopes = omega (arith, length-set scopes fixture scope) in
      let inside : k < length scores = omega (
        arith,
        are.many,
        length-options_from limit zone 0
            scores,
      ) in
      at k d score below (cases_eq k fixture)
      ∙ sym (options_at-with limit zone literal scores k score inside);
}
  where
    at : (k : ℕ) (d : ScoreDomain) (score : Score) → k < length scopes → (k ≡ fixture)
        ⊎ (k ≢ fixture)
        → is_left (get_or (set scopes fixture scope) k d) score ≡
        (has_score (get_or (options_from limit zone 0 scores) k []) score
        && meets_literal k score literal)
    at k d score below (inl same) =
        ap (λ n. is_left (get_or (set scopes fixture scope) n d) score) same
        ∙ ap (λ c. is_left c score) (get_or-set_same scopes fixture scope d in_range)
        ∙ cut d score
        ∙ ap (λ n. is_left (get_or scopes n d) score
        && is_as_said literal.yes (passes literal.test score)) (sym same)
        ∙ ap (λ b. b && is_as_said literal.yes (passes literal.test score))
        (are.each k d below score)
        ∙ ap (λ b. has_score (get_or (options_from limit zone 0 scores) k []) score && b)
        (sym (meets-own k score literal (on k ∙ eq-eqb fixture k (sym same))))
    at k d score below (inr other) =
        ap (λ c. is_left c score) (get_or-set_other scopes fixture k scope d other)
        ∙ are.each k d below score
        ∙ sym (and-true (has_score (get_or (options_from limit zone 0 scores) k []) score))
        ∙ ap (λ b. has_score (get_or (options_from limit zone 0 scores) k []) score && b)
        (sym (meets-other k score literal (on k ∙ ne_eqb fixture k (λ e. other (sym e)))))

-- the domains so far have the options of their fixtures
abbrev pub HaveOptions : List ScoreDomain → List (List Score) → Type 0
HaveOptions scopes options = (k : ℕ) (d : ScoreDomain) → k < length scopes
    → IsScoreDomainOf (get_or scopes k d) (get_or options k [])

-- one domain more
pub options_push : (scopes : List ScoreDomain) (scope : ScoreDomain) (options : List (List Score))
    → HaveOptions scopes options → IsScoreDomainOf scope (get_or options (length scopes) [])
    → HaveOptions (scopes ++ scope ∷ []) options
options_push scopes scope options have is k d within = at (cases_eq k (length scopes))
  where
    at : (k ≡ length scopes) ⊎ (k ≢ length scopes)
        → IsScoreDomainOf (get_or (scopes ++ scope ∷ []) k d) (get_or options k [])
    at (inl last) = λ score.
        ap (λ c. is_left c score) (get_or_push scopes scope d k (sym last))
        ∙ is score
        ∙ ap (λ n. has_score (get_or options n []) score) (sym last)
    at (inr before) =
        let below : k < length scopes = omega (arith, length_push scopes scope) in
        λ score. ap (λ c. is_left c score) (get_or_append_left scopes (scope ∷ []) d k below)
        ∙ have k d below score

-- a domain that has what its fixture may end with has its options if no literal is asked for
pub first_options : (limit : ℕ) (scores : List (Option Score)) (k : ℕ) (scope : ScoreDomain)
    → k < length scores
    → ((score : Score) → is_left scope score ≡ may_end limit (get_or scores k None) (Some score))
    → IsScoreDomainOf scope (get_or (options_from limit [] 0 scores) k [])
first_options limit scores k scope within may score =
    may score
    ∙ sym (has_score-options_of limit [] k (get_or scores k None) score)
    ∙ ap (λ options. has_score options score) (sym (options_at limit [] scores k within))

-- a test of the sheet is of one of its fixtures or clubs
pub test_within : (sheet : Sheet) (fixtures : ℕ) (test : Test) → length sheet.fixtures ≤ fixtures
    → length sheet.clubs ≤ 32 → is_test_of sheet test ≡ true → IsTestWithin fixtures test
test_within sheet fixtures (Home fixture) many few is =
    let h = ltb-true fixture (length sheet.fixtures) is in omega (arith, h, many)
test_within sheet fixtures (Draw fixture) many few is =
    let h = ltb-true fixture (length sheet.fixtures) is in omega (arith, h, many)
test_within sheet fixtures (HomeMost fixture most) many few is =
    let h = ltb-true fixture (length sheet.fixtures) is in omega (arith, h, many)
test_within sheet fixtures (AwayMost fixture most) many few is =
    let h = ltb-true fixture (length sheet.fixtures) is in omega (arith, h, many)
test_within sheet fixtures (Rival club) many few is =
    let h = ltb-true club (length sheet.clubs) is in omega (arith, h, few)

-- the extremes so far are those of their domains
abbrev pub HaveCorners : List ScoreDomain → List (List Score) → Type 0
HaveCorners scopes corners = (k : ℕ) (d : ScoreDomain) → k < length corners → (options : List Score)
    → IsScoreDomainOf (get_or scopes k d) options → AreExtremesOf (get_or corners k []) options

-- one list of extremes more
pub corners_push : (scopes : List ScoreDomain) (corners : List (List Score)) (more : List Score)
    → HaveCorners scopes corners
    → ((d : ScoreDomain) (options : List Score)
    → IsScoreDomainOf (get_or scopes (length corners) d) options
    → AreExtremesOf more options)
    → HaveCorners scopes (corners ++ more ∷ [])
corners_push scopes corners more have is k d within options of = at (cases_eq k (length corners))
  where
    at : (k ≡ length corners) ⊎ (k ≢ length corners)
        → AreExtremesOf (get_or (corners ++ more ∷ []) k []) options
    at (inl last) =
        subst (λ (xs : List Score). AreExtremesOf xs options)
        (sym (get_or_push corners more [] k (sym last)))
        (is d options (subst (λ (n : ℕ). IsScoreDomainOf (get_or scopes n d) options) last of))
    at (inr before) =
        let below : k < length corners = omega (arith, within, before, length_push corners more) in
        subst (λ (xs : List Score). AreExtremesOf xs options)
        (sym (get_or_append_left corners (more ∷ []) [] k below)) (have k d below options of)

-- the extremes of a league's zone are those of its fixtures
pub played_over : (sheet : Sheet) (season : Results) (zone : List Literal)
    (corners : List (List Score)) → IsLeague sheet season
    → AreAllExtremesOf corners (options_in sheet season zone)
    → ArePlayedOver sheet.fixtures corners
played_over sheet season zone corners league are =
    let many = are.many in
    let options = length-options_from sheet.goal_limit zone 0 season.scores in
    let of_sheet = league.of_sheet.scores in
    record {
      many = omega (arith, many, options, of_sheet);
      few = league.limits.most_fixtures;
      teams = wider sheet.fixtures (length sheet.clubs) league.limits.most_clubs
          league.limits.fixtures;
    }
  where
    wider : (fixtures : List Fixture) (clubs : ℕ) → clubs ≤ 24
        → list_all (is_fixture clubs) fixtures ≡ true → list_all (is_fixture 24) fixtures ≡ true
    wider [] clubs few all = refl
    wider (match ∷ fixtures) clubs few all =
        let here = and_parts (is_fixture clubs match) (list_all (is_fixture clubs) fixtures) all in
        let ends = and_parts (nat_lt match.home clubs && nat_lt match.away clubs)
        (not (match.home == match.away)) here.0 in
        let both = and_parts (nat_lt match.home clubs) (nat_lt match.away clubs) ends.0 in
        let home = ltb-true match.home clubs both.0 in
        let away = ltb-true match.away clubs both.1 in
        and_from (is_fixture 24 match) (list_all (is_fixture 24) fixtures)
        (and_from (nat_lt match.home 24 && nat_lt match.away 24) (not (match.home == match.away))
        (and_from (nat_lt match.home 24) (nat_lt match.away 24)
        (lt-ltb match.home 24 (omega (arith, home, few)))
        (lt-ltb match.away 24 (omega (arith, away, few)))) ends.1)
        (wider fixtures clubs few here.1)
