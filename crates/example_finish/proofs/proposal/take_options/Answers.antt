use Rattle.std.proofs.Common.{◌≡◌, ◌<◌, ◌+◌, ℕ, IsTrue, List, length, get_or, refl, ap, subst}
use Rattle.std.proofs.Common.{sym, ◌∙◌, arith}
use Rattle.league_core.specs.declared.sheet.Sheet.{Sheet}
use Rattle.league_core.specs.declared.sheet.Fixture.{Fixture}
use Rattle.league_core.specs.game.Results.{Results, are_results}
use Rattle.league_core.specs.game.Seasons.{IsSeasonOf}
use Rattle.league_core.specs.game.Sheets.{IsWithinLimits}
use Rattle.score_box.specs.inside.Unplayed.{unplayed_in}
use Rattle.score_box.proofs.SplitLemmas.{unplayed_in_range}
use Rattle.example_finish.proofs.ProposedLemmas.{option_is_score, all_have_taken, HaveTaken}
use Rattle.example_finish.proofs.ProposedLemmas.{have_taken-next, played_is_taken, no_sides}
use Rattle.example_finish.proofs.ProposedLemmas.{option_at}
use Rattle.example_finish.proofs.proposal.take_options.Goals as goal

pub loop-i-init : goal.loop-i-init
loop-i-init c =
    let sheet = c.args.zone_box.now.sheet in
    let season = c.args.zone_box.now.season in
    let zone = c.args.zone_box.now.zone in
    subst (λ (s : Results). HaveTaken c.args.wishes sheet season zone s 0)
    (sym c.requires.season_is)
    (record {
      deductions = refl;
      long = refl;
      taken = λ j below. absurd (omega arith);
      played = λ k played. played_is_taken c.args.wishes sheet season zone k
          c.requires.has_finish played;
    })

pub option_of-score-requires-clause-in_range : goal.option_of-score-requires-clause-in_range
option_of-score-requires-clause-in_range c =
    let scores = c.args.zone_box.now.season.scores in
    let all : c.unplayed-unplayed.result.now ≡ unplayed_in scores = c.unplayed-unplayed.ensures in
    subst (λ (ks : List ℕ). get_or ks c.loop-i.i 0 < length scores) (sym all)
    (unplayed_in_range scores c.loop-i.i 0
    (omega (arith, ap (λ (ks : List ℕ). length ks) all, c.loop-i-test.true)))

pub bounds-fixtures-fixture : goal.bounds-fixtures-fixture
bounds-fixtures-fixture c =
    let sheet = c.args.zone_box.now.sheet in
    let season = c.args.zone_box.now.season in
    let scores = season.scores in
    let all : c.unplayed-unplayed.result.now ≡ unplayed_in scores = c.unplayed-unplayed.ensures in
    let within = subst (λ (ks : List ℕ). get_or ks c.loop-i.i 0 < length scores) (sym all)
    (unplayed_in_range scores c.loop-i.i 0
    (omega (arith, ap (λ (ks : List ℕ). length ks) all, c.loop-i-test.true))) in
    let long : length c.as_slice-fixtures.result.now ≡ length sheet.fixtures =
    ap (λ (matches : List Fixture). length matches) c.as_slice-fixtures.ensures
    ∙ ap (λ (s : Sheet). length s.fixtures) c.sheet.ensures.sheet in
    let of_sheet : IsSeasonOf sheet season =
    subst (IsSeasonOf sheet) c.season.ensures.season c.season.ensures.of_sheet in
    omega (arith, long, of_sheet.scores, within)

pub apply-requires : goal.apply-requires
apply-requires c =
    let sheet = c.args.zone_box.now.sheet in
    let season = c.args.zone_box.now.season in
    let scores = season.scores in
    let fixture = get_or c.unplayed-unplayed.result.now c.loop-i.i 0 in
    let all : c.unplayed-unplayed.result.now ≡ unplayed_in scores = c.unplayed-unplayed.ensures in
    let within : fixture < length scores =
    subst (λ (ks : List ℕ). get_or ks c.loop-i.i 0 < length scores) (sym all)
    (unplayed_in_range scores c.loop-i.i 0
    (omega (arith, ap (λ (ks : List ℕ). length ks) all, c.loop-i-test.true))) in (
      omega (arith, within, c.loop-i.invariant.long),
      option_is_score sheet season c.args.zone_box.now.zone fixture _ _ c.option_of-score.result
          (subst IsWithinLimits c.sheet.ensures.sheet c.sheet.ensures.limits)
          (subst (λ (s : Results). IsTrue (are_results s)) c.season.ensures.season
          c.scores-played.ensures.within)
          within c.option_of-score.ensures,
    )

pub loop-i-preserved : goal.loop-i-preserved
loop-i-preserved c =
    let sheet = c.args.zone_box.now.sheet in
    let season = c.args.zone_box.now.season in
    let zone = c.args.zone_box.now.zone in
    let scores = season.scores in
    let fixture = get_or c.unplayed-unplayed.result.now c.loop-i.i 0 in
    let all : c.unplayed-unplayed.result.now ≡ unplayed_in scores = c.unplayed-unplayed.ensures in
    let within : fixture < length scores =
    subst (λ (ks : List ℕ). get_or ks c.loop-i.i 0 < length scores) (sym all)
    (unplayed_in_range scores c.loop-i.i 0
    (omega (arith, ap (λ (ks : List ℕ). length ks) all, c.loop-i-test.true))) in
    let matches : c.as_slice-fixtures.result.now ≡ sheet.fixtures =
    c.as_slice-fixtures.ensures
    ∙ ap (λ (s : Sheet). s.fixtures) c.sheet.ensures.sheet in
    subst (λ (s : Results). HaveTaken c.args.wishes sheet season zone s (c.loop-i.i + 1))
    (sym c.apply.ensures)
    (have_taken-next c.args.wishes sheet season zone c.loop-i.season c.loop-i.i fixture
    c.option_of-score.result c.loop-i.invariant
    (ap (λ (ks : List ℕ). get_or ks c.loop-i.i 0) all) within
    (ap (λ (ms : List Fixture). option_at c.args.wishes sheet season zone fixture
    (get_or ms fixture no_sides)) (sym matches) ∙ c.option_of-score.ensures))

pub returns : goal.returns
returns c = λ question are.
    let sheet = c.args.zone_box.now.sheet in
    let season = c.args.zone_box.now.season in
    let scores = season.scores in
    let of_sheet : IsSeasonOf sheet season =
    subst (IsSeasonOf sheet) c.season.ensures.season c.season.ensures.of_sheet in
    let whole : c.loop-i.i ≡ length (unplayed_in scores) =
    omega (
      arith,
      ap (λ (ks : List ℕ). length ks) c.unplayed-unplayed.ensures,
      c.loop-i.auto.i-end,
      c.loop-i-test.false,
    ) in
    all_have_taken c.args.wishes sheet season c.args.zone_box.now.zone question c.loop-i.season
    of_sheet
    (subst (λ (n : ℕ). HaveTaken c.args.wishes sheet season c.args.zone_box.now.zone
    c.loop-i.season n) whole c.loop-i.invariant)
    are
