-- The sample's sheet is within the limits, its results are such as its seasons may take, and the
-- scores come in the order of the draws.
use Rattle.std.proofs.Common.{◌≡◌, ℕ, zero, suc, ◌+◌, ◌*◌, ◌<◌, ◌≤◌, true, List, [], ◌∷◌}
use Rattle.std.proofs.Common.{length, map, ap, sym, ◌∙◌, arith, rules, add-one, nat_le, lit≤}
use Rattle.std.specs.Prelude.{All, codes}
use Rattle.std.specs.List.{range_with_len}
use Rattle.std.proofs.lemmas.Bool.{and_from, le-leb}
use Rattle.std.proofs.lemmas.List.Elements.{All-nil, All-cons}
use Rattle.league_core.specs.declared.sheet.Sheet.{Sheet}
use Rattle.league_core.specs.declared.sheet.Club.{Club}
use Rattle.league_core.specs.declared.sheet.Fixture.{Fixture}
use Rattle.league_core.specs.declared.sheet.Order.TheVariants.{HeadFirst}
use Rattle.league_core.specs.declared.season.Event.TheVariants.{Set}
use Rattle.league_core.specs.game.Results.{Results, is_score}
use Rattle.league_core.specs.game.Sheets.{IsWithinLimits}
use Rattle.league_core.specs.game.Seasons.{AreEventsOf, IsEventOf, unplayed_season}
use Rattle.sample_counts.specs.Samples.{sample_sheet, sample_club, sample_fixture, sample_event}
use Rattle.sample_counts.specs.Samples.{sample_events, state_after, next_state, drawn_from, drawn}

-- one draw more
pub state-next : (seed draws : ℕ) → state_after seed (draws + 1) ≡ next_state (state_after seed
    draws)
unfolding state_after
state-next seed draws = ap (state_after seed) (add-one draws)

-- the state after both sides of a fixture more
pub state-pair : (seed fixture : ℕ)
    → state_after seed (2 * (fixture + 1))
    ≡ next_state (next_state (state_after seed (2 * fixture)))
state-pair seed fixture =
    let there : 2 * (fixture + 1) ≡ 2 * fixture + 1 + 1 = omega arith in
    ap (state_after seed) there ∙ state-next seed (2 * fixture + 1)
    ∙ ap next_state (state-next seed (2 * fixture))

-- the result of a fixture, from the two draws for it
pub result-drawn : (seed fixture home away before between after : ℕ)
    → before ≡ state_after seed (2 * fixture) → between ≡ next_state before
    → after ≡ next_state between → home ≡ drawn_from between → away ≡ drawn_from after
    → Set fixture (record { home = home; away = away }) ≡ sample_event seed fixture
unfolding sample_event
result-drawn seed fixture home away before between after b m a h w =
    let middle : between ≡ state_after seed (2 * fixture + 1) =
    m ∙ ap next_state b ∙ sym (state-next seed (2 * fixture)) in
    let there : 2 * fixture + 1 + 1 ≡ 2 * fixture + 2 = omega arith in
    let last : after ≡ state_after seed (2 * fixture + 2) =
    a ∙ ap next_state middle ∙ sym (state-next seed (2 * fixture + 1))
    ∙ ap (state_after seed) there in
    ap (λ n. Set fixture (record { home = n; away = away })) (h ∙ ap drawn_from middle)
    ∙ ap (λ n. Set fixture (record { home = drawn seed (2 * fixture + 1); away = n }))
    (w ∙ ap drawn_from last)

-- what is drawn is below 4
drawn-below : (state : ℕ) → drawn_from state < 4
unfolding drawn_from
drawn-below state = omega arith

-- two draws are a score
drawn_score : (home away : ℕ) → home < 4 → away < 4
    → is_score (record { home = home; away = away }) ≡ true
drawn_score home away h a =
    and_from (nat_le home 99) (nat_le away 99) (le-leb home 99 (omega arith))
    (le-leb away 99 (omega arith))

-- the results of some fixtures are such as a season with that many may take
reported-from : (season : Results) (seed from count : ℕ) → from + count ≤ length season.scores
    → All (IsEventOf season) (map (sample_event seed) (range_with_len from count))
unfolding sample_event
reported-from season seed from zero few = All-nil (IsEventOf season)
reported-from season seed from (suc count) few =
    All-cons (IsEventOf season) (sample_event seed from)
    (map (sample_event seed) (range_with_len (from + 1) count)) (
      omega (arith, few),
      drawn_score (drawn seed (2 * from + 1)) (drawn seed (2 * from + 2))
          (drawn-below (state_after seed (2 * from + 1)))
          (drawn-below (state_after seed (2 * from + 2))),
    )
    (reported-from season seed (from + 1) count (omega (arith, few)))

-- the sample's results are such as a season of its sheet may take
pub sample_told : (seed : ℕ) → AreEventsOf sample_sheet (sample_events seed)
unfolding sample_sheet sample_events
sample_told seed =
    reported-from (unplayed_season (length sample_sheet.clubs)
    (length sample_sheet.fixtures)) seed 0
    114 (lit≤ tt)

-- the sheet is within the limits
pub sample_within : IsWithinLimits sample_sheet
unfolding sample_sheet sample_club sample_fixture
sample_within = search rules

-- the sample's sheet but for its lists
abbrev pub made_of : List ℕ → List Club → List Fixture → List ℕ → Sheet
made_of name clubs fixtures lines = record {
  name = name;
  clubs = clubs;
  fixtures = fixtures;
  lines = lines;
  goal_limit = 5;
  budget = 200;
  order = HeadFirst;
}

-- a sheet with the sample's name, clubs, fixtures and lines
pub sheet_of_parts : (name : List ℕ) (clubs : List Club) (fixtures : List Fixture) (lines : List ℕ)
    → name ≡ codes "Sample" → clubs ≡ map sample_club (range_with_len 0 12)
    → fixtures ≡ map sample_fixture (range_with_len 0 132) → lines ≡ 1 ∷ 4 ∷ 9 ∷ []
    → made_of name clubs fixtures lines ≡ sample_sheet
unfolding sample_sheet
sheet_of_parts name clubs fixtures lines n c f l =
    ap (λ x. made_of x clubs fixtures lines) n
    ∙ ap (λ x. made_of (codes "Sample") x fixtures lines) c
    ∙ ap (λ x. made_of (codes "Sample") (map sample_club (range_with_len 0 12)) x lines) f
    ∙ ap (λ x. made_of (codes "Sample") (map sample_club (range_with_len 0 12))
    (map sample_fixture (range_with_len 0 132)) x) l
