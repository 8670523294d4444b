-- Answers: what is sure of each club against one club.
use Rattle.std.specs.Prelude.{◌≡◌, ℕ, ◌<◌, Bool, true, false, ◌&&◌, ◌||◌, nat_lt, List, [], ◌∷◌}
use Rattle.std.specs.Prelude.{pos, neg_ℤ, length, if◌then◌else◌}
use Rattle.league_core.specs.declared.sheet.Sheet.{Sheet}
use Rattle.league_core.specs.declared.sure.Sure.{Sure}
use Rattle.league_core.specs.declared.sure.Sure.TheVariants.{Above, Below, Level, Unknown}
use Rattle.league_core.specs.game.Sums.{has_club}
use Rattle.league_core.specs.game.ClubSets.{clubs_in}
use Rattle.league_core.specs.game.Ahead.{rank_of}
use Rattle.league_core.specs.search.PointRanges.{Range, one_value}
use Rattle.league_core.specs.search.SureOrder.{sure_by_ranges, sure_then, is_above, is_below}
use Rattle.league_core.specs.search.SureOrder.{is_level, is_apart, sure_by_points}
use Rattle.score_box.specs.inside.ZoneBoxViews.{ZoneBoxView}
use Rattle.tie_bound.specs.declared.answer_sets.Answers.{Answers}
use Rattle.tie_bound.specs.declared.parts.Parts.{Parts}
use Rattle.tie_bound.specs.declared.parts.Parts.TheVariants.{Record, FirstSums}
use Rattle.tie_bound.specs.declared.sums.Sums.{Sums}
use Rattle.tie_bound.specs.inside.IntRanges.{as_range}
use Rattle.tie_bound.specs.inside.Sums.{sums_at}
use Rattle.tie_bound.specs.inside.Boxes.{options_in_box}

-- the ranges of a club's head-to-head record, from its sums over the matches of a group
abbrev pub record_ranges_of : Sums → List Range
record_ranges_of sums = as_range sums.points ∷ as_range sums.difference ∷ as_range sums.goals ∷ []

-- those of difference and goals, from the sums over all matches
abbrev pub first_ranges_of : Sums → List Range
first_ranges_of sums = as_range sums.difference ∷ as_range sums.goals ∷ []

-- the ranges of the parts that are compared
abbrev pub ranges_of : Parts → Sums → List Range
ranges_of Record sums = record_ranges_of sums
ranges_of FirstSums sums = first_ranges_of sums

-- the ranges of what decides last, from the sums over all matches and the fixed rank
abbrev pub overall_ranges_of : Sums → ℕ → List Range
overall_ranges_of sums rank =
    as_range sums.difference
    ∷ as_range sums.goals
    ∷ as_range sums.away_goals
    ∷ as_range sums.wins
    ∷ as_range sums.away_wins
    ∷ one_value (neg_ℤ (pos rank))
    ∷ []

-- a rival against the club in these parts, by a table of sums
abbrev pub by_table : Parts → List Sums → ℕ → ℕ → Sure
by_table parts table club rival =
    sure_by_ranges (ranges_of parts (sums_at table rival)) (ranges_of parts (sums_at table club))

-- its sums over all matches, and its rank, against the club's
abbrev pub by_overall_table : Sheet → List Sums → ℕ → ℕ → Sure
by_overall_table sheet table club rival =
    sure_by_ranges (overall_ranges_of (sums_at table rival) (rank_of sheet rival))
    (overall_ranges_of (sums_at table club) (rank_of sheet club))

-- it is sure whether a club has the club's parts
abbrev pub is_sure_by : Parts → List Sums → ℕ → ℕ → Bool
is_sure_by parts table club other =
    is_level (by_table parts table club other)
    || is_apart (ranges_of parts (sums_at table other)) (ranges_of parts (sums_at table club))

-- a club that is in one of these three sets
abbrev pub in_sets : Bool → Bool → Bool → Sure
in_sets above below level =
    if above then Above else if below then Below else if level then Level else Unknown

-- the answer of a club
unfoldable pub answer_at : Answers → ℕ → Sure
answer_at answers club =
    in_sets (has_club (clubs_in answers.above) club) (has_club (clubs_in answers.below) club)
    (has_club (clubs_in answers.level) club)

-- the answers are those of the sheet's clubs by points
abbrev pub AreByPoints : ZoneBoxView → ℕ → Answers → Type 0
AreByPoints box club answers =
    (rival : ℕ) → answer_at answers rival ≡ (if nat_lt rival (length box.sheet.clubs)
    then sure_by_points box.sheet box.season (options_in_box box) rival club else Unknown)

-- if one of so many clubs was level so far, the next step decides
abbrev pub StepDecides : ℕ → (ℕ → Sure) → Answers → Answers → Type 0
StepDecides clubs next old new =
    (club : ℕ) → club < clubs → answer_at new club ≡ sure_then (answer_at old club) (next club)

-- so it does for those of the clubs that are asked for
abbrev pub StepDecidesFor : List ℕ → ℕ → (ℕ → Sure) → Answers → Answers → Type 0
StepDecidesFor asked clubs next old new =
    (club : ℕ) → club < clubs → has_club asked club ≡ true
    → answer_at new club ≡ sure_then (answer_at old club) (next club)

-- for each club of a group that was level so far the next step decides, and the others' answers
-- stay
pub record IsStepIn (group : List ℕ) (next : ℕ → Sure) (old new : Answers) : Type 0 where
  pub inside : (club : ℕ) → has_club group club ≡ true
      → answer_at new club ≡ sure_then (answer_at old club) (next club)
  pub outside : (club : ℕ) → has_club group club ≡ false → answer_at new club ≡ answer_at old club

-- the group is all clubs, out of so many, that are level so far
abbrev pub AreLevelIn : ℕ → Answers → List ℕ → Type 0
AreLevelIn clubs answers group =
    (club : ℕ) → has_club group club ≡ (nat_lt club clubs && is_level (answer_at answers club))

-- the answer is the wanted one
abbrev pub is_answer : Sure → Sure → Bool
is_answer Above answer = is_above answer
is_answer Below answer = is_below answer
is_answer Level answer = is_level answer
is_answer Unknown Above = false
is_answer Unknown Below = false
is_answer Unknown Level = false
is_answer Unknown Unknown = true
