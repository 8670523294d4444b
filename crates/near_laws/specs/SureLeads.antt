-- Who is surely ahead in a group while matches are open: the one club's leads over the other in the
-- order of the criteria. How leads are put together is this project's own choice.
use Rattle.std.specs.Prelude.{ℕ, ℤ, pos, neg_ℤ, ◌-ℤ◌, Bool, ◌&&◌, ◌||◌, List, [], ◌∷◌, ◌++◌}
use Rattle.std.specs.Prelude.{Some, None}
use Rattle.league_core.specs.declared.sheet.Sheet.{Sheet}
use Rattle.league_core.specs.declared.sheet.Order.{Order}
use Rattle.league_core.specs.declared.sheet.Order.TheVariants.{HeadFirst, OverallFirst}
use Rattle.league_core.specs.declared.season.Score.{Score}
use Rattle.league_core.specs.game.Sums.{Worth, match_points, goal_difference, goals, away_goals}
use Rattle.league_core.specs.game.Sums.{wins, away_wins, worth_to, worth_among}
use Rattle.league_core.specs.game.Ahead.{rank_of}
use Rattle.near_laws.specs.Leads.{Lead, is_ahead_by, is_level_or_ahead_by, at_most}
use Rattle.near_laws.specs.Leads.{least_lead, total_lead, worth_against, margins}

-- the parts of a head-to-head record
abbrev pub record_worths : List Worth
record_worths = match_points ∷ goal_difference ∷ goals ∷ []

-- the two sums over all matches that may come first
abbrev pub first_worths : List Worth
first_worths = goal_difference ∷ goals ∷ []

-- the sums over all matches that decide after the head-to-head
abbrev pub overall_worths : List Worth
overall_worths = goal_difference ∷ goals ∷ away_goals ∷ wins ∷ away_wins ∷ []

-- in the head-to-head of two clubs alone: the one's lead over the other, over the options that are
-- fit for both. What is fit for a list of clubs is the second argument here and below
abbrev pub pair_lead : Sheet → (List ℕ → List (List Score)) → ℕ → ℕ → Lead
pair_lead sheet fits front back =
    least_lead (margins (worth_among (front ∷ back ∷ [])) record_worths front back) sheet.fixtures
    (fits (front ∷ back ∷ []))

-- against a third club: what the one has from its matches with it less what the other has from its
-- own, over the options that are fit for all three
abbrev pub lead_against : Sheet → (List ℕ → List (List Score)) → ℕ → ℕ → ℕ → Lead
lead_against sheet fits front back rival =
    least_lead (margins (worth_against rival) record_worths front back) sheet.fixtures
    (fits (front ∷ back ∷ rival ∷ []))

-- in goal difference and goals over all matches
abbrev pub first_lead : Sheet → (List ℕ → List (List Score)) → ℕ → ℕ → Lead
first_lead sheet fits front back =
    least_lead (margins worth_to first_worths front back) sheet.fixtures
    (fits (front ∷ back ∷ []))

-- a lead with one part more at its end
abbrev pub with_part : ℤ → Lead → Lead
with_part part None = None
with_part part (Some numbers) = Some (numbers ++ part ∷ [])

-- in the sums that decide after the head-to-head, and then by the fixed rank, the lower before the
-- higher
abbrev pub tail_lead : Sheet → (List ℕ → List (List Score)) → ℕ → ℕ → Lead
tail_lead sheet fits front back =
    with_part (neg_ℤ (pos (rank_of sheet front)) -ℤ neg_ℤ (pos (rank_of sheet back)))
    (least_lead (margins worth_to overall_worths front back) sheet.fixtures
    (fits (front ∷ back ∷ [])))

-- in the head-to-head of the two and all of the others
abbrev pub group_lead : Sheet → (List ℕ → List (List Score)) → ℕ → ℕ → List ℕ → Lead
group_lead sheet fits front back others =
    total_lead (pair_lead sheet fits front back) (lead_against sheet fits front back) others

-- nothing in a part of the head-to-head
abbrev pub even_record : List ℤ
even_record = pos 0 ∷ pos 0 ∷ pos 0 ∷ []

-- in the head-to-head of the two and any of the others: who would add to the lead stays away
abbrev pub any_group_lead : Sheet → (List ℕ → List (List Score)) → ℕ → ℕ → List ℕ → Lead
any_group_lead sheet fits front back others =
    total_lead (pair_lead sheet fits front back)
    (λ rival. Some (at_most even_record (lead_against sheet fits front back rival))) others

-- how leads in a group decide, in the order of the criteria: by the whole group, by any part of it,
-- by the two sums that may come first, by what comes last. The head-to-head may be taken again over
-- any part of the group, as long as it leaves the two level; where two sums come first, it is taken
-- over a part from the start
abbrev pub decide_by : Order → Lead → Lead → Lead → Lead → Bool
decide_by HeadFirst whole part first last =
    is_ahead_by whole || (is_level_or_ahead_by part && is_ahead_by last)
decide_by OverallFirst whole part first last =
    is_ahead_by first
    || (is_level_or_ahead_by first
    && (is_ahead_by part || (is_level_or_ahead_by part && is_ahead_by last)))

-- of two clubs in a group with these others, all on one number of points, the one is surely ahead
abbrev pub leads_surely : Sheet → (List ℕ → List (List Score)) → ℕ → ℕ → List ℕ → Bool
leads_surely sheet fits front back others =
    decide_by sheet.order (group_lead sheet fits front back others)
    (any_group_lead sheet fits front back others) (first_lead sheet fits front back)
    (tail_lead sheet fits front back)
