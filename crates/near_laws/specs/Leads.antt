-- Leads: by how much one club is at least ahead of another in some sums, over the options that are
-- left. The sums are compared in turn, as in the ranking: by the first that differs. Added part by
-- part, leads that are the least of each fixture give a lead that no finish undercuts.
use Rattle.std.specs.Prelude.{ℕ, ℤ, pos, ◌+ℤ◌, ◌-ℤ◌, Bool, true, if◌then◌else◌, List, [], ◌∷◌, map}
use Rattle.std.specs.Prelude.{Option, Some, None}
use Rattle.std.specs.declared.cmp.Ordering.{Ordering}
use Rattle.std.specs.Ordering.{is_lt, is_le}
use Rattle.league_core.specs.declared.sheet.Fixture.{Fixture}
use Rattle.league_core.specs.declared.season.Score.{Score}
use Rattle.league_core.specs.game.Sums.{Worth, worth_to, has_club}
use Rattle.league_core.specs.game.HeadToHead.{by_first_difference}

-- numbers that are compared in turn, one club's less the other's; `None` is infinite: no option is
-- left
abbrev pub Lead : Type 0
Lead = Option (List ℤ)

-- no part is for either of the two
abbrev pub zeros : List ℤ → List ℤ
zeros numbers = map (λ number. pos 0) numbers

-- which of the two clubs these numbers put ahead: Less if it is the one whose numbers come first
abbrev pub by_lead : List ℤ → Ordering
by_lead numbers = by_first_difference numbers (zeros numbers)

-- the lead is above zero
abbrev pub is_ahead_by : Lead → Bool
is_ahead_by None = true
is_ahead_by (Some numbers) = is_lt (by_lead numbers)

-- the lead is zero or above
abbrev pub is_level_or_ahead_by : Lead → Bool
is_level_or_ahead_by None = true
is_level_or_ahead_by (Some numbers) = is_le (by_lead numbers)

-- the one of the two that is less
abbrev pub lesser : List ℤ → List ℤ → List ℤ
lesser numbers others = if is_lt (by_first_difference numbers others) then others else numbers

-- the lesser of these numbers and a lead
abbrev pub at_most : List ℤ → Lead → List ℤ
at_most numbers None = numbers
at_most numbers (Some others) = lesser numbers others

-- two lists of numbers, part by part
abbrev pub added_parts : List ℤ → List ℤ → List ℤ
added_parts [] others = []
added_parts (number ∷ numbers) [] = []
added_parts (number ∷ numbers) (other ∷ others) = (number +ℤ other) ∷ added_parts numbers others

-- both leads together
abbrev pub added_leads : Lead → Lead → Lead
added_leads None other = None
added_leads (Some numbers) None = None
added_leads (Some numbers) (Some others) = Some (added_parts numbers others)

-- what a score says of each value
abbrev pub numbers_at : List (Fixture → Score → ℤ) → Fixture → Score → List ℤ
numbers_at values match score = map (λ value. value match score) values

-- the least of what some scores say
abbrev pub least_of : (Score → List ℤ) → List Score → Lead
least_of numbers [] = None
least_of numbers (score ∷ options) = Some (at_most (numbers score) (least_of numbers options))

-- the least of each fixture's options, added over the fixtures
abbrev pub least_lead : List (Fixture → Score → ℤ) → List Fixture → List (List Score) → Lead
least_lead values [] options = Some (map (λ value. pos 0) values)
least_lead values (match ∷ matches) [] = Some (map (λ value. pos 0) values)
least_lead values (match ∷ matches) (options ∷ more) =
    added_leads (least_of (numbers_at values match) options) (least_lead values matches more)

-- a lead over some clubs together, on top of a first one
abbrev pub total_lead : Lead → (ℕ → Lead) → List ℕ → Lead
total_lead first lead [] = first
total_lead first lead (club ∷ clubs) = added_leads (lead club) (total_lead first lead clubs)

-- what a match is worth to a club if the rival is a side of it
abbrev pub worth_against : ℕ → Worth → ℕ → Fixture → Score → ℤ
worth_against rival worth club match score =
    if has_club (match.home ∷ match.away ∷ []) rival then worth_to worth club match score
    else pos 0

-- of each sum what the one club has, less what the other has
abbrev pub margins : (Worth → ℕ → Fixture → Score → ℤ) → List Worth → ℕ → ℕ
    → List (Fixture → Score → ℤ)
margins count worths front back =
    map (λ worth. λ match score. count worth front match score -ℤ count worth back match score)
    worths
