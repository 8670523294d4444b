-- What stands at a place of a JSON array, if it is what a form has there: places count from 0.
-- Fixtures and clubs count from 1 in texts, and from 0 here; how many of them a form may name is an
-- argument.
use Rattle.std.specs.Prelude.{ℕ, ◌+◌, ◌-◌, ◌^◌, ℤ, Bool, true, ◌&&◌, not, nat_le, List, []}
use Rattle.std.specs.Prelude.{◌∷◌, Option, Some, None, option_map, option_and_then}
use Rattle.std.specs.Prelude.{if◌then◌else◌, codes}
use Rattle.std.specs.Option.{is_some}
use Rattle.std.specs.Str.{bytes_eq}
use Rattle.serde_json.specs.Data.{Data, Items, no_items, item}
use Rattle.serde_json.specs.Find.{at, as_number, as_u64, as_i64, as_str, as_array}
use Rattle.league_core.specs.declared.club_set.ClubSet.{ClubSet}
use Rattle.league_core.specs.declared.question.Claim.{Claim}
use Rattle.league_core.specs.declared.question.Claim.TheVariants.{Inside, Outside}
use Rattle.league_core.specs.game.Limits.{most_clubs}
use Rattle.cert_text.specs.Ranges.{is_club_number, are_points}

-- nothing stands at the place, so that the array is no longer than this
abbrev pub is_end_at : ℕ → Data → Bool
is_end_at place shown = not (is_some (at place shown))

-- a string at the place
abbrev pub word_at : ℕ → Data → Option (List ℕ)
word_at place shown = option_and_then as_str (at place shown)

-- a number between these bounds
abbrev pub if_between : ℕ → ℕ → ℕ → Option ℕ
if_between least most number =
    if nat_le least number && nat_le number most then Some number else None

-- an integer between these bounds at the place
abbrev pub integer_at : ℕ → ℕ → ℕ → Data → Option ℕ
integer_at place least most shown =
    option_and_then (if_between least most)
    (option_and_then as_u64 (option_and_then as_number (at place shown)))

-- the number that a club or a fixture has here, by its number in texts
abbrev pub number_here : ℕ → ℕ
number_here number = number - 1

-- one of so many fixtures or clubs at the place
abbrev pub numbered_at : ℕ → ℕ → Data → Option ℕ
numbered_at most place shown = option_map number_here (integer_at place 1 most shown)

-- points that a club can have
abbrev pub if_points : ℤ → Option ℤ
if_points points = if are_points points then Some points else None

-- points at the place
abbrev pub points_at : ℕ → Data → Option ℤ
points_at place shown =
    option_and_then if_points
    (option_and_then as_i64 (option_and_then as_number (at place shown)))

-- the claim of this name
abbrev pub claim_named : List ℕ → Option Claim
claim_named name =
    if bytes_eq name (codes "inside") then Some Inside
    else if bytes_eq name (codes "outside") then Some Outside
    else None

-- a claim at the place
abbrev pub claim_at : ℕ → Data → Option Claim
claim_at place shown = option_and_then claim_named (word_at place shown)

-- one of so many clubs as an item of a list
abbrev pub listed_club : ℕ → Data → Option ℕ
listed_club most shown =
    option_map number_here
    (option_and_then (if_between 1 most) (option_and_then as_u64 (as_number shown)))

-- the clubs of a list, if each of its items is one of so many
abbrev pub listed_clubs : ℕ → Items → Option (List ℕ)
listed_clubs most no_items = Some []
listed_clubs most (item shown items) =
    option_and_then (λ club. option_map (λ clubs. club ∷ clubs) (listed_clubs most items))
    (listed_club most shown)

-- a list of so many clubs at the place
abbrev pub clubs_at : ℕ → ℕ → Data → Option (List ℕ)
clubs_at most place shown =
    option_and_then (listed_clubs most) (option_and_then as_array (at place shown))

-- each is a club that a sheet may have, from this number on, and above those before it
abbrev pub are_rising_from : ℕ → List ℕ → Bool
are_rising_from least [] = true
are_rising_from least (club ∷ clubs) =
    nat_le least club && is_club_number club && are_rising_from (club + 1) clubs

-- the number whose bits are at these places, each place named once
abbrev pub bits_at : List ℕ → ℕ
bits_at [] = 0
bits_at (place ∷ places) = 2 ^ place + bits_at places

-- the set of the clubs of a list that rises and has a club
abbrev pub set_listed : List ℕ → Option ClubSet
set_listed [] = None
set_listed (club ∷ clubs) =
    if are_rising_from 0 (club ∷ clubs) then Some (record { bits = bits_at (club ∷ clubs) })
    else None

-- a set of clubs of a league at the place
abbrev pub set_at : ℕ → Data → Option ClubSet
set_at place shown = option_and_then set_listed (clubs_at most_clubs place shown)
