-- A club of a cup has one seat, and there the name that it has in the cup.
use Rattle.std.proofs.Common.{◌≡◌, ◌<◌, ℕ, zero, suc, ◌+◌, List, [], ◌∷◌, ◌++◌, length, map, get_or}
use Rattle.std.proofs.Common.{slice_get, slice_index_or, Some, refl, sym, ap, ◌∙◌, arith}
use Rattle.std.proofs.lemmas.List.{map-append, length-map, get_or_append_left, get_or-append-add}
use Rattle.std.proofs.lemmas.Option.{none-some, same_Some, get_or_from_slice_get}
use Rattle.league_core.specs.declared.sheet.Sheet.{Sheet}
use Rattle.league_core.specs.declared.sheet.Club.{Club}
use Rattle.cup_sheet.specs.declared.cup.Cup.{Cup}
use Rattle.cup_sheet.specs.Cups.{clubs_of_groups}
use Rattle.cup_groups.specs.declared.seat.ClubSeat.{ClubSeat}
use Rattle.cup_groups.specs.inside.ClubSeats.{IsSeatOf}
use Rattle.cup_groups.specs.GroupStarts.{clubs_before}

-- clubs of two groups with one number are of one group
one_group : (groups : List Sheet) (number other : ℕ) (sheet last : Sheet) (own own_other : ℕ)
    → slice_get groups number ≡ Some sheet → own < length sheet.clubs
    → slice_get groups other ≡ Some last → own_other < length last.clubs
    → clubs_before groups number + own ≡ clubs_before groups other + own_other → number ≡ other
one_group [] number other sheet last own own_other there inside other_there within same =
    absurd (none-some sheet there)
one_group (group ∷ groups) zero zero sheet last own own_other there inside other_there within
    same = refl
one_group (group ∷ groups) zero (suc other) sheet last own own_other there inside other_there
    within same =
    let long = ap (λ (it : Sheet). length it.clubs) (same_Some group sheet there) in
    absurd (omega (arith, same, inside, long))
one_group (group ∷ groups) (suc number) zero sheet last own own_other there inside other_there
    within same =
    let long = ap (λ (it : Sheet). length it.clubs) (same_Some group last other_there) in
    absurd (omega (arith, same, within, long))
one_group (group ∷ groups) (suc number) (suc other) sheet last own own_other there inside
    other_there within same =
    ap suc (one_group groups number other sheet last own own_other there inside other_there within
    (omega (arith, same)))

-- so the club has one seat
pub one_seat : (cup : Cup) (club : ℕ) (seat other : ClubSeat) → IsSeatOf cup club seat
    → IsSeatOf cup club other → seat ≡ other
one_seat cup club seat other at last =
    let first = at.seat_in.first in
    let last_first = last.seat_in.first in
    let inside : seat.own < length at.seat_in.sheet.clubs =
    omega (arith, at.seat_in.inside, at.seat_in.count) in
    let within : other.own < length last.seat_in.sheet.clubs =
    omega (arith, last.seat_in.inside, last.seat_in.count) in
    let group = one_group cup.groups seat.group other.group at.seat_in.sheet last.seat_in.sheet
    seat.own other.own at.seat_in.there inside last.seat_in.there within
    (omega (arith, at.number, last.number, first, last_first)) in
    let starts = first ∙ ap (clubs_before cup.groups) group ∙ sym last_first in
    let there = ap (slice_get cup.groups) group ∙ last.seat_in.there in
    let sheets = same_Some at.seat_in.sheet last.seat_in.sheet
    (sym at.seat_in.there ∙ there) in
    let counts = at.seat_in.count ∙ ap (λ (it : Sheet). length it.clubs) sheets
    ∙ sym last.seat_in.count in
    let owns : seat.own ≡ other.own = omega (arith, at.number, last.number, starts) in
    (λ i. record { group = group i; first = starts i; count = counts i; own = owns i })

-- ---- names

abbrev names_of : List Club → List (List ℕ)
names_of clubs = map (λ c. c.name) clubs

-- the club of a group has the name of the club of the cup
name_at : (groups : List Sheet) (number own : ℕ) (sheet : Sheet) (d : List ℕ)
    → slice_get groups number ≡ Some sheet → own < length sheet.clubs
    → get_or (names_of (clubs_of_groups groups)) (clubs_before groups number + own) d
    ≡ get_or (names_of sheet.clubs) own d
name_at [] number own sheet d there inside = absurd (none-some sheet there)
name_at (group ∷ groups) zero own sheet d there inside =
    let is = same_Some group sheet there in
    let long = length-map group.clubs (λ (c : Club). c.name) in
    let count = ap (λ (it : Sheet). length it.clubs) is in
    let at : 0 + own ≡ own = omega arith in
    ap (λ n. get_or (names_of (group.clubs ++ clubs_of_groups groups)) n d) at
    ∙ ap (λ names. get_or names own d)
    (map-append (λ (c : Club). c.name) group.clubs (clubs_of_groups groups))
    ∙ get_or_append_left (names_of group.clubs) (names_of (clubs_of_groups groups)) d own
    (omega (arith, inside, long, count))
    ∙ ap (λ (it : Sheet). get_or (names_of it.clubs) own d) is
name_at (group ∷ groups) (suc number) own sheet d there inside =
    let long = length-map group.clubs (λ (c : Club). c.name) in
    let at : length group.clubs + clubs_before groups number + own
    ≡ length (names_of group.clubs) + (clubs_before groups number + own) = omega (arith, long) in
    ap (λ names. get_or names (length group.clubs + clubs_before groups number + own) d)
    (map-append (λ (c : Club). c.name) group.clubs (clubs_of_groups groups))
    ∙ ap (λ n. get_or (names_of group.clubs ++ names_of (clubs_of_groups groups)) n d) at
    ∙ get_or-append-add (names_of group.clubs) (names_of (clubs_of_groups groups))
    (clubs_before groups number + own) d
    ∙ name_at groups number own sheet d there inside

pub name_of_seat : (cup : Cup) (club : ℕ) (seat : ClubSeat) (sheet : Sheet)
    → IsSeatOf cup club seat → sheet ≡ slice_index_or cup.groups seat.group sheet
    → slice_index_or (names_of sheet.clubs) seat.own []
    ≡ slice_index_or (names_of (clubs_of_groups cup.groups)) club []
name_of_seat cup club seat sheet at is =
    let there = at.seat_in.sheet in
    let same : sheet ≡ there = is
    ∙ get_or_from_slice_get cup.groups seat.group there sheet at.seat_in.there in
    let inside : seat.own < length there.clubs =
    omega (arith, at.seat_in.inside, at.seat_in.count) in
    let number : club ≡ clubs_before cup.groups seat.group + seat.own =
    omega (arith, at.number, at.seat_in.first) in
    ap (λ (it : Sheet). slice_index_or (names_of it.clubs) seat.own []) same
    ∙ sym (ap (λ n. slice_index_or (names_of (clubs_of_groups cup.groups)) n []) number
    ∙ name_at cup.groups seat.group seat.own there [] at.seat_in.there inside)
