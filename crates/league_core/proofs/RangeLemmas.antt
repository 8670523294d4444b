-- Ranges of sums: when two are one, how they are added, what leaves nothing, and that in the group
-- of all clubs every match counts.
use Rattle.std.proofs.Common.{◌≡◌, ℕ, ◌<◌, pos, true, not, ◌&&◌, ◌==◌, nat_lt, cond, List}
use Rattle.std.proofs.Common.{[], ◌∷◌, refl, ap, ◌∙◌, arith}
use Rattle.std.specs.List.{list_all}
use Rattle.std.proofs.lemmas.Int.{ints}
use Rattle.std.proofs.lemmas.Bool.{and_parts, and_from, ltb-true}
use Rattle.league_core.specs.declared.sheet.Fixture.{Fixture}
use Rattle.league_core.specs.declared.season.Score.{Score}
use Rattle.league_core.specs.game.Sheets.{is_fixture}
use Rattle.league_core.specs.game.Sums.{Worth, has_club, worth_to, worth_among}
use Rattle.league_core.specs.search.PointRanges.{Range, one_value, added, widened, range_of}
use Rattle.league_core.specs.search.PointRanges.{range_from}
use Rattle.league_core.proofs.PointRangeLemmas.{range_of-same}

-- ranges are one if both ends are
pub same_range : (range other : Range) → range.least ≡ other.least → range.greatest ≡ other.greatest
    → range ≡ other
same_range range other least greatest = λ j. record { least = least j; greatest = greatest j }

pub added-none : (range : Range) → added range (one_value (pos 0)) ≡ range
added-none range = same_range (added range (one_value (pos 0))) range (omega (arith, ints))
    (omega (arith, ints))

pub none-added : (range : Range) → added (one_value (pos 0)) range ≡ range
none-added range = same_range (added (one_value (pos 0)) range) range (omega (arith, ints))
    (omega (arith, ints))

pub added-assoc : (a b c : Range) → added (added a b) c ≡ added a (added b c)
added-assoc a b c = same_range (added (added a b) c) (added a (added b c)) (omega (arith, ints))
    (omega (arith, ints))

-- a value of nothing leaves nothing
pub range_of-none : (options : List Score) → range_of (λ score. pos 0) options ≡ one_value (pos 0)
range_of-none [] = refl
range_of-none (score ∷ []) = refl
range_of-none (score ∷ other ∷ options) = ap (widened (pos 0)) (range_of-none (other ∷ options))

-- in the group of all clubs every match counts
pub range_from-among_all : (group : List ℕ) (clubs : ℕ) (worth : Worth) (club : ℕ)
    (matches : List Fixture) (options : List (List Score))
    → ((x : ℕ) → x < clubs → has_club group x ≡ true) → list_all (is_fixture clubs) matches ≡ true
    → range_from (worth_among group worth club) matches options ≡ range_from (worth_to worth club)
    matches options
range_from-among_all group clubs worth club [] options has are = refl
range_from-among_all group clubs worth club (match ∷ matches) [] has are = refl
range_from-among_all group clubs worth club (match ∷ matches) (o ∷ options) has are =
    let here = and_parts (is_fixture clubs match) (list_all (is_fixture clubs) matches) are in
    let ends = and_parts (nat_lt match.home clubs && nat_lt match.away clubs)
    (not (match.home == match.away)) here.0 in
    let both = and_parts (nat_lt match.home clubs) (nat_lt match.away clubs) ends.0 in
    let counts : (has_club group match.home && has_club group match.away) ≡ true =
    and_from (has_club group match.home) (has_club group match.away)
    (has match.home (ltb-true match.home clubs both.0))
    (has match.away (ltb-true match.away clubs both.1)) in
    ap (λ r. added r (range_from (worth_among group worth club) matches options))
    (range_of-same (worth_among group worth club match) (worth_to worth club match) o
    (λ score. ap (λ b. cond b (worth_to worth club match score) (pos 0)) counts))
    ∙ ap (added (range_of (worth_to worth club match) o))
    (range_from-among_all group clubs worth club matches options has here.1)
