-- Whatever is looked at, the extremes of a fixture give the same as its options: least and greatest
-- values, whether there is one, and whether all have one outcome.
use Rattle.std.proofs.Common.{◌≡◌, ℕ, suc, ℤ, pos, ◌≤ℤ◌, Bool, true}
use Rattle.std.proofs.Common.{false, ◌&&◌, ◌||◌, ◌==◌, nat_lt, cond, List, [], ◌∷◌, refl}
use Rattle.std.proofs.Common.{arith}
use Rattle.std.specs.List.{list_all}
use Rattle.std.proofs.lemmas.Bool.{and_from, false≢true}
use Rattle.std.proofs.lemmas.Bool.Decides.{nat_tests, same_from_decides}
use Rattle.std.proofs.lemmas.Int.{ints}
use Rattle.league_core.specs.declared.sheet.Fixture.{Fixture}
use Rattle.league_core.specs.declared.season.Score.{Score}
use Rattle.league_core.specs.game.Sums.{has_club, worth_to, worth_among}
use Rattle.league_core.specs.search.Options.{has_score, has_option, has_one_outcome, same_outcome}
use Rattle.league_core.specs.search.PointRanges.{added, range_of, range_from, total_of}
use Rattle.league_core.specs.search.PointRanges.{points_together}
use Rattle.league_core.proofs.OptionLemmas.{has_score-first, all_options, each_option}
use Rattle.league_core.specs.game.Finishes.{same_score}
use Rattle.league_core.proofs.OutcomeLemmas.{same_outcome-joined, same_outcome-itself}
use Rattle.league_core.proofs.PointRangeLemmas.{least_reached, greatest_reached}
use Rattle.league_core.proofs.PointRangeLemmas.{range_bounds, least-is, greatest-is}
use Rattle.league_core.proofs.RangeLemmas.{same_range}
use Rattle.check_bounds.specs.declared.term.Measure.{Measure}
use Rattle.check_bounds.specs.declared.term.Measure.TheVariants as kind
use Rattle.check_bounds.specs.inside.Terms.{worth_by, side_worth}
use Rattle.check_bounds.specs.inside.ExtremeScores.{AreExtremesOf}
use Rattle.check_bounds.specs.inside.Zones.{AreAllExtremesOf}

-- there is an extreme if there is an option
pub some_same : (corners options : List Score) → AreExtremesOf corners options
    → has_option corners ≡ has_option options
some_same [] [] are = refl
some_same (c ∷ corners) (o ∷ options) are = refl
some_same [] (o ∷ options) are =
    absurd (false≢true (are.between o (has_score-first o options)).fewest_home.1)
some_same (c ∷ corners) [] are =
    absurd (false≢true (are.inside c (has_score-first c corners)))

-- a value that some extreme reaches from below at each option, and one from above
abbrev IsBounded : (Score → ℤ) → List Score → List Score → Type 0
IsBounded value corners options =
    (score : Score) → has_score options score ≡ true
    → ((c : Score) × (has_score corners c ≡ true) × (value c ≤ℤ value score))
    × ((c : Score) × (has_score corners c ≡ true) × (value score ≤ℤ value c))

range_same : (value : Score → ℤ) (corners options : List Score) → AreExtremesOf corners options
    → IsBounded value corners options → range_of value corners ≡ range_of value options
range_same value [] [] are bounded = refl
range_same value [] (o ∷ options) are bounded =
    absurd (false≢true (are.between o (has_score-first o options)).fewest_home.1)
range_same value (c ∷ corners) options are bounded =
    let all = c ∷ corners in
    let low = least_reached value all refl in
    let high = greatest_reached value all refl in
    same_range (range_of value all) (range_of value options)
    (least-is value options (range_of value all).least
    (λ score there.
    let corner = (bounded score there).0 in
    let least = (range_bounds value all corner.0 corner.1).0 in
    omega (arith, ints, corner.2, least))
    (low.0, are.inside low.0 low.1, low.2))
    (greatest-is value options (range_of value all).greatest
    (λ score there.
    let corner = (bounded score there).1 in
    let greatest = (range_bounds value all corner.0 corner.1).1 in
    omega (arith, ints, corner.2, greatest))
    (high.0, are.inside high.0 high.1, high.2))

-- all extremes have one outcome if all options have
pub one_same : (corners options : List Score) → AreExtremesOf corners options
    → has_one_outcome corners ≡ has_one_outcome options
one_same [] [] are = refl
one_same [] (o ∷ options) are =
    absurd (false≢true (are.between o (has_score-first o options)).fewest_home.1)
one_same (c ∷ corners) [] are =
    absurd (false≢true (are.inside c (has_score-first c corners)))
one_same (c ∷ corners) (o ∷ options) are =
    same_from_decides {P = has_one_outcome (o ∷ options) ≡ true}
    (list_all (same_outcome c) corners) (list_all (same_outcome o) options) (
      λ one. all_options (same_outcome o) options (λ score later.
          let first = (are.between o (has_score-first o options)).fewest_home in
          let found = (are.between score (or_later (same_score score o)
          (has_score options score) later)).fewest_home in
          joined c first.0 found.0 o score (in_all c corners one first.0 first.1)
          (in_all c corners one found.0 found.1) first.2 found.2),
      λ one. all_options (same_outcome c) corners (λ score later.
          let first = are.inside c (has_score-first c corners) in
          let found = are.inside score
          (or_later (same_score score c) (has_score corners score) later) in
          same_outcome-joined o c score (in_all o options one c first)
          (in_all o options one score found)),
    ) ((λ h. h), (λ h. h))
  where
    or_later : (a b : Bool) → b ≡ true → (a || b) ≡ true
    or_later true b h = refl
    or_later false b h = h

    in_all : (first : Score) (more : List Score) → list_all (same_outcome first) more ≡ true
        → (score : Score) → has_score (first ∷ more) score ≡ true
        → same_outcome first score ≡ true
    in_all first more one =
        each_option (same_outcome first) (first ∷ more)
        (and_from (same_outcome first first) (list_all (same_outcome first) more)
        (same_outcome-itself first) one)

    joined : (c first found o score : Score) → same_outcome c first ≡ true
        → same_outcome c found ≡ true → same_outcome first o ≡ true
        → same_outcome found score ≡ true → same_outcome o score ≡ true
    joined c first found o score cf cd fo ds =
        grind (arith, nat_tests)

-- two scores of one outcome
record AreAlike (c s : Score) : Type 0 where
  home : nat_lt c.away c.home ≡ nat_lt s.away s.home
  draw : (c.home == c.away) ≡ (s.home == s.away)
  drawn : (c.away == c.home) ≡ (s.away == s.home)
  away : nat_lt c.home c.away ≡ nat_lt s.home s.away

alike : (c s : Score) → same_outcome c s ≡ true → AreAlike c s
alike c s same = record {
  home = grind (arith, nat_tests);
  draw = grind (arith, nat_tests);
  drawn = grind (arith, nat_tests);
  away = grind (arith, nat_tests);
}

points_alike : (away : Bool) (c s : Score) → AreAlike c s
    → side_worth kind.Points away c ≡ side_worth kind.Points away s
points_alike true c s are = λ i. cond (are.away i) (pos 3) (cond (are.drawn i) (pos 1) (pos 0))
points_alike false c s are = λ i. cond (are.home i) (pos 3) (cond (are.draw i) (pos 1) (pos 0))

wins_alike : (away : Bool) (c s : Score) → AreAlike c s
    → side_worth kind.Wins away c ≡ side_worth kind.Wins away s
wins_alike true c s are = λ i. cond (are.away i) (pos 1) (pos 0)
wins_alike false c s are = λ i. cond (are.home i) (pos 1) (pos 0)

away_wins_alike : (away : Bool) (c s : Score) → AreAlike c s
    → side_worth kind.AwayWins away c ≡ side_worth kind.AwayWins away s
away_wins_alike true c s are = λ i. cond (are.away i) (pos 1) (pos 0)
away_wins_alike false c s are = refl

by_outcome : (value : Score → ℤ)
    → ((c s : Score) → same_outcome c s ≡ true → value c ≡ value s)
    → (corners options : List Score) → AreExtremesOf corners options
    → IsBounded value corners options
by_outcome value same corners options are score there =
    let corner = (are.between score there).fewest_home in
    let is = same corner.0 score corner.2 in
    ((corner.0, corner.1, omega (arith, ints, is)), (corner.0, corner.1, omega (arith, ints, is)))

-- what a score is worth to a side
pub side_same : (which : Measure) (away : Bool) (corners options : List Score)
    → AreExtremesOf corners options
    → range_of (side_worth which away) corners ≡ range_of (side_worth which away) options
side_same kind.Points away corners options are =
    range_same (side_worth kind.Points away) corners options are
    (by_outcome (side_worth kind.Points away)
    (λ c s same. points_alike away c s (alike c s same)) corners options are)
side_same kind.Wins away corners options are =
    range_same (side_worth kind.Wins away) corners options are
    (by_outcome (side_worth kind.Wins away)
    (λ c s same. wins_alike away c s (alike c s same)) corners options are)
side_same kind.AwayWins away corners options are =
    range_same (side_worth kind.AwayWins away) corners options are
    (by_outcome (side_worth kind.AwayWins away)
    (λ c s same. away_wins_alike away c s (alike c s same)) corners options are)
side_same kind.Goals false corners options are =
    range_same (side_worth kind.Goals false) corners options are
    (λ score there.
    let low = (are.between score there).fewest_home in
    let high = (are.between score there).most_home in
    ((low.0, low.1, omega (arith, ints, low.3)), (high.0, high.1, omega (arith, ints, high.3))))
side_same kind.Goals true corners options are =
    range_same (side_worth kind.Goals true) corners options are
    (λ score there.
    let low = (are.between score there).fewest_away in
    let high = (are.between score there).most_away in
    ((low.0, low.1, omega (arith, ints, low.3)), (high.0, high.1, omega (arith, ints, high.3))))
side_same kind.AwayGoals false corners options are =
    range_same (side_worth kind.AwayGoals false) corners options are
    (by_outcome (side_worth kind.AwayGoals false) (λ c s same. refl) corners options are)
side_same kind.AwayGoals true corners options are =
    range_same (side_worth kind.AwayGoals true) corners options are
    (λ score there.
    let low = (are.between score there).fewest_away in
    let high = (are.between score there).most_away in
    ((low.0, low.1, omega (arith, ints, low.3)), (high.0, high.1, omega (arith, ints, high.3))))
side_same kind.Difference false corners options are =
    range_same (side_worth kind.Difference false) corners options are
    (λ score there.
    let low = (are.between score there).least_lead in
    let high = (are.between score there).most_lead in
    ((low.0, low.1, omega (arith, ints, low.3)), (high.0, high.1, omega (arith, ints, high.3))))
side_same kind.Difference true corners options are =
    range_same (side_worth kind.Difference true) corners options are
    (λ score there.
    let low = (are.between score there).most_lead in
    let high = (are.between score there).least_lead in
    ((low.0, low.1, omega (arith, ints, low.3)), (high.0, high.1, omega (arith, ints, high.3))))

-- what it is worth to a club
pub worth_same : (which : Measure) (club : ℕ) (match : Fixture) (corners options : List Score)
    → AreExtremesOf corners options → range_of (worth_to (worth_by which) club match) corners
    ≡ range_of (worth_to (worth_by which) club match) options
worth_same which club match corners options are = at (match.home == club) (match.away == club)
  where
    at : (home away : Bool)
        → range_of (λ score. cond home (side_worth which false score)
        (cond away (side_worth which true score) (pos 0))) corners
        ≡ range_of (λ score. cond home (side_worth which false score)
        (cond away (side_worth which true score) (pos 0))) options
    at true away = side_same which false corners options are
    at false true = side_same which true corners options are
    at false false =
        range_same (λ score. pos 0) corners options are
        (by_outcome (λ score. pos 0) (λ c s same. refl) corners options are)

-- what it is worth to a club among others
pub among_same : (group : List ℕ) (which : Measure) (club : ℕ) (match : Fixture)
    (corners options : List Score) → AreExtremesOf corners options
    → range_of (worth_among group (worth_by which) club match) corners
    ≡ range_of (worth_among group (worth_by which) club match) options
among_same group which club match corners options are =
    at (has_club group match.home && has_club group match.away)
  where
    at : (counts : Bool)
        → range_of (λ score. cond counts (worth_to (worth_by which) club match score) (pos 0))
        corners
        ≡ range_of (λ score. cond counts (worth_to (worth_by which) club match score) (pos 0))
        options
    at true = worth_same which club match corners options are
    at false =
        range_same (λ score. pos 0) corners options are
        (by_outcome (λ score. pos 0) (λ c s same. refl) corners options are)

-- the match points of a set
pub together_same : (clubs : List ℕ) (match : Fixture) (corners options : List Score)
    → AreExtremesOf corners options
    → range_of (points_together clubs match) corners
    ≡ range_of (points_together clubs match) options
together_same clubs match corners options are =
    range_same (points_together clubs match) corners options are
    (by_outcome (points_together clubs match)
    (λ c s same. λ i. total_of (λ club. one (match.home == club) (match.away == club) c s
    (alike c s same) i) clubs) corners options are)
  where
    one : (home away : Bool) (c s : Score) → AreAlike c s
        → cond home (side_worth kind.Points false c)
        (cond away (side_worth kind.Points true c) (pos 0))
        ≡ cond home (side_worth kind.Points false s)
        (cond away (side_worth kind.Points true s) (pos 0))
    one true away c s are = points_alike false c s are
    one false true c s are = points_alike true c s are
    one false false c s are = refl

tail_of : (c : List Score) (corners : List (List Score)) (o : List Score)
    (options : List (List Score)) → AreAllExtremesOf (c ∷ corners) (o ∷ options)
    → AreAllExtremesOf corners options
tail_of c corners o options are = record {
  many = let e = are.many in omega (arith, e);
  each = λ k within. are.each (suc k) (omega (arith, within));
}

-- fixture by fixture
pub ranges_same : (value : Fixture → Score → ℤ)
    → ((match : Fixture) (corners options : List Score) → AreExtremesOf corners options
    → range_of (value match) corners ≡ range_of (value match) options)
    → (matches : List Fixture) (corners options : List (List Score))
    → AreAllExtremesOf corners options
    → range_from value matches corners ≡ range_from value matches options
ranges_same value same [] corners options are = refl
ranges_same value same (match ∷ matches) [] [] are = refl
ranges_same value same (match ∷ matches) [] (o ∷ options) are =
    let e = are.many in absurd (omega (arith, e))
ranges_same value same (match ∷ matches) (c ∷ corners) [] are =
    let e = are.many in absurd (omega (arith, e))
ranges_same value same (match ∷ matches) (c ∷ corners) (o ∷ options) are =
    λ i. added (same match c o (are.each 0 (omega arith)) i)
    (ranges_same value same matches corners options (tail_of c corners o options are) i)

-- a test of each
pub tests_same : (test : List Score → Bool)
    → ((corners options : List Score) → AreExtremesOf corners options
    → test corners ≡ test options)
    → (corners options : List (List Score)) → AreAllExtremesOf corners options
    → list_all test corners ≡ list_all test options
tests_same test same [] [] are = refl
tests_same test same [] (o ∷ options) are = let e = are.many in absurd (omega (arith, e))
tests_same test same (c ∷ corners) [] are = let e = are.many in absurd (omega (arith, e))
tests_same test same (c ∷ corners) (o ∷ options) are =
    λ i. same c o (are.each 0 (omega arith)) i
    && tests_same test same corners options (tail_of c corners o options are) i
