-- At a finish each score is fit for a club that ends on the points, so that the club is able, and
-- the fit options of some such clubs have the finish.
use Rattle.std.proofs.Common.{◌≡◌, ℕ, ℤ, pos, ◌+ℤ◌, ◌-ℤ◌, ◌≤ℤ◌, Bool, true, List, [], ◌∷◌, filter}
use Rattle.std.proofs.Common.{slice_index, Option, Some, None, refl, sym, ap, ◌∙◌, subst, arith}
use Rattle.std.proofs.Common.{◌==◌}
use Rattle.std.specs.Prelude.{int_le}
use Rattle.std.specs.List.{list_all}
use Rattle.std.specs.Ordering.{int_eq}
use Rattle.std.proofs.lemmas.Int.{ints}
use Rattle.std.proofs.Math.Bool.{or-false}
use Rattle.std.proofs.lemmas.Bool.{false≢true, and_parts, and_from, eqb-true}
use Rattle.std.proofs.lemmas.Bool.Decides.{Decides-int_eq}
use Rattle.std.proofs.lemmas.Map.Views.{any-filter_same}
use Rattle.league_core.specs.declared.sheet.Sheet.{Sheet}
use Rattle.league_core.specs.declared.sheet.Fixture.{Fixture}
use Rattle.league_core.specs.declared.season.Score.{Score}
use Rattle.league_core.specs.declared.zone.Literal.{Literal}
use Rattle.league_core.specs.game.Results.{Results}
use Rattle.league_core.specs.game.Finishes.{same_score}
use Rattle.league_core.specs.game.Sums.{sum_over, match_points, worth_to, points_of, has_club}
use Rattle.league_core.specs.search.Options.{options_in, has_score, takes_option, take_options}
use Rattle.league_core.specs.search.Options.{has_option, IsInBox}
use Rattle.league_core.specs.search.PointRanges.{Range, range_of, range_from, points_together}
use Rattle.league_core.specs.search.PointRanges.{points_range, deducted_from}
use Rattle.league_core.proofs.ClubLemmas.{all_members}
use Rattle.league_core.proofs.OptionLemmas.{same_score-true}
use Rattle.league_core.proofs.PointRangeLemmas.{range_bounds}
use Rattle.league_core.proofs.SumLemmas.{total_of-sum_over}
use Rattle.reason_laws.proofs.MemberLemmas.{sum_in_range}
use Rattle.near_laws.specs.Fits.{range_in, can_reach, is_fit, options_where, fit_options}
use Rattle.near_laws.specs.Fits.{have_fit, leaves_points, is_able, is_surely_on}

-- the points of a club over some fixtures
abbrev won : ℕ → List Fixture → List (Option Score) → ℤ
won club matches scores = sum_over (points_together (club ∷ [])) matches scores

-- what the club has in its range beside these fixtures, with what it wins there, leaves the points
abbrev Leaves : Range → Range → ℤ → ℤ → Type 0
Leaves all rest gained points =
    ((all.least -ℤ rest.least +ℤ gained) ≤ℤ points)
    × (points ≤ℤ (all.greatest -ℤ rest.greatest +ℤ gained))

-- an option that passes the test is among those that do
kept_option : (test : Score → Bool) (options : List Score) (score : Score)
    → has_score options score ≡ true → test score ≡ true
    → has_score (filter test options) score ≡ true
kept_option test options score has passes =
    any-filter_same (same_score score) test true
    (λ other same. ap test (sym (same_score-true score other same)) ∙ passes) options
    ∙ has

-- if the points are left beside all fixtures, each of them is fit
takes_where : (test : Fixture → List Score → Score → Bool) (ranges : ℕ → Range) (points : ℤ)
    (clubs : List ℕ)
    → ((match : Fixture) (options : List Score) (score : Score)
    → ((club : ℕ) → has_club clubs club ≡ true
    → Leaves (ranges club) (range_of (points_together (club ∷ []) match) options)
    (points_together (club ∷ []) match score) points)
    → test match options score ≡ true)
    → (matches : List Fixture) (options : List (List Score)) (scores : List (Option Score))
    → ((club : ℕ) → has_club clubs club ≡ true
    → Leaves (ranges club) (range_from (points_together (club ∷ [])) matches options)
    (won club matches scores) points)
    → take_options options scores ≡ true
    → take_options (options_where test matches options) scores ≡ true
takes_where test ranges points clubs passes [] options scores leaves takes = takes
takes_where test ranges points clubs passes (match ∷ matches) [] [] leaves takes = refl
takes_where test ranges points clubs passes (match ∷ matches)
    [] (ended ∷ scores) leaves takes = absurd (false≢true takes)
takes_where test ranges points clubs passes (match ∷ matches)
    (options ∷ more) [] leaves takes = absurd (false≢true takes)
takes_where test ranges points clubs passes (match ∷ matches)
    (options ∷ more) (None ∷ scores) leaves takes = absurd (false≢true takes)
takes_where test ranges points clubs passes (match ∷ matches)
    (options ∷ more) (Some score ∷ scores) leaves takes =
    let parts = and_parts (takes_option options (Some score)) (take_options more scores) takes in
    and_from (has_score (filter (test match options) options) score)
    (take_options (options_where test matches more) scores)
    (kept_option (test match options) options score parts.0
    (passes match options score (λ club among.
    let rest = sum_in_range (points_together (club ∷ [])) matches more scores parts.1 in
    let left = leaves club among in
    (omega (arith, ints), omega (arith, ints)))))
    (takes_where test ranges points clubs passes matches more scores
    (λ club among.
    let here = range_bounds (points_together (club ∷ []) match) options score parts.0 in
    let left = leaves club among in
    (omega (arith, ints), omega (arith, ints)))
    parts.1)

-- a club's points are its range's, with what it wins in place of what it can win
points_are : (sheet : Sheet) (season : Results) (zone : List Literal) (finish : Results) (club : ℕ)
    → IsInBox sheet season zone finish → points_of sheet finish club
    ≡ won club sheet.fixtures finish.scores -ℤ deducted_from season (club ∷ [])
points_are sheet season zone finish club box =
    let sums = total_of-sum_over (worth_to match_points) (club ∷ []) sheet.fixtures finish.scores
    in
    let same = ap (λ ds. pos (slice_index ds club)) box.deductions in
    omega (arith, ints)

all_leave : (sheet : Sheet) (season : Results) (zone : List Literal) (finish : Results) (club : ℕ)
    → IsInBox sheet season zone finish
    → Leaves (range_in sheet season zone club)
    (range_from (points_together (club ∷ [])) sheet.fixtures (options_in sheet season zone))
    (won club sheet.fixtures finish.scores) (points_of sheet finish club)
all_leave sheet season zone finish club box =
    let same = points_are sheet season zone finish club box in
    (omega (arith, ints), omega (arith, ints))

int_le-true : (a b : ℤ) → a ≤ℤ b → int_le a b ≡ true
int_le-true a b h = grind (arith, ints)

pub int_le-says : (a b : ℤ) → int_le a b ≡ true → a ≤ℤ b
int_le-says a b h = grind (arith, ints)

leaves_reach : (all here : Range) (given points : ℤ) → Leaves all here given points
    → can_reach all here given points ≡ true
leaves_reach all here given points leaves =
    and_from (int_le (all.least -ℤ here.least +ℤ given) points)
    (int_le points (all.greatest -ℤ here.greatest +ℤ given))
    (int_le-true (all.least -ℤ here.least +ℤ given) points leaves.0)
    (int_le-true points (all.greatest -ℤ here.greatest +ℤ given) leaves.1)

-- a finish in the box takes options that are fit for all of some clubs that end on the points
pub takes_fit : (sheet : Sheet) (season : Results) (zone : List Literal) (finish : Results)
    (points : ℤ) (clubs : List ℕ) → IsInBox sheet season zone finish
    → ((club : ℕ) → has_club clubs club ≡ true → points_of sheet finish club ≡ points)
    → take_options (fit_options sheet season zone points clubs) finish.scores ≡ true
takes_fit sheet season zone finish points clubs box on =
    takes_where
    (λ match options score. list_all (is_fit sheet season zone points match options score) clubs)
    (range_in sheet season zone) points clubs
    (λ match options score leaves. all_members
    (is_fit sheet season zone points match options score) clubs
    (λ club among. leaves_reach (range_in sheet season zone club)
    (range_of (points_together (club ∷ []) match) options)
    (points_together (club ∷ []) match score) points (leaves club among)))
    sheet.fixtures (options_in sheet season zone) finish.scores
    (λ club among. subst
    (λ (p : ℤ). Leaves (range_in sheet season zone club)
    (range_from (points_together (club ∷ [])) sheet.fixtures (options_in sheet season zone))
    (won club sheet.fixtures finish.scores) p) (on club among)
    (all_leave sheet season zone finish club box))
    box.scores

-- where a finish takes options there are some
some_option : (options : List Score) (score : Score) → has_score options score ≡ true
    → has_option options ≡ true
some_option [] score has = absurd (false≢true has)
some_option (option ∷ options) score has = refl

some_options : (options : List (List Score)) (scores : List (Option Score))
    → take_options options scores ≡ true → list_all has_option options ≡ true
some_options [] scores takes = refl
some_options (options ∷ more) [] takes = absurd (false≢true takes)
some_options (options ∷ more) (None ∷ scores) takes = absurd (false≢true takes)
some_options (options ∷ more) (Some score ∷ scores) takes =
    let parts = and_parts (has_score options score) (take_options more scores) takes in
    and_from (has_option options) (list_all has_option more) (some_option options score parts.0)
    (some_options more scores parts.1)

pub fit_are_left : (sheet : Sheet) (season : Results) (zone : List Literal) (finish : Results)
    (points : ℤ) (clubs : List ℕ) → IsInBox sheet season zone finish
    → ((club : ℕ) → has_club clubs club ≡ true → points_of sheet finish club ≡ points)
    → have_fit sheet season zone points clubs ≡ true
fit_are_left sheet season zone finish points clubs box on =
    some_options (fit_options sheet season zone points clubs) finish.scores
    (takes_fit sheet season zone finish points clubs box on)

-- of a list of one club, what holds of it holds of each
pub of_one : (Fact : ℕ → Type 0) (one club : ℕ) → Fact one → has_club (one ∷ []) club ≡ true
    → Fact club
of_one Fact one club is has =
    subst Fact (eqb-true one club (sym (or-false (one == club)) ∙ has)) is

-- a club that ends on the points is able
pub able_is : (sheet : Sheet) (season : Results) (zone : List Literal) (finish : Results)
    (points : ℤ) (club : ℕ) → IsInBox sheet season zone finish
    → points_of sheet finish club ≡ points → is_able sheet season zone points club ≡ true
able_is sheet season zone finish points club box on =
    let one : (other : ℕ) → has_club (club ∷ []) other ≡ true
    → points_of sheet finish other ≡ points =
    λ other has. of_one (λ c. points_of sheet finish c ≡ points) club other on has in
    let fit = fit_options sheet season zone points (club ∷ []) in
    let range = points_range sheet season fit (club ∷ []) in
    let bounds = sum_in_range (points_together (club ∷ [])) sheet.fixtures fit finish.scores
    (takes_fit sheet season zone finish points (club ∷ []) box one) in
    let same = points_are sheet season zone finish club box in
    and_from (have_fit sheet season zone points (club ∷ [])) (leaves_points range points)
    (fit_are_left sheet season zone finish points (club ∷ []) box one)
    (and_from (int_le range.least points) (int_le points range.greatest)
    (int_le-true range.least points (omega (arith, ints)))
    (int_le-true points range.greatest (omega (arith, ints))))

-- a club that is settled on the points ends on them
pub settled_is : (sheet : Sheet) (season : Results) (zone : List Literal) (finish : Results)
    (points : ℤ) (club : ℕ) → IsInBox sheet season zone finish
    → is_surely_on sheet season zone points club ≡ true → points_of sheet finish club ≡ points
settled_is sheet season zone finish points club box settled =
    let range = range_in sheet season zone club in
    let parts = and_parts (int_eq range.least points) (int_eq range.greatest points) settled in
    let low = (Decides-int_eq range.least points).0 parts.0 in
    let high = (Decides-int_eq range.greatest points).0 parts.1 in
    let bounds = sum_in_range (points_together (club ∷ [])) sheet.fixtures
    (options_in sheet season zone) finish.scores box.scores in
    let same = points_are sheet season zone finish club box in
    omega (arith, ints)
