-- What is known of all clubs while the open fixtures are walked.
use Rattle.std.proofs.Common.{◌≡◌, ◌≢◌, ℕ, ◌<◌, ◌≤◌, ◌+◌, ◌-◌, ◌⊎◌, inl, inr, Bool, true, false}
use Rattle.std.proofs.Common.{List, length, get_or, Option, Some, None, [], ◌∷◌, ◌&&◌}
use Rattle.std.proofs.Common.{refl, sym, ap}
use Rattle.std.proofs.Common.{subst, arith, set, pos, ◌+ℤ◌, ◌-ℤ◌}
use Rattle.std.proofs.lemmas.Int.{ints}
use Rattle.std.proofs.lemmas.List.{get_or-set_same, get_or-set_other}
use Rattle.std.proofs.lemmas.Bool.{cases_eq, true≢false}
use Rattle.league_core.specs.declared.sheet.Fixture.{Fixture}
use Rattle.league_core.specs.declared.season.Score.{Score}
use Rattle.league_core.specs.declared.zone.Literal.{Literal}
use Rattle.league_core.specs.game.ClubSets.{clubs_in}
use Rattle.league_core.specs.game.Sums.{has_club}
use Rattle.league_core.specs.search.PointRanges.{points_range}
use Rattle.near_laws.specs.Fits.{have_fit, leaves_points}
use Rattle.near_bound.specs.inside.AbleRivals.{is_able_in}
use Rattle.near_bound.specs.declared.able.FitEnds.{FitEnds}
use Rattle.near_bound.specs.declared.points.PointEnds.{PointEnds}
use Rattle.near_bound.specs.declared.tie.Tie.{Tie}
use Rattle.near_bound.specs.inside.FitEnds.{AreClubsSoFar, ClubTakes, AreOthersKept, IsClubSoFar}
use Rattle.near_bound.specs.inside.FitEnds.{AreAllNear, AreFitEndsNear}
use Rattle.near_bound.specs.inside.MatchesLeft.{LeavesOneAtMost}
use Rattle.near_bound.specs.inside.PlayedParts.{is_open, open_fixtures}
use Rattle.near_bound.specs.inside.Points.{ends_listed, AreEndsWithin}
use Rattle.near_bound.specs.inside.Ties.{IsTie, IsTieIn, match_at, range_has_points, fits_of}
use Rattle.near_bound.proofs.CommonFitLemmas.{StaysOut}
use Rattle.near_bound.proofs.AllFitLemmas.{AreAllFit, elsewhere_fit, one_fit, one_left, played_one}
use Rattle.near_bound.proofs.FitEndLemmas.{all_taken, all_between, at_first}
use Rattle.near_bound.proofs.OpenLemmas.{IsWalk, filter_walk}

-- the open fixtures of a tie
pub open_walk : (tie : Tie) → IsTie tie
    → IsWalk (λ k. is_open (get_or tie.left.now.season.now.scores k None)) 0
    (length tie.left.now.sheet.now.fixtures) (open_fixtures tie.left.now.season.now.scores)
open_walk tie tie_is =
    subst (λ (end : ℕ). IsWalk (λ k. is_open (get_or scores k None)) 0 end (open_fixtures scores))
    (same (length scores) (length tie.left.now.sheet.now.fixtures)
    tie_is.left.league.of_sheet.scores)
    (filter_walk (λ k. is_open (get_or scores k None)) 0 (length scores))
  where
    scores : List (Option Score)
    scores = tie.left.now.season.now.scores

    same : (n m : ℕ) → n ≡ m → 0 + n ≡ m
    same n m e = omega (arith, e)

-- a fixture that is not open has a score
pub has_result : (played : Option Score) → is_open played ≡ false
    → (score : Score) × (played ≡ Some score)
has_result None closed = absurd (true≢false closed)
has_result (Some score) closed = (score, refl)

-- each option of a fixture with a result is fit
pub closed_fit : (tie : Tie) (zone : List Literal) (club k : ℕ) → IsTie tie → IsTieIn tie zone
    → club < length tie.left.now.sheet.now.clubs → k < length tie.left.now.sheet.now.fixtures
    → is_open (get_or tie.left.now.season.now.scores k None) ≡ false
    → range_has_points tie club ≡ true → AreAllFit tie zone club k
closed_fit tie zone club k tie_is is inside of_sheet closed has =
    let scores = tie_is.left.league.of_sheet.scores in
    let played = has_result (get_or tie.left.now.season.now.scores k None) closed in
    one_fit tie zone club k tie_is is inside of_sheet
    (played_one tie zone k played.0 (omega (arith, scores, of_sheet)) played.1) has

-- from a place to a later one with no open fixture between
pub clubs_between : (tie : Tie) (start end : ℕ) (all : FitEnds) → IsTie tie → start ≤ end
    → end ≤ length tie.left.now.sheet.now.fixtures
    → ((k : ℕ) → start ≤ k → k < end
    → is_open (get_or tie.left.now.season.now.scores k None) ≡ false)
    → AreClubsSoFar tie start all → AreClubsSoFar tie end all
clubs_between tie start end all tie_is ordered within closed so_far = λ zone is club inside has.
    let many : start + (end - start) ≡ end = omega (arith, ordered) in
    subst (λ (n : ℕ). IsClubSoFar tie zone club n (ends_listed all.ends club)
    (has_club (clubs_in all.lacking) club)) many
    (all_between tie zone club start (end - start) (ends_listed all.ends club)
    (has_club (clubs_in all.lacking) club) tie_is is (omega (arith, many, within))
    (λ k low high. closed_fit tie zone club k tie_is is inside (omega (arith, many, within, high))
    (closed k low (omega (arith, many, high))) has)
    (so_far zone is club inside has))

-- the walk begins at the first open fixture
pub walk_begins : (tie : Tie) (all : FitEnds) → IsTie tie → all.ends ≡ tie.ends
    → clubs_in all.lacking ≡ []
    → AreClubsSoFar tie (get_or (open_fixtures tie.left.now.season.now.scores) 0
    (length tie.left.now.sheet.now.fixtures)) all
walk_begins tie all tie_is same none =
    let walk = open_walk tie tie_is in
    clubs_between tie 0 _ all tie_is (omega arith) (walk.ends 0)
    (λ k low high. walk.before k low high) (λ zone is club inside has.
    subst (λ (b : Bool). IsClubSoFar tie zone club 0 (ends_listed all.ends club) b)
    (sym (ap (λ (xs : List ℕ). has_club xs club) none))
    (subst (λ (es : List PointEnds). IsClubSoFar tie zone club 0 (ends_listed es club) false)
    (sym same) (at_first tie zone club is inside)))

-- and goes on from each to the next one
pub walk_goes_on : (tie : Tie) (index : ℕ) (all : FitEnds) → IsTie tie
    → index < length (open_fixtures tie.left.now.season.now.scores)
    → AreClubsSoFar tie (get_or (open_fixtures tie.left.now.season.now.scores) index
    (length tie.left.now.sheet.now.fixtures) + 1) all
    → AreClubsSoFar tie (get_or (open_fixtures tie.left.now.season.now.scores) (index + 1)
    (length tie.left.now.sheet.now.fixtures)) all
walk_goes_on tie index all tie_is there so_far =
    let walk = open_walk tie tie_is in
    let ordered = walk.ordered index there in
    clubs_between tie _ _ all tie_is (omega (arith, ordered)) (walk.ends (index + 1))
    (λ k low high. walk.between index k there (omega (arith, low)) high) so_far

-- a club that lacks a fit score is not able
pub lacking_not_able : (tie : Tie) (zone : List Literal) (club : ℕ)
    → have_fit tie.left.now.sheet.now tie.left.now.season.now zone tie.points (club ∷ []) ≡ false
    → is_able_in tie zone club ≡ false
lacking_not_able tie zone club lacks =
    ap (λ b. b && leaves_points (points_range tie.left.now.sheet.now tie.left.now.season.now
    (fits_of tie zone (club ∷ [])) (club ∷ [])) tie.points) lacks

-- a match with one score at most changes nothing
pub one_takes : (tie : Tie) (fixture : ℕ) (all : FitEnds) → IsTie tie
    → fixture < length tie.left.now.sheet.now.fixtures
    → LeavesOneAtMost (get_or tie.left.now.matches.now fixture (record {
      home_win = false;
      draw = false;
      away_win = false;
      home_least = 0;
      home_most = 0;
      away_least = 0;
      away_most = 0;
    }))
    → AreClubsSoFar tie fixture all → AreClubsSoFar tie (fixture + 1) all
one_takes tie fixture all tie_is of_sheet one so_far = λ zone is club inside has.
    all_taken tie zone club fixture (ends_listed all.ends club)
    (has_club (clubs_in all.lacking) club) tie_is is of_sheet
    (one_fit tie zone club fixture tie_is is inside of_sheet
    (one_left tie zone fixture _ (is.stands.matches.each fixture _
    (omega (arith, of_sheet, tie_is.left.many))) one) has)
    (so_far zone is club inside has)

-- both sides of a match take it, and no other club does
pub sides_take : (tie : Tie) (fixture : ℕ) (match : Fixture) (old middle new : FitEnds) → IsTie tie
    → fixture < length tie.left.now.sheet.now.fixtures → match ≡ match_at tie fixture
    → match.home ≢ match.away → ClubTakes tie fixture match.home old middle
    → AreOthersKept match.home old middle → ClubTakes tie fixture match.away middle new
    → AreOthersKept match.away middle new
    → AreClubsSoFar tie fixture old → AreClubsSoFar tie (fixture + 1) new
sides_take tie fixture match old middle new tie_is of_sheet match_is apart home home_others away
    away_others so_far = λ zone is club inside has.
    by_away zone is club inside has (cases_eq club match.away)
  where
    So : List Literal → ℕ → ℕ → FitEnds → Type 0
    So zone club count all = IsClubSoFar tie zone club count (ends_listed all.ends club)
        (has_club (clubs_in all.lacking) club)

    kept : (zone : List Literal) (club side count : ℕ) (first second : FitEnds)
        → AreOthersKept side first second → club ≢ side → So zone club count first
        → So zone club count second
    kept zone club side count first second others other so =
        subst (λ (lacks : Bool). IsClubSoFar tie zone club count (ends_listed second.ends club)
        lacks) (sym (others.lacking club other))
        (subst (λ (ends : PointEnds). IsClubSoFar tie zone club count ends
        (has_club (clubs_in first.lacking) club)) (sym (others.ends club other)) so)

    by_home : (zone : List Literal) → IsTieIn tie zone → (club : ℕ)
        → club < length tie.left.now.sheet.now.clubs → range_has_points tie club ≡ true
        → club ≢ match.away → (club ≡ match.home) ⊎ (club ≢ match.home)
        → So zone club (fixture + 1) new
    by_home zone is club inside has not_away (inl same) =
        kept zone club match.away (fixture + 1) middle new away_others not_away
        (subst (λ (x : ℕ). So zone x (fixture + 1) middle) (sym same)
        (home zone is (subst (λ (x : ℕ). range_has_points tie x ≡ true) same has)
        (subst (λ (x : ℕ). So zone x fixture old) same (so_far zone is club inside has))))
    by_home zone is club inside has not_away (inr not_home) =
        kept zone club match.away (fixture + 1) middle new away_others not_away
        (kept zone club match.home (fixture + 1) old middle home_others not_home
        (all_taken tie zone club fixture (ends_listed old.ends club)
        (has_club (clubs_in old.lacking) club) tie_is is of_sheet
        (elsewhere_fit tie zone club fixture tie_is is inside of_sheet
        (subst (λ (m : Fixture). StaysOut m club) match_is
        (λ e. not_home (sym e), λ e. not_away (sym e))) has)
        (so_far zone is club inside has)))

    by_away : (zone : List Literal) → IsTieIn tie zone → (club : ℕ)
        → club < length tie.left.now.sheet.now.clubs → range_has_points tie club ≡ true
        → (club ≡ match.away) ⊎ (club ≢ match.away) → So zone club (fixture + 1) new
    by_away zone is club inside has (inl same) =
        subst (λ (x : ℕ). So zone x (fixture + 1) new) (sym same)
        (away zone is (subst (λ (x : ℕ). range_has_points tie x ≡ true) same has)
        (kept zone match.away match.home fixture old middle home_others (λ e. apart (sym e))
        (subst (λ (x : ℕ). So zone x fixture old) same (so_far zone is club inside has))))
    by_away zone is club inside has (inr not_away) =
        by_home zone is club inside has not_away (cases_eq club match.home)

-- an exchange moves a club's points by three at most
pub near_after : (tie : Tie) (bound club : ℕ) (table : List PointEnds) (here kept new : PointEnds)
    → club < length table → AreEndsWithin (pos 3) here → AreEndsWithin (pos 3) kept
    → new.least ≡ (ends_listed table club).least -ℤ here.least +ℤ kept.least
    → new.most ≡ (ends_listed table club).most -ℤ here.most +ℤ kept.most
    → club < length tie.left.now.sheet.now.clubs → AreAllNear tie bound table
    → AreAllNear tie (bound + 3) (set table club new)
near_after tie bound club table here kept new there here_in kept_in low high inside near =
    λ x x_in. at x x_in (cases_eq x club)
  where
    none : PointEnds
    none = record { least = pos 0; most = pos 0 }

    at : (x : ℕ) → x < length tie.left.now.sheet.now.clubs → (x ≡ club) ⊎ (x ≢ club)
        → AreFitEndsNear (bound + 3) (ends_listed (set table club new) x)
    at x x_in (inl same) =
        let old = near club inside in
        subst (λ (n : ℕ). AreFitEndsNear (bound + 3) (ends_listed (set table club new) n))
        (sym same)
        (subst (λ (e : PointEnds). AreFitEndsNear (bound + 3) e)
        (sym (get_or-set_same table club new none there)) (
          (
            omega (arith, ints, old.0.0, low, here_in.in_order, here_in.most, kept_in.least),
            omega (arith, ints, old.0.1, low, here_in.least, kept_in.in_order, kept_in.most),
          ),
          (
            omega (arith, ints, old.1.0, high, here_in.most, kept_in.least, kept_in.in_order),
            omega (arith, ints, old.1.1, high, here_in.least, here_in.in_order, kept_in.most),
          ),
        ))
    at x x_in (inr other) =
        let old = near x x_in in
        subst (λ (e : PointEnds). AreFitEndsNear (bound + 3) e)
        (sym (get_or-set_other table club x new none other)) (
          (omega (arith, ints, old.0.0), omega (arith, ints, old.0.1)),
          (omega (arith, ints, old.1.0), omega (arith, ints, old.1.1)),
        )

pub near_wider : (tie : Tie) (bound more : ℕ) (table : List PointEnds) → bound ≤ more
    → AreAllNear tie bound table → AreAllNear tie more table
near_wider tie bound more table wider near = λ club inside.
    let old = near club inside in (
      (omega (arith, ints, wider, old.0.0), omega (arith, ints, wider, old.0.1)),
      (omega (arith, ints, wider, old.1.0), omega (arith, ints, wider, old.1.1)),
    )

-- at first they are no more than a club can have
pub near_first : (tie : Tie) → IsTie tie → AreAllNear tie 1800 tie.ends
near_first tie tie_is = λ club inside.
    let near = tie_is.near club inside in (
      (omega (arith, ints, near.least), omega (arith, ints, near.in_order, near.most)),
      (omega (arith, ints, near.least, near.in_order), omega (arith, ints, near.most)),
    )
