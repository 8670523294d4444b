-- The rivals that a club cannot meet, while the open fixtures are walked.
use Rattle.std.proofs.Common.{◌≡◌, ◌≢◌, ℕ, ◌<◌, ◌≤◌, ◌+◌, ◌-◌, ◌⊎◌, inl, inr, Bool, true, false}
use Rattle.std.proofs.Common.{not, ◌&&◌, ◌||◌, ◌==◌, List, [], ◌∷◌, length, get_or, None, refl, sym}
use Rattle.std.proofs.Common.{ap, ◌∙◌, subst, eq-eqb, arith}
use Rattle.std.proofs.Math.Bool.{and-true, and-false, or-false}
use Rattle.std.proofs.lemmas.Bool.{cases_eq, ne_eqb}
use Rattle.league_core.specs.declared.club_set.ClubSet.{ClubSet}
use Rattle.league_core.specs.declared.sheet.Fixture.{Fixture}
use Rattle.league_core.specs.declared.zone.Literal.{Literal}
use Rattle.league_core.specs.game.ClubSets.{clubs_in}
use Rattle.league_core.specs.game.Sums.{has_club}
use Rattle.league_core.specs.search.Options.{has_option}
use Rattle.near_bound.specs.declared.tie.Tie.{Tie}
use Rattle.near_bound.specs.inside.AbleRivals.{lacks_fit}
use Rattle.near_bound.specs.inside.FitEnds.{AreRivalsSoFar, IsRivalSoFar, AreSides}
use Rattle.near_bound.specs.inside.MatchesLeft.{LeavesOneAtMost}
use Rattle.near_bound.specs.inside.PairLeads.{HasFit}
use Rattle.near_bound.specs.inside.PlayedParts.{is_open, open_fixtures}
use Rattle.near_bound.specs.inside.Ties.{IsTie, IsTieIn, match_at, fits_of}
use Rattle.near_bound.proofs.AbleClubLemmas.{open_walk, has_result}
use Rattle.near_bound.proofs.AllFitLemmas.{one_left, played_one}
use Rattle.near_bound.proofs.BothFitLemmas.{one_both, out_both, both_taken, meeting_taken}
use Rattle.near_bound.proofs.BothFitLemmas.{both_between}
use Rattle.near_bound.proofs.CommonFitLemmas.{StaysOut}
use Rattle.near_bound.proofs.TieLemmas.{length-fit, some_everywhere}

-- from a place to a later one with no open fixture between
rivals_between : (tie : Tie) (club start end : ℕ) (apart : ClubSet) → IsTie tie → start ≤ end
    → end ≤ length tie.left.now.sheet.now.fixtures
    → ((k : ℕ) → start ≤ k → k < end
    → is_open (get_or tie.left.now.season.now.scores k None) ≡ false)
    → AreRivalsSoFar tie club start apart → AreRivalsSoFar tie club end apart
rivals_between tie club start end apart tie_is ordered within closed so_far =
    λ zone is own rival inside other theirs.
    let many : start + (end - start) ≡ end = omega (arith, ordered) in
    let lacks = has_club (clubs_in apart) rival in
    let scores = tie_is.left.league.of_sheet.scores in
    subst (λ (n : ℕ). IsRivalSoFar tie zone club rival n lacks) many
    (both_between tie zone club rival start (end - start) lacks tie_is is
    (omega (arith, many, within))
    (λ k low high.
    let in_sheet : k < length tie.left.now.sheet.now.fixtures =
    omega (arith, many, within, high) in
    let played = has_result (get_or tie.left.now.season.now.scores k None)
    (closed k low (omega (arith, many, high))) in
    one_both tie zone club rival k tie_is is in_sheet
    (played_one tie zone k played.0 (omega (arith, scores, in_sheet)) played.1) own theirs)
    (so_far zone is own rival inside other theirs))

-- the walk begins at the first open fixture
pub meetings_begin : (tie : Tie) (club : ℕ) (apart : ClubSet) → IsTie tie → clubs_in apart ≡ []
    → AreRivalsSoFar tie club (get_or (open_fixtures tie.left.now.season.now.scores) 0
    (length tie.left.now.sheet.now.fixtures)) apart
meetings_begin tie club apart tie_is none =
    let walk = open_walk tie tie_is in
    rivals_between tie club 0 _ apart tie_is (omega arith) (walk.ends 0)
    (λ k low high. walk.before k low high) (λ zone is own rival inside other theirs.
    subst (λ (b : Bool). IsRivalSoFar tie zone club rival 0 b)
    (sym (ap (λ (xs : List ℕ). has_club xs rival) none)) refl)

-- and goes on from each to the next one
pub meetings_go_on : (tie : Tie) (club index : ℕ) (apart : ClubSet) → IsTie tie
    → index < length (open_fixtures tie.left.now.season.now.scores)
    → AreRivalsSoFar tie club (get_or (open_fixtures tie.left.now.season.now.scores) index
    (length tie.left.now.sheet.now.fixtures) + 1) apart
    → AreRivalsSoFar tie club (get_or (open_fixtures tie.left.now.season.now.scores) (index + 1)
    (length tie.left.now.sheet.now.fixtures)) apart
meetings_go_on tie club index apart tie_is there so_far =
    let walk = open_walk tie tie_is in
    let ordered = walk.ordered index there in
    rivals_between tie club _ _ apart tie_is (omega (arith, ordered)) (walk.ends (index + 1))
    (λ k low high. walk.between index k there (omega (arith, low)) high) so_far

-- ---- one open fixture

pub one_meets : (tie : Tie) (club fixture : ℕ) (apart : ClubSet) → IsTie tie
    → fixture < length tie.left.now.sheet.now.fixtures
    → LeavesOneAtMost (get_or tie.left.now.matches.now fixture (record {
      home_win = false;
      draw = false;
      away_win = false;
      home_least = 0;
      home_most = 0;
      away_least = 0;
      away_most = 0;
    }))
    → AreRivalsSoFar tie club fixture apart → AreRivalsSoFar tie club (fixture + 1) apart
one_meets tie club fixture apart tie_is of_sheet one so_far =
    λ zone is own rival inside other theirs.
    both_taken tie zone club rival fixture (has_club (clubs_in apart) rival) tie_is is of_sheet
    (one_both tie zone club rival fixture tie_is is of_sheet
    (one_left tie zone fixture _ (is.stands.matches.each fixture _
    (omega (arith, of_sheet, tie_is.left.many))) one) own theirs)
    (so_far zone is own rival inside other theirs)

-- a match without the club
pub none_meets : (tie : Tie) (club fixture : ℕ) (match : Fixture) (apart : ClubSet) → IsTie tie
    → fixture < length tie.left.now.sheet.now.fixtures → match ≡ match_at tie fixture
    → match.home ≢ club → match.away ≢ club
    → AreRivalsSoFar tie club fixture apart → AreRivalsSoFar tie club (fixture + 1) apart
none_meets tie club fixture match apart tie_is of_sheet match_is home away so_far =
    λ zone is own rival inside other theirs.
    both_taken tie zone club rival fixture (has_club (clubs_in apart) rival) tie_is is of_sheet
    (out_both tie zone club rival fixture tie_is is of_sheet
    (inl (subst (λ (m : Fixture). StaysOut m club) match_is (home, away))) own theirs)
    (so_far zone is own rival inside other theirs)

-- a match of the club and a rival
pub rival_meets : (tie : Tie) (club rival fixture : ℕ) (old new : ClubSet) (lacks : Bool)
    → IsTie tie → fixture < length tie.left.now.sheet.now.fixtures
    → AreSides (match_at tie fixture) club rival
    → ((zone : List Literal) → IsTieIn tie zone → lacks
    ≡ not (has_option (get_or (fits_of tie zone (club ∷ rival ∷ [])) fixture [])))
    → ((x : ℕ) → has_club (clubs_in new) x
    ≡ (has_club (clubs_in old) x || (lacks && (rival == x))))
    → AreRivalsSoFar tie club fixture old → AreRivalsSoFar tie club (fixture + 1) new
rival_meets tie club rival fixture old new lacks tie_is of_sheet sides lacks_is grows so_far =
    λ zone is own x inside other theirs.
    at zone is own x inside other theirs (cases_eq x rival)
  where
    at : (zone : List Literal) → IsTieIn tie zone → HasFit tie zone club → (x : ℕ)
        → x < length tie.left.now.sheet.now.clubs → x ≢ club → HasFit tie zone x
        → (x ≡ rival) ⊎ (x ≢ rival)
        → IsRivalSoFar tie zone club x (fixture + 1) (has_club (clubs_in new) x)
    at zone is own x inside other theirs (inl same) =
        let before = has_club (clubs_in old) x in
        let now : has_club (clubs_in new) x ≡ (before || lacks) =
        grows x
        ∙ ap (λ b. before || (lacks && b)) (eq-eqb rival x (sym same))
        ∙ ap (λ b. before || b) (and-true lacks) in
        subst (λ (b : Bool). IsRivalSoFar tie zone club x (fixture + 1) b) (sym now)
        (meeting_taken tie zone club x fixture before lacks tie_is is of_sheet
        (lacks_is zone is
        ∙ ap (λ n. not (has_option (get_or (fits_of tie zone (club ∷ n ∷ [])) fixture [])))
        (sym same))
        (so_far zone is own x inside other theirs))
    at zone is own x inside other theirs (inr not_rival) =
        let before = has_club (clubs_in old) x in
        let now : has_club (clubs_in new) x ≡ before =
        grows x
        ∙ ap (λ b. before || (lacks && b)) (ne_eqb rival x (λ e. not_rival (sym e)))
        ∙ ap (λ b. before || b) (and-false lacks)
        ∙ or-false before in
        subst (λ (b : Bool). IsRivalSoFar tie zone club x (fixture + 1) b) (sym now)
        (both_taken tie zone club x fixture before tie_is is of_sheet
        (out_both tie zone club x fixture tie_is is of_sheet (inr (sides x other not_rival)) own
        theirs)
        (so_far zone is own x inside other theirs))

-- ---- all fixtures

apart_is : (tie : Tie) (zone : List Literal) (club rival : ℕ) (lacks : Bool) → IsTie tie
    → IsTieIn tie zone
    → IsRivalSoFar tie zone club rival (length tie.left.now.sheet.now.fixtures) lacks
    → lacks ≡ lacks_fit tie zone club rival
apart_is tie zone club rival true tie_is is so_far = sym so_far
apart_is tie zone club rival false tie_is is so_far =
    let clubs = club ∷ rival ∷ [] in
    let long = length-fit tie.left.now zone tie.points clubs tie_is.left is.stands in
    sym (ap not (some_everywhere (fits_of tie zone clubs) (length tie.left.now.sheet.now.fixtures)
    so_far (omega (arith, long))))

pub rivals_apart : (tie : Tie) (club : ℕ) (apart rivals : ClubSet) (zone : List Literal)
    (rival : ℕ) → IsTie tie → IsTieIn tie zone → HasFit tie zone club
    → ((x : ℕ) → has_club (clubs_in rivals) x ≡ true
    → (x < length tie.left.now.sheet.now.clubs) × (x ≢ club) × HasFit tie zone x)
    → AreRivalsSoFar tie club (length tie.left.now.sheet.now.fixtures) apart
    → (has_club (clubs_in apart) rival && has_club (clubs_in rivals) rival)
    ≡ (has_club (clubs_in rivals) rival && lacks_fit tie zone club rival)
rivals_apart tie club apart rivals zone rival tie_is is own each so_far =
    by_set (has_club (clubs_in rivals) rival) (λ has.
    apart_is tie zone club rival (has_club (clubs_in apart) rival) tie_is is
    (so_far zone is own rival (each rival has).0 (each rival has).1 (each rival has).2))
  where
    found : Bool
    found = has_club (clubs_in apart) rival

    by_set : (b : Bool) → (b ≡ true → found ≡ lacks_fit tie zone club rival)
        → (found && b) ≡ (b && lacks_fit tie zone club rival)
    by_set true same = and-true found ∙ same refl
    by_set false same = and-false found
