-- Matches that have a score which is fit for a club and a rival, each of which has fit scores.
use Rattle.std.proofs.Common.{◌≡◌, ℕ, zero, suc, ◌<◌, ◌≤◌, ◌+◌, ◌⊎◌, Bool, true, false, not}
use Rattle.std.proofs.Common.{◌&&◌, ◌||◌, List, [], ◌∷◌, length, get_or, filter, refl, sym, ap}
use Rattle.std.proofs.Common.{◌∙◌, subst, arith}
use Rattle.std.specs.List.{list_all}
use Rattle.std.proofs.lemmas.Bool.{and_parts, and_from}
use Rattle.league_core.specs.declared.sheet.Fixture.{Fixture}
use Rattle.league_core.specs.declared.season.Score.{Score}
use Rattle.league_core.specs.declared.zone.Literal.{Literal}
use Rattle.league_core.specs.search.Options.{has_score, has_option}
use Rattle.near_laws.specs.Fits.{is_fit}
use Rattle.near_bound.specs.declared.tie.Tie.{Tie}
use Rattle.near_bound.specs.inside.FitEnds.{IsRivalSoFar, left_options}
use Rattle.near_bound.specs.inside.PairLeads.{HasFit}
use Rattle.near_bound.specs.inside.Ties.{IsTie, IsTieIn, match_at, fits_of}
use Rattle.near_bound.proofs.CommonFitLemmas.{StaysOut, some_score, some_fit, both_have}
use Rattle.near_bound.proofs.FitLeftLemmas.{has_score-filter, fit_at}
use Rattle.near_bound.proofs.LeastLemmas.{some_option}
use Rattle.near_bound.proofs.TieLemmas.{length-fit, none_there, some_there}

-- some score is fit for both
abbrev pub HaveBoth : Tie → List Literal → ℕ → ℕ → ℕ → Type 0
HaveBoth tie zone club rival k =
    has_option (get_or (fits_of tie zone (club ∷ rival ∷ [])) k []) ≡ true

-- one option alone, left by two tests, is left by both
joint_one : (options : List Score) (first second both : Score → Bool)
    → ((score other : Score) → has_score options score ≡ true → has_score options other ≡ true
    → score ≡ other)
    → has_option (filter first options) ≡ true → has_option (filter second options) ≡ true
    → ((score : Score) → both score ≡ (first score && second score))
    → has_option (filter both options) ≡ true
joint_one options first second both one is_first is_second is =
    let here = some_score (filter first options) is_first in
    let there = some_score (filter second options) is_second in
    let of_first = and_parts (has_score options here.0) (first here.0)
    (sym (has_score-filter first options here.0) ∙ here.1) in
    let of_second = and_parts (has_score options there.0) (second there.0)
    (sym (has_score-filter second options there.0) ∙ there.1) in
    let same : here.0 ≡ there.0 = one here.0 there.0 of_first.0 of_second.0 in
    some_option (filter both options) here.0
    (has_score-filter both options here.0
    ∙ and_from (has_score options here.0) (both here.0) of_first.0
    (is here.0
    ∙ and_from (first here.0) (second here.0) of_first.1 (ap second same ∙ of_second.1)))

-- a match with one score at most has it for both, if each club has a fit score there
pub one_both : (tie : Tie) (zone : List Literal) (club rival k : ℕ) → IsTie tie → IsTieIn tie zone
    → k < length tie.left.now.sheet.now.fixtures
    → ((score other : Score) → has_score (get_or (left_options tie zone) k []) score ≡ true
    → has_score (get_or (left_options tie zone) k []) other ≡ true → score ≡ other)
    → HasFit tie zone club → HasFit tie zone rival → HaveBoth tie zone club rival k
one_both tie zone club rival k tie_is is inside one own theirs =
    let left = tie.left.now in
    let sheet = left.sheet.now in
    let season = left.season.now in
    let d : Fixture = record { home = 0; away = 0 } in
    let options = get_or (left_options tie zone) k [] in
    let test : Score → ℕ → Bool = is_fit sheet season zone tie.points (match_at tie k) options in
    let many = is.stands.matches.many in
    let same = tie_is.left.many in
    let there : k < length (left_options tie zone) = omega (arith, many, same, inside) in
    ap has_option (fit_at sheet season zone tie.points (club ∷ rival ∷ []) k d inside there)
    ∙ joint_one options (λ score. list_all (test score) (club ∷ []))
    (λ score. list_all (test score) (rival ∷ []))
    (λ score. list_all (test score) (club ∷ rival ∷ [])) one
    (sym (ap has_option (fit_at sheet season zone tie.points (club ∷ []) k d inside there))
    ∙ some_fit left zone tie.points (club ∷ []) k tie_is.left is.stands inside own)
    (sym (ap has_option (fit_at sheet season zone tie.points (rival ∷ []) k d inside there))
    ∙ some_fit left zone tie.points (rival ∷ []) k tie_is.left is.stands inside theirs)
    (λ score. splits (test score club) (test score rival))
  where
    splits : (a b : Bool) → (a && (b && true)) ≡ ((a && true) && (b && true))
    splits true b = refl
    splits false b = refl

-- so has one of other clubs
pub out_both : (tie : Tie) (zone : List Literal) (club rival k : ℕ) → IsTie tie → IsTieIn tie zone
    → k < length tie.left.now.sheet.now.fixtures
    → StaysOut (match_at tie k) club ⊎ StaysOut (match_at tie k) rival
    → HasFit tie zone club → HasFit tie zone rival → HaveBoth tie zone club rival k
out_both tie zone club rival k tie_is is inside out own theirs =
    both_have tie.left.now zone tie.points club rival k (record { home = 0; away = 0 }) tie_is.left
    is.stands inside own theirs out

-- one fixture more has a score for both
pub both_taken : (tie : Tie) (zone : List Literal) (club rival k : ℕ) (lacks : Bool) → IsTie tie
    → IsTieIn tie zone → k < length tie.left.now.sheet.now.fixtures
    → HaveBoth tie zone club rival k → IsRivalSoFar tie zone club rival k lacks
    → IsRivalSoFar tie zone club rival (k + 1) lacks
both_taken tie zone club rival k true tie_is is inside both so_far = so_far
both_taken tie zone club rival k false tie_is is inside both so_far =
    let clubs = club ∷ rival ∷ [] in
    let long = length-fit tie.left.now zone tie.points clubs tie_is.left is.stands in
    some_there (fits_of tie zone clubs) k so_far (omega (arith, long, inside)) both

turned : (b c : Bool) → not b ≡ c → b ≡ not c
turned true c e = ap not e
turned false c e = ap not e

-- one fixture more has one, or none
pub meeting_taken : (tie : Tie) (zone : List Literal) (club rival k : ℕ) (before lacks : Bool)
    → IsTie tie → IsTieIn tie zone → k < length tie.left.now.sheet.now.fixtures
    → lacks ≡ not (has_option (get_or (fits_of tie zone (club ∷ rival ∷ [])) k []))
    → IsRivalSoFar tie zone club rival k before
    → IsRivalSoFar tie zone club rival (k + 1) (before || lacks)
meeting_taken tie zone club rival k true lacks tie_is is inside lacks_is so_far = so_far
meeting_taken tie zone club rival k false true tie_is is inside lacks_is so_far =
    let clubs = club ∷ rival ∷ [] in
    let long = length-fit tie.left.now zone tie.points clubs tie_is.left is.stands in
    ap not (none_there (fits_of tie zone clubs) k so_far (omega (arith, long, inside))
    (turned (has_option (get_or (fits_of tie zone clubs) k [])) true (sym lacks_is)))
meeting_taken tie zone club rival k false false tie_is is inside lacks_is so_far =
    both_taken tie zone club rival k false tie_is is inside
    (turned (has_option (get_or (fits_of tie zone (club ∷ rival ∷ [])) k [])) false (sym lacks_is))
    so_far

-- several fixtures more have one
pub both_between : (tie : Tie) (zone : List Literal) (club rival start many : ℕ) (lacks : Bool)
    → IsTie tie → IsTieIn tie zone → start + many ≤ length tie.left.now.sheet.now.fixtures
    → ((k : ℕ) → start ≤ k → k < start + many → HaveBoth tie zone club rival k)
    → IsRivalSoFar tie zone club rival start lacks
    → IsRivalSoFar tie zone club rival (start + many) lacks
both_between tie zone club rival start zero lacks tie_is is inside both so_far =
    subst (λ (n : ℕ). IsRivalSoFar tie zone club rival n lacks) (no_more start) so_far
  where
    no_more : (n : ℕ) → n ≡ n + 0
    no_more n = omega arith
both_between tie zone club rival start (suc many) lacks tie_is is inside both so_far =
    subst (λ (n : ℕ). IsRivalSoFar tie zone club rival n lacks) (one_more start many)
    (both_taken tie zone club rival (start + many) lacks tie_is is (omega (arith, inside))
    (both (start + many) (omega arith) (omega arith))
    (both_between tie zone club rival start many lacks tie_is is (omega (arith, inside))
    (λ k low high. both k low (omega (arith, high))) so_far))
  where
    one_more : (n m : ℕ) → n + m + 1 ≡ n + suc m
    one_more n m = omega arith
