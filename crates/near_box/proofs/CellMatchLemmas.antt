-- What is left between the ends of a cell's goals is what the cell has.
use Rattle.std.proofs.Common.{◌≡◌, ◌≤◌, Bool, true, false, ◌&&◌, ◌||◌, nat_le, cond, List, [], ◌∷◌}
use Rattle.std.proofs.Common.{◌++◌, ◌⊎◌, ◌≢◌, ◌<◌, ℕ, inl, inr, length, get_or}
use Rattle.std.proofs.Common.{Option, Some, None, is_some, refl, sym, ap, ◌∙◌, arith}
use Rattle.std.proofs.lemmas.Bool.{false≢true, or_left, or_right, and_parts, and_from, cases_eq}
use Rattle.std.proofs.lemmas.Bool.{le-leb, le-ltb, leb-true, eqb-true, ltb-true, ne_eqb}
use Rattle.std.proofs.lemmas.List.{length_push, get_or_push, get_or_append_left}
use Rattle.league_core.specs.declared.season.Score.{Score}
use Rattle.league_core.specs.search.Options.{is_home_win, is_draw, is_away_win, has_score}
use Rattle.league_core.proofs.OutcomeLemmas.{outcome_cases}
use Rattle.score_box.specs.declared.cell.Cell.{Cell}
use Rattle.score_box.specs.declared.cell.goals.ScoreRange.{ScoreRange}
use Rattle.score_box.specs.inside.Cells.{allows, keeps_outcome, IsAllowed, AllowsNone, IsBetween}
use Rattle.score_box.specs.inside.Cells.{IsScoreRangeOf}
use Rattle.score_box.proofs.CellLemmas.{IsInRanges, ranges_of, allows_from}
use Rattle.near_bound.specs.declared.match_left.MatchLeft.{MatchLeft}
use Rattle.near_bound.specs.inside.MatchesLeft.{is_score_left, are_goals_left, is_outcome_left}
use Rattle.near_bound.specs.inside.MatchesLeft.{IsLeftOf}
use Rattle.near_box.specs.inside.CellMatches.{IsLeftOfCell, IsRangeIfAny}
use Rattle.near_box.proofs.HullLemmas.{either_of}

-- what stands for the outcome of a score
abbrev by_outcome : Bool → Bool → Bool → Score → Bool
by_outcome home_win draw away_win score =
    cond (is_home_win score) home_win (cond (is_draw score) draw away_win)

at_home_win : (home_win draw away_win : Bool) (score : Score) → is_home_win score ≡ true
    → by_outcome home_win draw away_win score ≡ home_win
at_home_win home_win draw away_win score wins =
    ap (λ b. cond b home_win (cond (is_draw score) draw away_win)) wins

at_draw : (home_win draw away_win : Bool) (score : Score) → is_draw score ≡ true
    → by_outcome home_win draw away_win score ≡ draw
at_draw home_win draw away_win score level =
    let same : score.home ≡ score.away = eqb-true score.home score.away level in
    ap (λ b. cond b home_win (cond (is_draw score) draw away_win))
    (le-ltb score.away score.home (omega (arith, same)))
    ∙ ap (λ b. cond b draw away_win) level

at_away_win : (home_win draw away_win : Bool) (score : Score) → is_away_win score ≡ true
    → by_outcome home_win draw away_win score ≡ away_win
at_away_win home_win draw away_win score loses =
    let fewer : score.home < score.away = ltb-true score.home score.away loses in
    ap (λ b. cond b home_win (cond (is_draw score) draw away_win))
    (le-ltb score.away score.home (omega (arith, fewer)))
    ∙ ap (λ b. cond b draw away_win)
    (ne_eqb score.home score.away (λ e. absurd (omega (arith, fewer, e))))

-- a score of the cell that passes shows that there is one
is_there : (cell : Cell) (test : Score → Bool) (goals : Option ScoreRange) (score : Score)
    → IsRangeIfAny cell test goals → IsAllowed cell test score → is_some goals ≡ true
is_there cell test None score says is = absurd (says score is)
is_there cell test (Some goals) score says is = refl

-- where there is one, the cell keeps its outcome
one_there : (cell : Cell) (test : Score → Bool) (goals : Option ScoreRange)
    → IsRangeIfAny cell test goals → is_some goals ≡ true
    → (score : Score) × IsAllowed cell test score
one_there cell test None says is = absurd (false≢true is)
one_there cell test (Some goals) says is = (says.home_least.0, says.home_least.1)

kept : (cell : Cell) (test : Score → Bool) (goals : Option ScoreRange) (keeps : Bool)
    → ((score : Score) → test score ≡ true → keeps_outcome cell score ≡ keeps)
    → IsRangeIfAny cell test goals → is_some goals ≡ true → keeps ≡ true
kept cell test goals keeps at says is =
    let one = one_there cell test goals says is in
    sym (at one.0 one.1.passed) ∙ (ranges_of cell one.0 one.1.allowed).1

-- a score between the ends is within the cell's ranges
in_ranges : (cell : Cell) (test : Score → Bool) (goals : ScoreRange) (score : Score)
    → IsScoreRangeOf cell test goals → IsBetween goals score → IsInRanges cell score
in_ranges cell test goals score says between =
    let hl = (ranges_of cell says.home_least.0 says.home_least.1.allowed).0 in
    let hm = (ranges_of cell says.home_most.0 says.home_most.1.allowed).0 in
    let al = (ranges_of cell says.away_least.0 says.away_least.1.allowed).0 in
    let am = (ranges_of cell says.away_most.0 says.away_most.1.allowed).0 in record {
      home_least = omega (arith, hl.home_least, says.home_least.2, between.home_least);
      home_most = omega (arith, hm.home_most, says.home_most.2, between.home_most);
      away_least = omega (arith, al.away_least, says.away_least.2, between.away_least);
      away_most = omega (arith, am.away_most, says.away_most.2, between.away_most);
    }

-- the goals are left exactly if they are between the ends
between_of : (left : MatchLeft) (score : Score) → are_goals_left left score ≡ true
    → IsBetween (record {
      home_least = left.home_least;
      home_most = left.home_most;
      away_least = left.away_least;
      away_most = left.away_most;
    }) score
between_of left score is =
    let sides = and_parts (nat_le left.home_least score.home && nat_le score.home left.home_most)
    (nat_le left.away_least score.away && nat_le score.away left.away_most) is in
    let home = and_parts (nat_le left.home_least score.home) (nat_le score.home left.home_most)
    sides.0 in
    let away = and_parts (nat_le left.away_least score.away) (nat_le score.away left.away_most)
    sides.1 in record {
      home_least = leb-true left.home_least score.home home.0;
      home_most = leb-true score.home left.home_most home.1;
      away_least = leb-true left.away_least score.away away.0;
      away_most = leb-true score.away left.away_most away.1;
    }

goals_left : (left : MatchLeft) (score : Score) → left.home_least ≤ score.home
    → score.home ≤ left.home_most → left.away_least ≤ score.away → score.away ≤ left.away_most
    → are_goals_left left score ≡ true
goals_left left score hl hm al am =
    and_from _ _
    (and_from _ _ (le-leb left.home_least score.home hl) (le-leb score.home left.home_most hm))
    (and_from _ _ (le-leb left.away_least score.away al) (le-leb score.away left.away_most am))

-- two truths that follow from each other
same_truth : (one other : Bool) → (one ≡ true → other ≡ true) → (other ≡ true → one ≡ true)
    → one ≡ other
same_truth true other up down = sym (up refl)
same_truth false true up down = down refl
same_truth false false up down = refl

-- the outcomes that are there, with goals between the ends over all three, are the cell's scores
pub match_is : (cell : Cell) (home draws away : Option ScoreRange) (goals : ScoreRange)
    (left : MatchLeft) → IsRangeIfAny cell is_home_win home → IsRangeIfAny cell is_draw draws
    → IsRangeIfAny cell is_away_win away
    → IsScoreRangeOf cell (either_of (either_of is_home_win is_draw) is_away_win) goals
    → left.home_win ≡ is_some home → left.draw ≡ is_some draws → left.away_win ≡ is_some away
    → left.home_least ≡ goals.home_least → left.home_most ≡ goals.home_most
    → left.away_least ≡ goals.away_least → left.away_most ≡ goals.away_most
    → IsLeftOfCell left cell
match_is cell home draws away goals left homes levels aways all home_is draw_is away_is hl hm al am
    score =
    same_truth (is_score_left left score) (allows cell score) up down
  where
    up : is_score_left left score ≡ true → allows cell score ≡ true
    up is =
        let parts = and_parts (are_goals_left left score) (is_outcome_left left score) is in
        let at = between_of left score parts.0 in
        let ranges = in_ranges cell (either_of (either_of is_home_win is_draw) is_away_win) goals
        score all (record {
          home_least = omega (arith, hl, at.home_least);
          home_most = omega (arith, hm, at.home_most);
          away_least = omega (arith, al, at.away_least);
          away_most = omega (arith, am, at.away_most);
        }) in
        allows_from cell score ranges (outcome_cases score
        (λ wins.
        at_home_win cell.home_win cell.draw cell.away_win score wins
        ∙ kept cell is_home_win home cell.home_win
        (λ s w. at_home_win cell.home_win cell.draw cell.away_win s w) homes
        (sym home_is ∙ sym (at_home_win left.home_win left.draw left.away_win score wins)
        ∙ parts.1))
        (λ level.
        at_draw cell.home_win cell.draw cell.away_win score level
        ∙ kept cell is_draw draws cell.draw
        (λ s w. at_draw cell.home_win cell.draw cell.away_win s w) levels
        (sym draw_is ∙ sym (at_draw left.home_win left.draw left.away_win score level)
        ∙ parts.1))
        (λ loses.
        at_away_win cell.home_win cell.draw cell.away_win score loses
        ∙ kept cell is_away_win away cell.away_win
        (λ s w. at_away_win cell.home_win cell.draw cell.away_win s w) aways
        (sym away_is ∙ sym (at_away_win left.home_win left.draw left.away_win score loses)
        ∙ parts.1)))

    of_some : (((is_home_win score || is_draw score) || is_away_win score) ≡ true)
    of_some = outcome_cases score
        (λ wins. or_left (is_home_win score || is_draw score) (is_away_win score)
        (or_left (is_home_win score) (is_draw score) wins))
        (λ level. or_left (is_home_win score || is_draw score) (is_away_win score)
        (or_right (is_home_win score) (is_draw score) level))
        (λ loses. or_right (is_home_win score || is_draw score) (is_away_win score) loses)

    down : allows cell score ≡ true → is_score_left left score ≡ true
    down is =
        let at = all.within score (record { allowed = is; passed = of_some }) in
        and_from (are_goals_left left score) (is_outcome_left left score)
        (goals_left left score (omega (arith, hl, at.home_least))
        (omega (arith, hm, at.home_most)) (omega (arith, al, at.away_least))
        (omega (arith, am, at.away_most)))
        (outcome_cases score
        (λ wins.
        at_home_win left.home_win left.draw left.away_win score wins ∙ home_is
        ∙ is_there cell is_home_win home score homes (record { allowed = is; passed = wins }))
        (λ level.
        at_draw left.home_win left.draw left.away_win score level ∙ draw_is
        ∙ is_there cell is_draw draws score levels (record { allowed = is; passed = level }))
        (λ loses.
        at_away_win left.home_win left.draw left.away_win score loses ∙ away_is
        ∙ is_there cell is_away_win away score aways (record { allowed = is; passed = loses })))

-- no outcome is left, and the cell has no score
pub nothing_is : (cell : Cell) (left : MatchLeft)
    → AllowsNone cell (either_of (either_of is_home_win is_draw) is_away_win)
    → left.home_win ≡ false → left.draw ≡ false → left.away_win ≡ false
    → IsLeftOfCell left cell
nothing_is cell left none home_is draw_is away_is score =
    same_truth (is_score_left left score) (allows cell score)
    (λ is.
    let outcome = (and_parts (are_goals_left left score) (is_outcome_left left score) is).1 in
    absurd (false≢true (outcome_cases score
    (λ wins. sym home_is ∙ sym (at_home_win left.home_win left.draw left.away_win score wins)
    ∙ outcome)
    (λ level. sym draw_is ∙ sym (at_draw left.home_win left.draw left.away_win score level)
    ∙ outcome)
    (λ loses. sym away_is ∙ sym (at_away_win left.home_win left.draw left.away_win score loses)
    ∙ outcome))))
    (λ is. absurd (none score (record {
      allowed = is;
      passed = outcome_cases score
          (λ wins. or_left (is_home_win score || is_draw score) (is_away_win score)
          (or_left (is_home_win score) (is_draw score) wins))
          (λ level. or_left (is_home_win score || is_draw score) (is_away_win score)
          (or_right (is_home_win score) (is_draw score) level))
          (λ loses. or_right (is_home_win score || is_draw score) (is_away_win score) loses);
    })))

-- the matches so far have these options
abbrev pub HaveLeft : List MatchLeft → List (List Score) → Type 0
HaveLeft matches options =
    (k : ℕ) (d : MatchLeft) → k < length matches
    → IsLeftOf (get_or matches k d) (get_or options k [])

pub left_push : (matches : List MatchLeft) (match : MatchLeft) (options : List (List Score))
    → HaveLeft matches options → IsLeftOf match (get_or options (length matches) [])
    → HaveLeft (matches ++ match ∷ []) options
left_push matches match options have is k d within = at (cases_eq k (length matches))
  where
    at : (k ≡ length matches) ⊎ (k ≢ length matches)
        → IsLeftOf (get_or (matches ++ match ∷ []) k d) (get_or options k [])
    at (inl last) = λ score.
        ap (λ m. is_score_left m score) (get_or_push matches match d k (sym last))
        ∙ is score
        ∙ ap (λ n. has_score (get_or options n []) score) (sym last)
    at (inr before) =
        let below : k < length matches = omega (arith, length_push matches match, within, before) in
        λ score.
        ap (λ m. is_score_left m score) (get_or_append_left matches (match ∷ []) d k below)
        ∙ have k d below score
