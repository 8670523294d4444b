-- The scores of a cell, outcome by outcome: which goals they have, and which scores reach the ends.
use Rattle.std.proofs.Common.{◌≡◌, ℕ, Option, Some, None, IfSome, MatchOption, ◌+◌, ◌-◌}
use Rattle.std.proofs.Common.{◌<◌, ◌≤◌, Bool, true, ◌&&◌, nat_le, max, min, cond, refl, sym, ap}
use Rattle.std.proofs.Common.{◌∙◌, arith}
use Rattle.std.proofs.lemmas.Bool.{and_parts, and_from, lt-ltb, le-ltb, le-leb, leb-true, ltb-true}
use Rattle.std.proofs.lemmas.Bool.{eq-eqb, eqb-true, ne_eqb}
use Rattle.league_core.specs.declared.season.Score.{Score}
use Rattle.league_core.specs.search.Options.{score_of, is_home_win, is_draw, is_away_win}
use Rattle.league_core.proofs.OutcomeLemmas.{outcome_cases}
use Rattle.score_box.specs.declared.cell.Cell.{Cell}
use Rattle.score_box.specs.declared.cell.goals.ScoreRange.{ScoreRange}
use Rattle.score_box.specs.inside.Cells.{is_within, keeps_outcome, allows, IsAllowed}
use Rattle.score_box.specs.inside.Cells.{IsScoreRangeOf}
use Rattle.score_box.specs.inside.Cells.{AllowsNone, IsAt}

-- the goals of a score lie in both ranges of the cell
pub record IsInRanges (cell : Cell) (score : Score) : Type 0 where
  pub home_least : cell.home_least ≤ score.home
  pub home_most : score.home ≤ cell.home_most
  pub away_least : cell.away_least ≤ score.away
  pub away_most : score.away ≤ cell.away_most

-- a score of the cell lies in its ranges, and the cell keeps its outcome
pub ranges_of : (cell : Cell) (score : Score) → allows cell score ≡ true → IsInRanges cell score
    × (keeps_outcome cell score ≡ true)
ranges_of cell score h =
    let outcome = and_parts (is_within cell.home_least cell.home_most score.home
    && is_within cell.away_least cell.away_most score.away) (keeps_outcome cell score) h in
    let sides = and_parts (is_within cell.home_least cell.home_most score.home) (is_within
    cell.away_least cell.away_most score.away) outcome.0 in
    let home = and_parts (nat_le cell.home_least score.home) (nat_le score.home
    cell.home_most) sides.0 in
    let away = and_parts (nat_le cell.away_least score.away) (nat_le score.away
    cell.away_most) sides.1 in (
      record {
        home_least = leb-true cell.home_least score.home home.0;
        home_most = leb-true score.home cell.home_most home.1;
        away_least = leb-true cell.away_least score.away away.0;
        away_most = leb-true score.away cell.away_most away.1;
      },
      outcome.1,
    )

-- and such a score is one of the cell's
pub allows_from : (cell : Cell) (score : Score) → IsInRanges cell score
    → keeps_outcome cell score ≡ true → allows cell score ≡ true
allows_from cell score ranges outcome =
    and_from _ _
    (and_from _ _
    (and_from _ _ (le-leb cell.home_least score.home ranges.home_least)
    (le-leb score.home cell.home_most ranges.home_most))
    (and_from _ _ (le-leb cell.away_least score.away ranges.away_least)
    (le-leb score.away cell.away_most ranges.away_most)))
    outcome

-- the outcome of a score is kept if the cell keeps home wins, draws or away wins
pub keeps_home_win : (cell : Cell) (score : Score) → score.away < score.home
    → keeps_outcome cell score ≡ cell.home_win
keeps_home_win cell score wins =
    ap (λ b. cond b cell.home_win (cond (is_draw score) cell.draw cell.away_win))
    (lt-ltb score.away score.home wins)

pub keeps_draw : (cell : Cell) (score : Score) → score.home ≡ score.away
    → keeps_outcome cell score ≡ cell.draw
keeps_draw cell score level =
    ap (λ b. cond b cell.home_win (cond (is_draw score) cell.draw cell.away_win))
    (le-ltb score.away score.home (omega arith))
    ∙ ap (λ b. cond b cell.draw cell.away_win) (eq-eqb score.home score.away level)

pub keeps_away_win : (cell : Cell) (score : Score) → score.home < score.away
    → keeps_outcome cell score ≡ cell.away_win
keeps_away_win cell score loses =
    ap (λ b. cond b cell.home_win (cond (is_draw score) cell.draw cell.away_win))
    (le-ltb score.away score.home (omega arith))
    ∙ ap (λ b. cond b cell.draw cell.away_win)
    (ne_eqb score.home score.away (λ e. absurd (omega arith)))

home_win_at : (cell : Cell) (home away : ℕ) → cell.home_win ≡ true
    → IsInRanges cell (score_of home away) → away < home
    → IsAllowed cell is_home_win (score_of home away)
home_win_at cell home away kept ranges wins = record {
  allowed = allows_from cell (score_of home away) ranges
      (keeps_home_win cell (score_of home away) wins ∙ kept);
  passed = lt-ltb away home wins;
}

draw_at : (cell : Cell) (goals : ℕ) → cell.draw ≡ true → IsInRanges cell (score_of goals goals)
    → IsAllowed cell is_draw (score_of goals goals)
draw_at cell goals kept ranges = record {
  allowed = allows_from cell (score_of goals goals) ranges
      (keeps_draw cell (score_of goals goals) refl ∙ kept);
  passed = eq-eqb goals goals refl;
}

away_win_at : (cell : Cell) (home away : ℕ) → cell.away_win ≡ true
    → IsInRanges cell (score_of home away) → home < away
    → IsAllowed cell is_away_win (score_of home away)
away_win_at cell home away kept ranges loses = record {
  allowed = allows_from cell (score_of home away) ranges
      (keeps_away_win cell (score_of home away) loses ∙ kept);
  passed = lt-ltb home away loses;
}

-- home wins: the home side scores more than the least of the away side, the away side less than the
-- most of the home side
pub home_wins_range : (cell : Cell) (least most : ℕ) → cell.home_win ≡ true
    → cell.home_least ≤ cell.home_most → cell.away_least ≤ cell.away_most
    → cell.away_least < cell.home_most → least ≡ max cell.home_least (cell.away_least + 1)
    → most ≡ min cell.away_most (cell.home_most - 1)
    → IsScoreRangeOf cell is_home_win
    (record {
      home_least = least;
      home_most = cell.home_most;
      away_least = cell.away_least;
      away_most = most;
    })
home_wins_range cell least most kept home away reach lower upper =
    let widest = home_win_at cell cell.home_most cell.away_least kept
    (record {
      home_least = omega arith;
      home_most = omega arith;
      away_least = omega arith;
      away_most = omega arith;
    }) reach in
    record {
      within = λ score is.
          let ranges = (ranges_of cell score is.allowed).0 in
          let wins : score.away < score.home = ltb-true score.away score.home is.passed in
          record {
            home_least = omega arith;
            home_most = omega arith;
            away_least = omega arith;
            away_most = omega arith;
          };
      home_least = (
        score_of least cell.away_least,
        home_win_at cell least cell.away_least kept
            (record {
              home_least = omega arith;
              home_most = omega arith;
              away_least = omega arith;
              away_most = omega arith;
            }) (omega arith),
        refl,
      );
      home_most = (score_of cell.home_most cell.away_least, widest, refl);
      away_least = (score_of cell.home_most cell.away_least, widest, refl);
      away_most = (
        score_of cell.home_most most,
        home_win_at cell cell.home_most most kept
            (record {
              home_least = omega arith;
              home_most = omega arith;
              away_least = omega arith;
              away_most = omega arith;
            }) (omega arith),
        refl,
      );
    }

-- draws: both sides score as many, in both ranges
pub draws_range : (cell : Cell) (least most : ℕ) → cell.draw ≡ true → least ≤ most
    → least ≡ max cell.home_least cell.away_least → most ≡ min cell.home_most cell.away_most
    → IsScoreRangeOf cell is_draw
    (record { home_least = least; home_most = most; away_least = least; away_most = most })
draws_range cell least most kept reach lower upper =
    let low = draw_at cell least kept (record {
      home_least = omega arith;
      home_most = omega arith;
      away_least = omega arith;
      away_most = omega arith;
    }) in
    let high = draw_at cell most kept (record {
      home_least = omega arith;
      home_most = omega arith;
      away_least = omega arith;
      away_most = omega arith;
    }) in
    record {
      within = λ score is.
          let ranges = (ranges_of cell score is.allowed).0 in
          let level : score.home ≡ score.away = eqb-true score.home score.away is.passed in
          record {
            home_least = omega arith;
            home_most = omega arith;
            away_least = omega arith;
            away_most = omega arith;
          };
      home_least = (score_of least least, low, refl);
      home_most = (score_of most most, high, refl);
      away_least = (score_of least least, low, refl);
      away_most = (score_of most most, high, refl);
    }

-- away wins: home wins with the sides exchanged
pub away_wins_range : (cell : Cell) (least most : ℕ) → cell.away_win ≡ true
    → cell.home_least ≤ cell.home_most → cell.away_least ≤ cell.away_most
    → cell.home_least < cell.away_most → most ≡ min cell.home_most (cell.away_most - 1)
    → least ≡ max cell.away_least (cell.home_least + 1)
    → IsScoreRangeOf cell is_away_win
    (record {
      home_least = cell.home_least;
      home_most = most;
      away_least = least;
      away_most =
          cell.away_most;
    })
away_wins_range cell least most kept home away reach upper lower =
    let widest = away_win_at cell cell.home_least cell.away_most kept
    (record {
      home_least = omega arith;
      home_most = omega arith;
      away_least = omega arith;
      away_most = omega arith;
    }) reach in
    record {
      within = λ score is.
          let ranges = (ranges_of cell score is.allowed).0 in
          let loses : score.home < score.away = ltb-true score.home score.away is.passed in
          record {
            home_least = omega arith;
            home_most = omega arith;
            away_least = omega arith;
            away_most = omega arith;
          };
      home_least = (score_of cell.home_least cell.away_most, widest, refl);
      home_most = (
        score_of most cell.away_most,
        away_win_at cell most cell.away_most kept
            (record {
              home_least = omega arith;
              home_most = omega arith;
              away_least = omega arith;
              away_most = omega arith;
            }) (omega arith),
        refl,
      );
      away_least = (
        score_of cell.home_least least,
        away_win_at cell cell.home_least least kept
            (record {
              home_least = omega arith;
              home_most = omega arith;
              away_least = omega arith;
              away_most = omega arith;
            }) (omega arith),
        refl,
      );
      away_most = (score_of cell.home_least cell.away_most, widest, refl);
    }

-- what is said of the goals of an outcome, if the cell has any
abbrev pub Says : Cell → (Score → Bool) → Option ScoreRange → Type 0
Says cell test goals = MatchOption goals (AllowsNone cell test) (IsScoreRangeOf cell test)

-- a score of an outcome whose goals are all at one score is that score
at_score : (cell : Cell) (test : Score → Bool) (goals : Option ScoreRange) (score other : Score)
    → Says cell test goals → IfSome goals (IsAt score) → IsAllowed cell test other → score ≡ other
at_score cell test None score other says at is = absurd (says other is)
at_score cell test (Some goals) score other says at is =
    let between = says.within other is in
    let home : score.home ≡ other.home = omega arith in
    let away : score.away ≡ other.away = omega arith in
    λ i. record { home = home i; away = away i }

-- if the goals of each outcome are all at one score, the cell has no other
pub no_other : (cell : Cell) (home draws away : Option ScoreRange) (score : Score)
    → Says cell is_home_win home → Says cell is_draw draws → Says cell is_away_win away
    → IfSome home (IsAt score) → IfSome draws (IsAt score) → IfSome away (IsAt score)
    → (other : Score) → allows cell other ≡ true → score ≡ other
no_other cell home draws away score home_says draws_say away_says home_at draws_at away_at other
    allowed =
    outcome_cases other
    (λ passed. at_score cell is_home_win home score other home_says home_at
    (record { allowed = allowed; passed = passed }))
    (λ passed. at_score cell is_draw draws score other draws_say draws_at
    (record { allowed = allowed; passed = passed }))
    (λ passed. at_score cell is_away_win away score other away_says away_at
    (record { allowed = allowed; passed = passed }))

-- if the cell has no other score, the goals of each outcome are all at it
pub all_at : (cell : Cell) (test : Score → Bool) (goals : Option ScoreRange) (score : Score)
    → Says cell test goals → ((other : Score) → allows cell other ≡ true → score ≡ other)
    → IfSome goals (IsAt score)
all_at cell test None score says only = tt
all_at cell test (Some goals) score says only = record {
  home_least = sym says.home_least.2
      ∙ sym (ap (λ (s : Score). s.home) (only says.home_least.0 says.home_least.1.allowed));
  home_most = sym says.home_most.2
      ∙ sym (ap (λ (s : Score). s.home) (only says.home_most.0 says.home_most.1.allowed));
  away_least = sym says.away_least.2
      ∙ sym (ap (λ (s : Score). s.away) (only says.away_least.0 says.away_least.1.allowed));
  away_most = sym says.away_most.2
      ∙ sym (ap (λ (s : Score). s.away) (only says.away_most.0 says.away_most.1.allowed));
}
