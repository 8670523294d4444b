-- The points of clubs in a finish, kept by the clubs' numbers.
use Rattle.std.specs.Prelude.{◌≡◌, ◌<◌, ℕ, ℤ, pos, neg_ℤ, ◌≤ℤ◌, List, length, slice_index_or, None}
use Rattle.league_core.specs.declared.sheet.Sheet.{Sheet}
use Rattle.league_core.specs.game.Results.{Results}
use Rattle.league_core.specs.game.Sums.{match_points, worth_to, if_played, points_of}
use Rattle.score_box.specs.inside.Ends.{end_at}
use Rattle.example_finish.specs.inside.ProposalViews.{ProposedView, sheet_asked, finish_asked}

-- each club of the sheet has its points
abbrev pub ArePointsOver : Sheet → Results → List ℤ → Type 0
ArePointsOver sheet season points =
    (club : ℕ) → club < length sheet.clubs → end_at points club ≡ points_of sheet season club

-- all of them are at most this far from zero
abbrev pub ArePointsNear : ℕ → List ℤ → Type 0
ArePointsNear bound points =
    (club : ℕ) → (neg_ℤ (pos bound) ≤ℤ end_at points club) × (end_at points club ≤ℤ pos bound)

-- the points that a fixture of the proposed finish is worth to a club
abbrev pub points_proposed : ProposedView → ℕ → ℕ → ℤ
points_proposed asked club fixture =
    if_played (worth_to match_points club)
    (slice_index_or (sheet_asked asked).fixtures fixture (record { home = 0; away = 0 }))
    (slice_index_or (finish_asked asked).scores fixture None)
