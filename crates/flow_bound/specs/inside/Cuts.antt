-- What sets the two cuts apart: which rivals are looked at, at which level their points are
-- counted, and what reason such a set is.
use Rattle.std.specs.Prelude.{ℕ, ℤ, pos, ◌-ℤ◌, Bool, List}
use Rattle.league_core.specs.declared.sheet.Sheet.{Sheet}
use Rattle.league_core.specs.declared.question.Question.{Question}
use Rattle.league_core.specs.declared.zone.Literal.{Literal}
use Rattle.league_core.specs.declared.zone.Reason.{Reason}
use Rattle.league_core.specs.declared.zone.Reason.TheVariants.{Low, High}
use Rattle.league_core.specs.declared.club_set.ClubSet.{ClubSet}
use Rattle.league_core.specs.game.Results.{Results}
use Rattle.league_core.specs.search.PointRanges.{own_least, own_most}
use Rattle.league_core.specs.search.Zones.{marked_after, marked_before}
use Rattle.flow_bound.specs.declared.cut.Cut.{Cut}
use Rattle.flow_bound.specs.declared.cut.Cut.TheVariants.{Floor, Ceiling}
use Rattle.flow_bound.specs.inside.Excess.{high_excess, low_excess}

-- the rivals of which a cut is a set
abbrev pub marked_for : Cut → List Literal → ℕ → Bool
marked_for Floor zone = marked_after zone
marked_for Ceiling zone = marked_before zone

-- what is counted for each club of a set, beside the end of its points
abbrev pub level_for : Cut → Sheet → Results → Question → List Literal → ℤ
level_for Floor sheet season question zone = pos 0 -ℤ own_most sheet season question zone
level_for Ceiling sheet season question zone = own_least sheet season question zone

-- how far a set goes beyond what the club's own points allow
abbrev pub excess_for : Cut → Sheet → Results → Question → List Literal → List ℕ → ℤ
excess_for Floor sheet season question zone = low_excess sheet season question zone
excess_for Ceiling sheet season question zone = high_excess sheet season question zone

-- the reason that a set is
abbrev pub reason_for : Cut → ClubSet → Reason
reason_for Floor set = Low set
reason_for Ceiling set = High set
