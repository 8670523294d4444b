-- What the lines of a text may name: claims, clubs of its sheet, and the reasons of the leaves of a
-- tree.
use Rattle.std.specs.Prelude.{ℕ, Bool, true, false, not, ◌&&◌, ◌==◌, nat_lt, List, [], length, map}
use Rattle.std.specs.Prelude.{get_or}
use Rattle.std.specs.List.{list_all}
use Rattle.league_core.specs.declared.sheet.Sheet.{Sheet}
use Rattle.league_core.specs.declared.question.Claim.{Claim}
use Rattle.league_core.specs.declared.question.Claim.TheVariants.{Inside, Outside}
use Rattle.league_core.specs.declared.question.Question.{Question}
use Rattle.league_core.specs.declared.zone.Literal.{Literal}
use Rattle.league_core.specs.declared.zone.Reason.{Reason}
use Rattle.league_core.specs.declared.zone.Reason.TheVariants.{Count, Window, Low, High, Tie}
use Rattle.league_core.specs.declared.zone.Test.TheVariants.{Rival}
use Rattle.league_core.specs.game.ClubSets.{clubs_in}
use Rattle.league_core.specs.search.Reasons.{has_member}
use Rattle.cert_text.specs.TreeLines.{is_test_for}
use Rattle.wide_lines.specs.declared.wide_reason.WideReason.{WideReason}
use Rattle.wide_lines.specs.declared.wide_reason.WideReason.TheVariants as wide

-- both claims are the same
abbrev pub same_claim : Claim → Claim → Bool
same_claim Inside Inside = true
same_claim Inside Outside = false
same_claim Outside Inside = false
same_claim Outside Outside = true

-- the name of a club
abbrev pub name_of_club : Sheet → ℕ → List ℕ
name_of_club sheet club = get_or (map (λ it. it.name) sheet.clubs) club []

-- a set of clubs of the sheet without the question's own, with a member
abbrev pub is_set_for : Sheet → Question → List ℕ → Bool
is_set_for sheet question clubs =
    has_member clubs
    && list_all (λ club. nat_lt club (length sheet.clubs) && not (club == question.club)) clubs

-- a reason that a leaf of a tree for the question may have
abbrev pub is_reason_for : Sheet → Question → Reason → Bool
is_reason_for sheet question Count = true
is_reason_for sheet question Window = true
is_reason_for sheet question (Low set) = is_set_for sheet question (clubs_in set)
is_reason_for sheet question (High set) = is_set_for sheet question (clubs_in set)
is_reason_for sheet question Tie = true

-- a wide one: a near reason is by a rival of whom a test of the tree may be
abbrev pub is_wide_reason_for : Sheet → Question → WideReason → Bool
is_wide_reason_for sheet question (wide.Plain reason) = is_reason_for sheet question reason
is_wide_reason_for sheet question (wide.Near rival) = is_test_for sheet question (Rival rival)

-- a zone with tests alone that a tree for the question may have
abbrev pub is_path_for : Sheet → Question → List Literal → Bool
is_path_for sheet question zone = list_all (λ it. is_test_for sheet question it.test) zone
