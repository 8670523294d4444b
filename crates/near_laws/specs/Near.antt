-- The near reason: why a question holds at no member of a zone though matches are open. The points
-- of a rival are forced to be the club's own. Whichever clubs end level with the two, one of these
-- is surely on the wrong side of the club. This reason is this project's own.
use Rattle.std.specs.Prelude.{ℕ, ℤ, Bool, not, ◌&&◌, ◌||◌, ◌==◌, nat_le, int_le, List, [], ◌∷◌}
use Rattle.std.specs.Prelude.{length, filter}
use Rattle.std.specs.List.{list_all, list_any}
use Rattle.league_core.specs.declared.sheet.Sheet.{Sheet}
use Rattle.league_core.specs.declared.season.Score.{Score}
use Rattle.league_core.specs.declared.question.Question.{Question}
use Rattle.league_core.specs.declared.zone.Literal.{Literal}
use Rattle.league_core.specs.game.Results.{Results}
use Rattle.league_core.specs.search.Zones.{rivals_of, marked_before, marked_after}
use Rattle.league_core.specs.search.Options.{has_finish}
use Rattle.league_core.specs.search.PointRanges.{least_points_of, most_points_of, own_most}
use Rattle.league_core.specs.search.PointRanges.{own_least}
use Rattle.near_laws.specs.Fits.{fit_options, have_fit, is_able, is_surely_on}
use Rattle.near_laws.specs.SureLeads.{leads_surely}
use Rattle.near_laws.specs.Groups.{groups_with}

-- as many clubs may join a group or stay out, at most: so that there are at most 256 groups
abbrev pub most_loose : ℕ
most_loose = 8

-- a rival of the group is surely on the other side of the club than the zone marks it, if these
-- rivals and the club are level on points. A rival without a mark is not on a wrong side
abbrev pub is_wrong_in : Sheet → (List ℕ → List (List Score)) → List Literal → ℕ → List ℕ → ℕ
    → Bool
is_wrong_in sheet fits zone club group rival =
    let others = filter (λ other. not (other == rival)) group in
    (marked_after zone rival && leads_surely sheet fits rival club others)
    || (marked_before zone rival && leads_surely sheet fits club rival others)

-- some rival of the group is
abbrev pub has_wrong : Sheet → (List ℕ → List (List Score)) → List Literal → ℕ → List ℕ → Bool
has_wrong sheet fits zone club group = list_any (is_wrong_in sheet fits zone club group) group

-- the club's rivals that can have the points
abbrev pub able_rivals : Sheet → Results → List Literal → ℤ → ℕ → List ℕ
able_rivals sheet season zone points club =
    filter (is_able sheet season zone points) (rivals_of sheet club)

-- a rival that is on the points if this one is: itself, and each of the core, which are the rivals
-- that have these points whatever happens
abbrev pub is_held : Sheet → Results → List Literal → ℤ → ℕ → ℕ → Bool
is_held sheet season zone points rival other =
    (other == rival) || is_surely_on sheet season zone points other

-- few enough able rivals may be on the points or not, and each group that may form has a rival that
-- is surely wrong
abbrev pub are_all_groups_wrong : Sheet → Results → List Literal → ℤ → ℕ → ℕ → Bool
are_all_groups_wrong sheet season zone points club rival =
    let able = able_rivals sheet season zone points club in
    let held = is_held sheet season zone points rival in
    nat_le (length (filter (λ other. not (held other)) able)) most_loose
    && list_all (has_wrong sheet (fit_options sheet season zone points) zone club)
    (groups_with held able)

-- the club and the rival are not both on the points, with everyone where the zone marks it: one of
-- the two cannot have them; or this rival, or one that is sure to have them, has no score left for
-- a match with the club; or each group that may form has a wrong rival
abbrev pub cannot_both_have : Sheet → Results → List Literal → ℤ → ℕ → ℕ → Bool
cannot_both_have sheet season zone points club rival =
    not (is_able sheet season zone points club) || not (is_able sheet season zone points rival)
    || list_any (λ other. is_held sheet season zone points rival other
    && not (have_fit sheet season zone points (club ∷ other ∷ [])))
    (able_rivals sheet season zone points club)
    || are_all_groups_wrong sheet season zone points club rival

-- the rival is marked after the club, and has at the least what the club can have at the most
abbrev pub is_pressed_from_behind : Sheet → Results → Question → List Literal → ℕ → Bool
is_pressed_from_behind sheet season question zone rival =
    marked_after zone rival
    && int_le (own_most sheet season question zone)
    (least_points_of sheet season zone (rival ∷ []))

-- it is marked before the club, and has at the most what the club has at the least
abbrev pub is_pressed_from_ahead : Sheet → Results → Question → List Literal → ℕ → Bool
is_pressed_from_ahead sheet season question zone rival =
    marked_before zone rival
    && int_le (most_points_of sheet season zone (rival ∷ []))
    (own_least sheet season question zone)

-- the rival and the club would have to end on the same points, and cannot
abbrev pub refutes_by_near : Sheet → Results → Question → List Literal → ℕ → Bool
refutes_by_near sheet season question zone rival =
    (is_pressed_from_behind sheet season question zone rival
    && cannot_both_have sheet season zone (own_most sheet season question zone) question.club rival)
    || (is_pressed_from_ahead sheet season question zone rival
    && cannot_both_have sheet season zone (own_least sheet season question zone) question.club
    rival)

-- the zone has a finish, and the near reason holds there by this rival
unfoldable pub has_near_reason : Sheet → Results → Question → List Literal → ℕ → Bool
has_near_reason sheet season question zone rival =
    has_finish sheet season zone && refutes_by_near sheet season question zone rival
