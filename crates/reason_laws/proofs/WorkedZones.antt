-- Zones worked by hand: what the laws make of reasons that are computed there. Clubs are named by
-- letters in the comments, and count from 0 below, as fixtures do.
use Rattle.std.proofs.Common.{◌≡◌, true, false, List, [], ◌∷◌, None, map, refl, lit<}
use Rattle.std.proofs.lemmas.Bool.{false≢true}
use Rattle.league_core.specs.declared.sheet.Sheet.{Sheet}
use Rattle.league_core.specs.declared.question.Claim.TheVariants.{Inside, Outside}
use Rattle.league_core.specs.declared.zone.Test.TheVariants.{Home, Draw, HomeMost, Rival}
use Rattle.league_core.specs.declared.zone.Literal.{Literal}
use Rattle.league_core.specs.declared.zone.Reason.TheVariants.{Count, Low, Tie}
use Rattle.league_core.specs.game.Results.{Results}
use Rattle.league_core.specs.game.ClubSets.{clubs_below}
use Rattle.league_core.specs.game.Questions.{IsExample, full_question}
use Rattle.league_core.specs.game.Verdicts.{IsLost}
use Rattle.league_core.specs.search.Options.{has_finish, is_single}
use Rattle.league_core.specs.search.PointRanges.{least_points_of, most_points_of}
use Rattle.league_core.specs.search.SureOrder.{sure_order}
use Rattle.league_core.specs.search.Reasons.{has_reason}
use Rattle.league_core.specs.search.Trees.{Tree, refuted_leaf, branch}
use Rattle.league_core.specs.rows.WorkedRows.{sheet_of, vs, ended, played, pair}
use Rattle.reason_laws.proofs.DecidedLemmas.{single_decided_by_two}
use Rattle.reason_laws.proofs.RefutationLemmas.{refutation_shows}

-- ---- X and Y have 3 points and still play each other, C has none and one match left: a rival
-- before C fills the only place, and with neither before it C's 3 points are too few for both

abbrev four : Sheet
four = sheet_of (1 ∷ 2 ∷ 3 ∷ 4 ∷ []) (vs 1 3 ∷ vs 2 3 ∷ vs 0 3 ∷ vs 1 2 ∷ [])

abbrev four_season : Results
four_season = played (ended 1 0 ∷ ended 1 0 ∷ None ∷ None ∷ []) (0 ∷ 0 ∷ 0 ∷ 0 ∷ [])

abbrev refutation : Tree
refutation =
    branch (Rival 1) true (refuted_leaf Count true)
    (branch (Rival 2) true (refuted_leaf Count true)
    (refuted_leaf (Low (record { bits = 6 })) true))

c_has_lost : IsLost four four_season 0 1
unfolding has_reason has_finish least_points_of most_points_of clubs_below
c_has_lost =
    refutation_shows four four_season (full_question 0 1 Inside) refutation (lit< tt)
    (tt, refl, (tt, refl, refl))

-- ---- A and B with one rank and one match: at 0:0 all is level, and each claim has the lots that
-- favour it

abbrev twins : Sheet
twins = pair (1 ∷ 1 ∷ [])

abbrev unplayed : Results
unplayed = played (None ∷ []) (0 ∷ 0 ∷ [])

abbrev nil_nil : List Literal
nil_nil = record { test = Draw 0; yes = true } ∷ record { test = HomeMost 0 0; yes = true } ∷ []

a_is_first : IsExample twins unplayed (full_question 0 1 Inside)
    (played (ended 0 0 ∷ []) (0 ∷ 0 ∷ [])) (0 ∷ 1 ∷ [])
unfolding is_single has_reason has_finish least_points_of most_points_of sure_order
a_is_first =
    single_decided_by_two twins unplayed (full_question 0 1 Inside) nil_nil
    (played (ended 0 0 ∷ []) (0 ∷ 0 ∷ [])) (lit< tt) refl (λ h. false≢true h) (λ h. false≢true h)
    (record { deductions = refl; scores = refl })

a_is_second : IsExample twins unplayed (full_question 0 1 Outside)
    (played (ended 0 0 ∷ []) (0 ∷ 0 ∷ [])) (1 ∷ 0 ∷ [])
unfolding is_single has_reason has_finish least_points_of most_points_of sure_order
a_is_second =
    single_decided_by_two twins unplayed (full_question 0 1 Outside) nil_nil
    (played (ended 0 0 ∷ []) (0 ∷ 0 ∷ [])) (lit< tt) refl (λ h. false≢true h) (λ h. false≢true h)
    (record { deductions = refl; scores = refl })

-- at 1:0 B is surely below A: the criteria are a reason that A does not end outside, and none that
-- it does not end inside
one_nil : map
    (λ claim. has_reason twins unplayed (full_question 0 1 claim)
    (record { test = Home 0; yes = true } ∷ record { test = HomeMost 0 1; yes = true } ∷ []) Tie)
    (Outside ∷ Inside ∷ []) ≡ true ∷ false ∷ []
unfolding has_reason has_finish sure_order
one_nil = refl
