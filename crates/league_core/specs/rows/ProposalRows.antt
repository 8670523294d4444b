-- Proposed finishes worked by hand, computed when the crate is checked. Clubs are named by letters
-- in the comments, and count from 0 below, as fixtures do.
use Rattle.std.specs.Prelude.{◌≡◌, true, false, List, [], ◌∷◌, Some, map, refl}
use Rattle.league_core.specs.declared.question.Claim.TheVariants.{Outside}
use Rattle.league_core.specs.declared.question.Question.{Question}
use Rattle.league_core.specs.declared.zone.Test.TheVariants.{Rival}
use Rattle.league_core.specs.declared.zone.Literal.{Literal}
use Rattle.league_core.specs.game.Questions.{full_question}
use Rattle.league_core.specs.search.Options.{score_of, scores_up_to}
use Rattle.league_core.specs.search.Proposals.{first_option, proposed_finish}
use Rattle.league_core.specs.rows.ZoneRows.{ended, yes, no, nine, nine_season, nine_zone}
use Rattle.league_core.specs.rows.ZoneRows.{nine_question}

-- ---- the option that is taken first, of all scores with up to two goals a side

-- between two clubs that are wished no points a draw costs two and a win three; between two that
-- are wished points a win brings three, and the least one at home is taken; one that is wished
-- points and one that is not give the widest margin
first_taken : first_option false false (scores_up_to 2) ∷ first_option true true
    (scores_up_to 2) ∷ first_option true false (scores_up_to 2) ∷ first_option false true
    (scores_up_to 2) ∷ [] ≡ Some (score_of 0 0) ∷ Some (score_of 1 0) ∷ Some (score_of 2 0) ∷ Some
    (score_of 0 2) ∷ []
first_taken = refl

-- C is wished points against Z, and X against Y neither: 2:0, and a draw
nine_proposed : (proposed_finish nine nine_season nine_question nine_zone).scores
    ≡ ended 1 0 ∷ ended 1 0 ∷ ended 2 0 ∷ ended 0 0 ∷ []
unfolding proposed_finish
nine_proposed = refl

-- X marked before C is wished points too, even if it is marked after it as well; for a place
-- outside C and X marked after it are wished none, and all others are
proposed_by_marks : map (λ (asked : Question × List Literal).
    (proposed_finish nine nine_season asked.0 asked.1).scores)
    ((nine_question, yes (Rival 1) ∷ no (Rival 2) ∷ []) ∷
    (nine_question, yes (Rival 1) ∷ no (Rival 1) ∷ []) ∷
    (full_question 0 1 Outside, no (Rival 1) ∷ []) ∷ [])
    ≡ (ended 1 0 ∷ ended 1 0 ∷ ended 2 0 ∷ ended 2 0 ∷ [])
    ∷ (ended 1 0 ∷ ended 1 0 ∷ ended 2 0 ∷ ended 2 0 ∷ [])
    ∷ (ended 1 0 ∷ ended 1 0 ∷ ended 0 2 ∷ ended 0 2 ∷ []) ∷ []
unfolding proposed_finish
proposed_by_marks = refl
