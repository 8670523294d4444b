-- A question about a group has an example, or a tree that refutes it: zones are split until one
-- finish is left, as with a question of a table.
use Rattle.std.proofs.Common.{◌≡◌, ◌⊎◌, ◌<◌, Bool, true, false, ◌||◌, List, [], length, refl, sym}
use Rattle.std.proofs.Common.{ap₂, ◌∙◌, inl, inr}
use Rattle.std.specs.List.{list_all}
use Rattle.std.proofs.lemmas.Bool.{false≢true, and_parts}
use Rattle.std.proofs.lemmas.List.Folds.{list_all-append}
use Rattle.league_core.specs.declared.sheet.Sheet.{Sheet}
use Rattle.league_core.specs.declared.question.Question.{Question}
use Rattle.league_core.specs.declared.zone.Literal.{Literal}
use Rattle.league_core.specs.game.Results.{Results}
use Rattle.league_core.specs.game.Seasons.{IsSeasonOf}
use Rattle.league_core.specs.search.Splits.{is_proper}
use Rattle.league_core.specs.search.Zones.{with_test}
use Rattle.league_core.proofs.HalfLemmas.{root_has_finish}
use Rattle.depth_search.specs.inside.Cases.{Cases, left_open, refuted, split, HoldsBelow}
use Rattle.depth_search.specs.inside.Cases.{case_nodes, is_made}
use Rattle.depth_search.proofs.DecidedLemmas.{each_zone_decided}
use Rattle.answer_laws.proofs.DecidedLemmas.{season_kind}
use Rattle.cup_sheet.specs.declared.question.GroupReason.{GroupReason}
use Rattle.cup_sheet.specs.CupLimits.{direct_places}
use Rattle.cup_sheet.specs.GroupQuestions.{GroupQuestion, IsGroupExample, HasGroupExample}
use Rattle.cup_sheet.specs.GroupQuestions.{has_group_reason}
use Rattle.cup_sheet.specs.GroupTrees.{GroupTree, has_open_zone, ZonesMeet, IsGroupRefutation}
use Rattle.group_search.specs.inside.GroupTasks.{new_group_tree}
use Rattle.cup_decided.proofs.OneFinishLemmas.{one_found, table_question}

module _ (sheet : Sheet) (season : Results) (question : GroupQuestion)
    (of_sheet : IsSeasonOf sheet season) (club_in : question.club < length sheet.clubs) where
  -- what the question asks of the place
  abbrev of_table : Question
  of_table = table_question sheet season question of_sheet club_in

  -- below a zone no leaf is open, each reason holds, and each split is proper
  record IsGroupRefutedBelow (zone : List Literal) (tree : GroupTree) : Type 0 where
    refuted : has_open_zone tree ≡ false
    reasons : ZonesMeet
        (λ at reason fresh. has_group_reason direct_places sheet season question at reason ≡ true)
        (λ at test fresh. Unit {0}) zone tree
    proper : ZonesMeet (λ at reason fresh. Unit {0})
        (λ at test fresh. is_proper sheet season of_table at test ≡ true) zone tree

  no_leaf_open : (a b : Bool) → a ≡ false → b ≡ false → (a || b) ≡ false
  no_leaf_open a b first second = ap₂ (λ x y. x || y) first second

  cases_refute_below : (zone : List Literal) (cases : Cases GroupReason)
      → HoldsBelow
      (λ at reason. has_group_reason direct_places sheet season question at reason ≡ true)
      (λ at test. is_proper sheet season of_table at test ≡ true) zone cases
      → list_all is_made (case_nodes cases) ≡ true
      → IsGroupRefutedBelow zone (new_group_tree cases)
  cases_refute_below zone left_open holds made = absurd (false≢true made)
  cases_refute_below zone (refuted reason) holds made =
      record { refuted = refl; reasons = holds; proper = tt }
  cases_refute_below zone (split test yes_half no_half) holds made =
      let parts = and_parts (list_all is_made (case_nodes yes_half))
      (list_all is_made (case_nodes no_half))
      (sym (list_all-append is_made (case_nodes yes_half) (case_nodes no_half)) ∙ made) in
      let first = cases_refute_below (with_test zone test true) yes_half holds.1 parts.0 in
      let second = cases_refute_below (with_test zone test false) no_half holds.2 parts.1 in
      record {
        refuted = no_leaf_open (has_open_zone (new_group_tree yes_half))
            (has_open_zone (new_group_tree no_half)) first.refuted second.refuted;
        reasons = (tt, first.reasons, second.reasons);
        proper = (holds.0, first.proper, second.proper);
      }

  -- a tree that refutes the question, with proper splits
  abbrev pub HasProperTree : Type 0
  HasProperTree =
      (tree : GroupTree) × IsGroupRefutation direct_places sheet season question tree
      × ZonesMeet (λ at reason fresh. Unit {0})
      (λ at test fresh. is_proper sheet season of_table at test ≡ true) [] tree

  -- each question is decided
  pub group_question_decided :
      HasGroupExample direct_places sheet season question ⊎ HasProperTree
  group_question_decided =
      elim (each_zone_decided (season_kind sheet season of_table
      (λ zone found. IsGroupExample direct_places sheet season question found.0 found.1)
      (λ zone reason. has_group_reason direct_places sheet season question zone reason ≡ true)
      of_sheet (one_found sheet season question of_sheet club_in)
      (λ zone test holds found example. example)) []
      (root_has_finish sheet season))
      as (λ _. HasGroupExample direct_places sheet season question ⊎ HasProperTree) [
        | inl found ↦ inl (found.0.0, found.0.1, found.1)
        | inr found ↦
            let tree = cases_refute_below [] found.0 found.1 found.2 in
            inr (
              new_group_tree found.0,
              record { refuted = tree.refuted; reasons = tree.reasons },
              tree.proper,
            )
      ]
