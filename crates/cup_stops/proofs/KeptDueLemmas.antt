-- Each proof line leaves due what can be met, if it was read for what can: no line asks of a club
-- that is none of the cup that a side of it be refuted.
use Rattle.std.proofs.Common.{◌≡◌, ℕ, ◌+◌, ℤ, Bool, true, false, ◌&&◌, ◌==◌, List, [], ◌∷◌, ◌++◌}
use Rattle.std.proofs.Common.{length, map, Option, Some, None, refl, ◌∙◌, subst}
use Rattle.std.specs.Prelude.{if◌then◌else◌, option_map}
use Rattle.std.specs.List.{flat_map, list_all}
use Rattle.std.proofs.lemmas.Bool.{and_from}
use Rattle.std.proofs.lemmas.List.Folds.{list_all-append}
use Rattle.league_core.specs.declared.question.Claim.{Claim}
use Rattle.league_core.specs.declared.question.Claim.TheVariants.{Inside, Outside}
use Rattle.league_core.specs.declared.season.Score.{Score}
use Rattle.league_core.specs.declared.zone.Literal.{Literal}
use Rattle.league_core.specs.game.Ranking.{are_lots}
use Rattle.league_core.specs.game.Sheets.{clubs_of}
use Rattle.league_core.specs.search.Zones.{with_test}
use Rattle.line_tokens.specs.LineRanges.{same_claim}
use Rattle.line_tokens.specs.declared.tree_line.TreeKind.{TreeKind}
use Rattle.line_tokens.specs.declared.tree_line.TreeKind.TheVariants.{Refutation}
use Rattle.cert_check.specs.declared.expected.Tally.{Tally}
use Rattle.cert_check.specs.ExpectedItems.{is_ending, is_tally_whole, with_fresh}
use Rattle.cert_check.specs.ExpectedItems.{with_open}
use Rattle.cert_check.specs.LineGrammars.{bad, go}
use Rattle.cert_check.proofs.NextLemmas.{bad-go, go-if, go-same}
use Rattle.cup_sheet.specs.CupFeeds.{joint_sheet}
use Rattle.cup_sheet.specs.CupLimits.{direct_places}
use Rattle.cup_sheet.specs.Cups.{clubs_together}
use Rattle.cup_sheet.specs.GroupQuestions.{GroupQuestion, has_group_reason}
use Rattle.cup_sheet.specs.KeyBounds.{others_kind}
use Rattle.cup_sheet.specs.Qualifying.{qualifies_at}
use Rattle.cup_text.specs.declared.cup_line.CupLine.{CupLine}
use Rattle.cup_text.specs.declared.cup_line.CupLine.TheVariants as line
use Rattle.cup_grammar.specs.PlacedGroups.{CupBasis, OwnNode, PlacedGroup, group_with, groups_at}
use Rattle.cup_grammar.specs.PlacedGroups.{is_group_test, is_reason_of_kind, open_node}
use Rattle.cup_grammar.specs.PlacedGroups.{placed_groups, refuted_node, split_node}
use Rattle.cup_grammar.specs.CupDues.{CupDue, after_cup_lots, after_cup_part, after_cup_parts}
use Rattle.cup_grammar.specs.CupDues.{after_cup_score, after_group_head, after_group_leaf}
use Rattle.cup_grammar.specs.CupDues.{after_group_node_if, after_groups_in, after_joint_head}
use Rattle.cup_grammar.specs.CupDues.{after_key_line, after_spent_in, after_spent_line}
use Rattle.cup_grammar.specs.CupDues.{cup_scores_due, ends_of_groups}
use Rattle.cup_grammar.specs.CupDues.{groups_line, is_on_claimed_side, is_same_kind}
use Rattle.cup_grammar.specs.CupDues.{key_of_head, may_be_listed, nodes, one_part}
use Rattle.cup_grammar.specs.CupDues.{others_due, scores_of_groups, side_trees_due}
use Rattle.cup_grammar.specs.CupDues.{spent_head, tree_head, whole_group_tree}
use Rattle.cup_grammar.specs.CupDues.{whole_joint_finish}
use Rattle.cup_stops.specs.inside.CupStops.{can_be_met, is_club_of_cup}

module _ (basis : CupBasis) where
  -- all of these can be met
  abbrev pub AreMet : List CupDue → Type 0
  AreMet dues = list_all (can_be_met basis) dues ≡ true

  -- what a line leaves that goes on
  pub left_met : (says holds : Bool) (dues more : List CupDue) → go says dues ≡ go holds more
      → AreMet dues → AreMet more
  left_met says holds dues more goes met = subst AreMet (go-same says holds dues more goes).1 met

  -- the same under a test
  pub tested_met : (test says holds : Bool) (dues more : List CupDue)
      → (if test then go says dues else bad) ≡ go holds more → AreMet dues → AreMet more
  tested_met test says holds dues more goes met =
      left_met says holds dues more (go-if test (go says dues) holds more goes).1 met

  -- ---- what is left

  -- scores and lots
  scores_met : (claim : Claim) (club : ℕ) (ended left : List (Option Score))
      → can_be_met basis (cup_scores_due claim club ended left) ≡ true
  scores_met claim club ended [] = refl
  scores_met claim club ended (None ∷ left) = refl
  scores_met claim club ended (Some played ∷ left) =
      scores_met claim club (ended ++ Some played ∷ []) left

  -- a joint finish before what else is
  finish_met : (claim : Claim) (club : ℕ) (ended left : List (Option Score))
      (dues : List CupDue) → AreMet dues → AreMet (cup_scores_due claim club ended left ∷ dues)
  finish_met claim club ended left dues met =
      and_from (can_be_met basis (cup_scores_due claim club ended left))
      (list_all (can_be_met basis) dues) (scores_met claim club ended left) met

  -- refutations
  heads_met : (group : PlacedGroup) (asked : ℕ → GroupQuestion) (clubs : List ℕ)
      → AreMet (map (λ club. tree_head group (asked club)) clubs)
  heads_met group asked [] = refl
  heads_met group asked (club ∷ clubs) = heads_met group asked clubs

  groups_met : (claim : Claim) (key : List ℤ) (groups : List PlacedGroup)
      → AreMet (flat_map (others_due claim key) groups)
  groups_met claim key [] = refl
  groups_met claim key (group ∷ groups) =
      let own = others_due claim key group in
      let later = flat_map (others_due claim key) groups in
      list_all-append (can_be_met basis) own later
      ∙ and_from (list_all (can_be_met basis) own) (list_all (can_be_met basis) later)
      (heads_met group (λ club. record { kind = others_kind claim; club = club; key = key })
      (clubs_of group.sheet))
      (groups_met claim key groups)

  -- ---- each line

  leaf_keeps : (kind : TreeKind) (group : PlacedGroup) (question : GroupQuestion)
      (zones : List (List Literal)) (tally : Tally) (says holds : Bool) (more : List CupDue)
      → after_group_leaf kind group question zones tally says ≡ go holds more → AreMet more
  leaf_keeps kind group question [] tally says holds more goes =
      left_met (says && is_tally_whole group.sheet.budget kind tally) holds [] more goes refl
  leaf_keeps kind group question (zone ∷ zones) tally says holds more goes =
      left_met says holds (nodes kind group question zone zones tally ∷ []) more goes refl

  pub node_keeps : (kind : TreeKind) (group : PlacedGroup) (question : GroupQuestion)
      (zone : List Literal) (zones : List (List Literal)) (tally : Tally) (found : Option OwnNode)
      (holds : Bool) (more : List CupDue)
      → after_group_node_if kind group question zone zones tally found ≡ go holds more
      → AreMet more
  node_keeps kind group question zone zones tally None holds more goes =
      absurd (bad-go holds more goes)
  node_keeps kind group question zone zones tally (Some (split_node test fresh)) holds more goes =
      tested_met (is_group_test group question test) true holds
      (nodes kind group question (with_test zone test true) (with_test zone test false ∷ zones)
      (with_fresh fresh tally) ∷ []) more goes refl
  node_keeps kind group question zone zones tally (Some (refuted_node reason fresh)) holds more
      goes =
      let says = has_group_reason direct_places group.sheet group.season question zone reason in
      leaf_keeps kind group question zones (with_fresh fresh tally) says holds more
      (go-if (is_reason_of_kind group question reason)
      (after_group_leaf kind group question zones (with_fresh fresh tally) says) holds more goes).1
  node_keeps kind group question zone zones tally (Some open_node) holds more goes =
      leaf_keeps kind group question zones (with_open tally) true holds more goes

  pub head_keeps : (group : PlacedGroup) (question : GroupQuestion) (it : CupLine) (holds : Bool)
      (more : List CupDue) → after_group_head group question it ≡ go holds more → AreMet more
  head_keeps group question (line.Tree kind club) holds more goes =
      tested_met (is_same_kind kind question.kind && (club == group.start.club + question.club))
      true holds (whole_group_tree Refutation group question ∷ []) more goes refl
  head_keeps group question _ holds more goes = absurd (bad-go holds more goes)

  pub listed_keeps : (claim : Claim) (club : ℕ) (key : List ℤ) (found : Option PlacedGroup)
      (it : CupLine) (holds : Bool) (more : List CupDue)
      → after_groups_in basis claim club key found it ≡ go holds more → AreMet more
  listed_keeps claim club key None it holds more goes = absurd (bad-go holds more goes)
  listed_keeps claim club key (Some mine) (line.Groups groups) holds more goes =
      let listed = groups_at (placed_groups basis) groups.list in
      tested_met (may_be_listed basis claim mine groups.list) true holds
      (side_trees_due claim club key mine listed) more goes (groups_met claim key listed)
  listed_keeps claim club key (Some mine) _ holds more goes = absurd (bad-go holds more goes)

  pub key_keeps : (claim : Claim) (club : ℕ) (it : CupLine) (holds : Bool) (more : List CupDue)
      → is_club_of_cup basis club ≡ true → after_key_line claim club it ≡ go holds more
      → AreMet more
  key_keeps claim club (line.KeyLine key) holds more met goes =
      left_met true holds (groups_line claim club key.parts ∷ []) more goes
      (and_from (is_club_of_cup basis club) true met refl)
  key_keeps claim club _ holds more met goes = absurd (bad-go holds more goes)

  pub finish_keeps : (claim : Claim) (club : ℕ) (it : CupLine) (holds : Bool) (more : List CupDue)
      → after_joint_head basis claim club it ≡ go holds more → AreMet more
  finish_keeps claim club (line.Finish side) holds more goes =
      tested_met (same_claim side claim) true holds (whole_joint_finish basis claim club ∷ []) more
      goes (finish_met claim club [] (scores_of_groups basis.seasons) [] refl)
  finish_keeps claim club _ holds more goes = absurd (bad-go holds more goes)

  pub spent_keeps : (extra : List CupDue) (it : CupLine) (holds : Bool) (more : List CupDue)
      → AreMet extra → after_spent_line basis extra it ≡ go holds more → AreMet more
  spent_keeps extra (line.Spent kind club key) holds more met goes =
      by_group (group_with (placed_groups basis) club) goes
    where
      by_group : (found : Option PlacedGroup)
          → after_spent_in basis kind club (key_of_head (option_map (λ it. it.parts) key)) found
          extra ≡ go holds more → AreMet more
      by_group None goes = absurd (bad-go holds more goes)
      by_group (Some group) goes = left_met true holds _ more goes met
  spent_keeps extra _ holds more met goes = absurd (bad-go holds more goes)

  pub one_keeps : (claim : Claim) (club : ℕ) (it : CupLine) (holds : Bool) (more : List CupDue)
      → after_cup_part basis claim club it ≡ go holds more → AreMet more
  one_keeps claim club (line.Finish side) holds more goes =
      finish_keeps claim club (line.Finish side) holds more goes
  one_keeps claim club it holds more goes = spent_keeps [] it holds more refl goes

  pub both_keep : (club : ℕ) (it : CupLine) (holds : Bool) (more : List CupDue)
      → after_cup_parts basis club it ≡ go holds more → AreMet more
  both_keep club (line.Finish Inside) holds more goes =
      left_met true holds (whole_joint_finish basis Inside club ∷ spent_head ∷ []) more goes
      (finish_met Inside club [] (scores_of_groups basis.seasons) (spent_head ∷ []) refl)
  both_keep club (line.Finish Outside) holds more goes = absurd (bad-go holds more goes)
  both_keep club it holds more goes = spent_keeps (one_part Outside club ∷ []) it holds more refl
      goes

  pub score_keeps : (claim : Claim) (club : ℕ) (ended left : List (Option Score)) (it : CupLine)
      (holds : Bool) (more : List CupDue)
      → after_cup_score basis claim club ended left it ≡ go holds more → AreMet more
  score_keeps claim club ended left (line.Score fixture ending) holds more goes =
      tested_met ((fixture == length ended) && is_ending (joint_sheet basis.cup) ending) true holds
      (cup_scores_due claim club (ended ++ Some ending ∷ []) left ∷ []) more goes
      (finish_met claim club (ended ++ Some ending ∷ []) left [] refl)
  score_keeps claim club ended left _ holds more goes = absurd (bad-go holds more goes)

  pub lots_keep : (claim : Claim) (club : ℕ) (ended : List (Option Score)) (it : CupLine)
      (holds : Bool) (more : List CupDue)
      → after_cup_lots basis claim club ended it ≡ go holds more → AreMet more
  lots_keep claim club ended (line.Lots list) holds more goes =
      tested_met (are_lots (clubs_together basis.cup.groups) list.list)
      (is_on_claimed_side claim
      (qualifies_at basis.cup (ends_of_groups basis.seasons ended) list.list club)) holds [] more
      goes refl
  lots_keep claim club ended _ holds more goes = absurd (bad-go holds more goes)
