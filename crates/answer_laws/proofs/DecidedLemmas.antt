-- Each question has an example or a refutation, and an example is met by fair splits: by the weight
-- of zones.
use Rattle.std.proofs.Common.{◌≡◌, ◌⊎◌, inl, inr, ℕ, zero, suc, ◌<◌, ◌≤◌, Bool, true, false}
use Rattle.std.proofs.Common.{List, [], ◌∷◌, length, refl, sym, ◌∙◌, arith}
use Rattle.std.specs.List.{list_all}
use Rattle.std.proofs.lemmas.Bool.{false≢true, and_from, and_parts, cases_Bool}
use Rattle.std.proofs.lemmas.List.Folds.{list_all-append}
use Rattle.league_core.specs.declared.sheet.Sheet.{Sheet}
use Rattle.league_core.specs.declared.question.Question.{Question}
use Rattle.league_core.specs.declared.zone.Test.{Test}
use Rattle.league_core.specs.declared.zone.Literal.{Literal}
use Rattle.league_core.specs.declared.zone.Reason.{Reason}
use Rattle.league_core.specs.declared.zone.Reason.TheVariants.{Window, Tie}
use Rattle.league_core.specs.game.Results.{Results, are_results}
use Rattle.league_core.specs.game.Seasons.{IsSeasonOf, IsLeague}
use Rattle.league_core.specs.game.Questions.{IsExample, IsQuestionOf, holds_at}
use Rattle.league_core.specs.game.Verdicts.{HasExample, HasNoExample}
use Rattle.league_core.specs.inside.LotsFor.{lots_for_claim}
use Rattle.league_core.specs.search.Zones.{IsMember, with_test}
use Rattle.league_core.specs.search.Options.{has_finish, is_single, IsInBox}
use Rattle.league_core.specs.search.Proposals.{proposed_finish}
use Rattle.league_core.specs.search.Reasons.{has_reason}
use Rattle.league_core.specs.search.Splits.{IsFairSplit, IsProperNode, AreReasonsTrue, is_proper}
use Rattle.league_core.specs.search.Trees.{Tree, open_leaf, refuted_leaf, branch, NodesMeet}
use Rattle.league_core.specs.search.Trees.{is_refuted}
use Rattle.league_core.proofs.LotsLemmas.{holds_at-favoured, lots_for_claim-are_lots}
use Rattle.league_core.proofs.LotsLemmas.{lots_for_claim-favoured}
use Rattle.league_core.proofs.ProposalLemmas.{proposed_in_box, proposed_is_finish}
use Rattle.league_core.proofs.HalfLemmas.{root_has_finish, half_has_finish}
use Rattle.reason_laws.specs.inside.Weights.{weight_of}
use Rattle.reason_laws.proofs.WeightLemmas.{halves_weigh_less, weight_some}
use Rattle.reason_laws.proofs.SplitLemmas.{either_half}
use Rattle.reason_laws.proofs.TieLemmas.{reason_says}
use Rattle.reason_laws.proofs.DecidedLemmas.{single_decided_by_two}
use Rattle.cert_text.proofs.ProperLemmas.{proper_tests}
use Rattle.depth_search.specs.inside.Cases.{Cases, left_open, refuted, split, HoldsBelow}
use Rattle.depth_search.specs.inside.Cases.{case_nodes, is_made}
use Rattle.depth_search.specs.inside.Decided.{DecidedKind}
use Rattle.depth_search.proofs.DecidedLemmas.{each_zone_decided}
use Rattle.branch_rules.specs.inside.Found.{IsProposedInVain}
use Rattle.branch_rules.proofs.FoundLemmas.{has_several}
use Rattle.answer_laws.specs.inside.Completeness.{CanBeMet, at_once, in_a_half, HasRefutation}
use Rattle.answer_laws.proofs.BoxPrefixLemmas.{box_prefix}
use Rattle.answer_laws.proofs.DueLemmas.{IsDueTest, due_test}

-- ---- refutations

-- a tree that refutes the question below a zone
pub record RefutesBelow (sheet : Sheet) (season : Results) (question : Question)
    (zone : List Literal) (tree : Tree) : Type 0 where
  pub refuted : is_refuted tree ≡ true
  pub reasons : AreReasonsTrue sheet season question zone tree
  pub proper : NodesMeet (IsProperNode sheet season question) zone tree

-- some example lies in the box of the zone
abbrev pub HasExampleInBox : Sheet → Results → Question → List Literal → Type 0
HasExampleInBox sheet season question zone =
    (finish : Results) × (lots : List ℕ) × IsExample sheet season question finish lots
    × IsInBox sheet season zone finish

-- the tree with the nodes of a tree of cases, each of them new
abbrev tree_of : Cases Reason → Tree
tree_of left_open = open_leaf
tree_of (refuted reason) = refuted_leaf reason true
tree_of (split test yes_half no_half) = branch test true (tree_of yes_half) (tree_of no_half)

-- it refutes the question where the cases do
cases_refute : (sheet : Sheet) (season : Results) (question : Question) (zone : List Literal)
    (cases : Cases Reason)
    → HoldsBelow (λ below reason. has_reason sheet season question below reason ≡ true)
    (λ below test. is_proper sheet season question below test ≡ true) zone cases
    → list_all is_made (case_nodes cases) ≡ true
    → RefutesBelow sheet season question zone (tree_of cases)
cases_refute sheet season question zone left_open holds made = absurd (false≢true made)
cases_refute sheet season question zone (refuted reason) holds made =
    record { refuted = refl; reasons = holds; proper = tt }
cases_refute sheet season question zone (split test yes_half no_half) holds made =
    let parts = and_parts (list_all is_made (case_nodes yes_half))
    (list_all is_made (case_nodes no_half))
    (sym (list_all-append is_made (case_nodes yes_half) (case_nodes no_half)) ∙ made) in
    let first = cases_refute sheet season question (with_test zone test true) yes_half holds.1
    parts.0 in
    let second = cases_refute sheet season question (with_test zone test false) no_half holds.2
    parts.1 in
    record {
      refuted = and_from (is_refuted (tree_of yes_half)) (is_refuted (tree_of no_half))
          first.refuted second.refuted;
      reasons = (tt, first.reasons, second.reasons);
      proper = (holds.0, first.proper, second.proper);
    }

-- ---- kinds of question about a season

-- whatever shows an example and whatever a reason is: each zone with a finish is decided by proper
-- splits if each single one is
abbrev pub season_kind : {E R : Type 0} (sheet : Sheet) (season : Results) (question : Question)
    (there : List Literal → E → Type 0) (refutes : List Literal → R → Type 0)
    → IsSeasonOf sheet season
    → ((zone : List Literal) → has_finish sheet season zone ≡ true
    → is_single sheet season zone ≡ true
    → ((example : E) × there zone example) ⊎ ((reason : R) × refutes zone reason))
    → ((zone : List Literal) (test : Test) (holds : Bool) (example : E)
    → there (with_test zone test holds) example → there zone example)
    → DecidedKind E R
season_kind sheet season question there refutes of_sheet ends from_half = record {
  there = there;
  refutes = refutes;
  splits = λ zone test. is_proper sheet season question zone test ≡ true;
  fits = λ zone. has_finish sheet season zone ≡ true;
  is_single = is_single sheet season;
  weight = weight_of sheet season question;
  ends = ends;
  parts = λ zone some several.
      let due = due_test sheet season question zone of_sheet some several in
      (due.test, due.proper);
  halves = half_has_finish sheet season question;
  lighter = λ zone test holds some proper.
      (halves_weigh_less sheet season question zone test holds of_sheet some proper).1;
  from_half = from_half;
}

-- a finish with lots is an example of the question in the box of the zone
abbrev IsExampleInBox : Sheet → Results → Question → List Literal → (Results × List ℕ) → Type 0
IsExampleInBox sheet season question zone found =
    IsExample sheet season question found.0 found.1 × IsInBox sheet season zone found.0

-- a single zone has the window or the criteria as its reason, or its finish is an example
single_ends : (sheet : Sheet) (season : Results) (question : Question)
    → IsSeasonOf sheet season → question.club < length sheet.clubs → (zone : List Literal)
    → has_finish sheet season zone ≡ true → is_single sheet season zone ≡ true
    → ((found : Results × List ℕ) × IsExampleInBox sheet season question zone found)
    ⊎ ((reason : Reason) × (has_reason sheet season question zone reason ≡ true))
single_ends sheet season question of_sheet club_in zone some single =
    elim (cases_Bool (has_reason sheet season question zone Window)) [
      | inl holds ↦ inr (Window, holds)
      | inr no_window ↦ elim (cases_Bool (has_reason sheet season question zone Tie)) [
        | inl holds ↦ inr (Tie, holds)
        | inr no_tie ↦
            let box = proposed_in_box sheet season question zone of_sheet some in
            inl (
              (
                proposed_finish sheet season question zone,
                lots_for_claim (length sheet.clubs) question.club question.claim,
              ),
              (
                single_decided_by_two sheet season question zone
                    (proposed_finish sheet season question zone) club_in single
                    (λ holds. false≢true (sym no_window ∙ holds))
                    (λ holds. false≢true (sym no_tie ∙ holds)) box,
                box,
              ),
            )
      ]
    ]

-- a zone that has a finish is decided
pub zone_is_decided : (sheet : Sheet) (season : Results) (question : Question)
    (zone : List Literal) → IsSeasonOf sheet season → IsQuestionOf sheet question
    → has_finish sheet season zone ≡ true
    → HasExampleInBox sheet season question zone
    ⊎ ((tree : Tree) × RefutesBelow sheet season question zone tree)
zone_is_decided sheet season question zone of_sheet asked some =
    elim (each_zone_decided (season_kind sheet season question
    (IsExampleInBox sheet season question)
    (λ below reason. has_reason sheet season question below reason ≡ true) of_sheet
    (single_ends sheet season question of_sheet asked.club)
    (λ below test holds found example. (
      example.0,
      box_prefix sheet season below (record { test = test; yes = holds } ∷ []) found.0 example.1,
    ))) zone some) [
      | inl found ↦ inl (found.0.0, found.0.1, found.1.0, found.1.1)
      | inr found ↦ inr (
        tree_of found.0,
        cases_refute sheet season question zone found.0 found.1 found.2,
      )
    ]

pub question_decided : (sheet : Sheet) (season : Results) (question : Question)
    → IsLeague sheet season → are_results season ≡ true → IsQuestionOf sheet question
    → HasExample sheet season question ⊎ HasRefutation sheet season question
question_decided sheet season question league results asked =
    elim (zone_is_decided sheet season question [] league.of_sheet asked
    (root_has_finish sheet season)) [
      | inl example ↦ inl (example.0, example.1, example.2)
      | inr found ↦ inr (
        found.0,
        record {
          tests = proper_tests sheet season question found.0 [] league results found.1.proper;
          refuted = found.1.refuted;
          reasons = found.1.reasons;
        },
      )
    ]

pub question_refuted : (sheet : Sheet) (season : Results) (question : Question)
    → IsLeague sheet season → are_results season ≡ true → IsQuestionOf sheet question
    → HasNoExample sheet season question → HasRefutation sheet season question
question_refuted sheet season question league results asked none =
    elim (question_decided sheet season question league results asked) [
      | inl example ↦ absurd (none example.0 example.1 example.2)
      | inr found ↦ found
    ]

-- ---- examples

-- the proposed finish is an example with the lots that favour the claim, or with none
proposed_or_not : (sheet : Sheet) (season : Results) (question : Question) (zone : List Literal)
    → IsSeasonOf sheet season → question.club < length sheet.clubs
    → has_finish sheet season zone ≡ true
    → IsExample sheet season question (proposed_finish sheet season question zone)
    (lots_for_claim (length sheet.clubs) question.club question.claim)
    ⊎ IsProposedInVain sheet season question zone
proposed_or_not sheet season question zone of_sheet club_in some =
    let finish = proposed_finish sheet season question zone in
    let best = lots_for_claim (length sheet.clubs) question.club question.claim in
    elim (cases_Bool (holds_at sheet question finish best)) [
      | inl holds ↦ inl (record {
        is_finish = proposed_is_finish sheet season question zone of_sheet some;
        is_drawn = lots_for_claim-are_lots (length sheet.clubs) question.club question.claim
            club_in;
        holds = holds;
      })
      | inr fails ↦ inr (λ lots example.
          false≢true (sym fails ∙ holds_at-favoured sheet question finish lots best
          (lots_for_claim-favoured (length sheet.clubs) question.club question.claim)
          example.holds))
    ]

-- a member of a zone at which the question holds leads to an example that can be met
zone_met : (fuel : ℕ) (sheet : Sheet) (season : Results) (question : Question)
    (zone : List Literal) (finish : Results) (lots : List ℕ) → IsSeasonOf sheet season
    → IsQuestionOf sheet question → has_finish sheet season zone ≡ true
    → weight_of sheet season question zone ≤ fuel
    → IsMember sheet season question.club zone finish lots
    → holds_at sheet question finish lots ≡ true → CanBeMet sheet season question zone
zone_met zero sheet season question zone finish lots of_sheet asked some light member holds =
    absurd (omega (arith, weight_some sheet season question zone some))
zone_met (suc fuel) sheet season question zone finish lots of_sheet asked some light member holds =
    let deeper : (test : Test) (side : Bool)
    → is_proper sheet season question zone test ≡ true
    → IsMember sheet season question.club (with_test zone test side) finish lots
    → CanBeMet sheet season question (with_test zone test side) =
    λ test side proper in_half.
    let less = (halves_weigh_less sheet season question zone test side of_sheet some proper).1 in
    zone_met fuel sheet season question (with_test zone test side) finish lots of_sheet asked
    (half_has_finish sheet season question zone test side some proper)
    (omega (arith, less, light)) in_half holds in
    elim (proposed_or_not sheet season question zone of_sheet asked.club some) as
    (λ _. CanBeMet sheet season question zone) [
      | inl example ↦ at_once zone
          (lots_for_claim (length sheet.clubs) question.club question.claim) example
      | inr in_vain ↦ split deeper in_vain
          (due_test sheet season question zone of_sheet some
          (has_several sheet season question zone of_sheet asked some in_vain no_reason))
    ]
  where
    no_reason : (reason : Reason) → has_reason sheet season question zone reason ≡ false
    no_reason reason =
        elim (cases_Bool (has_reason sheet season question zone reason)) as
        (λ _. has_reason sheet season question zone reason ≡ false) [
          | inl is ↦ absurd (reason_says sheet season question zone reason finish lots asked.club
              is member holds)
          | inr is_not ↦ is_not
        ]

    split : ((test : Test) (side : Bool) → is_proper sheet season question zone test ≡ true
        → IsMember sheet season question.club (with_test zone test side) finish lots
        → CanBeMet sheet season question (with_test zone test side))
        → IsProposedInVain sheet season question zone → IsDueTest sheet season question zone
        → CanBeMet sheet season question zone
    split deeper in_vain due =
        let fair : IsFairSplit sheet season question zone due.test = record {
          some = some;
          proper = due.proper;
          due = due.due;
          no_reason = no_reason;
          no_example = in_vain;
        } in
        elim (either_half sheet season question.club zone due.test finish lots member) [
          | inl first ↦ in_a_half zone due.test true fair
              (deeper due.test true due.proper first)
          | inr second ↦ in_a_half zone due.test false fair
              (deeper due.test false due.proper second)
        ]

pub example_met : (sheet : Sheet) (season : Results) (question : Question)
    → IsLeague sheet season → IsQuestionOf sheet question → HasExample sheet season question
    → CanBeMet sheet season question []
example_met sheet season question league asked has =
    let finish = has.0 in
    let lots = has.1 in
    let example = has.2 in
    zone_met (weight_of sheet season question []) sheet season question [] finish lots
    league.of_sheet asked (root_has_finish sheet season) (omega arith)
    (record {
      is_finish = example.is_finish;
      is_drawn = example.is_drawn;
      literals = refl;
    }) example.holds
