-- The proposed finish as an example or not, and zones that have to be split.
use Rattle.std.proofs.Common.{◌≡◌, ◌<◌, inl, inr, ℕ, true, false, List}
use Rattle.std.proofs.Common.{Result, Ok, Err, IfOk, length, take, drop, refl, sym, ap, subst, ◌∙◌}
use Rattle.std.specs.List.{list_all}
use Rattle.std.proofs.lemmas.Bool.{false≢true, cases_Bool, and_parts}
use Rattle.std.proofs.lemmas.List.{take-append-drop}
use Rattle.std.proofs.lemmas.List.Folds.{list_all-append}
use Rattle.league_core.specs.declared.sheet.Sheet.{Sheet}
use Rattle.league_core.specs.declared.question.Question.{Question}
use Rattle.league_core.specs.declared.zone.Literal.{Literal}
use Rattle.league_core.specs.declared.zone.Reason.{Reason}
use Rattle.league_core.specs.declared.zone.Reason.TheVariants.{Window, Tie}
use Rattle.league_core.specs.game.Results.{Results}
use Rattle.league_core.specs.game.Seasons.{IsSeasonOf}
use Rattle.league_core.specs.game.Questions.{IsQuestionOf, IsExample}
use Rattle.league_core.specs.inside.LotsFor.{lots_for_claim}
use Rattle.league_core.specs.search.Zones.{is_zone_of, is_test_of}
use Rattle.league_core.specs.search.Options.{is_single, has_finish}
use Rattle.league_core.specs.search.Proposals.{proposed_finish}
use Rattle.league_core.specs.search.Reasons.{has_reason}
use Rattle.league_core.proofs.ProposalLemmas.{proposed_in_box, proposed_is_finish}
use Rattle.reason_laws.proofs.DecidedLemmas.{single_decided_by_two}
use Rattle.league_core.specs.declared.memory.OutOfMemory.{OutOfMemory}
use Rattle.reason_core.specs.declared.piece.Piece.{Piece}
use Rattle.reason_core.specs.declared.done.Done.{Done}
use Rattle.reason_core.specs.declared.finding.Finding.{Finding}
use Rattle.reason_core.specs.declared.finding.Finding.TheVariants.{Refuted, Split, Won}
use Rattle.reason_core.specs.inside.Findings.{IsTrueFinding}
use Rattle.reason_core.specs.inside.Dones.{IsFor, IsTrueDone, done_of}
use Rattle.branch_rules.specs.inside.Found.{IsProposedInVain, IsProposedExample, IsFoundIn}
use Rattle.branch_rules.specs.inside.Found.{is_proposed_example}
use Rattle.league_core.proofs.LotsLemmas.{holds_at-favoured, lots_for_claim-favoured}
use Rattle.league_core.proofs.LotsLemmas.{lots_for_claim-are_lots}
use Rattle.branch_rules.specs.inside.Works.{IsWorkOf}

-- if the question holds at the proposed finish with the lots that favour the claim, it is an
-- example with these
pub proposed_example : (sheet : Sheet) (season : Results) (question : Question)
    (zone : List Literal) (finish : Results) (lots : List ℕ) → IsSeasonOf sheet season
    → question.club < length sheet.clubs → has_finish sheet season zone ≡ true
    → finish ≡ proposed_finish sheet season question zone
    → lots ≡ lots_for_claim (length sheet.clubs) question.club question.claim
    → is_proposed_example sheet season question zone ≡ true
    → IsProposedExample sheet season question zone finish lots
proposed_example sheet season question zone finish lots of_sheet below some is lots_are holds =
    let proposed = proposed_finish sheet season question zone in
    let best = lots_for_claim (length sheet.clubs) question.club question.claim in
    record {
      proposed = is;
      example = subst (λ f. IsExample sheet season question f lots) (sym is)
          (subst (λ drawn. IsExample sheet season question proposed drawn) (sym lots_are) (record {
            is_finish = proposed_is_finish sheet season question zone of_sheet some;
            is_drawn = lots_for_claim-are_lots (length sheet.clubs) question.club question.claim
                below;
            holds = holds;
          }));
    }

-- and otherwise with no lots
pub proposed_in_vain : (sheet : Sheet) (season : Results) (question : Question)
    (zone : List Literal) → is_proposed_example sheet season question zone ≡ false
    → IsProposedInVain sheet season question zone
proposed_in_vain sheet season question zone never lots example =
    false≢true (sym never
    ∙ holds_at-favoured sheet question (proposed_finish sheet season question zone) lots
    (lots_for_claim (length sheet.clubs) question.club question.claim)
    (lots_for_claim-favoured (length sheet.clubs) question.club question.claim) example.holds)

-- if neither this nor a reason is found, some fixture has several scores left
pub has_several : (sheet : Sheet) (season : Results) (question : Question) (zone : List Literal)
    → IsSeasonOf sheet season → IsQuestionOf sheet question → has_finish sheet season zone ≡ true
    → IsProposedInVain sheet season question zone
    → ((reason : Reason) → has_reason sheet season question zone reason ≡ false)
    → is_single sheet season zone ≡ false
has_several sheet season question zone of_sheet asked some in_vain no_reason =
    elim (cases_Bool (is_single sheet season zone)) as (λ _. is_single sheet season zone ≡ false) [
      | inl single ↦
          absurd (in_vain (lots_for_claim (length sheet.clubs) question.club question.claim)
          (single_decided_by_two sheet season question zone
          (proposed_finish sheet season question zone) asked.club single
          (λ holds. false≢true (sym (no_reason Window) ∙ holds))
          (λ holds. false≢true (sym (no_reason Tie) ∙ holds))
          (proposed_in_box sheet season question zone of_sheet some)))
      | inr several ↦ several
    ]

-- a part of a zone is of the sheet if the zone is
pub zone_part : (sheet : Sheet) (zone : List Literal) (from count : ℕ)
    → is_zone_of sheet zone ≡ true → is_zone_of sheet (take count (drop from zone)) ≡ true
zone_part sheet zone from count all =
    let of_sheet = λ (literal : Literal). is_test_of sheet literal.test in
    let behind = and_parts (list_all of_sheet (take from zone)) (list_all of_sheet (drop from zone))
    (sym (list_all-append of_sheet (take from zone) (drop from zone))
    ∙ ap (list_all of_sheet) (take-append-drop from zone) ∙ all) in
    let rest = drop from zone in
    (and_parts (list_all of_sheet (take count rest)) (list_all of_sheet (drop count rest))
    (sym (list_all-append of_sheet (take count rest) (drop count rest))
    ∙ ap (list_all of_sheet) (take-append-drop count rest) ∙ behind.1)).0

-- ---- what is found is true

pub found_is_true : (sheet : Sheet) (season : Results) (question : Question) (zone : List Literal)
    (finding : Finding) → IsFoundIn sheet season question zone finding
    → IsTrueFinding sheet season question zone finding
found_is_true sheet season question zone (Won finish lots) is = is.example
found_is_true sheet season question zone (Refuted reason) is = is.first.holds
found_is_true sheet season question zone (Split literal) is = is

-- even if running out of memory may come in its place
pub found_are_true : (sheet : Sheet) (season : Results) (question : Question) (zone : List Literal)
    (result : Result Finding OutOfMemory)
    → IfOk result (IsFoundIn sheet season question zone)
    → IfOk result (IsTrueFinding sheet season question zone)
found_are_true sheet season question zone (Ok finding) is =
    found_is_true sheet season question zone finding is
found_are_true sheet season question zone (Err want) is = tt

-- with its piece it is the work that was asked for
pub work_is_done : (sheet : Sheet) (piece : Piece) (finding : Finding) (done : Done)
    → done ≡ done_of piece finding
    → IsFoundIn sheet piece.season piece.question piece.zone.literals finding
    → IsWorkOf sheet piece done
work_is_done sheet piece finding done is found = record {
  is_for = subst (λ d. IsFor d piece) (sym is) (own finding);
  true_done = subst (λ d. IsTrueDone sheet d) (sym is)
      (true_of finding (found_is_true sheet piece.season piece.question piece.zone.literals finding
      found));
  finding = finding;
  done_is = is;
  found = found;
}
  where
    own : (f : Finding) → IsFor (done_of piece f) piece
    own (Won finish lots) = refl
    own (Refuted reason) = refl
    own (Split literal) = refl

    true_of : (f : Finding)
        → IsTrueFinding sheet piece.season piece.question piece.zone.literals f
        → IsTrueDone sheet (done_of piece f)
    true_of (Won finish lots) it = it
    true_of (Refuted reason) it = it
    true_of (Split literal) it = it
