-- What comes of a question as a part of an answer, and the word and the lines that the two parts
-- about a club and a line give.
use Rattle.std.proofs.Common.{◌≡◌, ℕ, ◌<◌, true, false, List, length, map, Vec, Global, refl, sym}
use Rattle.std.proofs.Common.{ap, ◌∙◌}
use Rattle.std.specs.List.{list_all}
use Rattle.std.proofs.lemmas.List.Folds.{list_all-map}
use Rattle.std.proofs.lemmas.List.Elements.{All-weaker}
use Rattle.league_core.specs.declared.sheet.Sheet.{Sheet}
use Rattle.league_core.specs.declared.question.Claim.TheVariants.{Inside, Outside}
use Rattle.league_core.specs.declared.question.Question.{Question}
use Rattle.league_core.specs.game.Results.{Results}
use Rattle.league_core.specs.game.Questions.{full_question}
use Rattle.league_core.specs.game.Verdicts.{HasNoExample}
use Rattle.cert_text.specs.declared.proof_line.ProofLine.{ProofLine}
use Rattle.depth_search.specs.declared.kind.CaseNode.{CaseNode}
use Rattle.wide_lines.specs.declared.wide_line.WideLine.{WideLine}
use Rattle.wide_lines.specs.declared.wide_line.WideLine.TheVariants.{Plain}
use Rattle.wide_lines.specs.declared.wide_reason.WideReason.{WideReason}
use Rattle.wide_lines.specs.WideTexts.{is_wide_in_range}
use Rattle.wide_lines.specs.WideTreeLines.{ShowsWideRefuted, marked_wide_line}
use Rattle.wide_lines.specs.WideTreeLines.{marked_wide_lines, plain_wide_line, plain_wide_lines}
use Rattle.wide_lines.specs.WideTreeLines.{with_wide_spent_head, with_wide_tree_head}
use Rattle.wide_lines.proofs.WideTreeLemmas.{refutation_is_sound}
use Rattle.wide_lines.proofs.WideRangeLemmas.{refutation_in_range, spent_in_range}
use Rattle.answer_rows.specs.declared.part.Part.{Part}
use Rattle.answer_rows.specs.declared.part.PartKind.{PartKind}
use Rattle.answer_rows.specs.declared.part.PartKind.TheVariants.{Won, Refuted, Spent}
use Rattle.answer_rows.specs.declared.word.Verdict.{Verdict}
use Rattle.answer_rows.specs.declared.word.Word.{Word}
use Rattle.answer_rows.specs.declared.word.Word.TheVariants.{Clinched}
use Rattle.answer_rows.specs.inside.AnswerParts.{IsAnswerPart, proof_by, word_by}
use Rattle.answer_rows.specs.inside.RowItems.{AreAbout}
use Rattle.answer_rows.specs.Items.{answer_row, answer_rows}
use Rattle.answer_rows.specs.inside.ItemRanges.{AreInRange, IsInRange}
use Rattle.decide_run.specs.Decisions.{IsDecidedItem}
use Rattle.decide_run.specs.inside.AllDecided.{AreAllDecided, IsShownDecided}
use Rattle.decide_run.specs.inside.WideParts.{IsKindShown}
use Rattle.decide_run.specs.inside.WideParts.{IsRightDecided, IsWidePart}
use Rattle.decide_run.specs.inside.WideTasks.{IsRefutedBy, IsSpentOn, new_wide_node, new_wide_tree}
use Rattle.answer_rows.proofs.PartLemmas.{all_passing, passing_by}
use Rattle.decide_run.proofs.WideCaseLemmas.{preorder-cases}

-- ---- parts

-- an example
pub won_wide : (sheet : Sheet) (season : Results) (question : Question) (part : Part ProofLine)
    (lines : Vec WideLine Global) → IsAnswerPart sheet season question part → part.kind ≡ Won
    → lines.items ≡ map (λ line. Plain line) part.lines.items
    → IsWidePart sheet season question (record { kind = Won; lines = lines })
won_wide sheet season question part lines shown known are = record {
  shows = (part.lines.items, rw known at shown.shows, are);
  in_range = ap (list_all is_wide_in_range) are
      ∙ list_all-map is_wide_in_range (λ line. Plain line) part.lines.items ∙ shown.in_range;
}

-- a refutation
pub refuted_wide : (sheet : Sheet) (season : Results) (question : Question)
    (nodes : List (CaseNode WideReason)) (lines : Vec WideLine Global)
    → IsRefutedBy sheet season question nodes
    → lines.items ≡ with_wide_tree_head question.claim (map plain_wide_line (map new_wide_node
    nodes))
    → IsWidePart sheet season question (record { kind = Refuted; lines = lines })
refuted_wide sheet season question nodes lines solved are =
    let tree = new_wide_tree solved.0 in
    let same : map plain_wide_line (map new_wide_node nodes) ≡ plain_wide_lines tree =
    ap (map plain_wide_line) (ap (map new_wide_node) (sym solved.1) ∙ sym (preorder-cases solved.0))
    in
    let shown = are ∙ ap (with_wide_tree_head question.claim) same in
    let refutes : ShowsWideRefuted sheet season question (plain_wide_lines tree) =
    (tree, solved.2, refl) in
    record {
      shows = (plain_wide_lines tree, refutes, shown);
      in_range = ap (list_all is_wide_in_range) shown
          ∙ refutation_in_range sheet season question (plain_wide_lines tree) refutes;
    }

-- a tree on which the budget was spent
pub spent_wide : (sheet : Sheet) (season : Results) (question : Question)
    (nodes : List (CaseNode WideReason)) (lines : Vec WideLine Global)
    → IsSpentOn sheet season question sheet.budget nodes
    → lines.items ≡ with_wide_spent_head question.claim (map marked_wide_line (map new_wide_node
    nodes))
    → IsWidePart sheet season question (record { kind = Spent; lines = lines })
spent_wide sheet season question nodes lines solved are =
    let tree = new_wide_tree solved.0 in
    let same : map marked_wide_line (map new_wide_node nodes) ≡ marked_wide_lines tree =
    ap (map marked_wide_line) (ap (map new_wide_node) (sym solved.1) ∙ sym (preorder-cases
    solved.0)) in
    let shown = are ∙ ap (with_wide_spent_head question.claim) same in
    record {
      shows = (tree, solved.2, shown);
      in_range = ap (list_all is_wide_in_range) shown
          ∙ spent_in_range sheet season question sheet.budget (marked_wide_lines tree)
          (tree, solved.2.tree_spent, refl);
    }

-- ---- words

-- a part that refutes its question says that this has no example
no_example : (sheet : Sheet) (season : Results) (question : Question) (lines : List WideLine)
    → question.club < length sheet.clubs
    → IsKindShown sheet season question Refuted lines → HasNoExample sheet season question
no_example sheet season question lines club_in shows =
    refutation_is_sound sheet season question shows.1.0 club_in shows.1.1

-- the word and its lines, by what is known
item_by : (sheet : Sheet) (season : Results) (line club : ℕ) (inside outside : PartKind)
    (first second : List WideLine) → club < length sheet.clubs
    → IsKindShown sheet season (full_question club line Inside) inside first
    → IsKindShown sheet season (full_question club line Outside) outside second
    → IsDecidedItem true sheet season line club (word_by inside outside)
    (proof_by (word_by inside outside) first second)
item_by sheet season line club Refuted outside first second club_in one two =
    (no_example sheet season (full_question club line Inside) first club_in one, one)
item_by sheet season line club Won Refuted first second club_in one two =
    (no_example sheet season (full_question club line Outside) second club_in two, two)
item_by sheet season line club Won Won first second club_in one two =
    (first, second, refl, one, two)
item_by sheet season line club Won Spent first second club_in one two =
    (false, true, refl, (first, second, refl, one, two))
item_by sheet season line club Spent Refuted first second club_in one two =
    (no_example sheet season (full_question club line Outside) second club_in two, two)
item_by sheet season line club Spent Won first second club_in one two =
    (true, false, refl, (first, second, refl, one, two))
item_by sheet season line club Spent Spent first second club_in one two =
    (true, true, refl, (first, second, refl, one, two))

-- what is decided by both parts
pub right_by : (sheet : Sheet) (season : Results) (line club : ℕ) (inside outside : Part WideLine)
    (lines : Vec WideLine Global) (word : Word)
    → club < length sheet.clubs
    → IsWidePart sheet season (full_question club line Inside) inside
    → IsWidePart sheet season (full_question club line Outside) outside
    → word ≡ word_by inside.kind outside.kind
    → lines.items ≡ proof_by word inside.lines.items outside.lines.items
    → IsRightDecided sheet season
    (record { line = line; club = club; word = word; proof = lines })
right_by sheet season line club inside outside lines word club_in one two word_is are =
    record {
      shown = rw (are, word_is)
          (item_by sheet season line club inside.kind outside.kind inside.lines.items
          outside.lines.items club_in one.shows two.shows);
      in_range = record {
        club = club_in;
        lines = all_passing is_wide_in_range lines.items (ap (list_all is_wide_in_range) are
            ∙ passing_by is_wide_in_range word inside.lines.items outside.lines.items
            one.in_range two.in_range);
      };
    }

-- what is decided if the question of `Outside` is refuted
pub clinched_by : (sheet : Sheet) (season : Results) (line club : ℕ) (outside : Part WideLine)
    → club < length sheet.clubs
    → IsWidePart sheet season (full_question club line Outside) outside
    → outside.kind ≡ Refuted
    → IsRightDecided sheet season
    (record { line = line; club = club; word = Clinched; proof = outside.lines })
clinched_by sheet season line club outside club_in two known =
    let shows : IsKindShown sheet season (full_question club line Outside) Refuted
    outside.lines.items = rw known at two.shows in
    record {
      shown = (
        no_example sheet season (full_question club line Outside) outside.lines.items club_in
            shows,
        shows,
      );
      in_range = record {
        club = club_in;
        lines = all_passing is_wide_in_range outside.lines.items two.in_range;
      };
    }

-- all rows are there
pub right_decided : (sheet : Sheet) (season : Results) (all : List (Verdict WideLine))
    → AreAbout answer_row (IsRightDecided sheet season) (answer_rows sheet) all
    → AreAllDecided sheet season all × AreInRange is_wide_in_range sheet all
right_decided sheet season all right = (
  record {
    rows = right.about;
    each = All-weaker (IsRightDecided sheet season) (IsShownDecided sheet season)
        (λ found is. is.shown) all right.each;
  },
  All-weaker (IsRightDecided sheet season) (IsInRange is_wide_in_range sheet)
      (λ found is. is.in_range) all
      right.each,
)
