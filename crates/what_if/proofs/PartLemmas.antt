-- What is known of a question given a base as a part of an answer, and the word and the lines that
-- the two parts about a club and a line give.
use Rattle.std.proofs.Common.{◌≡◌, ℕ, ◌<◌, false, true, List, [], length, Vec, Global, refl, ap}
use Rattle.std.proofs.Common.{sym, map, ◌∙◌, subst, Result, Ok, Err}
use Rattle.std.specs.Prelude.{IfOk}
use Rattle.std.specs.List.{list_all}
use Rattle.league_core.specs.declared.sheet.Sheet.{Sheet}
use Rattle.league_core.specs.declared.question.Claim.TheVariants.{Inside, Outside}
use Rattle.league_core.specs.declared.question.Question.{Question}
use Rattle.league_core.specs.declared.zone.Literal.{Literal}
use Rattle.league_core.specs.game.Results.{Results, are_results}
use Rattle.league_core.specs.game.Seasons.{IsLeague, IsSeasonOf}
use Rattle.league_core.specs.game.Sheets.{IsWithinLimits}
use Rattle.league_core.specs.game.Questions.{full_question}
use Rattle.league_core.specs.search.GivenVerdicts.{HoldsNowhereIn, IsExampleIn}
use Rattle.league_core.specs.declared.zone.Reason.{Reason}
use Rattle.depth_search.specs.declared.kind.CaseNode.{CaseNode}
use Rattle.depth_search.specs.inside.Cases.{Cases, case_nodes}
use Rattle.depth_search.specs.inside.ZoneTrees.{new_node, new_tree}
use Rattle.depth_search.proofs.ZoneTreeLemmas.{preorder-cases}
use Rattle.cert_text.specs.declared.proof_line.ProofLine.{ProofLine}
use Rattle.cert_text.specs.Ranges.{is_in_range}
use Rattle.cert_text.specs.TreeLines.{marked_line, marked_lines, with_spent_head}
use Rattle.cert_text.specs.ExampleLines.{example_lines}
use Rattle.cert_text.proofs.TreeRangeLemmas.{marked_lines_below}
use Rattle.cert_text.proofs.ExampleRangeLemmas.{example_in_range}
use Rattle.answer_rows.specs.declared.word.Word.{Word}
use Rattle.answer_rows.specs.declared.word.Word.TheVariants.{Clinched, Lost}
use Rattle.answer_rows.specs.declared.part.Part.{Part}
use Rattle.answer_rows.specs.declared.part.PartKind.{PartKind}
use Rattle.answer_rows.specs.declared.part.PartKind.TheVariants.{Won, Refuted, Spent}
use Rattle.answer_rows.specs.inside.AnswerParts.{word_by, proof_by}
use Rattle.answer_rows.proofs.PartLemmas.{range_by, all_lines}
use Rattle.what_if.specs.Bases.{is_base_of}
use Rattle.what_if.specs.Given.{IsFairlySpentBelow, IsItemGiven}
use Rattle.what_if.specs.inside.GivenParts.{IsPartGiven, IsAnswerPartGiven, IsRightGiven}
use Rattle.what_if.proofs.BaseLemmas.{no_rival_named}

-- ---- parts

-- an example as a part
pub won_given : {E : Type 0} (sheet : Sheet) (season : Results) (zone : List Literal)
    (question : Question) (finish : Results) (lots : List ℕ) (result : Result (Part ProofLine) E)
    → IsLeague sheet season → are_results season ≡ true
    → IsExampleIn sheet season question zone finish lots
    → IfOk result (λ part. part.kind ≡ Won)
    → IfOk result (λ part. part.lines.items ≡ example_lines question.claim season finish lots)
    → IfOk result (IsAnswerPartGiven sheet season zone question)
won_given {E} sheet season zone question finish lots (Ok part) league results example known are =
    record {
      shows = rw known (finish, lots, example, are);
      in_range = ap (list_all is_in_range) are
          ∙ example_in_range sheet season question finish lots league results example.example;
    }
won_given {E} sheet season zone question finish lots (Err stop) league results example known are =
    tt

-- that the question holds nowhere as a part
pub refuted_given : (sheet : Sheet) (season : Results) (zone : List Literal) (question : Question)
    (part : Part ProofLine) → HoldsNowhereIn sheet season question zone
    → part.kind ≡ Refuted → part.lines.items ≡ []
    → IsAnswerPartGiven sheet season zone question part
refuted_given sheet season zone question part nowhere known are = record {
  shows = rw known (nowhere, are);
  in_range = ap (list_all is_in_range) are;
}

-- the nodes of a tree on which the budget was spent as a part
pub spent_given : {E : Type 0} (sheet : Sheet) (season : Results) (zone : List Literal)
    (question : Question) (nodes : List (CaseNode Reason)) (result : Result (Part ProofLine) E)
    → is_base_of sheet zone ≡ true
    → ((cases : Cases Reason) × (case_nodes cases ≡ nodes)
    × IsFairlySpentBelow sheet season question zone sheet.budget (new_tree cases))
    → IfOk result (λ part. part.kind ≡ Spent)
    → IfOk result (λ part. part.lines.items
    ≡ with_spent_head question.claim (map marked_line (map new_node nodes)))
    → IfOk result (IsAnswerPartGiven sheet season zone question)
spent_given {E} sheet season zone question nodes (Ok part) of_base spent known are =
    let tree = new_tree spent.0 in
    let lines : map marked_line (map new_node nodes) ≡ marked_lines tree =
    ap (map marked_line) (ap (map new_node) (sym spent.1) ∙ sym (preorder-cases spent.0)) in
    let shown = are ∙ ap (with_spent_head question.claim) lines in
    record {
      shows = rw known (tree, spent.2, shown);
      in_range = ap (list_all is_in_range) shown
          ∙ marked_lines_below sheet season question tree zone (no_rival_named sheet zone of_base)
          spent.2.tests spent.2.reasons;
    }
spent_given {E} sheet season zone question nodes (Err stop) of_base spent known are = tt

-- the league that tables are of
pub played_league : (sheet other : Sheet) (season read : Results) → other ≡ sheet
    → read ≡ season → IsWithinLimits other → IsSeasonOf sheet read → IsLeague sheet season
played_league sheet other season read same_sheet same_season limits of_sheet = record {
  limits = subst IsWithinLimits same_sheet limits;
  of_sheet = subst (IsSeasonOf sheet) same_season of_sheet;
}

-- ---- words

-- the word and its lines, by what is known
item_by : (sheet : Sheet) (season : Results) (zone : List Literal) (line club : ℕ)
    (inside outside : PartKind) (first second : List ProofLine)
    → IsPartGiven sheet season zone (full_question club line Inside) inside first
    → IsPartGiven sheet season zone (full_question club line Outside) outside second
    → IsItemGiven sheet season zone line club (word_by inside outside)
    (proof_by (word_by inside outside) first second)
item_by sheet season zone line club Refuted outside first second one two = one
item_by sheet season zone line club Won Refuted first second one two = two
item_by sheet season zone line club Won Won first second one two =
    (first, second, refl, one, two)
item_by sheet season zone line club Won Spent first second one two =
    (false, true, refl, (first, second, refl, one, two))
item_by sheet season zone line club Spent Refuted first second one two = two
item_by sheet season zone line club Spent Won first second one two =
    (true, false, refl, (first, second, refl, one, two))
item_by sheet season zone line club Spent Spent first second one two =
    (true, true, refl, (first, second, refl, one, two))

-- a verdict of both parts
pub right_by : (sheet : Sheet) (season : Results) (zone : List Literal) (line club : ℕ)
    (inside outside : Part ProofLine) (lines : Vec ProofLine Global) (word : Word)
    → club < length sheet.clubs
    → IsAnswerPartGiven sheet season zone (full_question club line Inside) inside
    → IsAnswerPartGiven sheet season zone (full_question club line Outside) outside
    → word ≡ word_by inside.kind outside.kind
    → lines.items ≡ proof_by word inside.lines.items outside.lines.items
    → IsRightGiven sheet season zone
    (record { line = line; club = club; word = word; proof = lines })
right_by sheet season zone line club inside outside lines word club_in one two word_is are =
    record {
      shown = rw (are, word_is)
          (item_by sheet season zone line club inside.kind outside.kind inside.lines.items
          outside.lines.items one.shows two.shows);
      in_range = record {
        club = club_in;
        lines = all_lines lines.items (ap (list_all is_in_range) are
            ∙ range_by word inside.lines.items outside.lines.items one.in_range two.in_range);
      };
    }

-- a verdict whose question of `Outside` holds nowhere
pub clinched_by : (sheet : Sheet) (season : Results) (zone : List Literal) (line club : ℕ)
    (outside : Part ProofLine) → club < length sheet.clubs
    → IsAnswerPartGiven sheet season zone (full_question club line Outside) outside
    → outside.kind ≡ Refuted
    → IsRightGiven sheet season zone
    (record { line = line; club = club; word = Clinched; proof = outside.lines })
clinched_by sheet season zone line club outside club_in two known = record {
  shown = rw known at two.shows;
  in_range = record { club = club_in; lines = all_lines outside.lines.items two.in_range };
}

-- a verdict whose question of `Inside` holds nowhere
pub lost_by : (sheet : Sheet) (season : Results) (zone : List Literal) (line club : ℕ)
    (lines : Vec ProofLine Global) → club < length sheet.clubs
    → HoldsNowhereIn sheet season (full_question club line Inside) zone → lines.items ≡ []
    → IsRightGiven sheet season zone
    (record { line = line; club = club; word = Lost; proof = lines })
lost_by sheet season zone line club lines club_in nowhere none = record {
  shown = (nowhere, none);
  in_range = record {
    club = club_in;
    lines = all_lines lines.items (ap (list_all is_in_range) none);
  };
}
