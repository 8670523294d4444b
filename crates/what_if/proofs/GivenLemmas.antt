-- The verdicts given a base, as an answer is put together; and items given nothing.
use Rattle.std.proofs.Common.{◌≡◌, ℕ, Bool, true, false, List, [], refl}
use Rattle.std.specs.Prelude.{◌↔◌}
use Rattle.std.proofs.lemmas.List.Elements.{All-weaker}
use Rattle.league_core.specs.declared.sheet.Sheet.{Sheet}
use Rattle.league_core.specs.declared.question.Claim.TheVariants.{Inside, Outside}
use Rattle.league_core.specs.declared.question.Question.{Question}
use Rattle.league_core.specs.declared.zone.Literal.{Literal}
use Rattle.league_core.specs.game.Results.{Results}
use Rattle.league_core.specs.game.Questions.{full_question}
use Rattle.league_core.specs.search.Trees.{Tree}
use Rattle.league_core.proofs.GivenLemmas.{none_at_root, none_anywhere}
use Rattle.cert_text.specs.Ranges.{is_in_range}
use Rattle.cert_text.specs.declared.proof_line.ProofLine.{ProofLine}
use Rattle.cert_text.specs.TreeLines.{IsFairSpentTree}
use Rattle.answer_rows.specs.declared.word.Word.{Word}
use Rattle.answer_rows.specs.declared.word.Word.TheVariants.{Clinched, Lost, Possible, Unsettled}
use Rattle.answer_rows.specs.declared.word.Verdict.{Verdict}
use Rattle.answer_rows.specs.Items.{answer_row, answer_rows}
use Rattle.answer_rows.specs.Items.{ShowsPart, ShowsBothParts, IsItemShown}
use Rattle.answer_rows.specs.NewTrees.{is_all_new}
use Rattle.answer_rows.specs.inside.ItemRanges.{IsInRange, AreInRange}
use Rattle.answer_rows.specs.inside.RowItems.{AreAbout}
use Rattle.what_if.specs.Given.{IsFairlySpentBelow, ShowsPartGiven, IsItemGiven, IsShownGiven}
use Rattle.what_if.specs.Given.{AreVerdictsGiven}
use Rattle.what_if.specs.inside.GivenParts.{IsRightGiven}

-- ---- verdicts, one after another

-- all rows are there
pub right_verdicts : (sheet : Sheet) (season : Results) (zone : List Literal)
    (verdicts : List (Verdict ProofLine))
    → AreAbout answer_row (IsRightGiven sheet season zone) (answer_rows sheet) verdicts
    → AreVerdictsGiven sheet season zone verdicts × AreInRange is_in_range sheet verdicts
right_verdicts sheet season zone verdicts right = (
  record {
    rows = right.about;
    each = All-weaker (IsRightGiven sheet season zone) (IsShownGiven sheet season zone)
        (λ verdict is. is.shown) verdicts right.each;
  },
  All-weaker (IsRightGiven sheet season zone) (IsInRange is_in_range sheet)
      (λ verdict is. is.in_range)
      verdicts right.each,
)

-- ---- given nothing

-- a tree whose root has no literal
spent_in_season : (sheet : Sheet) (season : Results) (question : Question) (budget : ℕ)
    (tree : Tree) → IsFairlySpentBelow sheet season question [] budget tree
    → IsFairSpentTree sheet season question budget tree
spent_in_season sheet season question budget tree spent = record {
  tree_spent = record { tests = spent.tests; spent = spent.spent; reasons = spent.reasons };
  units = spent.units;
}

spent_at_root : (sheet : Sheet) (season : Results) (question : Question) (budget : ℕ)
    (tree : Tree) → IsFairSpentTree sheet season question budget tree → is_all_new tree ≡ true
    → IsFairlySpentBelow sheet season question [] budget tree
spent_at_root sheet season question budget tree spent new = record {
  tests = spent.tree_spent.tests;
  spent = spent.tree_spent.spent;
  reasons = spent.tree_spent.reasons;
  units = spent.units;
  all_new = new;
}

-- what stands for a question in the season, and what stands for it given nothing
part_in_season : (sheet : Sheet) (season : Results) (question : Question) (spent : Bool)
    (lines : List ProofLine) → ShowsPartGiven sheet season [] question spent lines
    → ShowsPart sheet season question spent lines
part_in_season sheet season question true lines shows = (
  shows.0,
  spent_in_season sheet season question sheet.budget shows.0 shows.1,
  shows.1.all_new,
  shows.2,
)
part_in_season sheet season question false lines shows =
    (shows.0, shows.1, shows.2.example, shows.3)

part_at_root : (sheet : Sheet) (season : Results) (question : Question) (spent : Bool)
    (lines : List ProofLine) → ShowsPart sheet season question spent lines
    → ShowsPartGiven sheet season [] question spent lines
part_at_root sheet season question true lines shows =
    (shows.0, spent_at_root sheet season question sheet.budget shows.0 shows.1 shows.2, shows.3)
part_at_root sheet season question false lines shows = (
  shows.0,
  shows.1,
  record {
    example = shows.2;
    member = record {
      is_finish = shows.2.is_finish;
      is_drawn = shows.2.is_drawn;
      literals = refl;
    };
  },
  shows.3,
)

-- so with both questions of a club
both_parts : (One Other : Question → Bool → List ProofLine → Type 0)
    → ((question : Question) (spent : Bool) (lines : List ProofLine) → One question spent lines
    → Other question spent lines)
    → (inside outside : Bool) (line club : ℕ) (lines : List ProofLine)
    → ShowsBothParts One inside outside line club lines
    → ShowsBothParts Other inside outside line club lines
both_parts One Other other inside outside line club lines shows = (
  shows.0,
  shows.1,
  shows.2,
  other (full_question club line Inside) inside shows.0 shows.3,
  other (full_question club line Outside) outside shows.1 shows.4,
)

item_in_season : (sheet : Sheet) (season : Results) (line club : ℕ) (word : Word)
    (lines : List ProofLine) → IsItemGiven sheet season [] line club word lines
    → IsItemShown false sheet season line club word lines
item_in_season sheet season line club Clinched lines item =
    (none_at_root sheet season (full_question club line Outside) item.0, item.1)
item_in_season sheet season line club Lost lines item =
    (none_at_root sheet season (full_question club line Inside) item.0, item.1)
item_in_season sheet season line club Possible lines item =
    both_parts (ShowsPartGiven sheet season []) (ShowsPart sheet season)
    (part_in_season sheet season) false false line club lines item
item_in_season sheet season line club Unsettled lines item = (
  item.0,
  item.1,
  item.2,
  both_parts (ShowsPartGiven sheet season []) (ShowsPart sheet season)
      (part_in_season sheet season) item.0 item.1 line club lines item.3,
)

item_at_root : (sheet : Sheet) (season : Results) (line club : ℕ) (word : Word)
    (lines : List ProofLine) → IsItemShown false sheet season line club word lines
    → IsItemGiven sheet season [] line club word lines
item_at_root sheet season line club Clinched lines item =
    (none_anywhere sheet season (full_question club line Outside) [] item.0, item.1)
item_at_root sheet season line club Lost lines item =
    (none_anywhere sheet season (full_question club line Inside) [] item.0, item.1)
item_at_root sheet season line club Possible lines item =
    both_parts (ShowsPart sheet season) (ShowsPartGiven sheet season [])
    (part_at_root sheet season) false false line club lines item
item_at_root sheet season line club Unsettled lines item = (
  item.0,
  item.1,
  item.2,
  both_parts (ShowsPart sheet season) (ShowsPartGiven sheet season [])
      (part_at_root sheet season) item.0 item.1 line club lines item.3,
)

pub item_given_nothing : (sheet : Sheet) (season : Results) (line club : ℕ) (word : Word)
    (lines : List ProofLine) → IsItemGiven sheet season [] line club word lines
    ↔ IsItemShown false sheet season line club word lines
item_given_nothing sheet season line club word lines = (
  item_in_season sheet season line club word lines,
  item_at_root sheet season line club word lines,
)
