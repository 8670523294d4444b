-- Why what is proved is true: a refutation leaves a question no example, and an example is one.
use Rattle.std.proofs.Common.{◌≡◌, ◌<◌, ℕ, Bool, true, false, List, [], ◌∷◌, ◌++◌, length}
use Rattle.std.proofs.Common.{refl, sym, ap, ◌∙◌, nat_lt}
use Rattle.std.specs.List.{list_all, flat_map, range_with_len}
use Rattle.std.proofs.lemmas.Bool.{and_parts, and_from, false≢true, ltb-true}
use Rattle.std.proofs.lemmas.List.Folds.{list_all-append, list_all-map}
use Rattle.league_core.specs.declared.question.Claim.TheVariants.{Inside, Outside}
use Rattle.league_core.specs.declared.question.Question.{Question}
use Rattle.league_core.specs.declared.zone.Literal.{Literal}
use Rattle.league_core.specs.game.Verdicts.{HasExample, HasNoExample}
use Rattle.league_core.specs.game.Questions.{full_question}
use Rattle.league_core.specs.search.Zones.{with_test}
use Rattle.league_core.proofs.GivenLemmas.{none_at_root}
use Rattle.league_core.proofs.ClubSetLemmas.{has_club-range}
use Rattle.league_core.proofs.ClubLemmas.{all_members}
use Rattle.wide_lines.specs.WideTrees.{WideTree, open_leaf, refuted_leaf, branch, WideNodesMeet}
use Rattle.wide_lines.specs.WideTrees.{is_wide_refuted, AreWideReasonsTrue}
use Rattle.wide_lines.proofs.WideTreeLemmas.{refuted_below}
use Rattle.line_tokens.specs.declared.token.Token.{Token}
use Rattle.line_tokens.specs.declared.row_word.RowWord.{RowWord}
use Rattle.line_tokens.specs.declared.row_word.RowWord.TheVariants.{Clinched, Lost, Possible}
use Rattle.line_tokens.specs.declared.row_word.RowWord.TheVariants.{Unsettled}
use Rattle.line_tokens.specs.declared.tree_line.TreeKind.TheVariants.{Refutation}
use Rattle.cert_check.specs.ExpectedItems.{Basis, Expected, ask_row, verdict_row, finish_with}
use Rattle.cert_check.specs.Machine.{rows_on_line, part_of_ask}
use Rattle.cert_check.specs.inside.Grammar.{NodeFits, TreesFit, IsRefutationPart, IsExamplePart}
use Rattle.cert_check.specs.inside.Grammar.{IsAfterReport, AreParts}
use Rattle.std.proofs.Common.{drop}
use Rattle.line_tokens.specs.Tokens.{counted_lines}
use Rattle.kept_lines.specs.LineLists.{NumberedLine}
use Rattle.line_tokens.specs.Tokens.{tokens_of}
use Rattle.cert_check.specs.LineGrammars.{whole_at}
use Rattle.cert_check.specs.inside.Truths.{IsSaidTruly, AreTrueRows}
use Rattle.cert_check.specs.Machine.{part_ending}
use Rattle.cert_check.specs.inside.Calls.{SaysTruly}
use Rattle.cert_check.proofs.ReportLemmas.{accepted_is_proved}

-- each leaf of a proved refutation is refuted, by a reason that holds
refuted_parts : (basis : Basis) (question : Question) (tree : WideTree) (zone : List Literal)
    → WideNodesMeet (NodeFits true basis Refutation question) zone tree
    → (is_wide_refuted tree ≡ true) × AreWideReasonsTrue basis.sheet basis.season question zone tree
refuted_parts basis question open_leaf zone fits = absurd fits
refuted_parts basis question (refuted_leaf reason fresh) zone fits = (refl, fits.1)
refuted_parts basis question (branch test fresh yes_half no_half) zone fits =
    let yes = refuted_parts basis question yes_half (with_test zone test true) fits.1 in
    let no = refuted_parts basis question no_half (with_test zone test false) fits.2 in
    (and_from (is_wide_refuted yes_half) (is_wide_refuted no_half) yes.0 no.0, (tt, yes.1, no.1))

-- a proved refutation leaves the question no example
refutation_decides : (basis : Basis) (question : Question) (tokens : List Token)
    → question.club < length basis.sheet.clubs → IsRefutationPart true basis question tokens
    → HasNoExample basis.sheet basis.season question
refutation_decides basis question tokens club_in part = by_trees part.1.0 part.1.1
  where
    by_trees : (trees : List WideTree) → TreesFit true basis Refutation question ([] ∷ []) trees
        → HasNoExample basis.sheet basis.season question
    by_trees [] fits = absurd fits
    by_trees (tree ∷ trees) fits =
        let both = refuted_parts basis question tree [] fits.0 in
        none_at_root basis.sheet basis.season question
        (refuted_below basis.sheet basis.season question tree [] club_in both.0 both.1)

-- a proved example is one
example_is : (basis : Basis) (question : Question) (tokens : List Token)
    → IsExamplePart true basis question tokens
    → HasExample basis.sheet basis.season question
example_is basis question tokens part =
    let rest = part.1 in (
      finish_with basis.season rest.0,
      rest.1,
      record {
        is_finish = record { deductions = refl; scores = rest.2 };
        is_drawn = rest.3;
        holds = rest.4;
      },
    )

-- what comes after a word makes it true
word_true : (basis : Basis) (line club : ℕ) (word : RowWord) (tokens : List Token)
    → club < length basis.sheet.clubs → IsAfterReport true basis line club word tokens
    → IsSaidTruly basis line club word
word_true basis line club Clinched tokens club_in behind =
    refutation_decides basis (full_question club line Outside) tokens club_in behind
word_true basis line club Lost tokens club_in behind =
    refutation_decides basis (full_question club line Inside) tokens club_in behind
word_true basis line club Possible tokens club_in behind = (
  example_is basis (full_question club line Inside) behind.0 behind.2,
  example_is basis (full_question club line Outside) behind.1 behind.3,
)
word_true basis line club Unsettled tokens club_in behind = tt

-- the row of an ask, or that of a club of the sheet
is_row_due : ℕ → Expected → Bool
is_row_due clubs ask_row = true
is_row_due clubs (verdict_row line club) = nat_lt club clubs
is_row_due clubs _ = false

-- rows that are proved are true
rows_true : (basis : Basis) (dues : List Expected) (tokens : List Token)
    → list_all (is_row_due (length basis.sheet.clubs)) dues ≡ true
    → AreParts true basis dues tokens → AreTrueRows basis dues tokens
unfolding is_row_due
rows_true basis [] tokens rows parts = parts
rows_true basis (ask_row ∷ dues) tokens rows parts =
    (parts.1, parts.4 ∙ ap (λ it. it ++ parts.1) parts.2, rows_true basis dues parts.1 rows parts.3)
rows_true basis (verdict_row line club ∷ dues) tokens rows parts =
    let both = and_parts (nat_lt club (length basis.sheet.clubs))
    (list_all (is_row_due (length basis.sheet.clubs)) dues) rows in
    let item = parts.2 in (
      item.0,
      item.1,
      parts.1,
      word_true basis line club item.0 item.1 (ltb-true club (length basis.sheet.clubs) both.0)
          item.2,
      parts.4 ∙ ap (λ it. it ++ parts.1) item.3,
      rows_true basis dues parts.1 both.1 parts.3,
    )
rows_true basis (_ ∷ dues) tokens rows parts = absurd (false≢true rows)

-- the clubs of a sheet are below their number
clubs_below_number : (clubs : ℕ)
    → list_all (λ club. nat_lt club clubs) (range_with_len 0 clubs) ≡ true
clubs_below_number clubs =
    all_members (λ club. nat_lt club clubs) (range_with_len 0 clubs)
    (λ club has. sym (has_club-range clubs club) ∙ has)

-- the rows of an answer are of clubs of the sheet
rows_due : (clubs : ℕ) (lines : List ℕ)
    → list_all (is_row_due clubs) (flat_map (rows_on_line (range_with_len 0 clubs)) lines) ≡ true
unfolding is_row_due
rows_due clubs [] = refl
rows_due clubs (line ∷ lines) =
    list_all-append (is_row_due clubs) (rows_on_line (range_with_len 0 clubs) line)
    (flat_map (rows_on_line (range_with_len 0 clubs)) lines)
    ∙ and_from (list_all (is_row_due clubs) (rows_on_line (range_with_len 0 clubs) line))
    (list_all (is_row_due clubs) (flat_map (rows_on_line (range_with_len 0 clubs)) lines))
    (list_all-map (is_row_due clubs) (verdict_row line) (range_with_len 0 clubs)
    ∙ clubs_below_number clubs) (rows_due clubs lines)

-- the part of an ask is true if it is proved
pub part_true : (basis : Basis) (tokens : List Token)
    → AreParts true basis (part_of_ask basis.sheet) tokens
    → AreTrueRows basis (part_of_ask basis.sheet) tokens
unfolding is_row_due
part_true basis tokens parts =
    rows_true basis (part_of_ask basis.sheet) tokens
    (rows_due (length basis.sheet.clubs) basis.sheet.lines) parts

-- what is read as whole tells the truth
pub told_truly : (basis : Basis) (lines : List NumberedLine) (from next unsettled : ℕ)
    → part_ending basis lines from ≡ whole_at next unsettled
    → SaysTruly basis lines from next
told_truly basis lines from next unsettled ending =
    let read = accepted_is_proved basis
    (drop from (tokens_of lines)) (part_of_ask basis.sheet) from 0 next unsettled ending in
    (read.0, read.1, read.2, read.3, part_true basis (counted_lines read.0) read.5)
