-- The numbers so far, as an answer is put together.
use Rattle.std.specs.Prelude.{All}
use Rattle.std.specs.List.{list_all}
use Rattle.answer_rows.specs.inside.SpentLines.{IsBoundInRange, IsInLineRange, AreInLineRange}
use Rattle.std.proofs.Common.{◌≡◌, ℕ, ◌+◌, ◌<◌, List, [], ◌∷◌, ◌++◌, length, map}
use Rattle.std.proofs.Common.{refl}
use Rattle.std.proofs.Common.{true, sym, ap, ◌∙◌, subst, arith, append_assoc, append-nil}
use Rattle.std.proofs.Common.{nat_lt, nat_le}
use Rattle.std.proofs.lemmas.Bool.{and_parts, ltb-true, leb-true}
use Rattle.std.proofs.lemmas.List.{map-append}
use Rattle.std.proofs.lemmas.List.Elements.{All-nil, All-cons, All-append, All-weaker}
use Rattle.std.proofs.lemmas.List.FromFn.{map-range_with_len_more}
use Rattle.league_core.specs.declared.sheet.Sheet.{Sheet}
use Rattle.league_core.specs.declared.question.Claim.{Claim}
use Rattle.league_core.specs.declared.question.Claim.TheVariants.{Inside, Outside}
use Rattle.league_core.specs.game.Results.{Results}
use Rattle.league_core.specs.game.Sheets.{is_line}
use Rattle.league_core.specs.game.Questions.{IsQuestionOf, full_question}
use Rattle.cert_text.specs.declared.proof_line.ProofLine.{ProofLine}
use Rattle.cert_text.specs.Ranges.{is_in_range}
use Rattle.answer_rows.specs.Items.{AnswerRow, answer_rows_of}
use Rattle.answer_rows.specs.declared.bound.Bound.{Bound}
use Rattle.answer_rows.specs.declared.bound.Bound.TheVariants.{Known, None, Between}
use Rattle.answer_rows.specs.declared.bound.Score2.{Score2}
use Rattle.answer_rows.specs.declared.bound.ClubScores.{ClubScores}
use Rattle.qual_scores.specs.Bounds.{AreRightScores, IsRightBound}
use Rattle.qual_scores.specs.AllScores.{scores_row, AreRightOf, AreScoresFor}
use Rattle.qual_scores.specs.inside.AddedScores.{AddsClubs}

-- numbers for some rows and then for others
pub scores_joined : (sheet : Sheet) (season : Results) (rows others : List AnswerRow)
    (scores more : List ClubScores) → AreScoresFor sheet season rows scores
    → AreScoresFor sheet season others more
    → AreScoresFor sheet season (rows ++ others) (scores ++ more)
scores_joined sheet season rows others scores more first second = record {
  about = map-append scores_row scores more ∙ ap (λ xs. xs ++ map scores_row more) first.about
      ∙ ap (λ xs. rows ++ xs) second.about;
  each = All-append (AreRightOf sheet season) scores more first.each second.each;
}

pub no_scores : (sheet : Sheet) (season : Results) → AreScoresFor sheet season [] []
no_scores sheet season = record { about = refl; each = All-nil (AreRightOf sheet season) }

-- nothing is added yet
pub adds_none : (sheet : Sheet) (season : Results) (line : ℕ) (old : List ClubScores)
    → AddsClubs sheet season line 0 old old
adds_none sheet season line old =
    record { more = []; after = sym (append-nil old); right = no_scores sheet season }

-- one club more
pub adds_one : (sheet : Sheet) (season : Results) (line club : ℕ) (scores : Score2)
    (old between new : List ClubScores) → AddsClubs sheet season line club old between
    → club < length sheet.clubs → AreRightScores sheet season club line scores
    → new ≡ between ++ record { line = line; club = club; scores = scores } ∷ []
    → AddsClubs sheet season line (club + 1) old new
adds_one sheet season line club scores old between new adds within right after =
    let found : ClubScores = record { line = line; club = club; scores = scores } in
    let one : AreScoresFor sheet season (record { line = line; club = club } ∷ []) (found ∷ []) =
    record {
      about = refl;
      each = All-cons (AreRightOf sheet season) found []
          (record { club = within; right = right }) (All-nil (AreRightOf sheet season));
    } in
    record {
      more = adds.more ++ found ∷ [];
      after = after ∙ ap (λ xs. xs ++ found ∷ []) adds.after
          ∙ append_assoc old adds.more (found ∷ []);
      right = subst (λ (rows : List AnswerRow).
          AreScoresFor sheet season rows (adds.more ++ found ∷ []))
          (sym (map-range_with_len_more (λ c. record { line = line; club = c }) 0 club club
          (omega arith)))
          (scores_joined sheet season (answer_rows_of club line)
          (record { line = line; club = club } ∷ []) adds.more (found ∷ []) adds.right one);
    }

-- a question about a club of the sheet and a line that may be is one of the sheet
pub row_is_asked : (sheet : Sheet) (line club : ℕ) (claim : Claim) → club < length sheet.clubs
    → is_line (length sheet.clubs) line ≡ true
    → IsQuestionOf sheet (full_question club line claim)
row_is_asked sheet line club claim within may =
    let parts = and_parts (nat_le 1 line) (nat_lt line (length sheet.clubs)) may in
    record {
      club = within;
      least_line = leb-true 1 line parts.0;
      most_line = ltb-true line (length sheet.clubs) parts.1;
    }

-- ---- ranges

each_in_range : (lines : List ProofLine) → list_all is_in_range lines ≡ true
    → All (λ line. is_in_range line ≡ true) lines
each_in_range [] all = All-nil (λ line. is_in_range line ≡ true)
each_in_range (line ∷ lines) all =
    let parts = and_parts (is_in_range line) (list_all is_in_range lines) all in
    All-cons (λ l. is_in_range l ≡ true) line lines parts.0 (each_in_range lines parts.1)

-- the lines of a right bound are in range
bound_in_range : (sheet : Sheet) (season : Results) (club line : ℕ) (claim : Claim)
    (bound : Bound) → IsRightBound sheet season club line claim bound → IsBoundInRange bound
bound_in_range sheet season club line claim (Known number) right =
    All-nil (λ shown. is_in_range shown ≡ true)
bound_in_range sheet season club line claim None right =
    All-nil (λ shown. is_in_range shown ≡ true)
bound_in_range sheet season club line claim (Between low high spent) right =
    each_in_range spent.items right.in_range

-- so are those of right numbers
pub scores_in_range : (sheet : Sheet) (season : Results) (scores : List ClubScores)
    → All (AreRightOf sheet season) scores → AreInLineRange sheet scores
scores_in_range sheet season scores right =
    All-weaker (AreRightOf sheet season) (IsInLineRange sheet) one scores right
  where
    one : (found : ClubScores) → AreRightOf sheet season found → IsInLineRange sheet found
    one found is = record {
      club = is.club;
      possible = bound_in_range sheet season found.club found.line Inside found.scores.pqs
          is.right.possible;
      guaranteed = bound_in_range sheet season found.club found.line Outside found.scores.gqs
          is.right.guaranteed;
    }
