-- What the mode `scores` answers: for each line and each club the row of its two numbers, and
-- after it the spent trees of those that are a range, that of the possible score first.
use Rattle.std.specs.Prelude.{ℕ, List, [], ◌++◌}
use Rattle.std.specs.List.{flat_map}
use Rattle.league_core.specs.declared.sheet.Sheet.{Sheet}
use Rattle.cert_text.specs.ExampleLines.{text_of_proof_lines}
use Rattle.cert_text.specs.declared.proof_line.ProofLine.{ProofLine}
use Rattle.answer_rows.specs.declared.bound.Score2.{Score2}
use Rattle.answer_rows.specs.declared.bound.ClubScores.{ClubScores}
use Rattle.answer_rows.specs.Rows.{ask_row}
use Rattle.answer_rows.specs.Parts.{club_name}
use Rattle.answer_rows.specs.Rows.{score_row}
use Rattle.answer_rows.specs.declared.bound.Bound.{Bound}
use Rattle.answer_rows.specs.declared.bound.Bound.TheVariants.{Known, None, Between}

-- the spent tree of a range under its head; no line if there is none
abbrev pub tree_lines : Bound → List ProofLine
tree_lines (Known number) = []
tree_lines None = []
tree_lines (Between low high spent) = spent.items

-- both trees as a text, that of the possible score first
abbrev pub trees_text : Score2 → List ℕ
trees_text scores =
    text_of_proof_lines (tree_lines scores.pqs) ++ text_of_proof_lines (tree_lines scores.gqs)

-- the item of a line and a club: its row, then its trees
abbrev pub score_item : Sheet → ClubScores → List ℕ
score_item sheet found =
    score_row found.line (club_name sheet found.club) found.scores ++ trees_text found.scores

-- the items, in their order
abbrev pub text_of_score_items : Sheet → List ClubScores → List ℕ
text_of_score_items sheet scores = flat_map (score_item sheet) scores

-- the row of the ask, then the items
abbrev pub text_of_scores : Sheet → ℕ → List ClubScores → List ℕ
text_of_scores sheet epoch scores = ask_row epoch ++ text_of_score_items sheet scores
