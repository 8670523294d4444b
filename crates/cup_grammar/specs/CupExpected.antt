-- What each line of a report on a cup leaves due in the place of what it is read for: the row of
-- the ask, the rows of the clubs, and the proof lines under them.
use Rattle.std.specs.Prelude.{ℕ, true, List, [], ◌∷◌, Option, Some, None, if◌then◌else◌}
use Rattle.league_core.specs.declared.question.Claim.TheVariants.{Inside, Outside}
use Rattle.line_tokens.specs.declared.row_word.RowWord.{RowWord}
use Rattle.line_tokens.specs.declared.row_word.RowWord.TheVariants as word
use Rattle.cert_check.specs.ExpectedItems.{is_ask_row, word_in_row}
use Rattle.cert_check.specs.LineGrammars.{Next, bad, go}
use Rattle.cup_text.specs.declared.cup_line.CupLine.{CupLine}
use Rattle.cup_text.specs.CupItems.{cup_club_name}
use Rattle.cup_grammar.specs.declared.token.CupToken.{CupToken}
use Rattle.cup_grammar.specs.declared.token.CupToken.TheVariants.{Blank, Row, Proof, Unknown}
use Rattle.cup_grammar.specs.PlacedGroups.{CupBasis, placed_groups, group_with, own_node}
use Rattle.cup_grammar.specs.CupDues.{CupDue, ask_row, club_row, key_line, groups_line, tree_head}
use Rattle.cup_grammar.specs.CupDues.{spent_head, finish_head, one_part, both_parts, nodes, score}
use Rattle.cup_grammar.specs.CupDues.{lots, after_key_line, after_groups_in, after_group_head}
use Rattle.cup_grammar.specs.CupDues.{after_group_node_if, after_spent_line, after_joint_head}
use Rattle.cup_grammar.specs.CupDues.{after_cup_part, after_cup_parts, after_cup_score}
use Rattle.cup_grammar.specs.CupDues.{after_cup_lots}

-- what a word asks for
abbrev pub dues_of_cup_word : ℕ → RowWord → List CupDue
dues_of_cup_word club word.Clinched = key_line Outside club ∷ []
dues_of_cup_word club word.Lost = key_line Inside club ∷ []
dues_of_cup_word club word.Possible = finish_head Inside club ∷ finish_head Outside club ∷ []
dues_of_cup_word club word.Unsettled = both_parts club ∷ []

-- what is due after a row, if it has a word
abbrev pub promised_of_club : ℕ → Option RowWord → Next CupDue
promised_of_club club None = bad
promised_of_club club (Some word) = go true (dues_of_cup_word club word)

-- a row when something is due: that of a club has the quota in the place of a line
abbrev pub after_cup_row : CupBasis → CupDue → List (List ℕ) → Next CupDue
after_cup_row basis ask_row fields =
    if is_ask_row basis.epoch fields then go true [] else bad
after_cup_row basis (club_row club) fields =
    promised_of_club club (word_in_row basis.cup.quota (cup_club_name basis.cup club) fields)
after_cup_row basis _ fields = bad

-- a proof line when something is due
abbrev pub after_cup_proof : CupBasis → CupDue → CupLine → Next CupDue
after_cup_proof basis ask_row it = bad
after_cup_proof basis (club_row club) it = bad
after_cup_proof basis (key_line claim club) it = after_key_line claim club it
after_cup_proof basis (groups_line claim club key) it =
    after_groups_in basis claim club key (group_with (placed_groups basis) club) it
after_cup_proof basis (tree_head group question) it = after_group_head group question it
after_cup_proof basis spent_head it = after_spent_line basis [] it
after_cup_proof basis (finish_head claim club) it = after_joint_head basis claim club it
after_cup_proof basis (one_part claim club) it = after_cup_part basis claim club it
after_cup_proof basis (both_parts club) it = after_cup_parts basis club it
after_cup_proof basis (nodes kind group question zone zones tally) it =
    after_group_node_if kind group question zone zones tally (own_node kind group it)
after_cup_proof basis (score claim club ended left) it =
    after_cup_score basis claim club ended left it
after_cup_proof basis (lots claim club ended) it = after_cup_lots basis claim club ended it

-- any line when something is due; a line that is passed over leaves it due
abbrev pub after_in_cup : CupBasis → CupDue → CupToken → Next CupDue
after_in_cup basis due Blank = go true (due ∷ [])
after_in_cup basis due (Row fields) = after_cup_row basis due fields
after_in_cup basis due (Proof it) = after_cup_proof basis due it
after_in_cup basis due Unknown = bad
