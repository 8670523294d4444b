-- The epoch of an ask is told by its own row alone: items come to the same by any.
use Rattle.std.proofs.Common.{◌≡◌, ℕ, ◌&&◌, ◌==◌, Bool, true, false, List, [], ◌∷◌, ◌++◌}
use Rattle.std.proofs.Common.{Option}
use Rattle.std.proofs.Common.{Some, None, refl, ap, length}
use Rattle.std.proofs.Common.{if◌then◌else◌}
use Rattle.std.specs.List.{list_all}
use Rattle.std.proofs.lemmas.Bool.{false≢true}
use Rattle.league_core.specs.declared.sheet.Sheet.{Sheet}
use Rattle.league_core.specs.declared.question.Question.{Question}
use Rattle.league_core.specs.declared.question.Claim.TheVariants.{Inside}
use Rattle.league_core.specs.declared.season.Score.{Score}
use Rattle.wide_lines.specs.declared.wide_node.WideNode.{WideNode}
use Rattle.wide_lines.specs.declared.wide_node.WideNode.TheVariants as node
use Rattle.league_core.specs.declared.zone.Literal.{Literal}
use Rattle.league_core.specs.game.Results.{Results}
use Rattle.league_core.specs.game.Questions.{holds_at}
use Rattle.league_core.specs.game.Ranking.{are_lots}
use Rattle.cert_text.specs.TreeLines.{is_test_for}
use Rattle.cert_text.specs.declared.proof_line.ProofLine.{ProofLine}
use Rattle.cert_text.specs.declared.proof_line.ProofLine.TheVariants as line
use Rattle.cert_check.specs.declared.expected.Head.{Head}
use Rattle.cert_check.specs.declared.expected.Head.TheVariants.{RefutedTree, SpentTree, Example}
use Rattle.line_tokens.specs.declared.row_word.RowWord.{RowWord}
use Rattle.line_tokens.specs.declared.row_word.RowWord.TheVariants.{Clinched, Lost, Possible}
use Rattle.line_tokens.specs.declared.row_word.RowWord.TheVariants.{Unsettled}
use Rattle.cert_check.specs.declared.expected.Tally.{Tally}
use Rattle.line_tokens.specs.declared.tree_line.TreeKind.{TreeKind}
use Rattle.line_tokens.specs.declared.token.Token.{Token}
use Rattle.line_tokens.specs.declared.token.Token.TheVariants.{Blank, Row, Proof, Near, Unknown}
use Rattle.cert_check.specs.ExpectedItems.{Basis, Expected, ask_row, verdict_row, tree_head}
use Rattle.cert_check.specs.ExpectedItems.{spent_head, finish_head, both_parts, one_part, nodes}
use Rattle.cert_check.specs.LineGrammars.{Next, bad, go}
use Rattle.cert_check.specs.ExpectedItems.{score, lots, after, scores_due}
use Rattle.cert_check.specs.ExpectedItems.{whole_example, promised, after_tree_head}
use Rattle.cert_check.specs.ExpectedItems.{after_spent_head, after_finish_head, after_one_part}
use Rattle.cert_check.specs.ExpectedItems.{after_both_parts, after_leaf, after_node_if}
use Rattle.cert_check.specs.ExpectedItems.{after_score, after_lots, head_in, is_ending}
use Rattle.line_tokens.specs.TreeNodes.{wide_node_in}
use Rattle.line_tokens.specs.LineRanges.{name_of_club}
use Rattle.cert_check.specs.declared.expected.ReportKind.{ReportKind}
use Rattle.cert_check.specs.ExpectedItems.{word_in_row, with_open, may_refute}
use Rattle.cert_check.specs.ExpectedItems.{finish_with}
use Rattle.cert_check.specs.Machine.{ending_of, report_grammar, basis_of}
use Rattle.cert_check.proofs.AlikeLemmas.{Agree, same_where_agreed}
use Rattle.par_check.specs.FirstStops.{is_item_due}

-- ---- what is due behind an item's line

-- none of this is the row of an ask
abbrev pub are_items : List Expected → Bool
are_items dues = list_all is_item_due dues

-- a line that is judged alike by both leaves no row of an ask due
abbrev Alike : Next Expected → Next Expected → Type 0
Alike one other = Agree is_item_due one other

scores_are : (question : Question) (ended left : List (Option Score))
    → is_item_due (scores_due question ended left) ≡ true
scores_are question ended [] = refl
scores_are question ended (Some played ∷ left) =
    scores_are question (ended ++ Some played ∷ []) left
scores_are question ended (None ∷ left) = refl

example_is : (basis : Basis) (question : Question)
    → is_item_due (whole_example basis question) ≡ true
example_is basis question = scores_are question [] basis.season.scores

alike_if : (is : Bool) (one other : Next Expected) → Alike one other
    → Alike (if is then one else bad) (if is then other else bad)
alike_if true one other are = are
alike_if false one other are = record { same = refl; leaves = refl }

alike_word : (line club : ℕ) (word : Option RowWord)
    → Alike (promised line club word) (promised line club word)
alike_word line club None = record { same = refl; leaves = refl }
alike_word line club (Some Clinched) = record { same = refl; leaves = refl }
alike_word line club (Some Lost) = record { same = refl; leaves = refl }
alike_word line club (Some Possible) = record { same = refl; leaves = refl }
alike_word line club (Some Unsettled) = record { same = refl; leaves = refl }

alike_tree : (question : Question) (head : Option Head)
    → Alike (after_tree_head question head) (after_tree_head question head)
alike_tree question None = record { same = refl; leaves = refl }
alike_tree question (Some RefutedTree) = record { same = refl; leaves = refl }
alike_tree question (Some SpentTree) = record { same = refl; leaves = refl }
alike_tree question (Some Example) = record { same = refl; leaves = refl }

alike_spent : (question : Question) (head : Option Head)
    → Alike (after_spent_head question head) (after_spent_head question head)
alike_spent question None = record { same = refl; leaves = refl }
alike_spent question (Some RefutedTree) = record { same = refl; leaves = refl }
alike_spent question (Some SpentTree) = record { same = refl; leaves = refl }
alike_spent question (Some Example) = record { same = refl; leaves = refl }

module _ (kind : ReportKind) (sheet : Sheet) (season : Results) (epoch other : ℕ) where
  abbrev first : Basis
  first = basis_of kind sheet season epoch

  abbrev second : Basis
  second = basis_of kind sheet season other

  alike_finish : (question : Question) (head : Option Head)
      → Alike (after_finish_head first question head) (after_finish_head second question head)
  alike_finish question None = record { same = refl; leaves = refl }
  alike_finish question (Some RefutedTree) = record { same = refl; leaves = refl }
  alike_finish question (Some SpentTree) = record { same = refl; leaves = refl }
  alike_finish question (Some Example) =
      record { same = refl; leaves = ap (λ it. it && true) (example_is first question) }

  alike_one : (question : Question) (head : Option Head)
      → Alike (after_one_part first question head) (after_one_part second question head)
  alike_one question None = record { same = refl; leaves = refl }
  alike_one question (Some RefutedTree) = record { same = refl; leaves = refl }
  alike_one question (Some SpentTree) = record { same = refl; leaves = refl }
  alike_one question (Some Example) =
      record { same = refl; leaves = ap (λ it. it && true) (example_is first question) }

  alike_both : (inside outside : Question) (head : Option Head)
      → Alike (after_both_parts first inside outside head)
      (after_both_parts second inside outside head)
  alike_both inside outside None = record { same = refl; leaves = refl }
  alike_both inside outside (Some RefutedTree) = record { same = refl; leaves = refl }
  alike_both inside outside (Some SpentTree) = record { same = refl; leaves = refl }
  alike_both inside outside (Some Example) =
      record { same = refl; leaves = ap (λ it. it && true) (example_is first inside) }

  alike_leaf : (tree : TreeKind) (question : Question) (zones : List (List Literal))
      (tally : Tally) (holds : Bool)
      → Alike (after_leaf first tree question zones tally holds)
      (after_leaf second tree question zones tally holds)
  alike_leaf tree question [] tally holds = record { same = refl; leaves = refl }
  alike_leaf tree question (zone ∷ zones) tally holds = record { same = refl; leaves = refl }

  alike_node : (tree : TreeKind) (question : Question) (zone : List Literal)
      (zones : List (List Literal)) (tally : Tally) (it : Option WideNode)
      → Alike (after_node_if first tree question zone zones tally it)
      (after_node_if second tree question zone zones tally it)
  alike_node tree question zone zones tally None = record { same = refl; leaves = refl }
  alike_node tree question zone zones tally (Some (node.Split test fresh)) =
      alike_if (is_test_for sheet question test) _ _ (record { same = refl; leaves = refl })
  alike_node tree question zone zones tally (Some (node.Refuted reason fresh)) =
      alike_if (may_refute kind sheet question reason) _ _
      (alike_leaf tree question zones _ _)
  alike_node tree question zone zones tally (Some node.Open) =
      alike_leaf tree question zones (with_open tally) true

  alike_score : (question : Question) (ended left : List (Option Score)) (it : ProofLine)
      → Alike (after_score first question ended left it)
      (after_score second question ended left it)
  alike_score question ended left (line.Score fixture ending) =
      alike_if ((fixture == length ended) && is_ending sheet ending)
      (go true (scores_due question (ended ++ Some ending ∷ []) left ∷ []))
      (go true (scores_due question (ended ++ Some ending ∷ []) left ∷ [])) (record {
        same = refl;
        leaves = ap (λ it. it && true) (scores_are question (ended ++ Some ending ∷ []) left);
      })
  alike_score question ended left _ = record { same = refl; leaves = refl }

  alike_lots : (question : Question) (ended : List (Option Score)) (it : ProofLine)
      → Alike (after_lots first question ended it) (after_lots second question ended it)
  alike_lots question ended (line.Lots list) =
      alike_if (are_lots (length sheet.clubs) list.list)
      (go (holds_at sheet question (finish_with season ended) list.list) [])
      (go (holds_at sheet question (finish_with season ended) list.list) [])
      (record { same = refl; leaves = refl })
  alike_lots question ended _ = record { same = refl; leaves = refl }

  -- a line that comes where something of an item is due
  alike_line : (due : Expected) (token : Token) → is_item_due due ≡ true
      → Alike (after first due token) (after second due token)
  alike_line due Blank item = record { same = refl; leaves = ap (λ it. it && true) item }
  alike_line due Unknown item = record { same = refl; leaves = refl }
  alike_line ask_row (Row fields) item = absurd (false≢true item)
  alike_line (verdict_row line club) (Row fields) item =
      alike_word line club (word_in_row line (name_of_club sheet club) fields)
  alike_line _ (Row fields) item = record { same = refl; leaves = refl }
  alike_line ask_row (Proof it) item = absurd (false≢true item)
  alike_line (verdict_row line club) (Proof it) item = record { same = refl; leaves = refl }
  alike_line (tree_head question) (Proof it) item =
      alike_tree question (head_in question.claim it)
  alike_line (spent_head question) (Proof it) item =
      alike_spent question (head_in question.claim it)
  alike_line (finish_head question) (Proof it) item =
      alike_finish question (head_in question.claim it)
  alike_line (both_parts line club) (Proof it) item = alike_both _ _ (head_in Inside it)
  alike_line (one_part question) (Proof it) item =
      alike_one question (head_in question.claim it)
  alike_line (nodes tree question zone zones tally) (Proof it) item =
      alike_node tree question zone zones tally (wide_node_in tree (Proof it))
  alike_line (score question ended left) (Proof it) item = alike_score question ended left it
  alike_line (lots question ended) (Proof it) item = alike_lots question ended it
  alike_line (nodes tree question zone zones tally) (Near rival fresh) item =
      alike_node tree question zone zones tally (wide_node_in tree (Near rival fresh))
  alike_line _ (Near rival fresh) item = record { same = refl; leaves = refl }

  -- lines that come where items are due
  pub alike_lines : (tokens : List Token) (dues : List Expected) (at unsettled : ℕ)
      → are_items dues ≡ true
      → ending_of first tokens dues at unsettled ≡ ending_of second tokens dues at unsettled
  unfolding report_grammar
  alike_lines tokens dues at unsettled items =
      same_where_agreed report_grammar first second is_item_due alike_line tokens dues at
      unsettled items
