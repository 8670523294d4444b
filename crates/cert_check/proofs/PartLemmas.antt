-- Any line that may come: with what is due after it, it is a part, and the first line of a part
-- leaves due what its other lines are.
use Rattle.std.proofs.Common.{◌≡◌, ℕ, Bool, true, false, List, [], ◌∷◌, ◌++◌, Option, Some, None}
use Rattle.std.proofs.Common.{refl, sym, ap, ◌∙◌, subst, inl, inr}
use Rattle.std.specs.Prelude.{◌⊎◌, if◌then◌else◌}
use Rattle.std.proofs.lemmas.Bool.{false≢true}
use Rattle.league_core.specs.declared.question.Claim.{Claim}
use Rattle.league_core.specs.declared.question.Claim.TheVariants.{Inside, Outside}
use Rattle.league_core.specs.declared.question.Question.{Question}
use Rattle.league_core.specs.game.Questions.{full_question}
use Rattle.cert_text.specs.declared.proof_line.ProofLine.{ProofLine}
use Rattle.cert_text.specs.declared.proof_line.ProofLine.TheVariants as line
use Rattle.line_tokens.specs.declared.token.Token.{Token}
use Rattle.line_tokens.specs.declared.token.Token.TheVariants.{Blank, Row, Proof, Near, Unknown}
use Rattle.line_tokens.specs.declared.row_word.RowWord.{RowWord}
use Rattle.line_tokens.specs.declared.row_word.RowWord.TheVariants.{Clinched, Lost, Possible}
use Rattle.line_tokens.specs.declared.row_word.RowWord.TheVariants.{Unsettled}
use Rattle.cert_check.specs.declared.expected.Head.{Head}
use Rattle.cert_check.specs.declared.expected.Head.TheVariants.{RefutedTree, SpentTree, Example}
use Rattle.line_tokens.specs.declared.tree_line.TreeKind.TheVariants.{Refutation, Spent}
use Rattle.line_tokens.specs.Tokens.{counts}
use Rattle.cert_check.specs.ExpectedItems.{Basis, Expected, ask_row, verdict_row, tree_head}
use Rattle.cert_check.specs.ExpectedItems.{spent_head}
use Rattle.cert_check.specs.ExpectedItems.{finish_head, both_parts, one_part, nodes, score, lots}
use Rattle.cert_check.specs.LineGrammars.{bad, go}
use Rattle.cert_check.specs.ExpectedItems.{is_ask_row}
use Rattle.line_tokens.specs.RowFields.{ask_fields, verdict_fields}
use Rattle.line_tokens.specs.LineRanges.{name_of_club}
use Rattle.cert_check.specs.ExpectedItems.{word_in_row, promised, whole_tree}
use Rattle.line_tokens.specs.LineRanges.{same_claim}
use Rattle.cert_check.specs.ExpectedItems.{whole_example}
use Rattle.cert_check.specs.ExpectedItems.{after_tree_head, after_spent_head, after_finish_head}
use Rattle.cert_check.specs.ExpectedItems.{after_one_part, after_both_parts, head_in, if_of_claim}
use Rattle.cert_check.specs.ExpectedItems.{after}
use Rattle.cert_check.specs.inside.Grammar.{report_parts}
use Rattle.cert_check.specs.inside.Grammar.{IsPartFor, AreParts, IsRefutationPart, IsSpentPart}
use Rattle.cert_check.specs.inside.Grammar.{IsExamplePart, IsOnePart, AreBothParts, IsAfterReport}
use Rattle.cert_check.specs.inside.Grammar.{IsItemLines}
use Rattle.cert_check.proofs.NextLemmas.{go-same, bad-go, go-if, if-go, only_part, as_only_part}
use Rattle.cert_check.proofs.NextLemmas.{Parted}
use Rattle.cert_check.proofs.RowLemmas.{ask_row-says, ask_row-of}
use Rattle.cert_check.proofs.RowLemmas.{word_in_row-says, word_in_row-of}
use Rattle.cert_check.proofs.NodeLemmas.{join_nodes, part_nodes}
use Rattle.cert_check.proofs.ScoreLemmas.{scores_due-rest, rest-scores_due, join_score, join_lots}
use Rattle.cert_check.proofs.ScoreLemmas.{part_score, part_lots}

-- claims of which the test says so are the same
same_claim-true : (claim other : Claim) → same_claim claim other ≡ true → claim ≡ other
same_claim-true Inside Inside same = refl
same_claim-true Inside Outside same = absurd (false≢true same)
same_claim-true Outside Inside same = absurd (false≢true same)
same_claim-true Outside Outside same = refl

-- a claim is the same as itself
same_claim-itself : (claim : Claim) → same_claim claim claim ≡ true
same_claim-itself Inside = refl
same_claim-itself Outside = refl

-- two parts are two things due
as_two_parts : (proved : Bool) (basis : Basis) (due second : Expected) (front back : List Token)
    → IsPartFor proved basis due front → IsPartFor proved basis second back
    → AreParts proved basis (due ∷ second ∷ []) (front ++ back)
as_two_parts proved basis due second front back part other =
    (front, back, part, as_only_part report_parts proved basis second back other, refl)

-- a head of this claim
of_claim : (claim other : Claim) (head found : Head) → if_of_claim claim other head ≡ Some found
    → (other ≡ claim) × (head ≡ found)
of_claim claim other head found is = by_test (same_claim other claim) refl is
  where
    by_test : (test : Bool) → same_claim other claim ≡ test
        → (if test then Some head else None) ≡ Some found → (other ≡ claim) × (head ≡ found)
    by_test true same is = (same_claim-true other claim same, cc)
    by_test false same is = absurd cc

-- the line of a head
line_of_head : Claim → Head → ProofLine
line_of_head claim RefutedTree = line.Tree claim
line_of_head claim SpentTree = line.Spent claim
line_of_head claim Example = line.Finish claim

-- a line that is a head is the line of this head
head_line : (claim : Claim) (shown : ProofLine) (head : Head) → head_in claim shown ≡ Some head
    → shown ≡ line_of_head claim head
unfolding line_of_head
head_line claim (line.Tree other) head is =
    let of = of_claim claim other RefutedTree head is in
    ap (λ it. line.Tree it) of.0 ∙ ap (line_of_head claim) of.1
head_line claim (line.Spent other) head is =
    let of = of_claim claim other SpentTree head is in
    ap (λ it. line.Spent it) of.0 ∙ ap (line_of_head claim) of.1
head_line claim (line.Finish other) head is =
    let of = of_claim claim other Example head is in
    ap (λ it. line.Finish it) of.0 ∙ ap (line_of_head claim) of.1
head_line claim _ head is = absurd cc

-- the line of a head is this head
head_of_line : (claim : Claim) (head : Head) → head_in claim (line_of_head claim head) ≡ Some head
unfolding line_of_head
head_of_line claim RefutedTree =
    ap (λ it. if it then Some RefutedTree else None) (same_claim-itself claim)
head_of_line claim SpentTree =
    ap (λ it. if it then Some SpentTree else None) (same_claim-itself claim)
head_of_line claim Example = ap (λ it. if it then Some Example else None) (same_claim-itself claim)

-- ---- a head with what is due after it

-- parts for what a line leaves due
those : (proved : Bool) (basis : Basis) (dues more : List Expected) (holds : Bool)
    (tokens : List Token)
    → go true dues ≡ go holds more → AreParts proved basis more tokens
    → AreParts proved basis dues tokens
those proved basis dues more holds tokens goes parts =
    let P : List Expected → Type 0 = λ it. AreParts proved basis it tokens in
    subst P (sym (go-same true holds dues more goes).1) parts

-- a refutation after its head
behind_tree : (proved : Bool) (basis : Basis) (question : Question) (shown : ProofLine)
    (tokens : List Token) → head_in question.claim shown ≡ Some RefutedTree
    → IsPartFor proved basis (whole_tree Refutation question) tokens
    → IsRefutationPart proved basis question (Proof shown ∷ tokens)
unfolding line_of_head
behind_tree proved basis question shown tokens is part =
    (tokens, part, ap (λ it. Proof it ∷ tokens) (head_line question.claim shown RefutedTree is))

-- a spent tree after its head
behind_spent : (proved : Bool) (basis : Basis) (question : Question) (shown : ProofLine)
    (tokens : List Token) → head_in question.claim shown ≡ Some SpentTree
    → IsPartFor proved basis (whole_tree Spent question) tokens
    → IsSpentPart proved basis question (Proof shown ∷ tokens)
unfolding line_of_head
behind_spent proved basis question shown tokens is part =
    (tokens, part, ap (λ it. Proof it ∷ tokens) (head_line question.claim shown SpentTree is))

-- an example after its head
behind_finish : (proved : Bool) (basis : Basis) (question : Question) (shown : ProofLine)
    (tokens : List Token) → head_in question.claim shown ≡ Some Example
    → IsPartFor proved basis (whole_example basis question) tokens
    → IsExamplePart proved basis question (Proof shown ∷ tokens)
unfolding line_of_head
behind_finish proved basis question shown tokens is part = (
  tokens,
  scores_due-rest proved basis question basis.season.scores [] tokens part,
  ap (λ it. Proof it ∷ tokens) (head_line question.claim shown Example is),
)

-- a refutation's head
join_refutation : (proved : Bool) (basis : Basis) (question : Question) (shown : ProofLine)
    (holds : Bool) (more : List Expected) (tokens : List Token)
    → after_tree_head question (head_in question.claim shown) ≡ go holds more
    → AreParts proved basis more tokens
    → IsRefutationPart proved basis question (Proof shown ∷ tokens)
join_refutation proved basis question shown holds more tokens goes parts =
    by_head (head_in question.claim shown) refl goes
  where
    by_head : (found : Option Head) → head_in question.claim shown ≡ found
        → after_tree_head question found ≡ go holds more
        → IsRefutationPart proved basis question (Proof shown ∷ tokens)
    by_head None is goes = absurd (bad-go holds more goes)
    by_head (Some RefutedTree) is goes =
        let due = whole_tree Refutation question in
        behind_tree proved basis question shown tokens is
        (only_part report_parts proved basis due tokens
        (those proved basis (due ∷ []) more holds tokens goes parts))
    by_head (Some SpentTree) is goes = absurd (bad-go holds more goes)
    by_head (Some Example) is goes = absurd (bad-go holds more goes)

-- a spent tree's head
join_spent : (proved : Bool) (basis : Basis) (question : Question) (shown : ProofLine)
    (holds : Bool) (more : List Expected) (tokens : List Token)
    → after_spent_head question (head_in question.claim shown) ≡ go holds more
    → AreParts proved basis more tokens
    → IsSpentPart proved basis question (Proof shown ∷ tokens)
join_spent proved basis question shown holds more tokens goes parts =
    by_head (head_in question.claim shown) refl goes
  where
    by_head : (found : Option Head) → head_in question.claim shown ≡ found
        → after_spent_head question found ≡ go holds more
        → IsSpentPart proved basis question (Proof shown ∷ tokens)
    by_head None is goes = absurd (bad-go holds more goes)
    by_head (Some RefutedTree) is goes = absurd (bad-go holds more goes)
    by_head (Some SpentTree) is goes =
        let due = whole_tree Spent question in
        behind_spent proved basis question shown tokens is
        (only_part report_parts proved basis due tokens
        (those proved basis (due ∷ []) more holds tokens goes parts))
    by_head (Some Example) is goes = absurd (bad-go holds more goes)

-- an example's head
join_example : (proved : Bool) (basis : Basis) (question : Question) (shown : ProofLine)
    (holds : Bool) (more : List Expected) (tokens : List Token)
    → after_finish_head basis question (head_in question.claim shown) ≡ go holds more
    → AreParts proved basis more tokens
    → IsExamplePart proved basis question (Proof shown ∷ tokens)
join_example proved basis question shown holds more tokens goes parts =
    by_head (head_in question.claim shown) refl goes
  where
    by_head : (found : Option Head) → head_in question.claim shown ≡ found
        → after_finish_head basis question found ≡ go holds more
        → IsExamplePart proved basis question (Proof shown ∷ tokens)
    by_head None is goes = absurd (bad-go holds more goes)
    by_head (Some RefutedTree) is goes = absurd (bad-go holds more goes)
    by_head (Some SpentTree) is goes = absurd (bad-go holds more goes)
    by_head (Some Example) is goes =
        let due = whole_example basis question in
        behind_finish proved basis question shown tokens is
        (only_part report_parts proved basis due tokens
        (those proved basis (due ∷ []) more holds tokens goes parts))

-- one of the two
join_one : (proved : Bool) (basis : Basis) (question : Question) (shown : ProofLine)
    (holds : Bool) (more : List Expected) (tokens : List Token)
    → after_one_part basis question (head_in question.claim shown) ≡ go holds more
    → AreParts proved basis more tokens
    → IsOnePart proved basis question (Proof shown ∷ tokens)
join_one proved basis question shown holds more tokens goes parts =
    by_head (head_in question.claim shown) refl goes
  where
    by_head : (found : Option Head) → head_in question.claim shown ≡ found
        → after_one_part basis question found ≡ go holds more
        → IsOnePart proved basis question (Proof shown ∷ tokens)
    by_head None is goes = absurd (bad-go holds more goes)
    by_head (Some RefutedTree) is goes = absurd (bad-go holds more goes)
    by_head (Some SpentTree) is goes =
        let due = whole_tree Spent question in
        inr (behind_spent proved basis question shown tokens is
        (only_part report_parts proved basis due tokens
        (those proved basis (due ∷ []) more holds tokens goes parts)))
    by_head (Some Example) is goes =
        let due = whole_example basis question in
        inl (behind_finish proved basis question shown tokens is
        (only_part report_parts proved basis due tokens
        (those proved basis (due ∷ []) more holds tokens goes parts)))

-- the two parts of an unsettled row
join_both : (proved : Bool) (basis : Basis) (inside outside : Question) (shown : ProofLine)
    (holds : Bool) (more : List Expected) (tokens : List Token)
    → after_both_parts basis inside outside (head_in inside.claim shown) ≡ go holds more
    → AreParts proved basis more tokens
    → AreBothParts proved basis inside outside (Proof shown ∷ tokens)
join_both proved basis inside outside shown holds more tokens goes parts =
    by_head (head_in inside.claim shown) refl goes
  where
    by_head : (found : Option Head) → head_in inside.claim shown ≡ found
        → after_both_parts basis inside outside found ≡ go holds more
        → AreBothParts proved basis inside outside (Proof shown ∷ tokens)
    by_head None is goes = absurd (bad-go holds more goes)
    by_head (Some RefutedTree) is goes = absurd (bad-go holds more goes)
    by_head (Some SpentTree) is goes =
        let due = whole_tree Spent inside in
        let two = those proved basis (due ∷ one_part outside ∷ []) more holds tokens goes parts in (
          Proof shown ∷ two.0,
          two.1,
          inr (
            behind_spent proved basis inside shown two.0 is two.2,
            only_part report_parts proved basis (one_part outside) two.1 two.3,
          ),
          ap (λ it. Proof shown ∷ it) two.4,
        )
    by_head (Some Example) is goes =
        let due = whole_example basis inside in
        let two = those proved basis (due ∷ spent_head outside ∷ []) more holds tokens goes parts
        in (
          Proof shown ∷ two.0,
          two.1,
          inl (
            behind_finish proved basis inside shown two.0 is two.2,
            only_part report_parts proved basis (spent_head outside) two.1 two.3,
          ),
          ap (λ it. Proof shown ∷ it) two.4,
        )

-- the row of a word with what the word asks for
join_item : (proved : Bool) (basis : Basis) (number club : ℕ) (fields : List (List ℕ))
    (holds : Bool) (more : List Expected) (tokens : List Token)
    → promised number club (word_in_row number (name_of_club basis.sheet club) fields)
    ≡ go holds more → AreParts proved basis more tokens
    → IsItemLines proved basis number club (Row fields ∷ tokens)
join_item proved basis number club fields holds more tokens goes parts =
    by_word (word_in_row number (name_of_club basis.sheet club) fields) refl goes
  where
    P : List Expected → Type 0
    P it = AreParts proved basis it tokens

    told : (word : RowWord)
        → word_in_row number (name_of_club basis.sheet club) fields ≡ Some word
        → IsAfterReport proved basis number club word tokens
        → IsItemLines proved basis number club (Row fields ∷ tokens)
    told word is behind = (
      word,
      tokens,
      behind,
      ap (λ it. Row it ∷ tokens)
          (word_in_row-says number (name_of_club basis.sheet club) fields word is),
    )

    by_word : (found : Option RowWord)
        → word_in_row number (name_of_club basis.sheet club) fields ≡ found
        → promised number club found ≡ go holds more
        → IsItemLines proved basis number club (Row fields ∷ tokens)
    by_word None is goes = absurd (bad-go holds more goes)
    by_word (Some Clinched) is goes =
        let due = tree_head (full_question club number Outside) in
        let same = go-same true holds (due ∷ []) more goes in
        told Clinched is
        (only_part report_parts proved basis due tokens (subst P (sym same.1) parts))
    by_word (Some Lost) is goes =
        let due = tree_head (full_question club number Inside) in
        let same = go-same true holds (due ∷ []) more goes in
        told Lost is (only_part report_parts proved basis due tokens (subst P (sym same.1) parts))
    by_word (Some Possible) is goes =
        let inside = finish_head (full_question club number Inside) in
        let outside = finish_head (full_question club number Outside) in
        let same = go-same true holds (inside ∷ outside ∷ []) more goes in
        let two = subst P (sym same.1) parts in
        told Possible is
        (two.0, two.1, two.2, only_part report_parts proved basis outside two.1 two.3, two.4)
    by_word (Some Unsettled) is goes =
        let due = both_parts number club in
        let same = go-same true holds (due ∷ []) more goes in
        told Unsettled is
        (only_part report_parts proved basis due tokens (subst P (sym same.1) parts))

-- the row of the ask
join_ask : (proved : Bool) (basis : Basis) (fields : List (List ℕ)) (holds : Bool)
    (more : List Expected) (tokens : List Token)
    → (if is_ask_row basis.epoch fields then go true []
    else bad) ≡ go holds more
    → AreParts proved basis more tokens
    → Row fields ∷ tokens ≡ Row (ask_fields basis.epoch) ∷ []
join_ask proved basis fields holds more tokens goes parts =
    let fits = go-if (is_ask_row basis.epoch fields) (go true []) holds more goes in
    let same = go-same true holds [] more fits.1 in
    let P : List Expected → Type 0 = λ it. AreParts proved basis it tokens in
    let ends : tokens ≡ [] = subst P (sym same.1) parts in
    ap (λ it. Row it ∷ tokens) (ask_row-says basis.epoch fields fits.0)
    ∙ ap (λ it. Row (ask_fields basis.epoch) ∷ it) ends

-- a row with what is due after it
join_row : (proved : Bool) (basis : Basis) (due : Expected) (fields : List (List ℕ)) (holds : Bool)
    (more : List Expected) (tokens : List Token) → after basis due (Row fields) ≡ go holds more
    → AreParts proved basis more tokens → IsPartFor proved basis due (Row fields ∷ tokens)
join_row proved basis ask_row fields holds more tokens goes parts =
    join_ask proved basis fields holds more tokens goes parts
join_row proved basis (verdict_row number club) fields holds more tokens goes parts =
    join_item proved basis number club fields holds more tokens goes parts
join_row proved basis _ fields holds more tokens goes parts = absurd (bad-go holds more goes)

-- a proof line with what is due after it
join_proof : (proved : Bool) (basis : Basis) (due : Expected) (shown : ProofLine) (holds : Bool)
    (more : List Expected) (tokens : List Token) → after basis due (Proof shown) ≡ go holds more
    → (proved ≡ true → holds ≡ true) → AreParts proved basis more tokens
    → IsPartFor proved basis due (Proof shown ∷ tokens)
join_proof proved basis ask_row shown holds more tokens goes so parts =
    absurd (bad-go holds more goes)
join_proof proved basis (verdict_row number club) shown holds more tokens goes so parts =
    absurd (bad-go holds more goes)
join_proof proved basis (tree_head question) shown holds more tokens goes so parts =
    join_refutation proved basis question shown holds more tokens goes parts
join_proof proved basis (spent_head question) shown holds more tokens goes so parts =
    join_spent proved basis question shown holds more tokens goes parts
join_proof proved basis (finish_head question) shown holds more tokens goes so parts =
    join_example proved basis question shown holds more tokens goes parts
join_proof proved basis (both_parts number club) shown holds more tokens goes so parts =
    join_both proved basis (full_question club number Inside) (full_question club number Outside)
    shown holds more tokens goes parts
join_proof proved basis (one_part question) shown holds more tokens goes so parts =
    join_one proved basis question shown holds more tokens goes parts
join_proof proved basis (nodes kind question zone zones tally) shown holds more tokens goes so
    parts =
    join_nodes proved basis kind question zone zones tally (Proof shown) holds more tokens goes so
    parts
join_proof proved basis (score question ended left) shown holds more tokens goes so parts =
    join_score proved basis question ended left shown holds more tokens goes parts
join_proof proved basis (lots question ended) shown holds more tokens goes so parts =
    join_lots proved basis question ended shown holds more tokens goes so parts

-- a near leaf with what is due after it
join_near : (proved : Bool) (basis : Basis) (due : Expected) (rival : ℕ) (fresh holds : Bool)
    (more : List Expected) (tokens : List Token)
    → after basis due (Near rival fresh) ≡ go holds more → (proved ≡ true → holds ≡ true)
    → AreParts proved basis more tokens
    → IsPartFor proved basis due (Near rival fresh ∷ tokens)
join_near proved basis (nodes kind question zone zones tally) rival fresh holds more tokens goes so
    parts =
    join_nodes proved basis kind question zone zones tally (Near rival fresh) holds more tokens goes
    so parts
join_near proved basis _ rival fresh holds more tokens goes so parts =
    absurd (bad-go holds more goes)

-- a line that counts, with what is due after it, is a part
pub join_part : (proved : Bool) (basis : Basis) (due : Expected) (token : Token) (holds : Bool)
    (more : List Expected) (tokens : List Token) → counts token ≡ true
    → after basis due token ≡ go holds more → (proved ≡ true → holds ≡ true)
    → AreParts proved basis more tokens → IsPartFor proved basis due (token ∷ tokens)
join_part proved basis due Blank holds more tokens counted goes so parts =
    absurd (false≢true counted)
join_part proved basis due (Row fields) holds more tokens counted goes so parts =
    join_row proved basis due fields holds more tokens goes parts
join_part proved basis due (Proof shown) holds more tokens counted goes so parts =
    join_proof proved basis due shown holds more tokens goes so parts
join_part proved basis due (Near rival fresh) holds more tokens counted goes so parts =
    join_near proved basis due rival fresh holds more tokens goes so parts
join_part proved basis due Unknown holds more tokens counted goes so parts =
    absurd (bad-go holds more goes)

-- ---- a part's first line

-- a refutation
part_refutation : (proved : Bool) (basis : Basis) (question : Question) (tokens : List Token)
    → IsRefutationPart proved basis question tokens
    → Parted report_parts proved basis (after basis) (tree_head question) tokens
unfolding line_of_head
part_refutation proved basis question tokens part =
    let due = whole_tree Refutation question in (
      Proof (line.Tree question.claim),
      part.0,
      true,
      due ∷ [],
      part.2,
      ap (after_tree_head question) (head_of_line question.claim RefutedTree),
      λ _. refl,
      refl,
      as_only_part report_parts proved basis due part.0 part.1,
    )

-- a spent tree
part_spent : (proved : Bool) (basis : Basis) (question : Question) (tokens : List Token)
    → IsSpentPart proved basis question tokens
    → Parted report_parts proved basis (after basis) (spent_head question) tokens
unfolding line_of_head
part_spent proved basis question tokens part =
    let due = whole_tree Spent question in (
      Proof (line.Spent question.claim),
      part.0,
      true,
      due ∷ [],
      part.2,
      ap (after_spent_head question) (head_of_line question.claim SpentTree),
      λ _. refl,
      refl,
      as_only_part report_parts proved basis due part.0 part.1,
    )

-- an example
part_example : (proved : Bool) (basis : Basis) (question : Question) (tokens : List Token)
    → IsExamplePart proved basis question tokens
    → Parted report_parts proved basis (after basis) (finish_head question) tokens
unfolding line_of_head
part_example proved basis question tokens part =
    let due = whole_example basis question in (
      Proof (line.Finish question.claim),
      part.0,
      true,
      due ∷ [],
      part.2,
      ap (after_finish_head basis question) (head_of_line question.claim Example),
      λ _. refl,
      refl,
      as_only_part report_parts proved basis due part.0
          (rest-scores_due proved basis question basis.season.scores [] part.0 part.1),
    )

-- one of the two
part_one : (proved : Bool) (basis : Basis) (question : Question) (tokens : List Token)
    → IsOnePart proved basis question tokens
    → Parted report_parts proved basis (after basis) (one_part question) tokens
unfolding line_of_head part_example part_spent
part_one proved basis question tokens (inl part) =
    let it = part_example proved basis question tokens part in (
      Proof (line.Finish question.claim),
      part.0,
      true,
      it.3,
      part.2,
      ap (after_one_part basis question) (head_of_line question.claim Example),
      λ _. refl,
      refl,
      it.8,
    )
part_one proved basis question tokens (inr part) =
    let it = part_spent proved basis question tokens part in (
      Proof (line.Spent question.claim),
      part.0,
      true,
      it.3,
      part.2,
      ap (after_one_part basis question) (head_of_line question.claim SpentTree),
      λ _. refl,
      refl,
      it.8,
    )

-- the two parts of an unsettled row
part_both : (proved : Bool) (basis : Basis) (number club : ℕ) (tokens : List Token)
    → AreBothParts proved basis (full_question club number Inside)
    (full_question club number Outside) tokens
    → Parted report_parts proved basis (after basis) (both_parts number club) tokens
unfolding line_of_head
part_both proved basis number club tokens parts =
    by_part parts.0 parts.1 parts.2 parts.3
  where
    inside : Question
    inside = full_question club number Inside

    outside : Question
    outside = full_question club number Outside

    by_part : (front back : List Token)
        → (IsExamplePart proved basis inside front × IsSpentPart proved basis outside back)
        ⊎ (IsSpentPart proved basis inside front × IsOnePart proved basis outside back)
        → tokens ≡ front ++ back
        → Parted report_parts proved basis (after basis) (both_parts number club) tokens
    by_part front back (inl two) lines =
        let due = whole_example basis inside in (
          Proof (line.Finish Inside),
          two.0.0 ++ back,
          true,
          due ∷ spent_head outside ∷ [],
          lines ∙ ap (λ it. it ++ back) two.0.2,
          ap (after_both_parts basis inside outside) (head_of_line Inside Example),
          λ _. refl,
          refl,
          as_two_parts proved basis due (spent_head outside) two.0.0 back
              (rest-scores_due proved basis inside basis.season.scores [] two.0.0 two.0.1) two.1,
        )
    by_part front back (inr two) lines =
        let due = whole_tree Spent inside in (
          Proof (line.Spent Inside),
          two.0.0 ++ back,
          true,
          due ∷ one_part outside ∷ [],
          lines ∙ ap (λ it. it ++ back) two.0.2,
          ap (after_both_parts basis inside outside) (head_of_line Inside SpentTree),
          λ _. refl,
          refl,
          as_two_parts proved basis due (one_part outside) two.0.0 back two.0.1 two.1,
        )

-- the row of a word and what the word asks for
part_item : (proved : Bool) (basis : Basis) (number club : ℕ) (tokens : List Token)
    → IsItemLines proved basis number club tokens
    → Parted report_parts proved basis (after basis) (verdict_row number club) tokens
part_item proved basis number club tokens item =
    by_word item.0 item.1 item.2 item.3
  where
    name : List ℕ
    name = name_of_club basis.sheet club

    goes : (word : RowWord)
        → after basis (verdict_row number club) (Row (verdict_fields number name word))
        ≡ promised number club (Some word)
    goes word = ap (promised number club) (word_in_row-of number name word)

    by_word : (word : RowWord) (rest : List Token)
        → IsAfterReport proved basis number club word rest
        → tokens ≡ Row (verdict_fields number name word) ∷ rest
        → Parted report_parts proved basis (after basis) (verdict_row number club) tokens
    by_word Clinched rest behind lines =
        let due = tree_head (full_question club number Outside) in (
          Row (verdict_fields number name Clinched),
          rest,
          true,
          due ∷ [],
          lines,
          goes Clinched,
          λ _. refl,
          refl,
          as_only_part report_parts proved basis due rest behind,
        )
    by_word Lost rest behind lines =
        let due = tree_head (full_question club number Inside) in (
          Row (verdict_fields number name Lost),
          rest,
          true,
          due ∷ [],
          lines,
          goes Lost,
          λ _. refl,
          refl,
          as_only_part report_parts proved basis due rest behind,
        )
    by_word Possible rest behind lines =
        let inside = finish_head (full_question club number Inside) in
        let outside = finish_head (full_question club number Outside) in (
          Row (verdict_fields number name Possible),
          rest,
          true,
          inside ∷ outside ∷ [],
          lines,
          goes Possible,
          λ _. refl,
          refl,
          (
            behind.0,
            behind.1,
            behind.2,
            as_only_part report_parts proved basis outside behind.1 behind.3,
            behind.4,
          ),
        )
    by_word Unsettled rest behind lines =
        let due = both_parts number club in (
          Row (verdict_fields number name Unsettled),
          rest,
          true,
          due ∷ [],
          lines,
          goes Unsettled,
          λ _. refl,
          refl,
          as_only_part report_parts proved basis due rest behind,
        )

-- the first line of a part leaves due what its other lines are
pub part_parts : (proved : Bool) (basis : Basis) (due : Expected) (tokens : List Token)
    → IsPartFor proved basis due tokens → Parted report_parts proved basis (after basis) due tokens
part_parts proved basis ask_row tokens part = (
  Row (ask_fields basis.epoch),
  [],
  true,
  [],
  part,
  if-go (is_ask_row basis.epoch (ask_fields basis.epoch)) (go true [])
      (ask_row-of basis.epoch),
  λ _. refl,
  refl,
  refl,
)
part_parts proved basis (verdict_row number club) tokens part =
    part_item proved basis number club tokens part
part_parts proved basis (tree_head question) tokens part =
    part_refutation proved basis question tokens part
part_parts proved basis (spent_head question) tokens part =
    part_spent proved basis question tokens part
part_parts proved basis (finish_head question) tokens part =
    part_example proved basis question tokens part
part_parts proved basis (both_parts number club) tokens part =
    part_both proved basis number club tokens part
part_parts proved basis (one_part question) tokens part =
    part_one proved basis question tokens part
part_parts proved basis (nodes kind question zone zones tally) tokens part =
    part_nodes proved basis kind question zone zones tally tokens part
part_parts proved basis (score question ended left) tokens part =
    part_score proved basis question ended left tokens part
part_parts proved basis (lots question ended) tokens part =
    part_lots proved basis question ended tokens part
