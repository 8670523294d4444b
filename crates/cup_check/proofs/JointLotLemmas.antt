-- The lots that end a joint finish: what is due after them, and what the call comes to.
use Rattle.std.proofs.Common.{◌≡◌, ℕ, ◌+◌, Bool, true, false, List, [], Option, Some, None, Ok}
use Rattle.std.proofs.Common.{refl, sym, ap, ◌∙◌}
use Rattle.std.specs.Prelude.{if◌then◌else◌}
use Rattle.std.proofs.lemmas.Bool.{false≢true}
use Rattle.league_core.specs.declared.season.Score.{Score}
use Rattle.league_core.specs.declared.question.Claim.{Claim}
use Rattle.league_core.specs.game.Results.{Results}
use Rattle.league_core.specs.game.Ranking.{are_lots}
use Rattle.cert_check.specs.declared.stop.CheckStopAt.TheVariants as halt
use Rattle.cert_check.specs.ExpectedItems.{lots_if_drawn}
use Rattle.cert_check.specs.LineGrammars.{bad, go}
use Rattle.cert_check.proofs.GoesLemmas.{next_ends, next_is_bad, next_unproved}
use Rattle.cup_sheet.specs.Cups.{clubs_together}
use Rattle.cup_sheet.specs.Qualifying.{qualifies_at}
use Rattle.cup_text.specs.declared.cup_line.CupLine.TheVariants as line
use Rattle.cup_grammar.specs.declared.token.CupToken.{CupToken}
use Rattle.cup_grammar.specs.declared.token.CupToken.TheVariants.{Blank, Row, Proof, Unknown}
use Rattle.cup_grammar.specs.PlacedGroups.{CupBasis}
use Rattle.cup_grammar.specs.CupDues.{ends_of_groups, is_on_claimed_side, lots, scores_of_groups}
use Rattle.cup_grammar.specs.CupExpected.{after_in_cup}
use Rattle.cup_grammar.specs.CupReports.{cup_grammar}
use Rattle.cup_grammar.specs.inside.CupRowTruths.{counts_in_cup}
use Rattle.cup_check.specs.inside.CupGoes.{CupReportView, GoesInCup, HaltsInCup, IsNextInCup}
use Rattle.cup_check.specs.inside.JointCalls.{HaveScoresOver, after_cup_lots_if, lots_of_cup_token}
use Rattle.cup_check.proofs.CupCallLemmas.{quiet}
use Rattle.cup_check.proofs.JointLemmas.{ends_are}

-- what is due after a line if lots are due, by the lots that it gives
after_cup_lots-token : (basis : CupBasis) (claim : Claim) (club : ℕ)
    (ended : List (Option Score)) (token : CupToken) → counts_in_cup token ≡ true
    → after_in_cup basis (lots claim club ended) token ≡ after_cup_lots_if basis claim club ended
    (lots_of_cup_token (clubs_together basis.cup.groups) token)
after_cup_lots-token basis claim club ended Blank counted = absurd (false≢true counted)
after_cup_lots-token basis claim club ended (Row fields) counted = refl
after_cup_lots-token basis claim club ended (Proof (line.Lots told)) counted =
    by_test (are_lots (clubs_together basis.cup.groups) told.list)
  where
    by_test : (test : Bool)
        → (if test then go (is_on_claimed_side claim
        (qualifies_at basis.cup (ends_of_groups basis.seasons ended) told.list club)) [] else bad)
        ≡ after_cup_lots_if basis claim club ended (lots_if_drawn test told.list)
    by_test true = refl
    by_test false = refl
after_cup_lots-token basis claim club ended (Proof _) counted = refl
after_cup_lots-token basis claim club ended Unknown counted = refl

-- what lots leave due, if they are given
told_cup_lots : (judged : CupReportView) (claim : Claim) (club : ℕ) (finishes : List Results)
    (token : CupToken) (found : Option (List ℕ)) (drawn : List ℕ) (is : Bool)
    → counts_in_cup token ≡ true → HaveScoresOver judged.basis.seasons finishes
    → found ≡ lots_of_cup_token (clubs_together judged.basis.cup.groups) token
    → found ≡ Some drawn
    → is ≡ is_on_claimed_side claim (qualifies_at judged.basis.cup finishes drawn club)
    → after_in_cup judged.basis (lots claim club (scores_of_groups finishes)) token ≡ go is []
told_cup_lots judged claim club finishes token found drawn is counted over given some says =
    after_cup_lots-token judged.basis claim club (scores_of_groups finishes) token counted
    ∙ ap (after_cup_lots_if judged.basis claim club (scores_of_groups finishes))
    (sym given ∙ some)
    ∙ ap (λ it. go (is_on_claimed_side claim (qualifies_at judged.basis.cup it drawn club)) [])
    (ends_are judged.basis.seasons finishes over)
    ∙ ap (λ it. go it []) (sym says)

-- lots with which the club is on the side
pub joint_lots_end : (judged : CupReportView) (from at : ℕ) (token : CupToken)
    → IsNextInCup judged from at token → (claim : Claim) (club : ℕ) (finishes : List Results)
    (found : Option (List ℕ)) (drawn : List ℕ) (is : Bool)
    → HaveScoresOver judged.basis.seasons finishes
    → found ≡ lots_of_cup_token (clubs_together judged.basis.cup.groups) token
    → found ≡ Some drawn
    → is ≡ is_on_claimed_side claim (qualifies_at judged.basis.cup finishes drawn club)
    → is ≡ true
    → GoesInCup judged from (lots claim club (scores_of_groups finishes)) (Ok (at + 1))
joint_lots_end judged from at token next claim club ends found drawn is over given some says so =
    let due = lots claim club (scores_of_groups ends) in
    let goes : after_in_cup judged.basis due token ≡ go true [] =
    told_cup_lots judged claim club ends token found drawn is next.counted.counts over given some
    says ∙ ap (λ it. go it []) so in
    next_ends cup_grammar judged from at token next due
    (quiet judged.basis due token true [] refl goes) goes

-- lots with which it is not
pub joint_lots_fail : (judged : CupReportView) (from at : ℕ) (token : CupToken)
    → IsNextInCup judged from at token → (claim : Claim) (club : ℕ) (finishes : List Results)
    (found : Option (List ℕ)) (drawn : List ℕ) (is : Bool)
    → HaveScoresOver judged.basis.seasons finishes
    → found ≡ lots_of_cup_token (clubs_together judged.basis.cup.groups) token
    → found ≡ Some drawn
    → is ≡ is_on_claimed_side claim (qualifies_at judged.basis.cup finishes drawn club)
    → is ≡ false
    → HaltsInCup judged from (lots claim club (scores_of_groups finishes)) (halt.NoProof at)
joint_lots_fail judged from at token next claim club ends found drawn is over given some says so =
    next_unproved cup_grammar judged from at token next (lots claim club (scores_of_groups ends)) []
    (told_cup_lots judged claim club ends token found drawn is next.counted.counts over given some
    says ∙ ap (λ it. go it []) so)

-- a line without lots
pub joint_lots_bad : (judged : CupReportView) (from at : ℕ) (token : CupToken)
    → IsNextInCup judged from at token → (claim : Claim) (club : ℕ)
    (ended : List (Option Score)) (found : Option (List ℕ))
    → found ≡ lots_of_cup_token (clubs_together judged.basis.cup.groups) token → found ≡ None
    → HaltsInCup judged from (lots claim club ended) (halt.BadLine at)
joint_lots_bad judged from at token next claim club ended found given none =
    next_is_bad cup_grammar judged from at token next (lots claim club ended)
    (after_cup_lots-token judged.basis claim club ended token next.counted.counts
    ∙ ap (after_cup_lots_if judged.basis claim club ended) (sym given ∙ none))
