-- What the code of examples rests on: lots, and scores fixture by fixture.
use Rattle.std.proofs.Common.{◌≡◌, ◌≤◌, ℕ, ◌+◌, Bool, true, false, List, [], Option}
use Rattle.std.proofs.Common.{Some, Ok, length, take, refl, sym, ap, ◌∙◌, arith}
use Rattle.std.specs.Prelude.{if◌then◌else◌}
use Rattle.std.proofs.lemmas.Bool.{false≢true, and_parts, and_from, leb-true, le-leb}
use Rattle.std.proofs.lemmas.List.{take_all, drop_all}
use Rattle.league_core.specs.declared.sheet.Sheet.{Sheet}
use Rattle.league_core.specs.declared.season.Score.{Score}
use Rattle.league_core.specs.declared.question.Question.{Question}
use Rattle.league_core.specs.game.Results.{Results, is_score}
use Rattle.league_core.specs.game.Sheets.{IsWithinLimits}
use Rattle.league_core.specs.game.Ranking.{are_lots}
use Rattle.league_core.specs.game.Questions.{holds_at}
use Rattle.cert_text.specs.declared.proof_line.ProofLine.TheVariants as line
use Rattle.line_tokens.specs.declared.token.Token.{Token}
use Rattle.line_tokens.specs.declared.token.Token.TheVariants.{Blank, Row, Proof, Near, Unknown}
use Rattle.cert_check.specs.declared.stop.CheckStopAt.TheVariants as halt
use Rattle.line_tokens.specs.Tokens.{counts}
use Rattle.cert_check.specs.LineGrammars.{bad, go}
use Rattle.cert_check.specs.ExpectedItems.{Basis, lots, after, is_ending}
use Rattle.cert_check.specs.ExpectedItems.{finish_with}
use Rattle.cert_check.specs.ExpectedItems.{lots_if_drawn, scores_due}
use Rattle.cert_check.specs.inside.Calls.{ReportView, HaltsAt, Goes, IsNextAt}
use Rattle.cert_check.specs.inside.Calls.{after_lots_if, lots_of_token, example_due}
use Rattle.cert_check.specs.Machine.{report_grammar}
use Rattle.cert_check.proofs.GoesLemmas.{next_ends, next_unproved}
use Rattle.cert_check.proofs.CallLemmas.{quiet}

-- a score of an unplayed match is one that a match may have
pub ending_is_score : (sheet : Sheet) (ending : Score) → IsWithinLimits sheet
    → is_ending sheet ending ≡ true → is_score ending ≡ true
ending_is_score sheet ending limits is =
    let parts = and_parts _ _ is in
    let home = leb-true ending.home sheet.goal_limit parts.0 in
    let away = leb-true ending.away sheet.goal_limit parts.1 in
    and_from _ _ (le-leb ending.home 99 (omega (arith, home, limits.most_goal_limit)))
    (le-leb ending.away 99 (omega (arith, away, limits.most_goal_limit)))

-- what is due after a line if lots are due, by the lots that it gives
pub after_lots-token : (basis : Basis) (question : Question) (ended : List (Option Score))
    (token : Token) → counts token ≡ true → after basis (lots question ended) token
    ≡ after_lots_if basis question ended (lots_of_token (length basis.sheet.clubs) token)
after_lots-token basis question ended Blank counted = absurd (false≢true counted)
after_lots-token basis question ended (Row fields) counted = refl
after_lots-token basis question ended (Proof (line.Lots told)) counted =
    by_test (are_lots (length basis.sheet.clubs) told.list)
  where
    by_test : (test : Bool)
        → (if test then go (holds_at basis.sheet question (finish_with basis.season ended)
        told.list) [] else bad)
        ≡ after_lots_if basis question ended (lots_if_drawn test told.list)
    by_test true = refl
    by_test false = refl
after_lots-token basis question ended (Proof _) counted = refl
after_lots-token basis question ended (Near rival fresh) counted = refl
after_lots-token basis question ended Unknown counted = refl

-- a finish with the season's deductions is the season with its scores
pub same_finish : (season finish : Results) → finish.deductions ≡ season.deductions
    → finish_with season finish.scores ≡ finish
same_finish season finish same =
    λ i. record { scores = finish.scores; deductions = sym same i }

-- what lots leave due, if they are given
told_lots : (judged : ReportView) (question : Question) (finish : Results) (token : Token)
    (found : Option (List ℕ)) (drawn : List ℕ) (holds : Bool) → counts token ≡ true
    → finish.deductions ≡ judged.basis.season.deductions
    → found ≡ lots_of_token (length judged.basis.sheet.clubs) token → found ≡ Some drawn
    → holds ≡ holds_at judged.basis.sheet question finish drawn
    → after judged.basis (lots question finish.scores) token ≡ go holds []
told_lots judged question finish token found drawn holds counted deductions is some says =
    after_lots-token judged.basis question finish.scores token counted
    ∙ ap (after_lots_if judged.basis question finish.scores) (sym is ∙ some)
    ∙ ap (λ it. go (holds_at judged.basis.sheet question it drawn) [])
    (same_finish judged.basis.season finish deductions)
    ∙ ap (λ it. go it []) (sym says)

-- lots with which the question holds
pub lots_end : (judged : ReportView) (from at : ℕ) (token : Token) → IsNextAt judged from at token
    → (question : Question) (finish : Results) (found : Option (List ℕ)) (drawn : List ℕ)
    (holds : Bool) → finish.deductions ≡ judged.basis.season.deductions
    → found ≡ lots_of_token (length judged.basis.sheet.clubs) token → found ≡ Some drawn
    → holds ≡ holds_at judged.basis.sheet question finish drawn → holds ≡ true
    → Goes judged from (lots question finish.scores) (Ok (at + 1))
lots_end judged from at token next question finish found drawn holds deductions is some says so =
    let goes : after judged.basis (lots question finish.scores) token ≡ go true [] =
    told_lots judged question finish token found drawn holds next.counted deductions is some says
    ∙ ap (λ it. go it []) so in
    next_ends report_grammar judged from at token next (lots question finish.scores)
    (quiet judged.basis (lots question finish.scores) token true [] refl goes) goes

-- lots with which it does not
pub lots_fail : (judged : ReportView) (from at : ℕ) (token : Token) → IsNextAt judged from at token
    → (question : Question) (finish : Results) (found : Option (List ℕ)) (drawn : List ℕ)
    (holds : Bool) → finish.deductions ≡ judged.basis.season.deductions
    → found ≡ lots_of_token (length judged.basis.sheet.clubs) token → found ≡ Some drawn
    → holds ≡ holds_at judged.basis.sheet question finish drawn → holds ≡ false
    → HaltsAt judged from (lots question finish.scores) (halt.NoProof at)
lots_fail judged from at token next question finish found drawn holds deductions is some says so =
    next_unproved report_grammar judged from at token next (lots question finish.scores) []
    (told_lots judged question finish token found drawn holds next.counted deductions is some says
    ∙ ap (λ it. go it []) so)

-- after all fixtures the lots are due
pub example_due-end : (question : Question) (fixture : ℕ) (scores : List (Option Score))
    → length scores ≤ fixture → example_due question fixture scores ≡ lots question scores
example_due-end question fixture scores all =
    ap (λ left. scores_due question (take fixture scores) left) (drop_all fixture scores all)
    ∙ ap (λ ended. lots question ended) (take_all fixture scores all)
