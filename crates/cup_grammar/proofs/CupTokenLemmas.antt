-- What the line at a position is among all lines of a report on a cup, and that groups rise in a
-- list that was read.
use Rattle.std.proofs.Common.{◌≡◌, ◌<◌, ℕ, ◌∙◌, List, length, sym, ap, arith}
use Rattle.std.proofs.Common.{drop, Result, Ok, Err, [], ◌∷◌, ◌+◌}
use Rattle.std.specs.Prelude.{IfOk}
use Rattle.std.proofs.lemmas.List.{length-map, get_or-map, drop_more}
use Rattle.league_core.specs.declared.memory.OutOfMemory.{OutOfMemory}
use Rattle.kept_lines.specs.LineLists.{NumberedLine, text_at}
use Rattle.cup_grammar.specs.declared.token.CupToken.{CupToken}
use Rattle.cup_grammar.specs.declared.token.CupToken.TheVariants.{Unknown}
use Rattle.cup_grammar.specs.CupReports.{cup_token_of, cup_tokens_of}

-- what is read of the text of a line is what the line is among all
pub cup_token_there : (lines : List NumberedLine) (at : ℕ) (result : Result CupToken OutOfMemory)
    → at < length lines
    → IfOk result (λ (token : CupToken). token ≡ cup_token_of (text_at lines at))
    → IfOk result
    (λ (token : CupToken).
    drop at (cup_tokens_of lines) ≡ token ∷ drop (at + 1) (cup_tokens_of lines))
cup_token_there lines at (Err stop) there read = tt
cup_token_there lines at (Ok token) there read =
    let shown = λ (it : NumberedLine). cup_token_of it.text in
    let within : at < length (cup_tokens_of lines) = omega (arith, there, length-map lines shown) in
    let none : NumberedLine = record { number = 0; text = [] } in
    drop_more (cup_tokens_of lines) at Unknown within
    ∙ ap (λ (it : CupToken). it ∷ drop (at + 1) (cup_tokens_of lines))
    (get_or-map shown lines at none Unknown there
    ∙ ap cup_token_of
    (sym (get_or-map (λ (it : NumberedLine). it.text) lines at none [] there))
    ∙ sym read)
