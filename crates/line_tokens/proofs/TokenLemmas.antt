-- What the line at a position is.
use Rattle.std.proofs.Common.{◌≡◌, ◌<◌, ℕ, ◌∙◌, List, length, sym, ap, arith}
use Rattle.std.proofs.Common.{drop, Result, Ok, Err, [], ◌∷◌, ◌+◌}
use Rattle.std.specs.Prelude.{IfOk}
use Rattle.std.proofs.lemmas.List.{length-map, get_or-map, drop_more}
use Rattle.league_core.specs.declared.memory.OutOfMemory.{OutOfMemory}
use Rattle.kept_lines.specs.LineLists.{NumberedLine, text_at}
use Rattle.line_tokens.specs.declared.token.Token.{Token}
use Rattle.line_tokens.specs.declared.token.Token.TheVariants.{Unknown}
use Rattle.line_tokens.specs.Tokens.{token_of, tokens_of}

-- what is read of the text of a line is what the line is among all
pub token_there : (lines : List NumberedLine) (at : ℕ) (result : Result Token OutOfMemory)
    → at < length (tokens_of lines)
    → IfOk result (λ (token : Token). token ≡ token_of (text_at lines at))
    → IfOk result
    (λ (token : Token). drop at (tokens_of lines) ≡ token ∷ drop (at + 1) (tokens_of lines))
token_there lines at (Err stop) within read = tt
token_there lines at (Ok token) within read =
    let shown = λ (it : NumberedLine). token_of it.text in
    let there : at < length lines = omega (arith, within, length-map lines shown) in
    let none : NumberedLine = record { number = 0; text = [] } in
    drop_more (tokens_of lines) at Unknown within
    ∙ ap (λ (it : Token). it ∷ drop (at + 1) (tokens_of lines))
    (get_or-map shown lines at none Unknown there
    ∙ ap token_of (sym (get_or-map (λ (it : NumberedLine). it.text) lines at none [] there))
    ∙ sym read)
