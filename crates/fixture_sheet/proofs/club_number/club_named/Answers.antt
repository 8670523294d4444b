use Rattle.std.proofs.Common.{◌∙◌, ap, sym, position, bytes_eq, option_and_then}
use Rattle.league_core.specs.declared.sheet.Club.{Club}
use Rattle.fixture_sheet.specs.Records.{names_of}
use Rattle.fixture_sheet.proofs.club_number.club_named.Goals as goal
use Rattle.league_core.proofs.plain.Lists.{position-map}

pub returns-in-None-clause-place : goal.returns-in-None-clause-place
returns-in-None-clause-place c =
    let name = c.in_ok-text_of.field-0.now in
    c.in-None.ensures.place
    ∙ ap (position (λ (club : Club). bytes_eq name club.name)) c.as_slice.ensures
    ∙ sym (position-map (λ (club : Club). club.name) (bytes_eq name) c.args.sheet.now.clubs)
    ∙ ap (option_and_then (λ text. position (bytes_eq text) (names_of c.args.sheet.now)))
    c.in_ok-text_of.ensures

pub returns-in-Some-clause-place : goal.returns-in-Some-clause-place
returns-in-Some-clause-place c =
    let name = c.in_ok-text_of.field-0.now in
    c.in-Some.ensures.place
    ∙ ap (position (λ (club : Club). bytes_eq name club.name)) c.as_slice.ensures
    ∙ sym (position-map (λ (club : Club). club.name) (bytes_eq name) c.args.sheet.now.clubs)
    ∙ ap (option_and_then (λ text. position (bytes_eq text) (names_of c.args.sheet.now)))
    c.in_ok-text_of.ensures
