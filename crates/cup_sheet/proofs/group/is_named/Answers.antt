use Rattle.std.proofs.Common.{◌∙◌, ap, sym, bytes_eq}
use Rattle.std.specs.List.{list_any}
use Rattle.league_core.specs.declared.sheet.Club.{Club}
use Rattle.league_core.proofs.plain.Lists.{list_any-map}
use Rattle.cup_sheet.proofs.group.is_named.Goals as goal

pub returns : goal.returns
returns c =
    let name = c.args.name.now in
    c.is_among.ensures
    ∙ ap (list_any (λ (club : Club). bytes_eq name club.name)) c.as_slice.ensures
    ∙ sym (list_any-map (λ (club : Club). club.name) (bytes_eq name) c.args.group.now.clubs)
