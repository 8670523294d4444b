-- The club's name in its group is that in the cup.
use Rattle.std.proofs.Common.{◌≡◌, ◌∙◌, ◌<◌, [], ℕ, List, Some, ap, get_or, length, map, sym}
use Rattle.std.proofs.Common.{arith}
use Rattle.std.proofs.lemmas.List.{get_or-map}
use Rattle.league_core.specs.declared.sheet.Club.{Club}
use Rattle.cup_grammar.specs.PlacedGroups.{PlacedGroup, group_with, placed_groups}
use Rattle.cup_check.proofs.CupSideLemmas.{own_below}
use Rattle.cup_check.proofs.PlaceLemmas.{name_there, some_with}
use Rattle.cup_check.proofs.report.CupReport.name.Goals as goal

pub unreachable-requires : goal.unreachable-requires
unreachable-requires c =
    some_with c.args.self.now.basis c.args.club c.recall_invariant.ensures.of_groups c.requires
    (sym c.group_with.ensures.value ∙ c.in-None.is)

pub returns : goal.returns
returns c =
    let basis = c.args.self.now.basis in
    let club = c.args.club in
    let mine = c.in-Some.group in
    let own = c.own_club-own.result in
    let default = c.index-as_slice-own.result in
    let name : Club → List ℕ = λ it. it.name in
    let clubs : c.as_slice.result.now ≡ mine.sheet.clubs =
    c.as_slice.ensures ∙ ap (λ (it : PlacedGroup). it.sheet.clubs) c.group.view_is in
    let found : group_with (placed_groups basis) club ≡ Some mine =
    sym c.group_with.ensures.value ∙ c.in-Some.is in
    let within : own < length mine.sheet.clubs = omega (
      arith,
      c.own_club-own.ensures,
      own_below mine club c.in-Some.ensures.has,
    ) in
    c.as_str.ensures
    ∙ ap (λ it. name (get_or it own default)) clubs
    ∙ sym (get_or-map name mine.sheet.clubs own default [] within)
    ∙ ap (λ it. get_or (map name mine.sheet.clubs) it []) c.own_club-own.ensures
    ∙ sym (name_there basis club mine found)
