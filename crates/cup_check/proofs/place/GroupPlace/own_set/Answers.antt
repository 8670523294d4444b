-- The numbers of a cut that rises are a set.
use Rattle.std.proofs.Common.{◌∙◌, ap, sym}
use Rattle.std.specs.List.{list_all}
use Rattle.std.proofs.lemmas.Bool.{and_parts}
use Rattle.cert_text.specs.Places.{set_listed}
use Rattle.cert_text.specs.Ranges.{is_one_of}
use Rattle.cup_sheet.specs.CupLimits.{most_cup_clubs}
use Rattle.cup_text.specs.CupForms.{is_rising}
use Rattle.cup_check.proofs.GroupTreeLemmas.{own_set-listed}
use Rattle.cup_check.proofs.place.GroupPlace.own_set.Goals as goal

pub returns-in-Some : goal.returns-in-Some
returns-in-Some c =
    let said = c.in_ok-own.ensures {u = tt} in
    let found = rw c.in-Some.is at said in
    c.set_of.ensures ∙ ap set_listed c.as_slice.ensures.value
    ∙ own_set-listed c.args.self.now c.args.clubs.now c.in-Some.own.items c.recall_place.ensures
    (and_parts (is_rising c.args.clubs.now)
    (list_all (is_one_of most_cup_clubs) c.args.clubs.now) c.requires).0 (sym found)
