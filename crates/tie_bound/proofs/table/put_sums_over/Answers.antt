use Rattle.std.proofs.Common.{◌≡◌, ◌<◌, ℕ, true, length, subst, ap, ◌∙◌}
use Rattle.std.specs.List.{list_all, range_with_len}
use Rattle.std.proofs.lemmas.Bool.{lt-ltb}
use Rattle.league_core.specs.declared.sheet.Sheet.{Sheet}
use Rattle.league_core.specs.game.Sheets.{is_fixture}
use Rattle.league_core.specs.game.Sums.{has_club}
use Rattle.league_core.specs.game.ClubSets.{clubs_in}
use Rattle.league_core.proofs.ClubSetLemmas.{has_club-range}
use Rattle.league_core.proofs.RangeLemmas.{range_from-among_all}
use Rattle.tie_criteria.specs.inside.Measures.{worth_of}
use Rattle.tie_bound.specs.inside.Boxes.{options_in_box}
use Rattle.tie_bound.proofs.table.put_sums_over.Goals as goal

pub returns-else-has_finish : goal.returns-else-has_finish
returns-else-has_finish c =
    let box = c.args.zone_box.now in
    let clubs = length box.sheet.clubs in
    let many : c.len.result ≡ clubs = c.len.ensures
    ∙ ap (λ (s : Sheet). length s.clubs) c.sheet.ensures.sheet in
    let all : (x : ℕ) → x < clubs → has_club (clubs_in c.first-all.result) x ≡ true =
    λ x within.
    ap (λ xs. has_club xs x) c.first-all.ensures
    ∙ ap (λ n. has_club (range_with_len 0 n) x) many
    ∙ has_club-range clubs x
    ∙ lt-ltb x clubs within in
    let Are : Sheet → Type 0 = λ s. list_all (is_fixture (length s.clubs)) s.fixtures ≡ true in
    let fixtures : Are box.sheet = subst Are c.sheet.ensures.sheet
    c.sheet.ensures.limits.fixtures in
    record {
      each = λ club measure.
          c.add_all.ensures.each club measure
          ∙ range_from-among_all (clubs_in c.first-all.result) clubs (worth_of measure) club
          box.sheet.fixtures (options_in_box box) all fixtures;
      near = c.add_all.ensures.near;
    }

pub add_all_open-requires-clause-all : goal.add_all_open-requires-clause-all
add_all_open-requires-clause-all c = λ x within.
    let clubs = length c.args.zone_box.now.sheet.clubs in
    ap (λ xs. has_club xs x) c.first-all.ensures
    ∙ ap (λ n. has_club (range_with_len 0 n) x) (c.len.ensures
    ∙ ap (λ (s : Sheet). length s.clubs) c.sheet.ensures.sheet)
    ∙ has_club-range clubs x
    ∙ lt-ltb x clubs within
