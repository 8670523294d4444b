-- Each sum decides if those before left a rival of the group level.
use Rattle.std.proofs.Common.{◌≡◌, ◌≢◌, ◌∷◌, [], inl, inr, true, false, not, ◌&&◌, ◌||◌, ◌==◌}
use Rattle.std.proofs.Common.{◌-◌, length, take, drop, get_or, refl, ap, sym, ◌∙◌, arith}
use Rattle.std.proofs.lemmas.Bool.{or_right, eq-eqb, eqb-false, ne_eqb, false≢true}
use Rattle.std.proofs.lemmas.Bool.{cases_Bool}
use Rattle.std.proofs.lemmas.List.{length-drop, take_all}
use Rattle.league_core.specs.game.Sums.{has_club}
use Rattle.league_core.specs.game.ClubSets.{clubs_in}
use Rattle.league_core.specs.search.PointRanges.{range_from}
use Rattle.league_core.specs.search.SureOrder.{sure_then, sure_by_ranges, is_level}
use Rattle.league_core.proofs.SureLemmas.{sure_then-assoc}
use Rattle.check_bounds.specs.inside.Terms.{worth_by}
use Rattle.check_bounds.specs.inside.Steps.{sure_at, sure_by_tables}
use Rattle.check_bounds.specs.inside.Walks.{sum_ranges}
use Rattle.check_bounds.proofs.StepLemmas.{stays, both_level}
use Rattle.check_bounds.proofs.TableLemmas.{near_is}
use Rattle.check_bounds.proofs.TieRoundLemmas.{sums_say}
use Rattle.check_bounds.proofs.tie_rounds.+take_sums.Goals as goal

pub returns-then-not-has_level : goal.returns-then-not-has_level
returns-then-not-has_level n c = λ rival below other within.
    stays (sure_at c.args.answers.now rival) _
    (λ level. false≢true (sym (c.has_level.ensures c.if-not-has_level.true rival below
    (c.without.ensures rival
    ∙ ap (λ b. b && not (has_club (clubs_in c.single.result) rival)) (within level)
    ∙ ap (λ xs. not (has_club xs rival)) c.single.ensures
    ∙ ap (λ b. not (b || false)) (ne_eqb c.args.club rival (λ e. other (sym e)))))
    ∙ level))

pub returns : goal.returns
returns n c = λ rival below other within.
    let sheet = c.args.cells.now.sheet in
    let corners = c.args.cells.now.corners in
    let group = clubs_in c.args.group in
    let kept = clubs_in c.with_if.result in
    let kinds = c.args.kinds.now in
    let club = c.args.club in
    let was = sure_at c.args.answers.now rival in
    let said = sure_by_tables (c.sums_in-table.result ∷ []) club rival in
    let some : length kinds ≢ 0 =
    eqb-false (length kinds) 0 (sym c.is_empty.ensures ∙ c.if-is_empty.false) in
    let later = take (length kinds - 1) (drop 1 kinds) in
    let all : later ≡ drop 1 kinds =
    take_all (length kinds - 1) (drop 1 kinds) (omega (arith, length-drop 1 kinds)) in
    let rest = sure_by_ranges (sum_ranges sheet corners later rival)
    (sum_ranges sheet corners later club) in
    let whole = sure_by_ranges (sum_ranges sheet corners kinds rival)
    (sum_ranges sheet corners kinds club) in
    let taken : sure_at c.take_sums.new.answers rival ≡ sure_then was (sure_then said rest) =
    c.take_sums.ensures rival below other
    (λ level. within (both_level was said
    (sym (ap is_level (c.step-2.ensures rival below)) ∙ level)).0)
    ∙ ap (λ s. sure_then s rest) (c.step-2.ensures rival below)
    ∙ sure_then-assoc was said rest in
    let own : has_club kept club ≡ true =
    c.with_if.ensures club
    ∙ or_right (has_club group club) (club == club) (eq-eqb club club refl) in
    elim (cases_Bool (has_club group rival)) as (λ _. sure_at c.take_sums.new.answers rival
    ≡ sure_then was whole) [
      | inl member ↦
          let there : has_club kept rival ≡ true =
          c.with_if.ensures rival ∙ ap (λ b. b || (club == rival)) member in
          taken
          ∙ ap (sure_then was)
          (sums_say sheet corners kinds later _ c.sums_in-table.result club rival
          (omega (arith, some)) all
          (c.sums_in-table.ensures.table club
          ∙ ap (λ value. range_from value sheet.fixtures corners)
          (near_is kept (worth_by (get_or kinds 0 _)) club own))
          (c.sums_in-table.ensures.table rival
          ∙ ap (λ value. range_from value sheet.fixtures corners)
          (near_is kept (worth_by (get_or kinds 0 _)) rival there)))
      | inr outside ↦
          let apart : is_level was ≡ true → ⊥ =
          λ level. false≢true (sym outside ∙ within level) in
          taken ∙ sym (stays was (sure_then said rest) apart) ∙ stays was whole apart
    ]
