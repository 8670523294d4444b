use Rattle.std.proofs.Common.{◌≡◌, ℕ, Bool, true, false, [], ◌∷◌, ◌++◌, map, cond, sym, ap, refl}
use Rattle.std.proofs.Common.{◌∙◌, arith}
use Rattle.std.proofs.lemmas.List.{map-append}
use Rattle.league_core.specs.game.Sums.{has_club}
use Rattle.league_core.specs.game.ClubSets.{clubs_below, clubs_in}
use Rattle.league_core.proofs.ClubSetLemmas.{clubs_below-none, clubs_below-more}
use Rattle.tie_criteria.specs.declared.mini_table.Row.{Row}
use Rattle.tie_criteria.specs.inside.Records.{record_at}
use Rattle.tie_criteria.proofs.RowLemmas.{row_at, rows_are}
use Rattle.tie_criteria.proofs.mini_table.MiniTable.of.Goals as goal

-- the row of a club, if the club is kept
row-cond : (f : ℕ → Row) (row : Row) (keep : Bool) (club : ℕ) → row ≡ f club
    → cond keep (row ∷ []) [] ≡ map f (cond keep (club ∷ []) [])
row-cond f row true club is = ap (λ r. r ∷ []) is
row-cond f row false club is = refl

pub loop-club-init : goal.loop-club-init
loop-club-init c =
    c.new-rows.ensures.items
    ∙ ap (map (row_at c.in_ok-found.found.items)) (sym (clubs_below-none c.args.group.bits))

pub loop-club-preserved : goal.loop-club-preserved
loop-club-preserved c =
    let records = c.in_ok-found.found.items in
    let club = c.loop-club.club in
    let has = has_club (clubs_in c.args.group) club in
    let triple = c.triple_at.ensures ∙ ap (λ xs. record_at xs club) c.deref.ensures.value in
    let row : Row = record { club = club; triple = c.triple_at.result } in
    let row_is : row ≡ row_at records club = (λ i. record { club = club; triple = triple i }) in
    let below = clubs_below club c.args.group.bits in
    c.in_ok-add_row.ensures
    ∙ ap (λ xs. xs ++ cond has (row ∷ []) []) c.loop-club.invariant
    ∙ ap (λ xs. map (row_at records) below ++ xs) (row-cond (row_at records) row has club row_is)
    ∙ sym (map-append (row_at records) below (cond has (club ∷ []) []))
    ∙ ap (map (row_at records)) (sym (clubs_below-more club c.args.group.bits (omega arith)))

pub returns : goal.returns
returns c =
    let last : c.loop-club.club ≡ 32 = omega arith in
    c.loop-club.invariant
    ∙ ap (λ n. map (row_at c.in_ok-found.found.items) (clubs_below n c.args.group.bits)) last
    ∙ rows_are c.args.sheet.now c.args.season.now
    (clubs_in c.args.group) c.in_ok-found.found.items c.in_ok-found.ensures c.requires.of_group
