-- The rows of a group: each club of it with its record there.
use Rattle.std.proofs.Common.{◌≡◌, ℕ}
use Rattle.std.proofs.Common.{true, eqb, List, [], ◌∷◌, map}
use Rattle.std.proofs.Common.{refl}
use Rattle.std.proofs.lemmas.Bool.{or_left, or_right, eq-eqb}
use Rattle.league_core.specs.declared.sheet.Sheet.{Sheet}
use Rattle.league_core.specs.game.Results.{Results}
use Rattle.league_core.specs.game.Sums.{has_club}
use Rattle.tie_criteria.specs.declared.triple.Triple.{Triple}
use Rattle.tie_criteria.specs.inside.Parts.{triple_parts}
use Rattle.tie_criteria.specs.inside.Records.{record_at, AreRecords}
use Rattle.tie_criteria.specs.declared.mini_table.Row.{Row}
use Rattle.tie_criteria.specs.inside.Groups.{IsGroupOf}
use Rattle.tie_criteria.specs.inside.MiniTables.{triple_in, row_of}

-- the row of a club by the records
abbrev pub row_at : List Triple → ℕ → Row
row_at records club = record { club = club; triple = record_at records club }

same_triple : (triple other : Triple) → triple_parts triple ≡ triple_parts other → triple ≡ other
same_triple triple other same =
    let points : triple.points ≡ other.points = cc in
    let difference : triple.difference ≡ other.difference = cc in
    let scored : triple.scored ≡ other.scored = cc in
    (λ i. record { points = points i; difference = difference i; scored = scored i })

map_agree : {X : Type 0} (f g : ℕ → X) (clubs : List ℕ)
    → ((club : ℕ) → has_club clubs club ≡ true → f club ≡ g club) → map f clubs ≡ map g clubs
map_agree f g [] agree = refl
map_agree f g (club ∷ clubs) agree =
    let here = agree club (or_left (eqb club club) (has_club clubs club) (eq-eqb club club refl)) in
    let rest = map_agree f g clubs (λ x has. agree x
    (or_right (eqb club x) (has_club clubs x) has)) in
    (λ i. here i ∷ rest i)

-- by the records of a group's clubs the rows are those of the group
pub rows_are : (sheet : Sheet) (season : Results) (group : List ℕ) (records : List Triple)
    → AreRecords sheet season group records → IsGroupOf sheet group
    → map (row_at records) group ≡ map (row_of sheet season group) group
rows_are sheet season group records are of_group =
    map_agree (row_at records) (row_of sheet season group) group
    (λ club has.
    let triple = same_triple (record_at records club) (triple_in sheet season group club) (are.each
    club (of_group club has)) in
    (λ i. record { club = club; triple = triple i }))
