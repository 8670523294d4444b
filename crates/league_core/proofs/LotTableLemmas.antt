-- Lots name each club once, so they are the table that they give wherever points and criteria allow
-- it.
use Rattle.std.proofs.Common.{◌≡◌, ◌≢◌, ℕ, ◌+◌, ◌<◌, true, false, not, ◌||◌, ◌==◌, eqb, nat_lt}
use Rattle.std.proofs.Common.{cond, List, [], ◌∷◌, ◌++◌, length, Ordering, nat_cmp, refl, sym, ◌∙◌}
use Rattle.std.proofs.Common.{ap, subst, inl, inr, arith, length-append}
use Rattle.std.specs.List.{list_all, list_any, range_with_len}
use Rattle.std.proofs.lemmas.List.{append_assoc}
use Rattle.std.proofs.lemmas.Bool.{false≢true, and_parts, or_cases, or_left, or_right, eqb-true}
use Rattle.std.proofs.lemmas.Bool.{eq-eqb, ne_eqb, ltb-true, lt-ltb, cases_eq, cases_lt}
use Rattle.std.proofs.lemmas.Bool.{false_from_ne_true}
use Rattle.std.proofs.lemmas.Map.Steps.{le-length_from_below}
use Rattle.league_core.specs.declared.sheet.Sheet.{Sheet}
use Rattle.league_core.specs.game.Results.{Results}
use Rattle.league_core.specs.game.Sums.{has_club}
use Rattle.league_core.specs.game.Ranking.{are_lots, lot_of, order_of, AreRanked, IsTable}
use Rattle.league_core.specs.laws.Laws.{IsAllowedTable}
use Rattle.league_core.proofs.ClubSetLemmas.{has_club-range}
use Rattle.league_core.proofs.OthersLemmas.{lot_of-absent}
use Rattle.league_core.proofs.RankingLemmas.{lots_have}
use Rattle.league_core.proofs.TableLemmas.{order_of-wanted}
use Rattle.league_core.proofs.ClubLemmas.{has_club-append, any_from_has}
use Rattle.league_core.proofs.plain.Orderings.{nat_cmp-less}

-- the list has every club below a number, and no more entries than there are such clubs
record NameEach (clubs : ℕ) (lots : List ℕ) : Type 0 where
  pub long : length lots ≡ clubs
  pub each : (club : ℕ) → club < clubs → has_club lots club ≡ true

-- a club that a list has beside another entry is there without that entry
has_without : (done later : List ℕ) (drawn club : ℕ) → drawn ≢ club
    → has_club (done ++ drawn ∷ later) club ≡ true → has_club (done ++ later) club ≡ true
has_without done later drawn club other has =
    has_club-append done later club
    ∙ ap (λ b. has_club done club || (b || has_club later club))
    (sym (ne_eqb drawn club other))
    ∙ sym (has_club-append done (drawn ∷ later) club) ∙ has

-- no entry can be left out: none is there twice, and none is past the clubs
is_needed : (clubs : ℕ) (done later : List ℕ) (drawn : ℕ)
    → NameEach clubs (done ++ drawn ∷ later)
    → (drawn < clubs → has_club (done ++ later) drawn ≡ true) → ⊥
is_needed clubs done later drawn names spare =
    let long = le-length_from_below (done ++ later) clubs each in
    let as_many = names.long in
    absurd (omega (arith, length-append done later, length-append done (drawn ∷ later)))
  where
    each : (q : ℕ) → q < clubs → list_any (eqb q) (done ++ later) ≡ true
    each q below =
        any_from_has (done ++ later) q
        (elim (cases_eq drawn q) as (λ _. has_club (done ++ later) q ≡ true) [
          | inl same ↦ subst (λ (x : ℕ). has_club (done ++ later) x ≡ true) same
              (spare (omega arith))
          | inr other ↦ has_without done later drawn q other (names.each q below)
        ])

-- the lots go on where they were
go_on : (clubs : ℕ) (done later : List ℕ) (drawn : ℕ) → NameEach clubs (done ++ drawn ∷ later)
    → NameEach clubs ((done ++ drawn ∷ []) ++ later)
go_on clubs done later drawn names =
    subst (NameEach clubs) (sym (append_assoc done (drawn ∷ []) later)) names

-- what was drawn is not drawn again
not_again : (clubs : ℕ) (done rest : List ℕ) (club : ℕ) → NameEach clubs (done ++ rest)
    → has_club done club ≡ true → has_club rest club ≡ true → ⊥
not_again clubs done [] club names was is = false≢true is
not_again clubs done (drawn ∷ rest) club names was is =
    elim (or_cases (drawn == club) (has_club rest club) is) as (λ _. ⊥) [
      | inl here ↦
          is_needed clubs done rest drawn names
          (λ _. subst (λ (x : ℕ). has_club (done ++ rest) x ≡ true)
          (sym (eqb-true drawn club here))
          (has_club-append done rest club ∙ or_left (has_club done club) (has_club rest club) was))
      | inr later ↦
          not_again clubs (done ++ drawn ∷ []) rest club (go_on clubs done rest drawn names)
          (has_club-append done (drawn ∷ []) club
          ∙ or_left (has_club done club) (has_club (drawn ∷ []) club) was) later
    ]

-- each entry is one of the clubs
drawn_below : (clubs : ℕ) (done later : List ℕ) (drawn : ℕ)
    → NameEach clubs (done ++ drawn ∷ later) → drawn < clubs
drawn_below clubs done later drawn names =
    elim (cases_lt drawn clubs) as (λ _. drawn < clubs) [
      | inl below ↦ below
      | inr past ↦ absurd (is_needed clubs done later drawn names (λ below. absurd (omega arith)))
    ]

later_below : (clubs : ℕ) (done rest : List ℕ) (club : ℕ) → NameEach clubs (done ++ rest)
    → has_club rest club ≡ true → club < clubs
later_below clubs done [] club names has = absurd (false≢true has)
later_below clubs done (drawn ∷ rest) club names has =
    elim (or_cases (drawn == club) (has_club rest club) has) as (λ _. club < clubs) [
      | inl here ↦ subst (λ (x : ℕ). x < clubs) (eqb-true drawn club here)
          (drawn_below clubs done rest drawn names)
      | inr later ↦ later_below clubs (done ++ drawn ∷ []) rest club
          (go_on clubs done rest drawn names) later
    ]

-- who is drawn has all later ones behind it in the lots
drawn_before : (clubs : ℕ) (done later : List ℕ) (drawn other : ℕ)
    → NameEach clubs (done ++ drawn ∷ later) → has_club later other ≡ true
    → lot_of (done ++ drawn ∷ later) drawn < lot_of (done ++ drawn ∷ later) other
drawn_before clubs done later drawn other names has =
    let mine = lot_of-absent done (drawn ∷ later) drawn (not_there drawn here) in
    let theirs = lot_of-absent done (drawn ∷ later) other (not_there other there) in
    let first : lot_of (drawn ∷ later) drawn ≡ 0 = ap (λ b. cond (not b) (1 + lot_of later drawn) 0)
    (eq-eqb drawn drawn refl) in
    let next : lot_of (drawn ∷ later) other ≡ 1 + lot_of later other = ap
    (λ b. cond (not b) (1 + lot_of later other) 0) (ne_eqb drawn other differ) in
    omega arith
  where
    here : has_club (drawn ∷ later) drawn ≡ true
    here = or_left (drawn == drawn) (has_club later drawn) (eq-eqb drawn drawn refl)

    there : has_club (drawn ∷ later) other ≡ true
    there = or_right (drawn == other) (has_club later other) has

    not_there : (x : ℕ) → has_club (drawn ∷ later) x ≡ true → has_club done x ≡ false
    not_there x now = false_from_ne_true (has_club done x)
        (λ was. not_again clubs done (drawn ∷ later) x names was now)

    differ : drawn ≢ other
    differ same = not_again clubs (done ++ drawn ∷ []) later other
        (go_on clubs done later drawn names)
        (has_club-append done (drawn ∷ []) other
        ∙ or_right (has_club done other) (has_club (drawn ∷ []) other)
        (or_left (drawn == other) false (eq-eqb drawn other same))) has

-- so if each comparison is the one by the lots, each club ranks before all that are drawn later
ranked_from : (clubs : ℕ) (order : ℕ → ℕ → Ordering) (lots done rest : List ℕ)
    → lots ≡ done ++ rest → NameEach clubs (done ++ rest)
    → ((club other : ℕ) → club < clubs → other < clubs
    → order club other ≡ nat_cmp (lot_of lots club) (lot_of lots other)) → AreRanked order rest
ranked_from clubs order lots done [] is names by_lots = tt
ranked_from clubs order lots done (drawn ∷ rest) is names by_lots = (
  λ other has.
      by_lots drawn other (drawn_below clubs done rest drawn names)
      (later_below clubs (done ++ drawn ∷ []) rest other (go_on clubs done rest drawn names) has)
      ∙ nat_cmp-less (lot_of lots drawn) (lot_of lots other)
      (subst (λ (xs : List ℕ). lot_of xs drawn < lot_of xs other) (sym is)
      (drawn_before clubs done rest drawn other names has)),
  ranked_from clubs order lots (done ++ drawn ∷ []) rest
      (is ∙ sym (append_assoc done (drawn ∷ []) rest)) (go_on clubs done rest drawn names) by_lots,
)

-- lots of all clubs have those and no other
lots_are_clubs : (clubs : ℕ) (lots : List ℕ) → NameEach clubs lots → (club : ℕ)
    → has_club lots club ≡ has_club (range_with_len 0 clubs) club
lots_are_clubs clubs lots names club =
    elim (cases_lt club clubs) as (λ _. has_club lots club
    ≡ has_club (range_with_len 0 clubs) club) [
      | inl below ↦ names.each club below
          ∙ sym (has_club-range clubs club ∙ lt-ltb club clubs below)
      | inr past ↦
          false_from_ne_true (has_club lots club)
          (λ has. let below = later_below clubs [] lots club names has in absurd (omega arith))
          ∙ sym (has_club-range clubs club
          ∙ false_from_ne_true (nat_lt club clubs)
          (λ low. let below = ltb-true club clubs low in absurd (omega arith)))
    ]

-- lots that are allowed as a table are the table that they give
pub table_of_itself : (sheet : Sheet) (season : Results) (table : List ℕ)
    → are_lots (length sheet.clubs) table ≡ true → IsAllowedTable sheet season table
    → IsTable sheet season table table
table_of_itself sheet season table drawn allowed =
    let clubs = length sheet.clubs in
    let parts = and_parts (length table == clubs) (list_all (has_club table)
    (range_with_len 0 clubs))
    drawn in
    let names : NameEach clubs table = record {
      long = eqb-true (length table) clubs parts.0;
      each = λ club below. lots_have clubs table club drawn below;
    } in
    record {
      ranked = ranked_from clubs (order_of sheet season table) table [] table refl names
          (order_of-wanted sheet season table allowed);
      clubs = lots_are_clubs clubs table names;
    }
