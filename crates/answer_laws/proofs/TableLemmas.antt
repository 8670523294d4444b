-- A list of different clubs is put in order club by club, and so each season has a table.
use Rattle.std.proofs.Common.{◌≡◌, ◌≢◌, ◌⊎◌, inl, inr, ℕ, zero, suc, ◌+◌, ◌<◌, ◌≤◌, Bool, true}
use Rattle.std.proofs.Common.{◌||◌, eqb, List, [], ◌∷◌, length, Ordering, Less, refl, sym, ap, ◌∙◌}
use Rattle.std.proofs.Common.{subst, arith}
use Rattle.std.specs.Cmp.{IsTotalOrder}
use Rattle.std.specs.List.{range_with_len}
use Rattle.std.proofs.lemmas.Bool.{or_cases, or_left, or_right, eq-eqb, eqb-true, false≢true}
use Rattle.league_core.specs.declared.sheet.Sheet.{Sheet}
use Rattle.league_core.specs.game.Results.{Results}
use Rattle.league_core.specs.game.Sums.{has_club}
use Rattle.league_core.specs.game.Ranking.{are_lots, order_of, ranks_before, AreRanked, IsTable}
use Rattle.league_core.proofs.RankingLemmas.{order_of_total, ranks_before-one}
use Rattle.league_core.proofs.plain.Orderings.{less-is_lt}
use Rattle.league_core.proofs.plain.TruthValues.{or_swap}

-- of two clubs one comes first
abbrev OneIsFirst : (ℕ → ℕ → Ordering) → ℕ → ℕ → Type 0
OneIsFirst order club other = (order club other ≡ Less) ⊎ (order other club ≡ Less)

-- a ranked list of these clubs and one more
pub record IsInserted (order : ℕ → ℕ → Ordering) (club : ℕ) (clubs table : List ℕ) : Type 0 where
  pub ranked : AreRanked order table
  pub has : (other : ℕ) → has_club table other ≡ (eqb club other || has_club clubs other)

-- a club that comes before the first of a ranked list comes before them all
before_all : (order : ℕ → ℕ → Ordering) (club first : ℕ) (later : List ℕ) → IsTotalOrder order
    → AreRanked order (first ∷ later) → order club first ≡ Less → (other : ℕ)
    → has_club (first ∷ later) other ≡ true → order club other ≡ Less
before_all order club first later total ranked less other has =
    by_place (or_cases (eqb first other) (has_club later other) has)
  where
    by_place : (eqb first other ≡ true) ⊎ (has_club later other ≡ true) → order club other ≡ Less
    by_place (inl same) =
        subst (λ (c : ℕ). order club c ≡ Less) (eqb-true first other same) less
    by_place (inr behind) = total.trans club first other less (ranked.0 other behind)

-- a club that comes before another and before a list comes before that list with the other in it
before_inserted : (order : ℕ → ℕ → Ordering) (first club : ℕ) (later table : List ℕ)
    → AreRanked order (first ∷ later) → order first club ≡ Less
    → IsInserted order club later table → (other : ℕ) → has_club table other ≡ true
    → order first other ≡ Less
before_inserted order first club later table ranked less inserted other has =
    by_place (or_cases (eqb club other) (has_club later other) (sym (inserted.has other) ∙ has))
  where
    by_place : (eqb club other ≡ true) ⊎ (has_club later other ≡ true) → order first other ≡ Less
    by_place (inl same) =
        subst (λ (c : ℕ). order first c ≡ Less) (eqb-true club other same) less
    by_place (inr behind) = ranked.0 other behind

-- a club more is put where it belongs
insert_club : (order : ℕ → ℕ → Ordering) (club : ℕ) (clubs : List ℕ) → IsTotalOrder order
    → AreRanked order clubs
    → ((other : ℕ) → has_club clubs other ≡ true → OneIsFirst order club other)
    → (table : List ℕ) × IsInserted order club clubs table
insert_club order club [] total ranked decided = (
  club ∷ [],
  record { ranked = (λ other has. absurd (false≢true has), tt); has = λ other. refl },
)
insert_club order club (first ∷ later) total ranked decided =
    by_first (decided first (here first)) (insert_club order club later total ranked.1 behind)
  where
    here : (member : ℕ) → has_club (member ∷ later) member ≡ true
    here member = or_left (eqb member member) (has_club later member)
        (eq-eqb member member refl)

    behind : (other : ℕ) → has_club later other ≡ true → OneIsFirst order club other
    behind other has = decided other
        (or_right (eqb first other) (has_club later other) has)

    by_first : OneIsFirst order club first → (table : List ℕ) × IsInserted order club later table
        → (table : List ℕ) × IsInserted order club (first ∷ later) table
    by_first (inl less) rest = (
      club ∷ first ∷ later,
      record {
        ranked = (before_all order club first later total ranked less, ranked);
        has = λ other. refl;
      },
    )
    by_first (inr more) rest = (
      first ∷ rest.0,
      record {
        ranked = (
          before_inserted order first club later rest.0 ranked more rest.1,
          rest.1.ranked,
        );
        has = λ other. ap (λ (b : Bool). eqb first other || b) (rest.1.has other)
            ∙ or_swap (eqb first other) (eqb club other) (has_club later other);
      },
    )

-- ---- all clubs

-- the members of a range
range_within : (from count club : ℕ) → has_club (range_with_len from count) club ≡ true
    → (from ≤ club) × (club < from + count)
range_within from zero club has = absurd (false≢true has)
range_within from (suc count) club has =
    by_place (range_within (from + 1) count club)
    (or_cases (eqb from club) (has_club (range_with_len (from + 1) count) club) has)
  where
    by_place : (has_club (range_with_len (from + 1) count) club ≡ true
        → (from + 1 ≤ club) × (club < from + 1 + count))
        → (eqb from club ≡ true) ⊎ (has_club (range_with_len (from + 1) count) club ≡ true)
        → (from ≤ club) × (club < from + suc count)
    by_place behind (inl same) =
        let is = eqb-true from club same in (omega (arith, is), omega (arith, is))
    by_place behind (inr later) =
        let within = behind later in (omega (arith, within.0), omega (arith, within.1))

-- a ranked list of the members of a range
pub record IsSorted (order : ℕ → ℕ → Ordering) (from count : ℕ) (table : List ℕ) : Type 0 where
  pub ranked : AreRanked order table
  pub has : (club : ℕ) → has_club table club ≡ has_club (range_with_len from count) club

-- of any two different clubs below a number one comes first
abbrev AreDecided : (ℕ → ℕ → Ordering) → ℕ → Type 0
AreDecided order clubs =
    (club other : ℕ) → club < clubs → other < clubs → club ≢ other → OneIsFirst order club other

sort_clubs : (order : ℕ → ℕ → Ordering) (clubs from count : ℕ) → IsTotalOrder order
    → AreDecided order clubs → from + count ≤ clubs
    → (table : List ℕ) × IsSorted order from count table
sort_clubs order clubs from zero total decided few =
    ([], record { ranked = tt; has = λ club. refl })
sort_clubs order clubs from (suc count) total decided few =
    let rest = sort_clubs order clubs (from + 1) count total decided (omega (arith, few)) in
    let all = insert_club order from rest.0 total rest.1.ranked (λ other has.
    let within = range_within (from + 1) count other (sym (rest.1.has other) ∙ has) in
    decided from other (omega (arith, few)) (omega (arith, few, within.1))
    (λ same. omega (arith, same, within.0))) in (
      all.0,
      record {
        ranked = all.1.ranked;
        has = λ club. all.1.has club
            ∙ ap (λ (b : Bool). eqb from club || b) (rest.1.has club);
      },
    )

-- with lots, one of two different clubs comes first
one_is_first : (sheet : Sheet) (season : Results) (lots : List ℕ)
    → are_lots (length sheet.clubs) lots ≡ true
    → AreDecided (order_of sheet season lots) (length sheet.clubs)
one_is_first sheet season lots drawn club other below other_below different =
    by_rank (ranks_before-one sheet season lots club other drawn below other_below different)
  where
    by_rank : (ranks_before sheet season lots club other ≡ true)
        ⊎ (ranks_before sheet season lots other club ≡ true)
        → OneIsFirst (order_of sheet season lots) club other
    by_rank (inl before) = inl (less-is_lt (order_of sheet season lots club other) before)
    by_rank (inr behind) = inr (less-is_lt (order_of sheet season lots other club) behind)

-- each season has a table
pub table_there : (sheet : Sheet) (season : Results) (lots : List ℕ)
    → are_lots (length sheet.clubs) lots ≡ true
    → (table : List ℕ) × IsTable sheet season lots table
table_there sheet season lots drawn =
    let sorted = sort_clubs (order_of sheet season lots) (length sheet.clubs) 0
    (length sheet.clubs) (order_of_total sheet season lots)
    (one_is_first sheet season lots drawn) (omega arith) in
    (sorted.0, record { ranked = sorted.1.ranked; clubs = sorted.1.has })
