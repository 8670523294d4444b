-- The rivals that end level with the club at a finish: able ones, which with the club are the group
-- of all clubs on its points.
use Rattle.std.proofs.Common.{◌++◌, ◌≡◌, ◌≢◌, ◌⊎◌, ℕ, ℤ, ◌<◌, Bool, true, false, not, ◌&&◌, ◌||◌}
use Rattle.std.proofs.Common.{◌==◌, List, [], ◌∷◌, length, filter, Less, is_lt, nat_cmp, refl, sym}
use Rattle.std.proofs.Common.{ap, ◌∙◌, inl, inr}
use Rattle.std.specs.Ordering.{int_eq, ordering_then}
use Rattle.std.proofs.Math.Bool.{and-false, or-true}
use Rattle.std.proofs.lemmas.Bool.{false≢true, true≢false, and_parts, and_from, cases_eq, eq-eqb}
use Rattle.std.proofs.lemmas.Bool.{ne_eqb}
use Rattle.std.proofs.lemmas.Bool.Decides.{Decides-int_eq}
use Rattle.league_core.specs.declared.sheet.Sheet.{Sheet}
use Rattle.league_core.specs.declared.zone.Literal.{Literal}
use Rattle.league_core.specs.game.Results.{Results}
use Rattle.league_core.specs.game.Sheets.{clubs_of}
use Rattle.league_core.specs.game.Sums.{has_club, points_of}
use Rattle.league_core.specs.game.Ahead.{standing_in}
use Rattle.league_core.specs.game.Ranking.{tied_group_of, lot_of, ranks_before}
use Rattle.league_core.specs.search.Zones.{rivals_of}
use Rattle.league_core.specs.search.Options.{IsInBox}
use Rattle.league_core.proofs.ClubLemmas.{has_club-append, range_has}
use Rattle.league_core.proofs.ClubSetLemmas.{has_club-filter}
use Rattle.league_core.proofs.OrderingLemmas.{greater_first-same}
use Rattle.near_laws.specs.Fits.{is_able}
use Rattle.near_laws.specs.Near.{able_rivals}
use Rattle.near_laws.proofs.FitLemmas.{able_is}
use Rattle.near_laws.proofs.GroupLemmas.{AreOnce, once-filter, once-range}
use Rattle.near_laws.proofs.MadeGroupLemmas.{IsMadeOf}

-- the other has as many points as the club
abbrev pub has_points_of : Sheet → Results → ℕ → ℕ → Bool
has_points_of sheet finish club other =
    int_eq (points_of sheet finish other) (points_of sheet finish club)

-- the able rivals that have
abbrev pub level_rivals : Sheet → Results → List Literal → Results → ℕ → ℤ → List ℕ
level_rivals sheet season zone finish club points =
    filter (has_points_of sheet finish club) (able_rivals sheet season zone points club)

-- at a finish in the box, with the club on the points
module _ (sheet : Sheet) (season : Results) (zone : List Literal) (finish : Results) (club : ℕ)
    (points : ℤ) (box : IsInBox sheet season zone finish)
    (club_in : club < length sheet.clubs) (club_on : points_of sheet finish club ≡ points) where
  abbrev on : ℕ → Bool
  on = has_points_of sheet finish club

  abbrev able : List ℕ
  able = able_rivals sheet season zone points club

  abbrev level : List ℕ
  level = level_rivals sheet season zone finish club points

  on_says : (other : ℕ) → on other ≡ true → points_of sheet finish other ≡ points
  on_says other is =
      (Decides-int_eq (points_of sheet finish other) (points_of sheet finish club)).0 is ∙ club_on

  pub on_from : (other : ℕ) → points_of sheet finish other ≡ points → on other ≡ true
  on_from other is =
      (Decides-int_eq (points_of sheet finish other) (points_of sheet finish club)).1
      (is ∙ sym club_on)

  -- who is level is one of the sheet's clubs, another than the club, and able
  level_parts : (other : ℕ) → has_club level other
      ≡ (((has_club (clubs_of sheet) other && not (other == club))
      && is_able sheet season zone points other) && on other)
  level_parts other =
      has_club-filter on able other
      ∙ ap (λ b. b && on other)
      (has_club-filter (is_able sheet season zone points) (rivals_of sheet club) other
      ∙ ap (λ b. b && is_able sheet season zone points other)
      (has_club-filter (λ third. not (third == club)) (clubs_of sheet) other))

  pub level_on : (other : ℕ) → has_club level other ≡ true → points_of sheet finish other ≡ points
  level_on other among = on_says other
      (and_parts ((has_club (clubs_of sheet) other && not (other == club))
      && is_able sheet season zone points other) (on other) (sym (level_parts other) ∙ among)).1

  level_once : AreOnce level
  level_once =
      once-filter on able
      (once-filter (is_able sheet season zone points) (rivals_of sheet club)
      (once-filter (λ third. not (third == club)) (clubs_of sheet)
      (once-range 0 (length sheet.clubs))))

  club_not_level : has_club level club ≡ false
  club_not_level =
      level_parts club
      ∙ ap (λ b. ((has_club (clubs_of sheet) club && not b)
      && is_able sheet season zone points club) && on club) (eq-eqb club club refl)
      ∙ ap (λ b. (b && is_able sheet season zone points club) && on club)
      (and-false (has_club (clubs_of sheet) club))

  -- a rival on the points that is another than this one, as its parts say; or this one, or the club
  abbrev is_third : ℕ → ℕ → Bool
  is_third rival other =
      (((has_club (clubs_of sheet) other && not (other == club))
      && is_able sheet season zone points other) && on other) && not (other == rival)

  abbrev is_any : ℕ → ℕ → Bool
  is_any rival other = is_third rival other || ((rival == other) || ((club == other) || false))

  -- the clubs on the points are the rival, the club and the other rivals on them
  pub made_of_level : (rival : ℕ) → has_club level rival ≡ true
      → IsMadeOf (tied_group_of sheet finish club) (filter (λ other. not (other == rival)) level)
      rival club
  made_of_level rival among = record {
    once = once-filter (λ other. not (other == rival)) level level_once;
    no_front = has_club-filter (λ other. not (other == rival)) level rival
        ∙ ap (λ b. has_club level rival && not b) (eq-eqb rival rival refl)
        ∙ and-false (has_club level rival);
    no_back = has_club-filter (λ other. not (other == rival)) level club
        ∙ ap (λ b. b && not (club == rival)) club_not_level;
    same = λ other.
        has_club-filter on (clubs_of sheet) other
        ∙ each other
        ∙ sym (has_club-append (filter (λ third. not (third == rival)) level)
        (rival ∷ club ∷ []) other
        ∙ ap (λ b. b || has_club (rival ∷ club ∷ []) other)
        (has_club-filter (λ third. not (third == rival)) level other
        ∙ ap (λ b. b && not (other == rival)) (level_parts other)));
  }
    where
      there : (((has_club (clubs_of sheet) rival && not (rival == club))
          && is_able sheet season zone points rival) && on rival) ≡ true
      there = sym (level_parts rival) ∙ among

      -- it is this rival, or the club; it is able, on the points, one of the sheet's clubs
      neither : (a b fit tied there : Bool) → (tied ≡ true → fit ≡ true) → a ≡ false → b ≡ false
          → (there && tied)
          ≡ (((((there && not b) && fit) && tied) && not a) || (a || (b || false)))
      neither true b fit tied there is apart other = absurd (true≢false apart)
      neither false true fit tied there is apart other = absurd (true≢false other)
      neither false false true true true is apart other = refl
      neither false false true true false is apart other = refl
      neither false false true false true is apart other = refl
      neither false false true false false is apart other = refl
      neither false false false true there is apart other = absurd (false≢true (is refl))
      neither false false false false true is apart other = refl
      neither false false false false false is apart other = refl

      by_rival : (other : ℕ) → (other ≡ rival) ⊎ (other ≢ rival)
          → (other ≡ club) ⊎ (other ≢ club)
          → (has_club (clubs_of sheet) other && on other) ≡ is_any rival other
      by_rival other (inl same) own =
          let parts = and_parts ((has_club (clubs_of sheet) rival && not (rival == club))
          && is_able sheet season zone points rival) (on rival) there in
          let rival_in = and_parts (has_club (clubs_of sheet) rival) (not (rival == club))
          (and_parts (has_club (clubs_of sheet) rival && not (rival == club))
          (is_able sheet season zone points rival) parts.0).0 in
          ap (λ (c : ℕ). has_club (clubs_of sheet) c && on c) same
          ∙ and_from (has_club (clubs_of sheet) rival) (on rival) rival_in.0 parts.1
          ∙ sym (ap (λ b. is_third rival other || (b || ((club == other) || false)))
          (eq-eqb rival other (sym same)) ∙ or-true (is_third rival other))
      by_rival other (inr apart) (inl same) =
          ap (λ (c : ℕ). has_club (clubs_of sheet) c && on c) same
          ∙ and_from (has_club (clubs_of sheet) club) (on club)
          (range_has (length sheet.clubs) club club_in) (on_from club club_on)
          ∙ sym (ap (λ b. is_third rival other || ((rival == other) || (b || false)))
          (eq-eqb club other (sym same))
          ∙ ap (λ b. is_third rival other || b) (or-true (rival == other))
          ∙ or-true (is_third rival other))
      by_rival other (inr apart) (inr different) =
          neither false false (is_able sheet season zone points other) (on other)
          (has_club (clubs_of sheet) other)
          (λ is. able_is sheet season zone finish points other box (on_says other is)) refl refl
          ∙ sym (
          ap (λ b. ((((has_club (clubs_of sheet) other && not b)
          && is_able sheet season zone points other) && on other) && not (other == rival))
          || ((rival == other) || ((club == other) || false))) (ne_eqb other club different)
          ∙ ap (λ b. ((((has_club (clubs_of sheet) other && true)
          && is_able sheet season zone points other) && on other) && not b)
          || ((rival == other) || ((club == other) || false))) (ne_eqb other rival apart)
          ∙ ap (λ b. ((((has_club (clubs_of sheet) other && true)
          && is_able sheet season zone points other) && on other) && true)
          || (b || ((club == other) || false))) (ne_eqb rival other (λ e. apart (sym e)))
          ∙ ap (λ b. ((((has_club (clubs_of sheet) other && true)
          && is_able sheet season zone points other) && on other) && true)
          || (false || (b || false))) (ne_eqb club other (λ e. different (sym e))))

      each : (other : ℕ) → (has_club (clubs_of sheet) other && on other) ≡ is_any rival other
      each other = by_rival other (cases_eq other rival) (cases_eq other club)

  -- so all of these are on the points
  pub made_on : (others : List ℕ) (front back : ℕ)
      → IsMadeOf (tied_group_of sheet finish club) others front back → (other : ℕ)
      → has_club (others ++ front ∷ back ∷ []) other ≡ true → points_of sheet finish other ≡ points
  made_on others front back made other has = on_says other
      (and_parts (has_club (clubs_of sheet) other) (on other)
      (sym (has_club-filter on (clubs_of sheet) other) ∙ made.same other ∙ has)).1

-- who is ahead of a club on the same points ranks before it, whatever the lots
pub ahead_ranks_before : (sheet : Sheet) (finish : Results) (lots : List ℕ) (group : List ℕ)
    (front back : ℕ) → points_of sheet finish front ≡ points_of sheet finish back
    → group ≡ tied_group_of sheet finish front
    → standing_in sheet finish group front back ≡ Less
    → ranks_before sheet finish lots front back ≡ true
ahead_ranks_before sheet finish lots group front back level is ahead =
    ap is_lt
    (ap (λ o. ordering_then o
    (ordering_then (standing_in sheet finish (tied_group_of sheet finish front) front back)
    (nat_cmp (lot_of lots front) (lot_of lots back))))
    (greater_first-same (points_of sheet finish front) (points_of sheet finish back) level)
    ∙ ap (λ (g : List ℕ). ordering_then (standing_in sheet finish g front back)
    (nat_cmp (lot_of lots front) (lot_of lots back))) (sym is)
    ∙ ap (λ o. ordering_then o (nat_cmp (lot_of lots front) (lot_of lots back))) ahead)
