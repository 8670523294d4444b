-- Head-to-head sums add up over the pairs of a group: each match of a club in a group is one
-- against one other club.
use Rattle.std.proofs.Common.{◌≡◌, ◌≢◌, ◌⊎◌, ℕ, ℤ, pos, ◌+ℤ◌, Bool, true, false, not, ◌&&◌, ◌||◌}
use Rattle.std.proofs.Common.{◌==◌, nat_eq, cond, List, [], ◌∷◌, filter, length, refl, sym}
use Rattle.std.proofs.Common.{ap, ◌∙◌, subst, inl, inr, arith}
use Rattle.std.specs.List.{list_any}
use Rattle.std.proofs.Math.Bool.{and-true, or-false}
use Rattle.std.proofs.lemmas.Int.{ints}
use Rattle.std.proofs.lemmas.Bool.{not-true, and_parts, cases_eq, eq-eqb, ne_eqb}
use Rattle.std.proofs.lemmas.Bool.Decides.{nat_tests}
use Rattle.league_core.specs.declared.sheet.Sheet.{Sheet}
use Rattle.league_core.specs.declared.sheet.Fixture.{Fixture}
use Rattle.league_core.specs.declared.season.Score.{Score}
use Rattle.league_core.specs.game.Sheets.{IsWithinLimits, are_different, is_fixture}
use Rattle.league_core.specs.game.Results.{Results}
use Rattle.league_core.specs.game.Sums.{Worth, has_club, worth_among, sum_among}
use Rattle.league_core.specs.search.PointRanges.{total_of}
use Rattle.league_core.specs.inside.PairSums.{sum_against}
use Rattle.league_core.proofs.FixtureLemmas.{clubs_apart}
use Rattle.league_core.proofs.PointRangeLemmas.{total_of-same}
use Rattle.league_core.proofs.SumLemmas.{sum_over-zero, sum_over-agree, total_of-sum_over}
use Rattle.league_core.proofs.SumLemmas.{total_of-zero, total_of-others}

-- a number for the one club that is meant, out of clubs that are all different
total_of-one : (x : ℕ) (number : ℤ) (clubs : List ℕ) → are_different nat_eq clubs ≡ true
    → total_of (λ club. cond (club == x) number (pos 0)) clubs
    ≡ cond (has_club clubs x) number (pos 0)
total_of-one x number [] different = refl
total_of-one x number (club ∷ clubs) different =
    let parts = and_parts (not (list_any (nat_eq club) clubs)) (are_different nat_eq clubs)
    different in
    let rest = total_of-one x number clubs parts.1 in
    elim (cases_eq club x) [
      | inl same ↦
          let fresh : has_club clubs x ≡ false = absent club clubs x same parts.0 in
          subst
          (λ (b : Bool). cond b number (pos 0)
          +ℤ total_of (λ other. cond (other == x) number (pos 0)) clubs
          ≡ cond (b || has_club clubs x) number (pos 0)) (sym (eq-eqb club x same))
          (ap (λ n. number +ℤ n) (rest ∙ ap (λ b. cond b number (pos 0)) fresh)
          ∙ omega (arith, ints))
      | inr other ↦
          subst
          (λ (b : Bool). cond b number (pos 0)
          +ℤ total_of (λ third. cond (third == x) number (pos 0)) clubs
          ≡ cond (b || has_club clubs x) number (pos 0)) (sym (ne_eqb club x other))
          (omega (arith, ints, rest))
    ]
  where
    absent : (club : ℕ) (clubs : List ℕ) (x : ℕ) → club ≡ x
        → not (list_any (nat_eq club) clubs) ≡ true → has_club clubs x ≡ false
    absent club clubs x same none =
        ap (λ (test : ℕ → Bool). list_any test clubs) (λ i other. turned club other x same i)
        ∙ not-true (list_any (nat_eq club) clubs) none
      where
        turned : (club other x : ℕ) → club ≡ x → (other == x) ≡ nat_eq club other
        turned club other x same = grind (arith, nat_tests)

-- a home match of the club counts against the one rival that is away
pub home_pair : (worth : Worth) (club : ℕ) (match : Fixture) (score : Score) → match.home ≡ club
    → match.away ≢ club → (rival : ℕ) → worth_among (club ∷ rival ∷ []) worth club match score
    ≡ cond (rival == match.away) (worth score.home score.away false) (pos 0)
home_pair worth club match score home away rival =
    rw (
      eq-eqb club match.home (sym home),
      ne_eqb club match.away (λ e. away (sym e)),
      eq-eqb match.home club home,
    )
    (ap (λ b. cond b (worth score.home score.away false) (pos 0)) (or-false (rival == match.away)))

-- an away match against the one that is at home
pub away_pair : (worth : Worth) (club : ℕ) (match : Fixture) (score : Score) → match.home ≢ club
    → match.away ≡ club → (rival : ℕ) → worth_among (club ∷ rival ∷ []) worth club match score
    ≡ cond (rival == match.home) (worth score.away score.home true) (pos 0)
away_pair worth club match score home away rival =
    rw (
      ne_eqb club match.home (λ e. home (sym e)),
      eq-eqb club match.away (sym away),
      ne_eqb match.home club home,
      eq-eqb match.away club away,
    )
    (ap (λ b. cond b (worth score.away score.home true) (pos 0))
    (and-true ((rival == match.home) || false) ∙ or-false (rival == match.home)))

-- any other match counts for nothing, in whatever group
pub no_pair : (group : List ℕ) (worth : Worth) (club : ℕ) (match : Fixture) (score : Score)
    → match.home ≢ club → match.away ≢ club → worth_among group worth club match score ≡ pos 0
no_pair group worth club match score home away =
    rw (ne_eqb match.home club home, ne_eqb match.away club away)
    (either (has_club group match.home && has_club group match.away))
  where
    either : (b : Bool) → cond b (pos 0) (pos 0) ≡ pos 0
    either true = refl
    either false = refl

-- what a match is worth in a group that counts each of its clubs once, it is worth against all of
-- them together
pub match_of_pairs : (group : List ℕ) (worth : Worth) (club : ℕ) (match : Fixture) (score : Score)
    → ((x : ℕ) (number : ℤ) → total_of (λ rival. cond (rival == x) number (pos 0)) group
    ≡ cond (has_club group x) number (pos 0))
    → has_club group club ≡ true → match.home ≢ match.away
    → worth_among group worth club match score
    ≡ total_of (λ rival. worth_among (club ∷ rival ∷ []) worth club match score) group
match_of_pairs group worth club match score once member apart =
    by_side (cases_eq match.home club) (cases_eq match.away club)
  where
    by_side : (match.home ≡ club) ⊎ (match.home ≢ club)
        → (match.away ≡ club) ⊎ (match.away ≢ club)
        → worth_among group worth club match score
        ≡ total_of (λ rival. worth_among (club ∷ rival ∷ []) worth club match score) group
    by_side (inl home) (inl away) = absurd (apart (home ∙ sym away))
    by_side (inl home) (inr away) =
        rw (ap (has_club group) home ∙ member, eq-eqb match.home club home)
        (sym (once match.away (worth score.home score.away false)))
        ∙ sym (total_of-same _ _ group (home_pair worth club match score home away))
    by_side (inr home) (inl away) =
        rw (
          ap (has_club group) away ∙ member,
          ne_eqb match.home club home,
          eq-eqb match.away club away,
        )
        (ap (λ b. cond b (worth score.away score.home true) (pos 0))
        (and-true (has_club group match.home))
        ∙ sym (once match.home (worth score.away score.home true)))
        ∙ sym (total_of-same _ _ group (away_pair worth club match score home away))
    by_side (inr home) (inr away) =
        no_pair group worth club match score home away
        ∙ sym (total_of-same _ (λ rival. pos 0) group
        (λ rival. no_pair (club ∷ rival ∷ []) worth club match score home away)
        ∙ total_of-zero group)

-- against itself a club has no match
own_pair : (worth : Worth) (club : ℕ) (match : Fixture) (score : Score)
    → match.home ≢ match.away → worth_among (club ∷ club ∷ []) worth club match score ≡ pos 0
own_pair worth club match score apart =
    elim (cases_eq match.home club) as
    (λ _. worth_among (club ∷ club ∷ []) worth club match score ≡ pos 0) [
      | inl home ↦
          let away : match.away ≢ club = λ e. apart (home ∙ sym e) in
          home_pair worth club match score home away club
          ∙ ap (λ b. cond b (worth score.home score.away false) (pos 0))
          (ne_eqb club match.away (λ e. away (sym e)))
      | inr home ↦ elim (cases_eq match.away club) as
          (λ _. worth_among (club ∷ club ∷ []) worth club match score ≡ pos 0) [
            | inl away ↦
                away_pair worth club match score home away club
                ∙ ap (λ b. cond b (worth score.away score.home true) (pos 0))
                (ne_eqb club match.home (λ e. home (sym e)))
            | inr away ↦ no_pair (club ∷ club ∷ []) worth club match score home away
          ]
    ]

-- so the sum in a group is that of the pairs
pub sum_among-pairs : (worth : Worth) (sheet : Sheet) (season : Results) (group : List ℕ)
    (club : ℕ) → IsWithinLimits sheet → are_different nat_eq group ≡ true
    → has_club group club ≡ true
    → sum_among group worth sheet season club
    ≡ total_of (sum_against worth sheet season club)
    (filter (λ other. not (other == club)) group)
sum_among-pairs worth sheet season group club limits different member =
    let known = is_fixture (length sheet.clubs) in
    let pair = λ (rival : ℕ). worth_among (club ∷ rival ∷ []) worth club in
    let own : sum_against worth sheet season club club ≡ pos 0 =
    sum_over-agree known (pair club) (λ match score. pos 0)
    (λ match score is. own_pair worth club match score (clubs_apart (length sheet.clubs) match is))
    sheet.fixtures season.scores limits.fixtures
    ∙ sum_over-zero sheet.fixtures season.scores in
    sum_over-agree known (worth_among group worth club)
    (λ match score. total_of (λ rival. pair rival match score) group)
    (λ match score is. match_of_pairs group worth club match score
    (λ x number. total_of-one x number group different) member
    (clubs_apart (length sheet.clubs) match is))
    sheet.fixtures season.scores limits.fixtures
    ∙ sym (total_of-sum_over pair group sheet.fixtures season.scores)
    ∙ sym (total_of-others (sum_against worth sheet season club) club own group)
