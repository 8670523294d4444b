-- All clubs of the sheet, if the one is none of them, and else all but the one.
use Rattle.std.proofs.Common.{◌≡◌, ℕ, ◌≤◌, ◌&&◌, ◌||◌, ◌==◌, false, not, nat_lt}
use Rattle.std.proofs.Common.{length, sym, ap, ◌∙◌, inl, inr, arith, List}
use Rattle.std.proofs.lemmas.Bool.{cases_eq, cases_lt, eq-eqb, ne_eqb, lt-ltb, le-ltb}
use Rattle.league_core.specs.game.Sums.{has_club}
use Rattle.league_core.proofs.ClubSetLemmas.{clubs_below-filter_range, has_club-range}
use Rattle.tie_bound.proofs.rivals.rivals_of.Goals as goal

-- the one club of a list
alone : (club x : ℕ) → ((club == x) || false) ≡ (x == club)
alone club x =
    elim (cases_eq club x) [
      | inl same ↦ ap (λ b. b || false) (eq-eqb club x same) ∙ sym (eq-eqb x club (sym same))
      | inr other ↦ ap (λ b. b || false) (ne_eqb club x other)
          ∙ sym (ne_eqb x club (λ same. other (sym same)))
    ]

-- a number past the clubs is none of them
past_all : (clubs club x : ℕ) → clubs ≤ club
    → nat_lt x clubs ≡ (nat_lt x clubs && not (x == club))
past_all clubs club x past =
    elim (cases_lt x clubs) [
      | inl below ↦ lt-ltb x clubs below
          ∙ sym (ap (λ b. b && not (x == club)) (lt-ltb x clubs below)
          ∙ ap not (ne_eqb x club (λ same. absurd (omega arith))))
      | inr beyond ↦ le-ltb x clubs beyond
          ∙ sym (ap (λ b. b && not (x == club)) (le-ltb x clubs beyond))
    ]

pub returns-then-clubs-club : goal.returns-then-clubs-club
returns-then-clubs-club c =
    let clubs = length c.args.sheet.now.clubs in
    let many : c.len-clubs.result ≡ clubs = c.len-clubs.ensures in
    let past : clubs ≤ c.args.club = omega (arith, many, c.if-clubs-club.true) in
    clubs_below-filter_range 32 c.first.result.bits clubs (λ x. not (x == c.args.club))
    (omega arith)
    (λ x. ap (λ (xs : List ℕ). has_club xs x) c.first.ensures
    ∙ has_club-range c.len-clubs.result x
    ∙ ap (nat_lt x) many
    ∙ past_all clubs c.args.club x past)

pub returns-else-clubs-club : goal.returns-else-clubs-club
returns-else-clubs-club c =
    let clubs = length c.args.sheet.now.clubs in
    let many : c.len-clubs.result ≡ clubs = c.len-clubs.ensures in
    clubs_below-filter_range 32 c.others.result.bits clubs (λ x. not (x == c.args.club))
    (omega arith)
    (λ x. c.others.ensures x
    ∙ ap (λ b. nat_lt x c.len-clubs.result && not b)
    (ap (λ (xs : List ℕ). has_club xs x) c.single.ensures ∙ alone c.args.club x)
    ∙ ap (λ n. nat_lt x n && not (x == c.args.club)) many)
