-- Sums over all matches of some clubs alone.
use Rattle.std.proofs.Common.{◌≡◌, ◌≢◌, ◌⊎◌, inl, inr, ℕ, ◌<◌, ◌≤◌, Bool, true, false, not, ◌&&◌}
use Rattle.std.proofs.Common.{nat_lt, pos, eqb, cond, List, [], refl, sym, ap, ◌∙◌, subst, arith}
use Rattle.std.proofs.lemmas.Bool.{false≢true, ne_eqb, and_parts, cases_lt, lt-ltb, le-ltb}
use Rattle.league_core.specs.declared.sheet.Fixture.{Fixture}
use Rattle.league_core.specs.declared.season.Score.{Score}
use Rattle.league_core.specs.game.Sums.{has_club, worth_to}
use Rattle.league_core.specs.search.PointRanges.{Range, range_of}
use Rattle.tie_criteria.specs.declared.measure.Measure.{Measure}
use Rattle.tie_criteria.specs.inside.Measures.{worth_of}
use Rattle.tie_bound.specs.declared.sums.Sums.{Sums}
use Rattle.tie_bound.specs.inside.Sums.{no_sums, AreNear, RangesGrowBy}
use Rattle.tie_bound.specs.inside.Sides.{to_side}
use Rattle.tie_bound.specs.inside.Tables.{IsWanted}
use Rattle.tie_bound.proofs.TableLemmas.{same_sums}
use Rattle.tie_bound.proofs.RowLemmas.{past_over}

-- no sums are near zero
pub none_near : AreNear 5000000 no_sums
none_near = (past_over 0 [] [] 0 refl (omega arith)).near

-- a match of two others adds nothing
pub other_grows : (match : Fixture) (options : List Score) (club : ℕ) (sums : Sums)
    → match.home ≢ club → match.away ≢ club
    → RangesGrowBy (λ measure. range_of (worth_to (worth_of measure) club match) options) sums sums
other_grows match options club sums home away =
    let P : Bool → Type 0 = λ b. RangesGrowBy (sides b (eqb match.away club)) sums sums in
    let Q : Bool → Type 0 = λ b. RangesGrowBy (sides false b) sums sums in
    subst P (sym (ne_eqb match.home club home)) (subst Q (sym (ne_eqb match.away club away))
    (same_sums options sums))
  where
    sides : Bool → Bool → Measure → Range
    sides at_home at_away measure = range_of
        (λ score. cond at_home (to_side (worth_of measure) false score)
        (cond at_away (to_side (worth_of measure) true score) (pos 0))) options

-- so does a match of two of the others to a club that is none of them
pub match_of_others : (others : List ℕ) (match : Fixture) (options : List Score) (club : ℕ)
    (sums : Sums) → (has_club others match.home && has_club others match.away) ≡ true
    → has_club others club ≡ false
    → RangesGrowBy (λ measure. range_of (worth_to (worth_of measure) club match) options) sums sums
match_of_others others match options club sums both out =
    let are = and_parts (has_club others match.home) (has_club others match.away) both in
    other_grows match options club sums
    (λ home. false≢true (sym out ∙ sym (ap (has_club others) home) ∙ are.0))
    (λ away. false≢true (sym out ∙ sym (ap (has_club others) away) ∙ are.1))

-- a wanted club is none of the others, nor is a number that is no club's
pub wanted_is_no_other : (clubs : ℕ) (wanted others : List ℕ) (club : ℕ)
    → has_club others club ≡ (nat_lt club clubs && not (has_club wanted club))
    → IsWanted clubs wanted club → has_club others club ≡ false
wanted_is_no_other clubs wanted others club is wants = is ∙ at (cases_lt club clubs)
  where
    at : (club < clubs) ⊎ (clubs ≤ club) → (nat_lt club clubs && not (has_club wanted club)) ≡ false
    at (inl low) =
        ap (λ b. b && not (has_club wanted club)) (lt-ltb club clubs low)
        ∙ ap not (wants low)
    at (inr past) = ap (λ b. b && not (has_club wanted club)) (le-ltb club clubs past)

-- and what is none of the others is wanted
pub no_other_is_wanted : (clubs : ℕ) (wanted others : List ℕ) (club : ℕ)
    → has_club others club ≡ (nat_lt club clubs && not (has_club wanted club))
    → has_club others club ≡ false → IsWanted clubs wanted club
no_other_is_wanted clubs wanted others club is out low =
    unless (has_club wanted club) (sym (ap (λ b. b && not (has_club wanted club))
    (lt-ltb club clubs low)) ∙ sym is ∙ out)
  where
    unless : (b : Bool) → not b ≡ false → b ≡ true
    unless true none = refl
    unless false none = absurd (false≢true (sym none))
