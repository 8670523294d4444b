-- The clubs of a group by their lists: the held ones, and the loose ones.
use Rattle.std.proofs.Common.{◌≡◌, ℕ, Bool, true, false, ◌&&◌, ◌==◌, not, [], ◌∷◌}
use Rattle.std.proofs.Common.{filter, refl, sym, ap, ◌∙◌}
use Rattle.std.proofs.lemmas.Bool.{false≢true, and_parts, eq-eqb}
use Rattle.league_core.specs.declared.club_set.ClubSet.{ClubSet}
use Rattle.league_core.specs.game.ClubSets.{clubs_in}
use Rattle.league_core.specs.game.Sums.{has_club}
use Rattle.league_core.proofs.ClubSetLemmas.{clubs_below-filter}
use Rattle.near_bound.specs.declared.groups.Groups.{Groups}
use Rattle.near_bound.specs.inside.GroupsLeft.{AreOthers, AreAmong, MayForm, IsGroups}
use Rattle.near_bound.proofs.GroupSetLemmas.{without_one}
use Rattle.near_bound.proofs.WrongAnywayLemmas.{not_loose}

-- the held clubs, among all that are left
pub held_among : (held clubs : ClubSet) → AreAmong held clubs
    → clubs_in held ≡ filter (has_club (clubs_in held)) (clubs_in clubs)
held_among held clubs among =
    clubs_below-filter 32 held.bits clubs.bits (has_club (clubs_in held))
    (λ x. within (has_club (clubs_in held) x) (has_club (clubs_in clubs) x) (among x))
  where
    within : (a b : Bool) → (a ≡ true → b ≡ true) → a ≡ (b && a)
    within true b so = sym (ap (λ x. x && true) (so refl))
    within false true so = refl
    within false false so = refl

-- those of them that are not the rival
pub sure_is : (held clubs single sure : ClubSet) (rival : ℕ) → AreAmong held clubs
    → clubs_in single ≡ rival ∷ []
    → ((x : ℕ) → has_club (clubs_in sure) x
    ≡ (has_club (clubs_in held) x && not (has_club (clubs_in single) x)))
    → clubs_in sure
    ≡ filter (λ other. not (other == rival)) (filter (has_club (clubs_in held)) (clubs_in clubs))
sure_is held clubs single sure rival among one is =
    without_one held single sure rival one is
    ∙ ap (filter (λ other. not (other == rival))) (held_among held clubs among)

-- those that are not held
pub loose_is : (clubs held loose : ClubSet)
    → ((x : ℕ) → has_club (clubs_in loose) x
    ≡ (has_club (clubs_in clubs) x && not (has_club (clubs_in held) x)))
    → clubs_in loose ≡ filter (λ other. not (has_club (clubs_in held) other)) (clubs_in clubs)
loose_is clubs held loose is =
    clubs_below-filter 32 loose.bits clubs.bits (λ other. not (has_club (clubs_in held) other)) is

-- these are neither the club nor a held rival
pub loose_others : (groups : Groups) (clubs loose : ClubSet) (rival : ℕ) → IsGroups groups
    → MayForm groups clubs → has_club (clubs_in groups.held) rival ≡ true
    → ((x : ℕ) → has_club (clubs_in loose) x
    ≡ (has_club (clubs_in clubs) x && not (has_club (clubs_in groups.held) x)))
    → AreOthers groups.able rival groups.club (clubs_in loose)
loose_others groups clubs loose rival are left held is x has =
    let parts = and_parts (has_club (clubs_in clubs) x) (not (has_club (clubs_in groups.held) x))
    (sym (is x) ∙ has) in
    let able = left.clubs_able x parts.0 in (
      able,
      λ same. false≢true (sym (not_loose (has_club (clubs_in groups.held)) rival held x
          (out (has_club (clubs_in groups.held) x) parts.1)) ∙ eq-eqb x rival same),
      λ same. false≢true (sym are.rivals.not_club
          ∙ ap (has_club (clubs_in groups.able)) (sym same) ∙ able),
    )
  where
    out : (b : Bool) → not b ≡ true → b ≡ false
    out true is = absurd (false≢true is)
    out false is = refl
