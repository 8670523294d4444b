-- One loose club more that is held, or that is not left.
use Rattle.std.proofs.Common.{◌≡◌, ℕ, ◌<◌, Bool, true, false, ◌&&◌, ◌||◌, ◌==◌, not, List, [], ◌∷◌}
use Rattle.std.proofs.Common.{filter, length, inl, inr, refl, sym, ap, ◌∙◌, eq-eqb}
use Rattle.std.specs.List.{list_all}
use Rattle.std.proofs.Math.Bool.{or-false, or-true}
use Rattle.std.proofs.lemmas.Bool.{false≢true, and_parts, or_cases, eqb-true, ne_eqb}
use Rattle.league_core.specs.declared.club_set.ClubSet.{ClubSet}
use Rattle.league_core.specs.declared.zone.Literal.{Literal}
use Rattle.league_core.specs.game.ClubSets.{clubs_in}
use Rattle.league_core.specs.game.Sums.{has_club}
use Rattle.league_core.proofs.ClubSetLemmas.{length-fewer}
use Rattle.league_core.proofs.plain.Numbers.{eqb-swap}
use Rattle.near_laws.specs.Groups.{groups_with}
use Rattle.near_bound.specs.declared.groups.Groups.{Groups}
use Rattle.near_bound.specs.inside.GroupsLeft.{MayForm, group_is_wrong, wrong_in}
use Rattle.near_bound.proofs.GroupSetLemmas.{any_member_passes}
use Rattle.near_bound.proofs.GroupListLemmas.{held_among, loose_is}
use Rattle.near_bound.proofs.GroupWalkLemmas.{all_by_club, least_fails, only_least, same_wrong}
use Rattle.near_bound.proofs.OnceLemmas.{is_not, once_in_set}

-- a set has these clubs and one more
abbrev pub HasOneMore : ClubSet → ℕ → ClubSet → Type 0
HasOneMore held club more =
    (x : ℕ) → has_club (clubs_in more) x ≡ (has_club (clubs_in held) x || (club == x))

-- a set has these clubs but one
abbrev pub HasOneLess : ClubSet → ClubSet → ClubSet → Type 0
HasOneLess clubs single fewer =
    (x : ℕ) → has_club (clubs_in fewer) x
    ≡ (has_club (clubs_in clubs) x && not (has_club (clubs_in single) x))

-- a club that is left and not held
pub is_loose : (held clubs loose : ClubSet) (club : ℕ) → HasOneLess clubs held loose
    → has_club (clubs_in loose) club ≡ true
    → (has_club (clubs_in clubs) club ≡ true) × (has_club (clubs_in held) club ≡ false)
is_loose held clubs loose club is has =
    let parts = and_parts (has_club (clubs_in clubs) club) (not (has_club (clubs_in held) club))
    (sym (is club) ∙ has) in
    (parts.0, out (has_club (clubs_in held) club) parts.1)
  where
    out : (b : Bool) → not b ≡ true → b ≡ false
    out true is = absurd (false≢true is)
    out false is = refl

-- more clubs are held then
pub more_held : (held more : ClubSet) (club : ℕ) → HasOneMore held club more
    → has_club (clubs_in held) club ≡ false → length (clubs_in held) < length (clubs_in more)
more_held held more club is loose =
    length-fewer held more club
    (λ x has. is x ∙ ap (λ b. b || (club == x)) has)
    (is club ∙ ap (λ b. has_club (clubs_in held) club || b) (eq-eqb club club refl)
    ∙ or-true (has_club (clubs_in held) club))
    loose

-- fewer clubs are left then
pub fewer_left : (clubs single fewer : ClubSet) (club : ℕ) → clubs_in single ≡ club ∷ []
    → HasOneLess clubs single fewer → has_club (clubs_in clubs) club ≡ true
    → length (clubs_in fewer) < length (clubs_in clubs)
fewer_left clubs single fewer club one is has =
    length-fewer fewer clubs club
    (λ x there. (and_parts (has_club (clubs_in clubs) x) (not (has_club (clubs_in single) x))
    (sym (is x) ∙ there)).0)
    has
    (is club
    ∙ ap (λ (xs : List ℕ). has_club (clubs_in clubs) club && not (has_club xs club)) one
    ∙ (λ i. has i && not (eq-eqb club club refl i || false)))

-- what is left, with one club more that is held
pub left_with : (groups more : Groups) (clubs : ClubSet) (club : ℕ) → MayForm groups clubs
    → has_club (clubs_in clubs) club ≡ true → more.able ≡ groups.able
    → HasOneMore groups.held club more.held → MayForm more clubs
left_with groups more clubs club left has able is = record {
  clubs_able = λ x there.
      ap (λ (set : ClubSet). has_club (clubs_in set) x) able ∙ left.clubs_able x there;
  clubs_held = λ x there.
      elim (or_cases (has_club (clubs_in groups.held) x) (club == x) (sym (is x) ∙ there)) as
      (λ _. has_club (clubs_in clubs) x ≡ true) [
        | inl old ↦ left.clubs_held x old
        | inr new ↦ ap (has_club (clubs_in clubs)) (sym (eqb-true club x new)) ∙ has
      ];
}

-- what is left, without a loose club
pub left_without : (groups : Groups) (clubs single fewer : ClubSet) (club : ℕ)
    → MayForm groups clubs → has_club (clubs_in groups.held) club ≡ false
    → clubs_in single ≡ club ∷ [] → HasOneLess clubs single fewer → MayForm groups fewer
left_without groups clubs single fewer club left loose one is = record {
  clubs_able = λ x there. left.clubs_able x
      (and_parts (has_club (clubs_in clubs) x) (not (has_club (clubs_in single) x))
      (sym (is x) ∙ there)).0;
  clubs_held = λ x there.
      is x
      ∙ ap (λ (xs : List ℕ). has_club (clubs_in clubs) x && not (has_club xs x)) one
      ∙ (λ i. left.clubs_held x there i && not (apart x there i || false));
}
  where
    apart : (x : ℕ) → has_club (clubs_in groups.held) x ≡ true → (club == x) ≡ false
    apart x there =
        ne_eqb club x (λ same. false≢true (sym loose
        ∙ ap (has_club (clubs_in groups.held)) same ∙ there))

-- all groups are those without a loose club, and those in which it is held
pub all_with_and_without : (groups more : Groups) (clubs : ClubSet) (club : ℕ)
    (zone : List Literal) → more.tie.now ≡ groups.tie.now → more.club ≡ groups.club
    → HasOneMore groups.held club more.held → has_club (clubs_in groups.held) club ≡ false
    → has_club (clubs_in clubs) club ≡ true
    → list_all (group_is_wrong groups zone)
    (groups_with (has_club (clubs_in groups.held)) (clubs_in clubs))
    ≡ (list_all (group_is_wrong groups zone)
    (groups_with (has_club (clubs_in groups.held)) (filter (is_not club) (clubs_in clubs)))
    && list_all (group_is_wrong more zone)
    (groups_with (has_club (clubs_in more.held)) (clubs_in clubs)))
all_with_and_without groups more clubs club zone tie_is club_is is loose has =
    all_by_club (group_is_wrong groups zone) (has_club (clubs_in groups.held))
    (has_club (clubs_in more.held)) club (clubs_in clubs) loose
    (is club ∙ ap (λ b. has_club (clubs_in groups.held) club || b) (eq-eqb club club refl)
    ∙ or-true (has_club (clubs_in groups.held) club))
    (λ x apart. is x
    ∙ ap (λ b. has_club (clubs_in groups.held) x || b) (eqb-swap club x ∙ apart)
    ∙ or-false (has_club (clubs_in groups.held) x))
    (once_in_set clubs club has)
    ∙ ap (λ (test : List ℕ → Bool). list_all (group_is_wrong groups zone)
    (groups_with (has_club (clubs_in groups.held)) (filter (is_not club) (clubs_in clubs)))
    && list_all test (groups_with (has_club (clubs_in more.held)) (clubs_in clubs)))
    (sym (same_wrong groups more zone tie_is club_is))

-- where no rival is wrong in the group of the held ones alone, not all groups are wrong
pub least_is_not : (groups : Groups) (clubs : ClubSet) (zone : List Literal)
    → MayForm groups clubs → group_is_wrong groups zone (clubs_in groups.held) ≡ false
    → list_all (group_is_wrong groups zone)
    (groups_with (has_club (clubs_in groups.held)) (clubs_in clubs)) ≡ false
least_is_not groups clubs zone left fails =
    least_fails (group_is_wrong groups zone) (has_club (clubs_in groups.held)) (clubs_in clubs)
    (ap (group_is_wrong groups zone)
    (sym (held_among groups.held clubs left.clubs_held)) ∙ fails)

-- where no loose club is left, the only group is that of the held ones alone
pub none_loose : (groups : Groups) (clubs loose : ClubSet) (wrong : ℕ) (zone : List Literal)
    → MayForm groups clubs → HasOneLess clubs groups.held loose → clubs_in loose ≡ []
    → has_club (clubs_in groups.held) wrong ≡ true
    → wrong_in groups zone (clubs_in groups.held) wrong ≡ true
    → list_all (group_is_wrong groups zone)
    (groups_with (has_club (clubs_in groups.held)) (clubs_in clubs)) ≡ true
none_loose groups clubs loose wrong zone left is none held fails =
    only_least (group_is_wrong groups zone) (has_club (clubs_in groups.held)) (clubs_in clubs)
    (sym (loose_is clubs groups.held loose is) ∙ none)
    ∙ ap (group_is_wrong groups zone) (sym (held_among groups.held clubs left.clubs_held))
    ∙ any_member_passes (wrong_in groups zone (clubs_in groups.held)) (clubs_in groups.held) wrong
    held fails
