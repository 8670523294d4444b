use Rattle.std.proofs.Common.{◌≡◌, ◌⊎◌, inl, inr, ◌<◌, ℕ, ◌&&◌, not, nat_lt, true, List, length}
use Rattle.std.proofs.Common.{sym, ap, subst, ◌∙◌}
use Rattle.league_core.specs.declared.sheet.Sheet.{Sheet}
use Rattle.league_core.specs.game.Sums.{has_club}
use Rattle.league_core.specs.game.ClubSets.{clubs_in}
use Rattle.tie_bound.specs.inside.Tables.{IsWanted}
use Rattle.tie_bound.proofs.WantedLemmas.{wanted_is_no_other, no_other_is_wanted}
use Rattle.tie_bound.proofs.selected.put_sums_for.Goals as goal

pub returns-else-has_finish : goal.returns-else-has_finish
returns-else-has_finish c = λ other one. c.put_sums_over.ensures.each other

pub with_club-wanted-requires-clause-in_range : goal.with_club-wanted-requires-clause-in_range
with_club-wanted-requires-clause-in_range c member has =
    subst (λ n. member < n) (sym (c.len-clubs.ensures
    ∙ ap (λ (s : Sheet). length s.clubs) c.sheet.ensures.sheet)) (c.requires.group member has)

pub put_rows_for-requires-clause-wanted : goal.put_rows_for-requires-clause-wanted
put_rows_for-requires-clause-wanted c member has =
    subst (λ n. member < n) (c.len-clubs.ensures
    ∙ ap (λ (s : Sheet). length s.clubs) c.sheet.ensures.sheet)
    (c.with_club-wanted.ensures.in_range member has)

pub add_open_for-requires-clause-rows : goal.add_open_for-requires-clause-rows
add_open_for-requires-clause-rows c club out =
    let clubs = length c.args.zone_box.now.sheet.clubs in
    let wanted = clubs_in c.with_club-wanted.result in
    let many : c.len-clubs.result ≡ clubs = c.len-clubs.ensures
    ∙ ap (λ (s : Sheet). length s.clubs) c.sheet.ensures.sheet in
    c.put_rows_for.ensures.rows club
    (no_other_is_wanted clubs wanted (clubs_in c.others.result) club
    (c.others.ensures club ∙ ap (λ n. nat_lt club n && not (has_club wanted club)) many) out)

-- the clubs of the group, and the one if it is one of the sheet, are wanted
wants : (clubs : ℕ) (group wanted : List ℕ) (club other : ℕ)
    → ((x : ℕ) → has_club group x ≡ true → has_club wanted x ≡ true)
    → (club < clubs → has_club wanted club ≡ true)
    → (has_club group other ≡ true) ⊎ (other ≡ club) → IsWanted clubs wanted other
wants clubs group wanted club other kept own (inl has) low = kept other has
wants clubs group wanted club other kept own (inr same) low =
    ap (has_club wanted) same ∙ own (subst (λ x. x < clubs) same low)

pub returns-then-has_finish : goal.returns-then-has_finish
returns-then-has_finish c = λ other one.
    let clubs = length c.args.zone_box.now.sheet.clubs in
    let wanted = clubs_in c.with_club-wanted.result in
    let many : c.len-clubs.result ≡ clubs = c.len-clubs.ensures
    ∙ ap (λ (s : Sheet). length s.clubs) c.sheet.ensures.sheet in
    c.add_open_for.ensures other
    (wanted_is_no_other clubs wanted (clubs_in c.others.result) other
    (c.others.ensures other ∙ ap (λ n. nat_lt other n && not (has_club wanted other)) many)
    (wants clubs (clubs_in c.args.group) wanted c.args.club other
    c.with_club-wanted.ensures.kept
    (λ low. c.with_club-wanted.ensures.club (subst (λ n. c.args.club < n) (sym many) low)) one))
