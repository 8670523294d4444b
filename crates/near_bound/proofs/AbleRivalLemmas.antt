-- The able rivals of a club, those that are held, and the groups that may form of them.
use Rattle.std.proofs.Common.{◌≡◌, ℕ, ◌≤◌, Bool, true, false, ◌&&◌, ◌||◌, ◌==◌, not, List, [], ◌∷◌}
use Rattle.std.proofs.Common.{◌++◌, cond, filter, length, map, ltb, nat_le, refl, sym, ap, ◌∙◌}
use Rattle.std.proofs.Common.{eq-eqb}
use Rattle.std.proofs.Common.{subst}
use Rattle.std.specs.List.{list_all, list_any}
use Rattle.std.proofs.Math.Bool.{or-false, or-true, and-false}
use Rattle.std.proofs.lemmas.Bool.{and_parts}
use Rattle.std.proofs.lemmas.List.Folds.{list_all-append}
use Rattle.league_core.specs.declared.club_set.ClubSet.{ClubSet}
use Rattle.league_core.specs.declared.zone.Literal.{Literal}
use Rattle.league_core.specs.game.ClubSets.{clubs_in}
use Rattle.league_core.specs.game.Sums.{has_club}
use Rattle.league_core.specs.search.Zones.{others_of}
use Rattle.league_core.proofs.ClubSetLemmas.{clubs_below-filter, clubs_below-filter_range}
use Rattle.league_core.proofs.ClubSetLemmas.{has_club-filter}
use Rattle.league_core.proofs.plain.Numbers.{eqb-swap}
use Rattle.near_laws.specs.Fits.{have_fit, leaves_points}
use Rattle.league_core.specs.search.PointRanges.{points_range}
use Rattle.near_laws.specs.Groups.{groups_with}
use Rattle.near_laws.specs.Near.{has_wrong, are_all_groups_wrong, able_rivals}
use Rattle.near_bound.specs.declared.groups.Groups.{Groups}
use Rattle.near_bound.specs.declared.tie.Tie.{Tie}
use Rattle.near_bound.specs.inside.Ties.{IsTieIn, fits_of}
use Rattle.near_bound.specs.inside.PairLeads.{HasFit}
use Rattle.near_bound.specs.inside.GroupsLeft.{AreGroupsIn, RivalsFit, group_is_wrong}
use Rattle.near_bound.specs.inside.AbleRivals.{is_able_in, is_held_in, lacks_fit}
use Rattle.near_bound.specs.inside.AbleRivals.{AreAbleRivals, AreHeldRivals}

-- all clubs of a sheet but one, as a set
pub rivals_list : (rivals single : ClubSet) (clubs club : ℕ) → clubs ≤ 32
    → clubs_in single ≡ club ∷ []
    → ((x : ℕ) → has_club (clubs_in rivals) x
    ≡ (ltb x clubs && not (has_club (clubs_in single) x)))
    → clubs_in rivals ≡ others_of clubs club
rivals_list rivals single clubs club few one is =
    clubs_below-filter_range 32 rivals.bits clubs (λ other. not (other == club)) few
    (λ x. is x
    ∙ ap (λ (xs : List ℕ). ltb x clubs && not (has_club xs x)) one
    ∙ ap (λ b. ltb x clubs && not b) (or-false (club == x) ∙ eqb-swap club x))

-- those of a list that pass both tests
pub any_of_filter : (keep test : ℕ → Bool) (xs : List ℕ)
    → list_any test (filter keep xs) ≡ list_any (λ x. keep x && test x) xs
any_of_filter keep test [] = refl
any_of_filter keep test (x ∷ xs) = by_keep (keep x) (any_of_filter keep test xs)
  where
    by_keep : (b : Bool)
        → list_any test (filter keep xs) ≡ list_any (λ y. keep y && test y) xs
        → list_any test (cond b (x ∷ filter keep xs) (filter keep xs))
        ≡ ((b && test x) || list_any (λ y. keep y && test y) xs)
    by_keep true later = ap (λ b. test x || b) later
    by_keep false later = later

-- groups look only at which of their clubs are held
pub groups_agree : (is_held other : ℕ → Bool) (clubs : List ℕ)
    → ((x : ℕ) → has_club clubs x ≡ true → is_held x ≡ other x)
    → groups_with is_held clubs ≡ groups_with other clubs
groups_agree is_held other [] agree = refl
groups_agree is_held other (club ∷ clubs) agree =
    let here : is_held club ≡ other club =
    agree club (ap (λ b. b || has_club clubs club) (eq-eqb club club refl)) in
    let later : groups_with is_held clubs ≡ groups_with other clubs =
    groups_agree is_held other clubs
    (λ x has. agree x (ap (λ b. (club == x) || b) has ∙ or-true (club == x))) in
    (λ i. cond (here i) (map (λ group. club ∷ group) (later i))
    (later i ++ map (λ group. club ∷ group) (later i)))

-- without a held club no club at all may be a group
pub none_held : (test : List ℕ → Bool) (is_held : ℕ → Bool) (clubs : List ℕ) → test [] ≡ false
    → ((x : ℕ) → has_club clubs x ≡ true → is_held x ≡ false)
    → list_all test (groups_with is_held clubs) ≡ false
none_held test is_held [] fails none = ap (λ b. b && true) fails
none_held test is_held (club ∷ clubs) fails none =
    let here : is_held club ≡ false =
    none club (ap (λ b. b || has_club clubs club) (eq-eqb club club refl)) in
    let without = groups_with is_held clubs in
    let joined = map (λ group. club ∷ group) without in
    ap (λ b. list_all test (cond b joined (without ++ joined))) here
    ∙ list_all-append test without joined
    ∙ ap (λ b. b && list_all test joined)
    (none_held test is_held clubs fails
    (λ x has. none x (ap (λ b. (club == x) || b) has ∙ or-true (club == x))))

-- an able club has fit scores
pub able_fits : (tie : Tie) (zone : List Literal) (club : ℕ) → is_able_in tie zone club ≡ true
    → HasFit tie zone club
able_fits tie zone club able =
    (and_parts
    (have_fit tie.left.now.sheet.now tie.left.now.season.now zone tie.points (club ∷ []))
    (leaves_points (points_range tie.left.now.sheet.now tie.left.now.season.now
    (fits_of tie zone (club ∷ [])) (club ∷ [])) tie.points) able).0

-- and so have the able rivals of one
pub able_rivals_fit : (tie : Tie) (able : ClubSet) (club : ℕ) (zone : List Literal)
    → AreAbleRivals tie able club → IsTieIn tie zone → is_able_in tie zone club ≡ true
    → RivalsFit tie able club zone
able_rivals_fit tie able club zone are is own = record {
  club_fits = able_fits tie zone club own;
  rivals_fit = λ rival has.
      let rivals = others_of (length tie.left.now.sheet.now.clubs) club in
      able_fits tie zone rival (and_parts (has_club rivals rival) (is_able_in tie zone rival)
      (sym (has_club-filter (is_able_in tie zone) rivals rival)
      ∙ ap (λ (xs : List ℕ). has_club xs rival) (sym (are zone is)) ∙ has)).1;
}

-- the held ones are those of the able ones for which that is true
pub held_list : (tie : Tie) (able held : ClubSet) (rival : ℕ) (zone : List Literal)
    → AreHeldRivals tie able rival held → IsTieIn tie zone
    → clubs_in held ≡ filter (is_held_in tie zone rival) (clubs_in able)
held_list tie able held rival zone are is =
    clubs_below-filter 32 held.bits able.bits (is_held_in tie zone rival) (are zone is)

-- on an able rival both ways to say held agree
pub held_agree : (tie : Tie) (able held : ClubSet) (rival : ℕ) (zone : List Literal)
    → AreHeldRivals tie able rival held → IsTieIn tie zone
    → (x : ℕ) → has_club (clubs_in able) x ≡ true
    → has_club (clubs_in held) x ≡ is_held_in tie zone rival x
held_agree tie able held rival zone are is x has =
    are zone is x ∙ ap (λ b. b && is_held_in tie zone rival x) has

-- the loose ones are the others
pub loose_list : (tie : Tie) (able held loose : ClubSet) (rival : ℕ) (zone : List Literal)
    → AreHeldRivals tie able rival held → IsTieIn tie zone
    → ((x : ℕ) → has_club (clubs_in loose) x
    ≡ (has_club (clubs_in able) x && not (has_club (clubs_in held) x)))
    → clubs_in loose ≡ filter (λ x. not (is_held_in tie zone rival x)) (clubs_in able)
loose_list tie able held loose rival zone are is rest =
    clubs_below-filter 32 loose.bits able.bits (λ x. not (is_held_in tie zone rival x))
    (λ x. rest x
    ∙ ap (λ b. has_club (clubs_in able) x && not b) (are zone is x)
    ∙ both (has_club (clubs_in able) x) (is_held_in tie zone rival x))
  where
    both : (a b : Bool) → (a && not (a && b)) ≡ (a && not b)
    both true b = refl
    both false b = refl

-- where none is held, not all groups are wrong: that of no rival is not
pub none_held_not_wrong : (tie : Tie) (able held : ClubSet) (club rival : ℕ) (zone : List Literal)
    → AreAbleRivals tie able club → AreHeldRivals tie able rival held → IsTieIn tie zone
    → clubs_in held ≡ []
    → are_all_groups_wrong tie.left.now.sheet.now tie.left.now.season.now zone tie.points club
    rival ≡ false
none_held_not_wrong tie able held club rival zone are held_are is none =
    ap (λ (xs : List ℕ). nat_le (length (filter (λ other. not (is_held_in tie zone rival other))
    xs))
    8 && list_all wrong (groups_with (is_held_in tie zone rival) xs)) (sym (are zone is))
    ∙ ap (λ b. nat_le (length (filter (λ other. not (is_held_in tie zone rival other))
    (clubs_in able))) 8 && b)
    (none_held wrong (is_held_in tie zone rival) (clubs_in able) refl
    (λ x has. sym (held_agree tie able held rival zone held_are is x has)
    ∙ ap (λ (xs : List ℕ). has_club xs x) none))
    ∙ and-false (nat_le (length (filter (λ other. not (is_held_in tie zone rival other))
    (clubs_in able))) 8)
  where
    wrong : List ℕ → Bool
    wrong = has_wrong tie.left.now.sheet.now (fits_of tie zone) zone club

-- whether all groups are, by the sets
pub all_groups_are : (tie : Tie) (able held loose : ClubSet) (club rival : ℕ) (zone : List Literal)
    → AreAbleRivals tie able club → AreHeldRivals tie able rival held → IsTieIn tie zone
    → ((x : ℕ) → has_club (clubs_in loose) x
    ≡ (has_club (clubs_in able) x && not (has_club (clubs_in held) x)))
    → (nat_le (length (clubs_in loose)) 8
    && list_all (has_wrong tie.left.now.sheet.now (fits_of tie zone) zone club)
    (groups_with (has_club (clubs_in held)) (clubs_in able)))
    ≡ are_all_groups_wrong tie.left.now.sheet.now tie.left.now.season.now zone tie.points club rival
all_groups_are tie able held loose club rival zone are held_are is rest =
    (λ i. nat_le (length (loose_list tie able held loose rival zone held_are is rest i)) 8
    && list_all wrong
    (groups_agree (has_club (clubs_in held)) (is_held_in tie zone rival) (clubs_in able)
    (held_agree tie able held rival zone held_are is) i))
    ∙ ap (λ (xs : List ℕ). nat_le (length (filter (λ other. not (is_held_in tie zone rival other))
    xs)) 8 && list_all wrong (groups_with (is_held_in tie zone rival) xs)) (are zone is)
  where
    wrong : List ℕ → Bool
    wrong = has_wrong tie.left.now.sheet.now (fits_of tie zone) zone club

-- groups that are looked at are those of the sets that they were made of
pub groups_are : (groups : Groups) (tie : Tie) (club : ℕ) (able held : ClubSet)
    (zone : List Literal) → groups.tie.now ≡ tie → groups.club ≡ club → groups.able ≡ able
    → groups.held ≡ held
    → list_all (group_is_wrong groups zone)
    (groups_with (has_club (clubs_in groups.held)) (clubs_in groups.able))
    ≡ list_all (has_wrong tie.left.now.sheet.now (fits_of tie zone) zone club)
    (groups_with (has_club (clubs_in held)) (clubs_in able))
groups_are groups tie club able held zone tie_is club_is able_is held_is =
    λ i. list_all (has_wrong (tie_is i).left.now.sheet.now (fits_of (tie_is i) zone) zone
    (club_is i))
    (groups_with (has_club (clubs_in (held_is i))) (clubs_in (able_is i)))

-- they are the zone's
pub groups_in : (groups : Groups) (tie : Tie) (club : ℕ) (able : ClubSet) (zone : List Literal)
    → groups.tie.now ≡ tie → groups.club ≡ club → groups.able ≡ able → IsTieIn tie zone
    → RivalsFit tie able club zone → AreGroupsIn groups zone
groups_in groups tie club able zone tie_is club_is able_is is fit = record {
  tie_in = subst (λ (t : Tie). IsTieIn t zone) (sym tie_is) is;
  fit =
      subst (λ (t : Tie). RivalsFit t groups.able groups.club zone) (sym tie_is)
      (subst (λ (a : ClubSet). RivalsFit tie a groups.club zone) (sym able_is)
      (subst (λ (n : ℕ). RivalsFit tie able n zone) (sym club_is) fit));
}

-- some held rival lacks a fit score with the club
pub no_fit_is : (tie : Tie) (able held : ClubSet) (club rival : ℕ) (zone : List Literal)
    → AreAbleRivals tie able club → AreHeldRivals tie able rival held → IsTieIn tie zone
    → list_any (lacks_fit tie zone club) (clubs_in held)
    ≡ list_any (λ other. is_held_in tie zone rival other && lacks_fit tie zone club other)
    (able_rivals tie.left.now.sheet.now tie.left.now.season.now zone tie.points club)
no_fit_is tie able held club rival zone are held_are is =
    ap (list_any (lacks_fit tie zone club)) (held_list tie able held rival zone held_are is)
    ∙ any_of_filter (is_held_in tie zone rival) (lacks_fit tie zone club) (clubs_in able)
    ∙ ap (list_any (λ other. is_held_in tie zone rival other && lacks_fit tie zone club other))
    (are zone is)
