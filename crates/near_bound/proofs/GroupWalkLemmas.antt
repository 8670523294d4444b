-- All groups of some clubs: those without one of them, and those with it.
use Rattle.std.proofs.Common.{◌≡◌, ℕ, Bool, true, false, ◌&&◌, ◌||◌, ◌==◌, not, cond, List, []}
use Rattle.std.proofs.Common.{◌∷◌, ◌++◌, map, filter, refl, sym, ap, ◌∙◌, eq-eqb, inl, inr}
use Rattle.std.specs.List.{list_all, list_any}
use Rattle.std.proofs.Math.Bool.{and-true, and-false}
use Rattle.std.proofs.lemmas.Bool.{false≢true, ne_eqb}
use Rattle.std.proofs.lemmas.List.Folds.{list_all-append}
use Rattle.league_core.specs.declared.zone.Literal.{Literal}
use Rattle.league_core.specs.game.Sums.{has_club}
use Rattle.near_laws.specs.Groups.{groups_with}
use Rattle.near_laws.specs.Near.{is_wrong_in}
use Rattle.near_bound.specs.declared.groups.Groups.{Groups}
use Rattle.near_bound.specs.inside.Ties.{fits_of}
use Rattle.near_bound.specs.inside.GroupsLeft.{group_is_wrong}
use Rattle.near_bound.proofs.AbleRivalLemmas.{groups_agree}
use Rattle.near_bound.proofs.OnceLemmas.{IsOnce, is_not, filter_without}

joined_all : (test : List ℕ → Bool) (club : ℕ) (groups : List (List ℕ))
    → list_all test (map (λ group. club ∷ group) groups)
    ≡ list_all (λ group. test (club ∷ group)) groups
joined_all test club [] = refl
joined_all test club (group ∷ groups) =
    ap (λ b. test (club ∷ group) && b) (joined_all test club groups)

-- all groups of one club more
pub all_of_more : (test : List ℕ → Bool) (is_held : ℕ → Bool) (club : ℕ) (rest : List ℕ)
    → list_all test (groups_with is_held (club ∷ rest))
    ≡ ((is_held club || list_all test (groups_with is_held rest))
    && list_all (λ group. test (club ∷ group)) (groups_with is_held rest))
all_of_more test is_held club rest = by_test (is_held club)
  where
    joined : list_all test (map (λ group. club ∷ group) (groups_with is_held rest))
        ≡ list_all (λ group. test (club ∷ group)) (groups_with is_held rest)
    joined = joined_all test club (groups_with is_held rest)

    by_test : (b : Bool)
        → list_all test (cond b (map (λ group. club ∷ group) (groups_with is_held rest))
        (groups_with is_held rest ++ map (λ group. club ∷ group) (groups_with is_held rest)))
        ≡ ((b || list_all test (groups_with is_held rest))
        && list_all (λ group. test (club ∷ group)) (groups_with is_held rest))
    by_test true = joined
    by_test false =
        list_all-append test (groups_with is_held rest)
        (map (λ group. club ∷ group) (groups_with is_held rest))
        ∙ ap (λ b. list_all test (groups_with is_held rest) && b) joined

-- where all clubs are held, their only group is that of all held ones
pub only_least : (test : List ℕ → Bool) (is_held : ℕ → Bool) (clubs : List ℕ)
    → filter (λ other. not (is_held other)) clubs ≡ []
    → list_all test (groups_with is_held clubs) ≡ test (filter is_held clubs)
only_least test is_held [] none = and-true (test [])
only_least test is_held (club ∷ clubs) none =
    all_of_more test is_held club clubs
    ∙ by_held (λ later. only_least (λ group. test (club ∷ group)) is_held clubs later)
    (is_held club) none
  where
    by_held : (filter (λ other. not (is_held other)) clubs ≡ []
        → list_all (λ group. test (club ∷ group)) (groups_with is_held clubs)
        ≡ test (club ∷ filter is_held clubs))
        → (b : Bool)
        → cond (not b) (club ∷ filter (λ other. not (is_held other)) clubs)
        (filter (λ other. not (is_held other)) clubs) ≡ []
        → ((b || list_all test (groups_with is_held clubs))
        && list_all (λ group. test (club ∷ group)) (groups_with is_held clubs))
        ≡ test (cond b (club ∷ filter is_held clubs) (filter is_held clubs))
    by_held rest true none = rest none
    by_held rest false none =
        absurd (false≢true (ap (λ (xs : List ℕ). has_club xs club) (sym none)
        ∙ ap (λ b. b || has_club (filter (λ other. not (is_held other)) clubs) club)
        (eq-eqb club club refl)))

-- if the group of the held ones alone fails, not all pass
pub least_fails : (test : List ℕ → Bool) (is_held : ℕ → Bool) (clubs : List ℕ)
    → test (filter is_held clubs) ≡ false → list_all test (groups_with is_held clubs) ≡ false
least_fails test is_held [] fails = ap (λ b. b && true) fails
least_fails test is_held (club ∷ clubs) fails =
    all_of_more test is_held club clubs
    ∙ by_held (λ later. least_fails (λ group. test (club ∷ group)) is_held clubs later)
    (λ later. least_fails test is_held clubs later) (is_held club) fails
  where
    by_held : (test (club ∷ filter is_held clubs) ≡ false
        → list_all (λ group. test (club ∷ group)) (groups_with is_held clubs) ≡ false)
        → (test (filter is_held clubs) ≡ false
        → list_all test (groups_with is_held clubs) ≡ false)
        → (b : Bool)
        → test (cond b (club ∷ filter is_held clubs) (filter is_held clubs)) ≡ false
        → ((b || list_all test (groups_with is_held clubs))
        && list_all (λ group. test (club ∷ group)) (groups_with is_held clubs)) ≡ false
    by_held joined others true fails = joined fails
    by_held joined others false fails =
        ap (λ b. b && list_all (λ group. test (club ∷ group)) (groups_with is_held clubs))
        (others fails)

sorted_out : (h w v w' v' : Bool)
    → ((h || (w && v)) && (w' && v')) ≡ (((h || w) && w') && ((h || v) && v'))
sorted_out true w v w' v' = refl
sorted_out false false v w' v' = refl
sorted_out false true true w' v' = refl
sorted_out false true false w' v' = sym (and-false w')

-- the groups without a loose club, and those in which it is held
pub all_by_club : (test : List ℕ → Bool) (is_held also : ℕ → Bool) (club : ℕ) (clubs : List ℕ)
    → is_held club ≡ false → also club ≡ true
    → ((x : ℕ) → (x == club) ≡ false → also x ≡ is_held x) → IsOnce club clubs
    → list_all test (groups_with is_held clubs)
    ≡ (list_all test (groups_with is_held (filter (is_not club) clubs))
    && list_all test (groups_with also clubs))
all_by_club test is_held also club [] loose held others once = absurd once
all_by_club test is_held also club (first ∷ clubs) loose held others (inl here) =
    all_of_more test is_held first clubs
    ∙ ap (λ b. (b || list_all test (groups_with is_held clubs))
    && list_all longer (groups_with is_held clubs)) (ap is_held here.0 ∙ loose)
    ∙ (λ i. list_all test (groups_with is_held (sym dropped i))
    && list_all longer (same_groups i))
    ∙ ap (λ b. list_all test (groups_with is_held (filter (is_not club) (first ∷ clubs))) && b)
    (sym (all_of_more test also first clubs
    ∙ ap (λ b. (b || list_all test (groups_with also clubs))
    && list_all longer (groups_with also clubs)) (ap also here.0 ∙ held)))
  where
    longer : List ℕ → Bool
    longer group = test (first ∷ group)

    apart : (x : ℕ) → has_club clubs x ≡ true → (x == club) ≡ false
    apart x has =
        ne_eqb x club (λ same. false≢true (sym here.1 ∙ ap (has_club clubs) (sym same) ∙ has))

    same_groups : groups_with is_held clubs ≡ groups_with also clubs
    same_groups = groups_agree is_held also clubs (λ x has. sym (others x (apart x has)))

    dropped : filter (is_not club) (first ∷ clubs) ≡ clubs
    dropped =
        ap (λ b. cond (not b) (first ∷ filter (is_not club) clubs) (filter (is_not club) clubs))
        (eq-eqb first club here.0)
        ∙ filter_without club clubs here.1
all_by_club test is_held also club (first ∷ clubs) loose held others (inr later) =
    all_of_more test is_held first clubs
    ∙ (λ i. (is_held first || all_by_club test is_held also club clubs loose held others later.1 i)
    && all_by_club longer is_held also club clubs loose held others later.1 i)
    ∙ sorted_out (is_held first) (list_all test (groups_with is_held rest))
    (list_all test (groups_with also clubs)) (list_all longer (groups_with is_held rest))
    (list_all longer (groups_with also clubs))
    ∙ ap (λ b. ((is_held first || list_all test (groups_with is_held rest))
    && list_all longer (groups_with is_held rest))
    && ((b || list_all test (groups_with also clubs))
    && list_all longer (groups_with also clubs))) (sym (others first later.0))
    ∙ (λ i. sym (all_of_more test is_held first rest) i
    && sym (all_of_more test also first clubs) i)
    ∙ ap (λ (xs : List ℕ). list_all test (groups_with is_held xs)
    && list_all test (groups_with also (first ∷ clubs))) (sym kept)
  where
    longer : List ℕ → Bool
    longer group = test (first ∷ group)

    rest : List ℕ
    rest = filter (is_not club) clubs

    kept : filter (is_not club) (first ∷ clubs) ≡ first ∷ rest
    kept = ap (λ b. cond (not b) (first ∷ rest) rest) later.0

-- a group's test says the same of the same tie and club
pub same_wrong : (groups more : Groups) (zone : List Literal) → more.tie.now ≡ groups.tie.now
    → more.club ≡ groups.club → group_is_wrong more zone ≡ group_is_wrong groups zone
same_wrong groups more zone tie_is club_is =
    λ i group. list_any (is_wrong_in (tie_is i).left.now.sheet.now (fits_of (tie_is i) zone) zone
    (club_is i) group) group
