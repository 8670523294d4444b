-- What leads say of groups whoever joins, they say of each of these groups.
use Rattle.std.proofs.Common.{◌≡◌, ℕ, Bool, true, false, ◌&&◌, ◌||◌, ◌==◌, not, cond, List, []}
use Rattle.std.proofs.Common.{◌∷◌, ◌⊎◌, inl, inr, filter, refl, sym, ap, ◌∙◌, subst, Some}
use Rattle.std.specs.List.{list_all}
use Rattle.std.proofs.Math.Bool.{or-true}
use Rattle.std.proofs.lemmas.Bool.{false≢true, and_parts, and_from, or_cases, eq-eqb, eqb-true}
use Rattle.league_core.specs.declared.sheet.Order.{Order}
use Rattle.league_core.specs.declared.sheet.Order.TheVariants.{HeadFirst, OverallFirst}
use Rattle.league_core.specs.game.Sums.{has_club}
use Rattle.near_laws.specs.Leads.{Lead, added_leads, total_lead, is_ahead_by, is_level_or_ahead_by}
use Rattle.near_laws.specs.SureLeads.{decide_by, even_record}
use Rattle.near_laws.specs.Groups.{groups_with}
use Rattle.near_laws.proofs.LeadLemmas.{HasSize}
use Rattle.near_bound.proofs.GroupWalkLemmas.{all_of_more}
use Rattle.near_bound.proofs.OnceLemmas.{is_not}
use Rattle.near_bound.proofs.LeadSumLemmas.{IsLow, low_itself, low_added, low_with_even}
use Rattle.near_bound.proofs.LeadSumLemmas.{total_size, total_from_more, ahead_above, level_above}

-- one of the groups of these clubs that have all held ones
abbrev pub IsGroup : (ℕ → Bool) → List ℕ → List ℕ → Type 0
IsGroup is_held [] [] = Unit {0}
IsGroup is_held [] (member ∷ group) = ⊥
IsGroup is_held (club ∷ clubs) group =
    ((rest : List ℕ) × (group ≡ club ∷ rest) × IsGroup is_held clubs rest)
    ⊎ ((is_held club ≡ false) × IsGroup is_held clubs group)

-- what is true of each of them is true of all
pub each_group : (test : List ℕ → Bool) (is_held : ℕ → Bool) (clubs : List ℕ)
    → ((group : List ℕ) → IsGroup is_held clubs group → test group ≡ true)
    → list_all test (groups_with is_held clubs) ≡ true
each_group test is_held [] each = ap (λ b. b && true) (each [] tt)
each_group test is_held (club ∷ clubs) each =
    all_of_more test is_held club clubs
    ∙ and_from (is_held club || list_all test (groups_with is_held clubs))
    (list_all (λ group. test (club ∷ group)) (groups_with is_held clubs))
    (without (is_held club) refl
    (λ loose. each_group test is_held clubs (λ group of. each group (inr (loose, of)))))
    (each_group (λ group. test (club ∷ group)) is_held clubs
    (λ group is. each (club ∷ group) (inl (group, refl, is))))
  where
    without : (b : Bool) → is_held club ≡ b
        → (is_held club ≡ false → list_all test (groups_with is_held clubs) ≡ true)
        → (b || list_all test (groups_with is_held clubs)) ≡ true
    without true is later = refl
    without false is later = later is

-- a held club is in each of them
pub held_in_group : (is_held : ℕ → Bool) (clubs group : List ℕ) (club : ℕ)
    → IsGroup is_held clubs group → has_club clubs club ≡ true → is_held club ≡ true
    → has_club group club ≡ true
held_in_group is_held [] group club of has held = absurd (false≢true has)
held_in_group is_held (first ∷ clubs) group club (inl joined) has held =
    ap (λ (g : List ℕ). has_club g club) joined.1
    ∙ elim (or_cases (first == club) (has_club clubs club) has) as
    (λ _. has_club (first ∷ joined.0) club ≡ true) [
      | inl here ↦ ap (λ b. b || has_club joined.0 club) here
      | inr later ↦
          ap (λ b. (first == club) || b)
          (held_in_group is_held clubs joined.0 club joined.2 later held)
          ∙ or-true (first == club)
    ]
held_in_group is_held (first ∷ clubs) group club (inr out) has held =
    elim (or_cases (first == club) (has_club clubs club) has) as
    (λ _. has_club group club ≡ true) [
      | inl here ↦ absurd (false≢true
          (sym out.0 ∙ ap is_held (eqb-true first club here) ∙ held))
      | inr later ↦ held_in_group is_held clubs group club out.1 later held
    ]

pub or_follows : (a b c d : Bool) → (a ≡ true → c ≡ true) → (b ≡ true → d ≡ true)
    → (a || b) ≡ true → (c || d) ≡ true
or_follows true b c d one other is = ap (λ x. x || d) (one refl)
or_follows false b c d one other is = ap (λ x. c || x) (other is) ∙ or-true c

pub and_follows : (a b c d : Bool) → (a ≡ true → c ≡ true) → (b ≡ true → d ≡ true)
    → (a && b) ≡ true → (c && d) ≡ true
and_follows a b c d one other is =
    let parts = and_parts a b is in and_from c d (one parts.0) (other parts.1)

-- greater leads decide where lesser ones do
pub decide_above : (order : Order) (whole part more further first last : Lead) → IsLow whole more
    → IsLow part further → decide_by order whole part first last ≡ true
    → decide_by order more further first last ≡ true
decide_above HeadFirst whole part more further first last is also =
    or_follows (is_ahead_by whole) (is_level_or_ahead_by part && is_ahead_by last)
    (is_ahead_by more) (is_level_or_ahead_by further && is_ahead_by last)
    (ahead_above whole more is)
    (and_follows (is_level_or_ahead_by part) (is_ahead_by last) (is_level_or_ahead_by further)
    (is_ahead_by last) (level_above part further also) (λ h. h))
decide_above OverallFirst whole part more further first last is also =
    or_follows (is_ahead_by first)
    (is_level_or_ahead_by first
    && (is_ahead_by part || (is_level_or_ahead_by part && is_ahead_by last)))
    (is_ahead_by first)
    (is_level_or_ahead_by first
    && (is_ahead_by further || (is_level_or_ahead_by further && is_ahead_by last)))
    (λ h. h)
    (and_follows (is_level_or_ahead_by first)
    (is_ahead_by part || (is_level_or_ahead_by part && is_ahead_by last))
    (is_level_or_ahead_by first)
    (is_ahead_by further || (is_level_or_ahead_by further && is_ahead_by last))
    (λ h. h)
    (or_follows (is_ahead_by part) (is_level_or_ahead_by part && is_ahead_by last)
    (is_ahead_by further) (is_level_or_ahead_by further && is_ahead_by last)
    (ahead_above part further also)
    (and_follows (is_level_or_ahead_by part) (is_ahead_by last) (is_level_or_ahead_by further)
    (is_ahead_by last) (level_above part further also) (λ h. h))))

-- leads of third clubs with what they are capped at
module _ (lead cap : ℕ → Lead) (is_held : ℕ → Bool) (rival : ℕ) where
  abbrev pub AreCapped : Type 0
  AreCapped = (club : ℕ) → IsLow (cap club) (lead club) × IsLow (cap club) (Some even_record)
      × HasSize 3 (lead club)

  -- the others of the held clubs, and the loose ones
  abbrev pub held_of : List ℕ → List ℕ
  held_of clubs = filter (is_not rival) (filter is_held clubs)

  abbrev pub loose_of : List ℕ → List ℕ
  loose_of clubs = filter (λ other. not (is_held other)) clubs

  -- the total with the loose ones capped
  abbrev pub low_of : Lead → List ℕ → Lead
  low_of first clubs = total_lead (total_lead first lead (held_of clubs)) cap (loose_of clubs)

  -- it is at most that of a group
  pub group_low : (first : Lead) (clubs group : List ℕ) → AreCapped → HasSize 3 first
      → ((club : ℕ) → has_club clubs club ≡ true → is_held club ≡ false
      → (club == rival) ≡ false) → IsGroup is_held clubs group
      → IsLow (low_of first clubs)
      (total_lead first lead (filter (is_not rival) group))
  group_low first [] [] are size apart of = low_itself first
  group_low first [] (member ∷ group) are size apart of = absurd of
  group_low first (club ∷ clubs) group are size apart of =
      by_held
      (λ rest is. group_low first clubs rest are size
      (λ x has loose. apart x (ap (λ b. (club == x) || b) has ∙ or-true (club == x)) loose) is)
      (is_held club) refl of
    where
      with_it : ((rest : List ℕ) → IsGroup is_held clubs rest → IsLow (low_of first clubs)
          (total_lead first lead (filter (is_not rival) rest)))
          → (b : Bool) (rest : List ℕ) → IsGroup is_held clubs rest
          → IsLow (total_lead (total_lead first lead (cond b (club ∷ held_of clubs)
          (held_of clubs))) cap (loose_of clubs))
          (total_lead first lead (cond b (club ∷ filter (is_not rival) rest)
          (filter (is_not rival) rest)))
      with_it later false rest is = later rest is
      with_it later true rest is =
          subst
          (λ (l : Lead). IsLow l
          (added_leads (lead club) (total_lead first lead (filter (is_not rival) rest))))
          (sym (total_from_more (total_lead first lead (held_of clubs)) (lead club) cap
          (loose_of clubs)))
          (low_added (lead club) (lead club) (low_of first clubs)
          (total_lead first lead (filter (is_not rival) rest)) (low_itself (lead club))
          (later rest is))

      by_held : ((rest : List ℕ) → IsGroup is_held clubs rest → IsLow (low_of first clubs)
          (total_lead first lead (filter (is_not rival) rest)))
          → (b : Bool) → is_held club ≡ b
          → ((rest : List ℕ) × (group ≡ club ∷ rest) × IsGroup is_held clubs rest)
          ⊎ ((is_held club ≡ false) × IsGroup is_held clubs group)
          → IsLow (total_lead (total_lead first lead (filter (is_not rival)
          (cond b (club ∷ filter is_held clubs) (filter is_held clubs)))) cap
          (cond (not b) (club ∷ loose_of clubs) (loose_of clubs)))
          (total_lead first lead (filter (is_not rival) group))
      by_held later true held (inr out) = absurd (false≢true (sym out.0 ∙ held))
      by_held later true held (inl joined) =
          subst
          (λ (g : List ℕ). IsLow (total_lead (total_lead first lead (filter (is_not rival)
          (club ∷ filter is_held clubs))) cap (loose_of clubs))
          (total_lead first lead (filter (is_not rival) g))) (sym joined.1)
          (with_it later (is_not rival club) joined.0 joined.2)
      by_held later false loose (inr out) =
          low_with_even (low_of first clubs) (cap club)
          (total_lead first lead (filter (is_not rival) group))
          (total_size first lead (filter (is_not rival) group) size (λ x. (are x).2))
          (are club).1 (later group out.1)
      by_held later false loose (inl joined) =
          subst
          (λ (g : List ℕ). IsLow (added_leads (cap club) (low_of first clubs))
          (total_lead first lead (filter (is_not rival) g))) (sym joined.1)
          (subst
          (λ b. IsLow (added_leads (cap club) (low_of first clubs)) (total_lead first lead
          (cond (not b) (club ∷ filter (is_not rival) joined.0)
          (filter (is_not rival) joined.0))))
          (sym (apart club (ap (λ b. b || has_club clubs club) (eq-eqb club club refl)) loose))
          (low_added (cap club) (lead club) (low_of first clubs)
          (total_lead first lead (filter (is_not rival) joined.0)) (are club).0
          (later joined.0 joined.2)))
