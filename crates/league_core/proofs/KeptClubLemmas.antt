-- The clubs that a test keeps of a set.
use Rattle.std.proofs.Common.{◌≡◌, ℕ, ◌<◌, Bool, true, false, ◌&&◌, ◌||◌, ◌==◌, List, [], ◌∷◌, ◌++◌}
use Rattle.std.proofs.Common.{filter, sym, ap, refl, ◌∙◌, subst, inl, inr, ◌≢◌, ltb}
use Rattle.std.specs.List.{range_with_len}
use Rattle.std.proofs.lemmas.Bool.{false≢true, cases_Bool, cases_eq, ne_eqb, eq-eqb, ltb-true}
use Rattle.std.proofs.Math.Bool.{and-true, and-false, or-false}
use Rattle.league_core.specs.declared.club_set.ClubSet.{ClubSet}
use Rattle.league_core.specs.game.Sums.{has_club}
use Rattle.league_core.specs.game.ClubSets.{clubs_in}
use Rattle.league_core.specs.inside.KeptClubs.{AreKept}
use Rattle.league_core.proofs.ClubSetLemmas.{clubs_below-filter, has_club-range}
use Rattle.league_core.proofs.ClubCountLemmas.{member_below}
use Rattle.league_core.proofs.SeenLemmas.{each_seen, seen_before}
use Rattle.league_core.proofs.WalkLemmas.{stands_after}

-- of no clubs none is kept
pub kept_none : (Says : ℕ → Bool → Type 0) (kept : List ℕ) → kept ≡ [] → AreKept Says [] kept
kept_none Says kept none = record {
  tested = λ club has. absurd (false≢true has);
  among = λ club has. ap (λ (clubs : List ℕ). has_club clubs club) (sym none) ∙ has;
}

-- the next club that a walk comes to is kept as a call of the test says
pub kept_with_next : (Says : ℕ → Bool → Type 0) (seen found more : List ℕ) (at : ℕ) (said : Bool)
    → has_club seen at ≡ false → Says at said
    → ((club : ℕ) → has_club more club ≡ (has_club found club || (said && (at == club))))
    → AreKept Says seen found → AreKept Says (seen ++ at ∷ []) more
kept_with_next Says seen found more at said is_new says grows so_far = record {
  tested = each_seen (λ club. Says club (has_club found club))
      (λ club. Says club (has_club more club)) seen at
      (λ club apart old. subst (Says club) (sym (other club apart)) old)
      (subst (Says at) (sym here) says) so_far.tested;
  among = λ club has. elim (cases_eq club at) as (λ _. has_club (seen ++ at ∷ []) club ≡ true) [
    | inl same ↦ ap (has_club (seen ++ at ∷ [])) same ∙ stands_after seen at []
    | inr apart ↦
        sym (seen_before seen at club apart)
        ∙ so_far.among club (sym (other club apart) ∙ has)
  ];
}
  where
    other : (club : ℕ) → club ≢ at → has_club more club ≡ has_club found club
    other club apart =
        grows club
        ∙ ap (λ b. has_club found club || (said && b)) (ne_eqb at club (λ same. apart (sym same)))
        ∙ ap (λ b. has_club found club || b) (and-false said) ∙ or-false (has_club found club)

    none : has_club found at ≡ false
    none = elim (cases_Bool (has_club found at)) as (λ _. has_club found at ≡ false) [
      | inl has ↦ absurd (false≢true (sym is_new ∙ so_far.among at has))
      | inr out ↦ out
    ]

    here : has_club more at ≡ said
    here =
        grows at ∙ ap (λ b. b || (said && (at == at))) none
        ∙ ap (λ b. said && b) (eq-eqb at at refl) ∙ and-true said

-- if the test answers by a function of each of these clubs, a club is kept exactly if it is of
-- these and that is true
pub kept_has : {Says : ℕ → Bool → Type 0} {test : ℕ → Bool} {clubs kept : List ℕ}
    → ((club : ℕ) (said : Bool) → has_club clubs club ≡ true → Says club said → said ≡ test club)
    → AreKept Says clubs kept
    → (club : ℕ) → has_club kept club ≡ (has_club clubs club && test club)
kept_has {test = test} {clubs = clubs} {kept = kept} is are club =
    by_set (has_club clubs club) (has_club kept club)
    (λ has. is club (has_club kept club) has (are.tested club has)) (are.among club)
  where
    by_set : (has found : Bool) → (has ≡ true → found ≡ test club)
        → (found ≡ true → has ≡ true) → found ≡ (has && test club)
    by_set true found passes within = passes refl
    by_set false true passes within = sym (within refl)
    by_set false false passes within = refl

-- and the clubs kept are those of a set for which it is true, in their order
pub kept_list : {Says : ℕ → Bool → Type 0} {test : ℕ → Bool} (set kept : ClubSet)
    → ((club : ℕ) (said : Bool) → club < 32 → Says club said → said ≡ test club)
    → AreKept Says (clubs_in set) (clubs_in kept)
    → clubs_in kept ≡ filter test (clubs_in set)
kept_list {test = test} set kept is are =
    clubs_below-filter 32 kept.bits set.bits test
    (kept_has (λ club said has. is club said (member_below set club has)) are)

-- of the clubs below a number, those for which it is true
pub kept_below : {Says : ℕ → Bool → Type 0} {test : ℕ → Bool} {clubs kept : List ℕ} (count : ℕ)
    → clubs ≡ range_with_len 0 count
    → ((club : ℕ) (said : Bool) → club < count → Says club said → said ≡ test club)
    → AreKept Says clubs kept
    → (club : ℕ) → has_club kept club ≡ (ltb club count && test club)
kept_below {test = test} {clubs = clubs} count below is are club =
    kept_has (λ x said has. is x said (ltb-true x count (sym (among x) ∙ has))) are club
    ∙ ap (λ b. b && test club) (among club)
  where
    among : (x : ℕ) → has_club clubs x ≡ ltb x count
    among x = ap (λ (xs : List ℕ). has_club xs x) below ∙ has_club-range count x
