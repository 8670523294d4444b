-- How leads in the parts of a group decide who is ahead in it, at one finish: whatever part the
-- criteria come down to.
use Rattle.std.proofs.Common.{◌≡◌, ◌≢◌, ℕ, zero, suc, ◌<◌, ◌≤◌, Bool, true, false, ◌&&◌, ◌||◌, ◌==◌}
use Rattle.std.proofs.Common.{List, length, filter, Ordering, Less, Equal, Greater, is_eq, refl}
use Rattle.std.proofs.Common.{sym, ap, ◌∙◌, subst, inl, inr, arith, not}
use Rattle.std.specs.Ordering.{is_le, ordering_then, ordering_reverse}
use Rattle.std.proofs.lemmas.Bool.{false≢true, and_from, and_parts, or_cases, eq-eqb, true≢false}
use Rattle.std.proofs.lemmas.Cmp.{tied_itself}
use Rattle.std.proofs.lemmas.List.Filters.{length-filter_both}
use Rattle.league_core.specs.declared.sheet.Sheet.{Sheet}
use Rattle.league_core.specs.declared.sheet.Order.{Order}
use Rattle.league_core.specs.declared.sheet.Order.TheVariants.{HeadFirst, OverallFirst}
use Rattle.league_core.specs.game.Results.{Results}
use Rattle.league_core.specs.game.Sums.{has_club}
use Rattle.league_core.specs.game.HeadToHead.{by_head_to_head, are_level_in, level_with}
use Rattle.league_core.specs.game.Ahead.{by_overall, by_first_sums, are_level_overall}
use Rattle.league_core.specs.game.Ahead.{level_overall, lead_within, lead_in, standing_by}
use Rattle.league_core.proofs.ClubLemmas.{has_club-some}
use Rattle.league_core.proofs.ClubSetLemmas.{has_club-filter}
use Rattle.league_core.proofs.StandingLemmas.{by_head_to_head_total, by_first_sums_total}
use Rattle.league_core.proofs.plain.Filters.{filter-filter, filter-true}
use Rattle.near_laws.specs.Leads.{Lead, is_ahead_by, is_level_or_ahead_by}
use Rattle.near_laws.specs.SureLeads.{decide_by}

-- two clubs of a group stand so in each of its parts that has both
abbrev pub InEachPart : (Ordering → Type 0) → Sheet → Results → List ℕ → ℕ → ℕ → Type 0
InEachPart Fact sheet finish group front back =
    (keep : ℕ → Bool) → keep front ≡ true → keep back ≡ true
    → Fact (by_head_to_head sheet finish (filter keep group) front back)

abbrev pub IsLess : Ordering → Type 0
IsLess order = order ≡ Less

abbrev pub IsLessOrEqual : Ordering → Type 0
IsLessOrEqual order = is_le order ≡ true

-- what is level one way is level the other way
turned_level : (here there : Ordering) → there ≡ ordering_reverse here → here ≡ Equal
    → is_eq there ≡ true
turned_level here there turned level = ap is_eq (turned ∙ ap ordering_reverse level)

-- a part of a group that leaves somebody out is smaller
length-filter_less : (keep : ℕ → Bool) (group : List ℕ)
    → length (filter keep group) ≢ length group → length (filter keep group) < length group
length-filter_less keep group other =
    let both = length-filter_both keep (λ club. not (keep club)) (λ club. refl) group in
    omega (arith, other)

-- of the clubs that are kept those that have the club's record among them
abbrev further : Sheet → Results → List ℕ → (ℕ → Bool) → ℕ → ℕ → Bool
further sheet finish group keep front club =
    keep club && are_level_in sheet finish (filter keep group) front club

-- what comes after a record that leaves two level
abbrev beyond : ℕ → Sheet → Results → List ℕ → ℕ → ℕ → Bool → Ordering
beyond times sheet finish part front back whole = elim whole [
  | true ↦ by_overall sheet finish front back
  | false ↦ lead_within times sheet finish (level_with sheet finish part front) front back
]

-- one step of the head-to-head
ahead_in_part : (times : ℕ) (sheet : Sheet) (finish : Results) (group : List ℕ)
    (keep : ℕ → Bool) (front back : ℕ)
    → by_overall sheet finish front back ≡ Less → keep front ≡ true → keep back ≡ true
    → length (filter keep group) ≤ suc times
    → is_le (by_head_to_head sheet finish (filter keep group) front back) ≡ true
    → ((other : ℕ → Bool) → other front ≡ true → other back ≡ true
    → length (filter other group) ≤ times
    → lead_within times sheet finish (filter other group) front back ≡ Less)
    → lead_within (suc times) sheet finish (filter keep group) front back ≡ Less
ahead_in_part times sheet finish group keep front back overall in_front in_back most at_least more =
    by_record (by_head_to_head sheet finish (filter keep group) front back) refl at_least
  where
    smaller : length (level_with sheet finish (filter keep group) front)
        ≢ length (filter keep group)
        → length (filter (further sheet finish group keep front) group) ≤ times
    smaller other =
        let less = length-filter_less (are_level_in sheet finish (filter keep group) front)
        (filter keep group) other in
        subst (λ (g : List ℕ). length g ≤ times)
        (filter-filter (are_level_in sheet finish (filter keep group) front) keep group)
        (omega arith)

    by_size : by_head_to_head sheet finish (filter keep group) front back ≡ Equal → (whole : Bool)
        → (length (level_with sheet finish (filter keep group) front)
        == length (filter keep group)) ≡ whole
        → beyond times sheet finish (filter keep group) front back whole ≡ Less
    by_size level true is = overall
    by_size level false is =
        subst (λ (g : List ℕ). lead_within times sheet finish g front back ≡ Less)
        (sym (filter-filter (are_level_in sheet finish (filter keep group) front) keep group))
        (more (further sheet finish group keep front)
        (and_from (keep front) (are_level_in sheet finish (filter keep group) front front) in_front
        (ap is_eq (tied_itself (by_head_to_head_total sheet finish (filter keep group)) front)))
        (and_from (keep back) (are_level_in sheet finish (filter keep group) front back) in_back
        (turned_level (by_head_to_head sheet finish (filter keep group) front back)
        (by_head_to_head sheet finish (filter keep group) back front)
        ((by_head_to_head_total sheet finish (filter keep group)).antisymm back front) level))
        (smaller (λ e. true≢false
        (sym (eq-eqb (length (level_with sheet finish (filter keep group) front))
        (length (filter keep group)) e) ∙ is))))

    by_record : (o : Ordering)
        → by_head_to_head sheet finish (filter keep group) front back ≡ o → is_le o ≡ true
        → ordering_then o (beyond times sheet finish (filter keep group) front back
        (length (level_with sheet finish (filter keep group) front)
        == length (filter keep group))) ≡ Less
    by_record Less is le = refl
    by_record Greater is le = absurd (false≢true le)
    by_record Equal is le =
        by_size is (length (level_with sheet finish (filter keep group) front)
        == length (filter keep group)) refl

-- if the head-to-head leaves one level or ahead in each part, and the sums over all matches put it
-- ahead, it is ahead in each part
pub ahead_in_parts : (times : ℕ) (sheet : Sheet) (finish : Results) (group : List ℕ)
    (keep : ℕ → Bool) (front back : ℕ)
    → InEachPart IsLessOrEqual sheet finish group front back
    → by_overall sheet finish front back ≡ Less
    → has_club group front ≡ true → keep front ≡ true → keep back ≡ true
    → length (filter keep group) ≤ times
    → lead_within times sheet finish (filter keep group) front back ≡ Less
ahead_in_parts zero sheet finish group keep front back parts overall among in_front in_back most =
    let has = has_club-filter keep group front
    ∙ and_from (has_club group front) (keep front) among in_front in
    let some = has_club-some (filter keep group) front has in
    absurd (omega arith)
ahead_in_parts (suc times) sheet finish group keep front back parts overall among in_front in_back
    most =
    ahead_in_part times sheet finish group keep front back overall in_front in_back most
    (parts keep in_front in_back)
    (λ other with_front with_back fewer. ahead_in_parts times sheet finish group other front back
    parts overall among with_front with_back fewer)

-- a record that puts one ahead decides at once
pub ahead_by_record : (sheet : Sheet) (finish : Results) (group : List ℕ) (front back : ℕ)
    → has_club group front ≡ true → by_head_to_head sheet finish group front back ≡ Less
    → lead_in sheet finish group front back ≡ Less
ahead_by_record sheet finish group front back among ahead =
    at_once (length group) (has_club-some group front among)
  where
    at_once : (times : ℕ) → 0 < times → lead_within times sheet finish group front back ≡ Less
    at_once zero some = absurd (omega arith)
    at_once (suc times) some =
        ap (λ o. ordering_then o (beyond times sheet finish group front back
        (length (level_with sheet finish group front) == length group))) ahead

-- what leads say of two clubs of a group at a finish: in the whole group, in each part of it, in
-- the two sums that may come first, in what comes last
pub record AreTrue (sheet : Sheet) (finish : Results) (group : List ℕ) (front back : ℕ)
    (whole part first last : Lead) : Type 0 where
  pub whole_ahead : is_ahead_by whole ≡ true
      → by_head_to_head sheet finish group front back ≡ Less
  pub part_ahead : is_ahead_by part ≡ true → InEachPart IsLess sheet finish group front back
  pub part_level : is_level_or_ahead_by part ≡ true
      → InEachPart IsLessOrEqual sheet finish group front back
  pub first_ahead : is_ahead_by first ≡ true → by_first_sums sheet finish front back ≡ Less
  pub first_level : is_level_or_ahead_by first ≡ true
      → is_le (by_first_sums sheet finish front back) ≡ true
  pub last_ahead : is_ahead_by last ≡ true → by_overall sheet finish front back ≡ Less

-- if such leads decide, the one is ahead
pub decided_ahead : (order : Order) (sheet : Sheet) (finish : Results) (group : List ℕ)
    (front back : ℕ) (whole part first last : Lead)
    → AreTrue sheet finish group front back whole part first last
    → has_club group front ≡ true → decide_by order whole part first last ≡ true
    → standing_by order sheet finish group front back ≡ Less
decided_ahead HeadFirst sheet finish group front back whole part first last are among decided =
    elim (or_cases (is_ahead_by whole) (is_level_or_ahead_by part && is_ahead_by last) decided) as
    (λ _. lead_in sheet finish group front back ≡ Less) [
      | inl ahead ↦
          ahead_by_record sheet finish group front back among (are.whole_ahead ahead)
      | inr level ↦
          let both = and_parts (is_level_or_ahead_by part) (is_ahead_by last) level in
          let all = filter-true group in
          let most : length (filter (λ club. true) group) ≤ length group = subst
          (λ (g : List ℕ). length g ≤ length group) (sym all) (omega arith) in
          subst (λ (g : List ℕ). lead_within (length group) sheet finish g front back ≡ Less) all
          (ahead_in_parts (length group) sheet finish group (λ club. true) front back
          (are.part_level both.0) (are.last_ahead both.1) among refl refl most)
    ]
decided_ahead OverallFirst sheet finish group front back whole part first last are among decided =
    elim (or_cases (is_ahead_by first) (is_level_or_ahead_by first
    && (is_ahead_by part || (is_level_or_ahead_by part && is_ahead_by last))) decided) as
    (λ _. ordering_then (by_first_sums sheet finish front back)
    (lead_in sheet finish (level_overall sheet finish group front) front back) ≡ Less) [
      | inl ahead ↦
          ap (λ o. ordering_then o
          (lead_in sheet finish (level_overall sheet finish group front) front back))
          (are.first_ahead ahead)
      | inr level ↦
          let both = and_parts (is_level_or_ahead_by first)
          (is_ahead_by part || (is_level_or_ahead_by part && is_ahead_by last)) level in
          by_sums (by_first_sums sheet finish front back) refl (are.first_level both.0) both.1
    ]
  where
    own : are_level_overall sheet finish front front ≡ true
    own = ap is_eq (tied_itself (by_first_sums_total sheet finish) front)

    has_front : has_club (level_overall sheet finish group front) front ≡ true
    has_front = has_club-filter (are_level_overall sheet finish front) group front
        ∙ and_from (has_club group front) (are_level_overall sheet finish front front) among own

    in_level : are_level_overall sheet finish front back ≡ true
        → (is_ahead_by part || (is_level_or_ahead_by part && is_ahead_by last)) ≡ true
        → lead_in sheet finish (level_overall sheet finish group front) front back ≡ Less
    in_level in_back decided =
        elim (or_cases (is_ahead_by part) (is_level_or_ahead_by part && is_ahead_by last) decided)
        as
        (λ _. lead_in sheet finish (level_overall sheet finish group front) front back ≡ Less) [
          | inl ahead ↦
              ahead_by_record sheet finish (level_overall sheet finish group front) front back
              has_front
              (are.part_ahead ahead (are_level_overall sheet finish front) own in_back)
          | inr level ↦
              let both = and_parts (is_level_or_ahead_by part) (is_ahead_by last) level in
              ahead_in_parts (length (level_overall sheet finish group front)) sheet finish group
              (are_level_overall sheet finish front) front back
              (are.part_level both.0) (are.last_ahead both.1) among own in_back (omega arith)
        ]

    by_sums : (o : Ordering) → by_first_sums sheet finish front back ≡ o → is_le o ≡ true
        → (is_ahead_by part || (is_level_or_ahead_by part && is_ahead_by last)) ≡ true
        → ordering_then o
        (lead_in sheet finish (level_overall sheet finish group front) front back) ≡ Less
    by_sums Less is le decided = refl
    by_sums Greater is le decided = absurd (false≢true le)
    by_sums Equal is le decided =
        in_level
        (turned_level (by_first_sums sheet finish front back)
        (by_first_sums sheet finish back front)
        ((by_first_sums_total sheet finish).antisymm back front) is)
        decided
