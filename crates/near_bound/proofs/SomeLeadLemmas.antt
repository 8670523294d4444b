-- A lead that is not infinite: each fixture has an option.
use Rattle.std.proofs.Common.{◌≡◌, ℕ, ℤ, true, List, [], ◌∷◌, length, Option, Some, None, IsSome}
use Rattle.std.proofs.Common.{refl, subst, ◌&&◌, arith}
use Rattle.std.specs.List.{list_all}
use Rattle.std.proofs.lemmas.Bool.{false≢true}
use Rattle.league_core.specs.declared.sheet.Fixture.{Fixture}
use Rattle.league_core.specs.declared.season.Score.{Score}
use Rattle.league_core.specs.declared.zone.Literal.{Literal}
use Rattle.league_core.specs.game.Sums.{worth_among}
use Rattle.league_core.specs.search.Options.{has_option}
use Rattle.near_laws.specs.Leads.{Lead, added_leads, least_of, least_lead, numbers_at, margins}
use Rattle.near_laws.specs.SureLeads.{pair_lead, record_worths}
use Rattle.near_bound.specs.declared.margin.Margin.{Margin}
use Rattle.near_bound.specs.declared.tie.Tie.{Tie}
use Rattle.near_bound.specs.inside.Margins.{lead_by, record_parts}
use Rattle.near_bound.specs.inside.Ties.{IsTie, IsTieIn, fits_of}
use Rattle.near_bound.specs.inside.PairLeads.{HaveCommonFit}
use Rattle.near_bound.proofs.TieLemmas.{length-fit}

-- both parts of a lead that is not infinite are not
both_some : (first second : Lead) → IsSome (added_leads first second)
    → IsSome first × IsSome second
both_some None second some = absurd (false≢true some)
both_some (Some xs) None some = absurd (false≢true some)
both_some (Some xs) (Some ys) some = (refl, refl)

least_has : (numbers : Score → List ℤ) (options : List Score) → IsSome (least_of numbers options)
    → has_option options ≡ true
least_has numbers [] some = absurd (false≢true some)
least_has numbers (score ∷ options) some = refl

some_options : (values : List (Fixture → Score → ℤ)) (matches : List Fixture)
    (options : List (List Score)) → length options ≡ length matches
    → IsSome (least_lead values matches options) → list_all has_option options ≡ true
some_options values [] [] same some = refl
some_options values [] (own ∷ options) same some = absurd (omega arith)
some_options values (match ∷ matches) [] same some = refl
some_options values (match ∷ matches) (own ∷ options) same some =
    let parts = both_some (least_of (numbers_at values match) own)
    (least_lead values matches options) some in
    (λ i. least_has (numbers_at values match) own parts.0 i
    && some_options values matches options (omega arith) parts.1 i)

lead_some : (lead : Option Margin) → IsSome lead → IsSome (lead_by record_parts lead)
lead_some None some = absurd (false≢true some)
lead_some (Some margin) some = refl

-- if the lead of two clubs is not infinite, each match has a score that is fit for both
pub common_fit : (tie : Tie) (zone : List Literal) (front back : ℕ) (lead : Option Margin)
    → IsTie tie → IsTieIn tie zone → IsSome lead
    → lead_by record_parts lead
    ≡ pair_lead tie.left.now.sheet.now (fits_of tie zone) front back
    → HaveCommonFit tie zone front back
common_fit tie zone front back lead of_tie is some same =
    let clubs = front ∷ back ∷ [] in
    some_options (margins (worth_among clubs) record_worths front back)
    tie.left.now.sheet.now.fixtures (fits_of tie zone clubs)
    (length-fit tie.left.now zone tie.points clubs of_tie.left is.stands)
    (subst (λ (l : Lead). IsSome l) same (lead_some lead some))
