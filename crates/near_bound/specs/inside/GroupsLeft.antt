-- Groups of clubs that may form on the points of a tie, and the rivals that are surely on the wrong
-- side in them.
use Rattle.std.specs.Prelude.{◌≡◌, ◌≢◌, ℕ, ◌<◌, Bool, true, false, ◌&&◌, ◌||◌, List, length, Option}
use Rattle.std.specs.Prelude.{Some, None, slice_index_or, ◌==◌, not, filter}
use Rattle.league_core.specs.declared.club_set.ClubSet.{ClubSet}
use Rattle.league_core.specs.declared.zone.Literal.{Literal}
use Rattle.league_core.specs.game.ClubSets.{clubs_in}
use Rattle.league_core.specs.game.Sums.{has_club}
use Rattle.std.specs.List.{list_any}
use Rattle.near_laws.specs.Near.{is_wrong_in}
use Rattle.league_core.specs.search.Zones.{marked_before, marked_after}
use Rattle.near_bound.specs.declared.tie.Tie.{Tie}
use Rattle.near_bound.specs.declared.leads.Leads.{Leads}
use Rattle.near_bound.specs.declared.wrongs.Wrongs.{Wrongs}
use Rattle.near_bound.specs.declared.lead_table.LeadTable.{LeadTable}
use Rattle.near_bound.specs.declared.groups.Groups.{Groups}
use Rattle.near_bound.specs.inside.Ties.{IsTie, IsTieIn, fits_of}
use Rattle.near_bound.specs.inside.PairLeads.{AreLeadsNear, AreLeadsOf, AreLeadsIn, HaveFits}
use Rattle.near_bound.specs.inside.PairLeads.{HasFit}
use Rattle.near_bound.specs.inside.Decisions.{leads_anyway}

-- the leads of one club over another if a mark asks for them, and none if it does not
abbrev pub IsMarkedLead : Tie → ClubSet → ℕ → ℕ → Bool → Option Leads → Type 0
IsMarkedLead tie able front back marked None = marked ≡ false
IsMarkedLead tie able front back marked (Some leads) =
    (marked ≡ true) × AreLeadsNear leads × AreLeadsOf tie front back leads
    × ((zone : List Literal) → IsTieIn tie zone → HaveFits tie able front back zone
    → AreLeadsIn tie able front back zone leads)

-- a rival's leads by its marks
pub record AreWrongs (tie : Tie) (able : ClubSet) (club rival : ℕ) (wrongs : Wrongs) : Type 0 where
  pub behind_leads : IsMarkedLead tie able rival club
      (has_club (clubs_in tie.left.now.after) rival) wrongs.behind
  pub ahead_leads : IsMarkedLead tie able club rival
      (has_club (clubs_in tie.left.now.before) rival) wrongs.ahead

-- clubs of the set that are neither of the two
abbrev pub AreOthers : ClubSet → ℕ → ℕ → List ℕ → Type 0
AreOthers able front back others =
    (club : ℕ) → has_club others club ≡ true
    → (has_club (clubs_in able) club ≡ true) × (club ≢ front) × (club ≢ back)

-- able rivals of a club, each a club of the sheet
pub record AreRivals (tie : Tie) (able : ClubSet) (club : ℕ) : Type 0 where
  pub club_in : club < length tie.left.now.sheet.now.clubs
  pub of_sheet : (rival : ℕ) → has_club (clubs_in able) rival ≡ true
      → rival < length tie.left.now.sheet.now.clubs
  pub not_club : has_club (clubs_in able) club ≡ false

-- the club and its able rivals have fit scores
pub record RivalsFit (tie : Tie) (able : ClubSet) (club : ℕ) (zone : List Literal) : Type 0 where
  pub club_fits : HasFit tie zone club
  pub rivals_fit : (rival : ℕ) → has_club (clubs_in able) rival ≡ true → HasFit tie zone rival

-- each club of the one set is in the other
abbrev pub AreAmong : ClubSet → ClubSet → Type 0
AreAmong part whole =
    (club : ℕ) → has_club (clubs_in part) club ≡ true → has_club (clubs_in whole) club ≡ true

-- able rivals of a tie, some of them held, and one of these
pub record IsGroups (groups : Groups) : Type 0 where
  pub tie_is : IsTie groups.tie.now
  pub rivals : AreRivals groups.tie.now groups.able groups.club
  pub held_in : AreAmong groups.held groups.able
  pub first_held : has_club (clubs_in groups.held) groups.first ≡ true

-- a rival's leads in a table
abbrev pub wrongs_listed : List Wrongs → ℕ → Wrongs
wrongs_listed table rival = slice_index_or table rival (record { behind = None; ahead = None })

-- what the table has are leads of able rivals over a club, or the club's over them
pub record IsLeadTableOf (tie : Tie) (able : ClubSet) (club : ℕ) (table : LeadTable) : Type 0 where
  pub long : length table.wrongs ≡ 32
  pub each : (rival : ℕ) → has_club (clubs_in table.known) rival ≡ true
      → AreWrongs tie able club rival (wrongs_listed table.wrongs rival)

-- they are those of the groups' rivals
abbrev pub IsLeadTable : Groups → LeadTable → Type 0
IsLeadTable groups table = IsLeadTableOf groups.tie.now groups.able groups.club table

-- the zone is of the tie, and its rivals have fit scores
pub record AreGroupsIn (groups : Groups) (zone : List Literal) : Type 0 where
  pub tie_in : IsTieIn groups.tie.now zone
  pub fit : RivalsFit groups.tie.now groups.able groups.club zone

-- the rival is surely wrong in a group
abbrev pub wrong_in : Groups → List Literal → List ℕ → ℕ → Bool
wrong_in groups zone group rival =
    is_wrong_in groups.tie.now.left.now.sheet.now (fits_of groups.tie.now zone) zone groups.club
    group rival

-- some rival of it is
abbrev pub group_is_wrong : Groups → List Literal → List ℕ → Bool
group_is_wrong groups zone group = list_any (wrong_in groups zone group) group

-- the held rival is surely wrong in each group of these clubs that has all held ones
abbrev pub wrong_anyway : Groups → List Literal → List ℕ → ℕ → Bool
wrong_anyway groups zone clubs rival =
    let sheet = groups.tie.now.left.now.sheet.now in
    let fits = fits_of groups.tie.now zone in
    let is_held = has_club (clubs_in groups.held) in
    let sure = filter (λ (other : ℕ). not (other == rival)) (filter is_held clubs) in
    let loose = filter (λ other. not (is_held other)) clubs in
    (marked_after zone rival && leads_anyway sheet fits rival groups.club sure loose)
    || (marked_before zone rival && leads_anyway sheet fits groups.club rival sure loose)

-- able rivals that are left for the groups, with all held ones
pub record MayForm (groups : Groups) (clubs : ClubSet) : Type 0 where
  pub clubs_able : AreAmong clubs groups.able
  pub clubs_held : AreAmong groups.held clubs

-- a held rival among these that is surely wrong in the group of the held ones alone; if none is
-- found, none is
abbrev pub FindsWrong : Groups → List ℕ → Option ℕ → Type 0
FindsWrong groups rivals None =
    (zone : List Literal) → AreGroupsIn groups zone
    → list_any (wrong_in groups zone (clubs_in groups.held)) rivals ≡ false
FindsWrong groups rivals (Some rival) =
    (has_club rivals rival ≡ true)
    × ((zone : List Literal) → AreGroupsIn groups zone
    → wrong_in groups zone (clubs_in groups.held) rival ≡ true)
