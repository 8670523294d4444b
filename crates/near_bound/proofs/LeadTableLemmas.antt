-- A table of rivals' leads: nothing at first, and then what is taken for one rival after the other.
use Rattle.std.proofs.Common.{◌≡◌, ℕ, List, []}
use Rattle.std.proofs.Common.{length, sym, ap, ◌∙◌}
use Rattle.std.proofs.lemmas.Bool.{false≢true}
use Rattle.league_core.specs.declared.club_set.ClubSet.{ClubSet}
use Rattle.league_core.specs.game.ClubSets.{clubs_in}
use Rattle.league_core.specs.game.Sums.{has_club}
use Rattle.near_bound.specs.declared.lead_table.LeadTable.{LeadTable}
use Rattle.near_bound.specs.declared.tie.Tie.{Tie}
use Rattle.near_bound.specs.inside.GroupsLeft.{IsLeadTableOf}

-- without a known rival it is one of any level
pub nothing_taken : (table : LeadTable) → length table.wrongs ≡ 32 → clubs_in table.known ≡ []
    → (tie : Tie) (able : ClubSet) (club : ℕ) → IsLeadTableOf tie able club table
nothing_taken table long none tie able club = record {
  long = long;
  each = λ rival has. absurd
      (false≢true (sym (ap (λ (xs : List ℕ). has_club xs rival) none) ∙ has));
}
