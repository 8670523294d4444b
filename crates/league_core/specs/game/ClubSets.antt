-- Sets of clubs, kept as the bits of a number, and the clubs that a set stands for.
use Rattle.std.specs.Prelude.{ℕ, ◌==◌, List, filter}
use Rattle.std.specs.List.{range_with_len}
use Rattle.std.specs.Int.{bit_at}
use Rattle.league_core.specs.declared.club_set.ClubSet.{ClubSet}
use Rattle.league_core.specs.game.Limits.{set_width}

-- the clubs below a number that a set's bits name, in the order of the sheet
unfoldable pub clubs_below : ℕ → ℕ → List ℕ
clubs_below count bits = filter (λ club. bit_at bits club == 1) (range_with_len 0 count)

-- the clubs of a set, in the order of the sheet
abbrev pub clubs_in : ClubSet → List ℕ
clubs_in set = clubs_below set_width set.bits
