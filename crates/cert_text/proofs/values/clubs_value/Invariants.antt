use Rattle.std.proofs.Common.{◌≡◌, ℕ, map, take}
use Rattle.serde_json.specs.View.{view}
use Rattle.serde_json.specs.Data.{number, unsigned}
use Rattle.cert_text.specs.Lines.{number_in_text}
use Rattle.cert_text.proofs.values.clubs_value.Given as goal

-- the clubs so far stand in the list by their numbers in texts
abbrev pub invariant-loop-club : goal.invariant-loop-club
invariant-loop-club l = map view l.numbers.items ≡ map
    (λ (club : ℕ). number (unsigned (number_in_text club))) (take l.club-index l.clubs)
