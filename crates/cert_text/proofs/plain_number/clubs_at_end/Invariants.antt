use Rattle.std.proofs.Common.{◌≡◌, ◌∷◌, ◌++◌, true, length}
use Rattle.std.specs.List.{list_all}
use Rattle.cert_text.specs.Ranges.{is_one_of}
use Rattle.cert_text.proofs.PlainNumberLemmas.{clubs_so_far}
use Rattle.cert_text.proofs.plain_number.clubs_at_end.Given as goal

-- the text is the clubs so far and the rest
abbrev pub invariant-clubs : goal.invariant-clubs
invariant-clubs l =
    (list_all (is_one_of l.most) l.list.items ≡ true)
    × (l.text ≡ 44 ∷ 91 ∷ (clubs_so_far l.list.items ++ l.rest))

-- what is left of the text
abbrev pub decreases-clubs : goal.decreases-clubs
decreases-clubs l = length l.rest
