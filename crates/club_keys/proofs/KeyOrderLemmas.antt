-- Keys stand in one order, by the first part in which they differ.
use Rattle.std.proofs.Common.{◌≡◌, ℤ, true, not, List, Ordering, Less, Equal}
use Rattle.std.proofs.Common.{Greater, is_lt, refl, sym, ap, ◌∙◌}
use Rattle.std.specs.Ordering.{ordering_reverse, is_le}
use Rattle.std.proofs.lemmas.Bool.{false≢true}
use Rattle.league_core.specs.game.HeadToHead.{by_first_difference}
use Rattle.league_core.specs.search.Keys.{is_key_from}
use Rattle.league_core.proofs.StandingLemmas.{by_first_difference_total}
use Rattle.league_core.proofs.ProposalLemmas.{by_first_difference-equal}
use Rattle.club_keys.specs.inside.KeyLaws.{is_key_above}

turned_back : (o : Ordering) → is_lt o ≡ not (is_le (ordering_reverse o))
turned_back Less = refl
turned_back Equal = refl
turned_back Greater = refl

pub above_or_below : (key other : List ℤ) → is_key_above other key ≡ not (is_key_from key other)
above_or_below key other =
    turned_back (by_first_difference key other)
    ∙ ap (λ o. not (is_le o)) (sym (by_first_difference_total.antisymm other key))

own_equal : (o : Ordering) → o ≡ ordering_reverse o → is_le o ≡ true
own_equal Less e = refl
own_equal Equal e = refl
own_equal Greater e = absurd (let c : Greater ≡ Less = e in cc)

pub from_itself : (key : List ℤ) → is_key_from key key ≡ true
from_itself key =
    own_equal (by_first_difference key key) (by_first_difference_total.antisymm key key)

-- one comparison after another
along : (first next : Ordering) (least middle key : List ℤ)
    → by_first_difference key middle ≡ first → by_first_difference middle least ≡ next
    → is_le first ≡ true → is_le next ≡ true → is_key_from least key ≡ true
along Greater next least middle key one other le le_next = absurd (false≢true le)
along Equal next least middle key one other le le_next =
    ap is_le (by_first_difference_total.congr key middle least one ∙ other) ∙ le_next
along Less Greater least middle key one other le le_next = absurd (false≢true le_next)
along Less Less least middle key one other le le_next =
    ap is_le (by_first_difference_total.trans key middle least one other)
along Less Equal least middle key one other le le_next =
    ap is_le (by_first_difference_total.antisymm key least
    ∙ ap ordering_reverse (sym (by_first_difference_total.congr middle least key other))
    ∙ sym (by_first_difference_total.antisymm key middle)
    ∙ one)

pub from_lesser : (least middle key : List ℤ) → is_key_from least middle ≡ true
    → is_key_from middle key ≡ true → is_key_from least key ≡ true
from_lesser least middle key low high =
    along (by_first_difference key middle) (by_first_difference middle least) least middle key
    refl refl high low

both_ways : (o back : Ordering) → o ≡ ordering_reverse back → is_le o ≡ true → is_le back ≡ true
    → o ≡ Equal
both_ways Equal back is le le_back = refl
both_ways Greater back is le le_back = absurd (false≢true le)
both_ways Less Less is le le_back = absurd (let c : Less ≡ Greater = is in cc)
both_ways Less Equal is le le_back = is
both_ways Less Greater is le le_back = absurd (false≢true le_back)

pub one_if_both : (key other : List ℤ) → is_key_from key other ≡ true
    → is_key_from other key ≡ true → key ≡ other
one_if_both key other from back =
    by_first_difference-equal key other
    (both_ways (by_first_difference key other) (by_first_difference other key)
    (by_first_difference_total.antisymm key other) back from)
