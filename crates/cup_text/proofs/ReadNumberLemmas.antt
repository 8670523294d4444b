-- Numbers, lists, keys and tests that are read of a text are in the ranges that forms have.
use Rattle.std.proofs.Common.{◌≡◌, ℕ, ◌-◌, Bool, true, false, ◌&&◌, ◌==◌, nat_le, List, ◌∷◌, length}
use Rattle.std.proofs.Common.{codes, Option, Some, None, refl, arith}
use Rattle.std.specs.Prelude.{bytes_eq, option_and_then, option_map, if◌then◌else◌}
use Rattle.std.specs.List.{list_all}
use Rattle.std.proofs.lemmas.Bool.{and_from, and_parts, leb-true, lt-ltb}
use Rattle.serde_json.specs.Data.{Data, Items, no_items, item}
use Rattle.serde_json.specs.Find.{as_array, as_i64, as_number, as_u64, at}
use Rattle.league_core.specs.declared.zone.Test.{Test}
use Rattle.league_core.specs.declared.zone.Test.TheVariants.{Home, Draw, HomeMost, AwayMost, Rival}
use Rattle.cert_text.specs.Forms.{away_most_test_in, bounded_test_in, draw_test_in}
use Rattle.cert_text.specs.Forms.{home_most_test_in, home_test_in, if_ends_at, rival_test_in}
use Rattle.cert_text.specs.Forms.{test_below_in, test_named}
use Rattle.cert_text.specs.Places.{clubs_at, if_between, integer_at, is_end_at, listed_club}
use Rattle.cert_text.specs.Places.{listed_clubs, number_here, numbered_at, word_at}
use Rattle.cert_text.specs.Ranges.{is_goal_bound, is_one_of, is_test_below, most_goal_bound}
use Rattle.cup_text.specs.CupForms.{cup_key_at, if_part, is_rising, key_of_parts, listed_part}
use Rattle.cup_text.specs.CupForms.{listed_parts, rising_at, rising_list}
use Rattle.cup_text.specs.CupRanges.{is_cup_key, is_key_part, is_rising_below}

-- ---- what may be there

-- if it is there, it passes the test
abbrev pub passes_if : {A : Type 0} → (A → Bool) → Option A → Bool
passes_if test None = true
passes_if test (Some it) = test it

module _ {A : Type 0} (test : A → Bool) where
  -- either of two
  pub by_if : (choice : Bool) (one other : Option A) → passes_if test one ≡ true
      → passes_if test other ≡ true → passes_if test (if choice then one else other) ≡ true
  by_if true one other first second = first
  by_if false one other first second = second

  -- what is taken only if it passes
  pub by_test : (it : A) (choice : Bool) → (choice ≡ true → test it ≡ true)
      → passes_if test (if choice then Some it else None) ≡ true
  by_test it true each = each refl
  by_test it false each = refl

  -- what is made of what was found, if anything was
  pub by_and : {B : Type 0} (f : B → Option A) (found : Option B)
      → ((it : B) → passes_if test (f it) ≡ true) → passes_if test (option_and_then f found) ≡ true
  by_and f None each = refl
  by_and f (Some it) each = each it

  -- the same, if what was found first is known to pass another test
  pub by_both : {B : Type 0} (kept : B → Bool) (f : B → Option A) (found : Option B)
      → passes_if kept found ≡ true
      → ((it : B) → kept it ≡ true → passes_if test (f it) ≡ true)
      → passes_if test (option_and_then f found) ≡ true
  by_both kept f None is each = refl
  by_both kept f (Some it) is each = each it is

  -- what always comes of what was found
  pub by_map : {B : Type 0} (f : B → A) (found : Option B) → ((it : B) → test (f it) ≡ true)
      → passes_if test (option_map f found) ≡ true
  by_map f None each = refl
  by_map f (Some it) each = each it

  -- the same, if that is known to pass another test
  pub by_kept : {B : Type 0} (kept : B → Bool) (f : B → A) (found : Option B)
      → passes_if kept found ≡ true → ((it : B) → kept it ≡ true → test (f it) ≡ true)
      → passes_if test (option_map f found) ≡ true
  by_kept kept f None is each = refl
  by_kept kept f (Some it) is each = each it is

  -- what stands at the end of an array
  pub by_end : (place : ℕ) (shown : Data) (found : Option A) → passes_if test found ≡ true
      → passes_if test (if_ends_at place shown found) ≡ true
  by_end place shown found is = by_if (is_end_at place shown) found None is refl

-- ---- numbers

-- between these bounds
abbrev is_between : ℕ → ℕ → ℕ → Bool
is_between least most number = nat_le least number && nat_le number most

-- a number that is taken is
between_kept : (least most number : ℕ)
    → passes_if (is_between least most) (if_between least most number) ≡ true
between_kept least most number =
    by_test (is_between least most) number (is_between least most number) (λ is. is)

-- counted from 1 it is one of so many
number_below : (most number : ℕ) → is_between 1 most number ≡ true
    → is_one_of most (number_here number) ≡ true
number_below most number is =
    let both = and_parts (nat_le 1 number) (nat_le number most) is in
    let low = leb-true 1 number both.0 in
    let high = leb-true number most both.1 in
    lt-ltb (number - 1) most (omega (arith, low, high))

-- an integer at a place
integer_kept : (place least most : ℕ) (shown : Data)
    → passes_if (is_between least most) (integer_at place least most shown) ≡ true
integer_kept place least most shown =
    by_and (is_between least most) (if_between least most)
    (option_and_then as_u64 (option_and_then as_number (at place shown)))
    (λ number. between_kept least most number)

-- one of so many at a place
pub number_kept : (most place : ℕ) (shown : Data)
    → passes_if (is_one_of most) (numbered_at most place shown) ≡ true
number_kept most place shown =
    by_kept (is_one_of most) (is_between 1 most) number_here (integer_at place 1 most shown)
    (integer_kept place 1 most shown) (λ number is. number_below most number is)

-- goals, or a bound on them
pub goals_kept : (place most : ℕ) (shown : Data)
    → passes_if (λ goals. nat_le goals most) (integer_at place 0 most shown) ≡ true
goals_kept place most shown =
    by_and (λ goals. nat_le goals most) (if_between 0 most)
    (option_and_then as_u64 (option_and_then as_number (at place shown)))
    (λ goals. by_test (λ it. nat_le it most) goals (is_between 0 most goals)
    (λ is. (and_parts (nat_le 0 goals) (nat_le goals most) is).1))

-- ---- lists

-- an item of a list of numbers
listed_club_kept : (most : ℕ) (shown : Data)
    → passes_if (is_one_of most) (listed_club most shown) ≡ true
listed_club_kept most shown =
    let number = option_and_then as_u64 (as_number shown) in
    by_kept (is_one_of most) (is_between 1 most) number_here
    (option_and_then (if_between 1 most) number)
    (by_and (is_between 1 most) (if_between 1 most) number
    (λ it. between_kept 1 most it))
    (λ it is. number_below most it is)

-- all of them
listed_clubs_kept : (most : ℕ) (items : Items)
    → passes_if (list_all (is_one_of most)) (listed_clubs most items) ≡ true
listed_clubs_kept most no_items = refl
listed_clubs_kept most (item shown items) =
    by_both (list_all (is_one_of most)) (is_one_of most)
    (λ club. option_map (λ clubs. club ∷ clubs) (listed_clubs most items))
    (listed_club most shown) (listed_club_kept most shown)
    (λ club one. by_kept (list_all (is_one_of most)) (list_all (is_one_of most))
    (λ clubs. club ∷ clubs) (listed_clubs most items) (listed_clubs_kept most items)
    (λ clubs all. and_from (is_one_of most club) (list_all (is_one_of most) clubs) one all))

-- the list at a place
pub clubs_kept : (most place : ℕ) (shown : Data)
    → passes_if (list_all (is_one_of most)) (clubs_at most place shown) ≡ true
clubs_kept most place shown =
    by_and (list_all (is_one_of most)) (listed_clubs most)
    (option_and_then as_array (at place shown)) (λ items. listed_clubs_kept most items)

-- the same, where it has to rise
pub rising_kept : (most place : ℕ) (shown : Data)
    → passes_if (is_rising_below most) (rising_at most place shown) ≡ true
rising_kept most place shown =
    by_both (is_rising_below most) (list_all (is_one_of most)) rising_list
    (clubs_at most place shown) (clubs_kept most place shown)
    (λ list all. by_test (is_rising_below most) list (is_rising list)
    (λ is. and_from (is_rising list) (list_all (is_one_of most) list) is all))

-- ---- keys

-- a part
part_kept : (shown : Data) → passes_if is_key_part (listed_part shown) ≡ true
part_kept shown =
    by_and is_key_part if_part (option_and_then as_i64 (as_number shown))
    (λ part. by_test is_key_part part (is_key_part part) (λ is. is))

-- all parts of a list
parts_kept : (items : Items) → passes_if (list_all is_key_part) (listed_parts items) ≡ true
parts_kept no_items = refl
parts_kept (item shown items) =
    by_both (list_all is_key_part) is_key_part
    (λ part. option_map (λ parts. part ∷ parts) (listed_parts items)) (listed_part shown)
    (part_kept shown)
    (λ part one. by_kept (list_all is_key_part) (list_all is_key_part) (λ parts. part ∷ parts)
    (listed_parts items) (parts_kept items)
    (λ parts all. and_from (is_key_part part) (list_all is_key_part parts) one all))

-- the key at a place
pub key_kept : (place : ℕ) (shown : Data) → passes_if is_cup_key (cup_key_at place shown) ≡ true
key_kept place shown =
    by_both is_cup_key (list_all is_key_part) key_of_parts
    (option_and_then listed_parts (option_and_then as_array (at place shown)))
    (by_and (list_all is_key_part) listed_parts (option_and_then as_array (at place shown))
    (λ items. parts_kept items))
    (λ parts all. by_test is_cup_key (record { parts = parts }) (length parts == 7)
    (λ seven. and_from (length parts == 7) (list_all is_key_part parts) seven all))

-- ---- tests

module _ (fixtures clubs : ℕ) where
  -- a test of one of so many fixtures and clubs
  abbrev is_known : Test → Bool
  is_known test = is_test_below fixtures clubs test

  -- a test of one number
  one_kept : (f : ℕ → Test) (most : ℕ) (shown : Data)
      → ((number : ℕ) → is_one_of most number ≡ true → is_known (f number) ≡ true)
      → passes_if is_known (if_ends_at 3 shown (option_map f (numbered_at most 2 shown))) ≡ true
  one_kept f most shown each =
      by_end is_known 3 shown (option_map f (numbered_at most 2 shown))
      (by_kept is_known (is_one_of most) f (numbered_at most 2 shown) (number_kept most 2 shown)
      each)

  -- a test of a fixture and a bound on goals
  bound_kept : (f : ℕ → ℕ → Test) (shown : Data)
      → ((fixture most : ℕ) → is_one_of fixtures fixture ≡ true → is_goal_bound most ≡ true
      → is_known (f fixture most) ≡ true)
      → passes_if is_known (bounded_test_in fixtures f shown) ≡ true
  bound_kept f shown each =
      by_end is_known 4 shown _
      (by_both is_known (is_one_of fixtures)
      (λ fixture. option_map (f fixture) (integer_at 3 0 most_goal_bound shown))
      (numbered_at fixtures 2 shown) (number_kept fixtures 2 shown)
      (λ fixture one. by_kept is_known is_goal_bound (f fixture)
      (integer_at 3 0 most_goal_bound shown) (goals_kept 3 most_goal_bound shown)
      (λ most is. each fixture most one is)))

  -- the test of a name
  test_named_kept : (name : List ℕ) (shown : Data)
      → passes_if is_known (test_named fixtures clubs name shown) ≡ true
  test_named_kept name shown =
      by_if is_known (bytes_eq name (codes "home")) (home_test_in fixtures shown) _
      (one_kept (λ it. Home it) fixtures shown (λ it one. one))
      (by_if is_known (bytes_eq name (codes "draw")) (draw_test_in fixtures shown) _
      (one_kept (λ it. Draw it) fixtures shown (λ it one. one))
      (by_if is_known (bytes_eq name (codes "hg")) (home_most_test_in fixtures shown) _
      (bound_kept (λ fixture most. HomeMost fixture most) shown
      (λ fixture most one is. and_from (is_one_of fixtures fixture) (is_goal_bound most) one is))
      (by_if is_known (bytes_eq name (codes "ag")) (away_most_test_in fixtures shown) _
      (bound_kept (λ fixture most. AwayMost fixture most) shown
      (λ fixture most one is. and_from (is_one_of fixtures fixture) (is_goal_bound most) one is))
      (by_if is_known (bytes_eq name (codes "rival")) (rival_test_in clubs shown) None
      (one_kept (λ it. Rival it) clubs shown (λ it one. one)) refl))))

  -- the test of a line
  pub test_kept : (shown : Data) → passes_if is_known (test_below_in fixtures clubs shown) ≡ true
  test_kept shown =
      by_and is_known (λ name. test_named fixtures clubs name shown) (word_at 1 shown)
      (λ name. test_named_kept name shown)
