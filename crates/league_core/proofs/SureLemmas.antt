-- What one answer of the sure order after another says.
use Rattle.std.proofs.Common.{◌≡◌, refl}
use Rattle.league_core.specs.declared.sure.Sure.{Sure}
use Rattle.league_core.specs.declared.sure.Sure.TheVariants.{Above, Below, Level, Unknown}
use Rattle.league_core.specs.search.SureOrder.{sure_then}

-- how three steps are bracketed does not matter
pub sure_then-assoc : (a b c : Sure) → sure_then (sure_then a b) c ≡ sure_then a (sure_then b c)
sure_then-assoc Above b c = refl
sure_then-assoc Below b c = refl
sure_then-assoc Level b c = refl
sure_then-assoc Unknown b c = refl

-- a step that finds two level changes nothing
pub sure_then-level : (a : Sure) → sure_then a Level ≡ a
sure_then-level Above = refl
sure_then-level Below = refl
sure_then-level Level = refl
sure_then-level Unknown = refl
