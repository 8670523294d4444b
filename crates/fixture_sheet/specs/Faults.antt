-- Why a sheet is refused, and the words for it.
use Rattle.std.specs.Prelude.{ℕ, List, codes}
use Rattle.fixture_sheet.specs.declared.fault.SheetFault.{SheetFault}
use Rattle.fixture_sheet.specs.declared.fault.SheetFault.TheVariants.{NoLeague, BadField, ClubTwice}
use Rattle.fixture_sheet.specs.declared.fault.SheetFault.TheVariants.{UnknownClub, SelfMatch}
use Rattle.fixture_sheet.specs.declared.fault.SheetFault.TheVariants.{LineRange, TooMany}
use Rattle.fixture_sheet.specs.declared.fault.SheetFault.TheVariants.{TooFewClubs, UnknownRecord}
use Rattle.fixture_sheet.specs.declared.fault.SheetFault.TheVariants.{WrongWidth, LineTwice}
use Rattle.fixture_sheet.specs.declared.fault.SheetFault.TheVariants.{NoSeason}

-- the code that a refusal is printed by
abbrev pub sheet_code_of : SheetFault → List ℕ
sheet_code_of NoLeague = codes "no_league"
sheet_code_of BadField = codes "bad_field"
sheet_code_of ClubTwice = codes "club_twice"
sheet_code_of UnknownClub = codes "unknown_club"
sheet_code_of SelfMatch = codes "self_match"
sheet_code_of LineRange = codes "line_range"
sheet_code_of TooMany = codes "too_many"
sheet_code_of TooFewClubs = codes "too_few_clubs"
sheet_code_of UnknownRecord = codes "unknown_record"
sheet_code_of WrongWidth = codes "wrong_width"
sheet_code_of LineTwice = codes "line_twice"
sheet_code_of NoSeason = codes "no_season"
