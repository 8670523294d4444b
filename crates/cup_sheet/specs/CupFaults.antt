-- Why a cup's sheet is refused, and the words for it.
use Rattle.std.specs.Prelude.{ℕ, List, codes}
use Rattle.cup_sheet.specs.declared.fault.CupFault.{CupFault}
use Rattle.cup_sheet.specs.declared.fault.CupFault.TheVariants.{NoCup, NoSeason, UnknownRecord}
use Rattle.cup_sheet.specs.declared.fault.CupFault.TheVariants.{TooFewClubs, WrongWidth, BadField}
use Rattle.cup_sheet.specs.declared.fault.CupFault.TheVariants.{ClubTwice, UnknownClub, SelfMatch}
use Rattle.cup_sheet.specs.declared.fault.CupFault.TheVariants.{TooMany, TooFewGroups, QuotaRange}

-- the code that a refusal is printed by
abbrev pub cup_code_of : CupFault → List ℕ
cup_code_of NoCup = codes "no_cup"
cup_code_of NoSeason = codes "no_season"
cup_code_of UnknownRecord = codes "unknown_record"
cup_code_of TooFewClubs = codes "too_few_clubs"
cup_code_of WrongWidth = codes "wrong_width"
cup_code_of BadField = codes "bad_field"
cup_code_of ClubTwice = codes "club_twice"
cup_code_of UnknownClub = codes "unknown_club"
cup_code_of SelfMatch = codes "self_match"
cup_code_of TooMany = codes "too_many"
cup_code_of TooFewGroups = codes "too_few_groups"
cup_code_of QuotaRange = codes "quota_range"
