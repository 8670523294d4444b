-- Why a record of the feed is refused, and the words for it.
use Rattle.std.specs.Prelude.{ℕ, List, codes}
use Rattle.result_log.specs.declared.fault.FeedFault.{FeedFault}
use Rattle.result_log.specs.declared.fault.FeedFault.TheVariants.{UnknownRecord, WrongWidth}
use Rattle.result_log.specs.declared.fault.FeedFault.TheVariants.{UnknownFixture, BadGoals}
use Rattle.result_log.specs.declared.fault.FeedFault.TheVariants.{AlreadyPlayed, NotPlayed, LogFull}
use Rattle.result_log.specs.declared.fault.FeedFault.TheVariants.{UnknownClub, BadPoints}

-- the code that a refusal is printed by
abbrev pub feed_code_of : FeedFault → List ℕ
feed_code_of UnknownRecord = codes "unknown_record"
feed_code_of WrongWidth = codes "wrong_width"
feed_code_of UnknownFixture = codes "unknown_fixture"
feed_code_of BadGoals = codes "bad_goals"
feed_code_of AlreadyPlayed = codes "already_played"
feed_code_of NotPlayed = codes "not_played"
feed_code_of LogFull = codes "log_full"
feed_code_of UnknownClub = codes "unknown_club"
feed_code_of BadPoints = codes "bad_points"
