-- Document 01's number for each refusal, and the answers of the rules for those of the code (FORMAT 3).
use Rattle.std.specs.Prelude.{ℕ, Result, Ok, Err}
use Rattle.rules.specs.Rule.{Rule, gives, refuses, Stop, refused, finished, more_bytes}
use Rattle.rules.specs.Calls.{Answer, full, stopped}
use Rattle.error.specs.declared.Refusal.{Refusal}
use Rattle.error.specs.declared.Refusal.TheVariants.{UnknownKind, SizeWordZero, HeaderTooSmall, HeaderTooLarge, UnknownEdition, BelowEditionMinimum, TextTooLong, NotUtf8}
use Rattle.error.specs.declared.Refusal.TheVariants.{ArrayHeaderTooSmall, TooManyScans, MsCountTooSmall, UvStartAboveEnd, UvStepZero, Incomplete, LentLength, UnknownText, SumOutOfRange, KindWithoutAtlas, WindowReversed}
use Rattle.error.specs.declared.Stopped.{Stopped}
use Rattle.error.specs.declared.Stopped.TheVariants.{Refused, Finished, MoreBytes}

abbrev pub number_of : Refusal → ℕ
number_of UnknownKind = 1
number_of SizeWordZero = 2
number_of HeaderTooSmall = 3
number_of HeaderTooLarge = 4
number_of UnknownEdition = 5
number_of BelowEditionMinimum = 6
number_of TextTooLong = 7
number_of NotUtf8 = 8
number_of ArrayHeaderTooSmall = 9
number_of TooManyScans = 10
number_of MsCountTooSmall = 11
number_of UvStartAboveEnd = 12
number_of UvStepZero = 13
number_of Incomplete = 14
number_of LentLength = 15
number_of UnknownText = 16
-- request 1: 'Answers: 17'
number_of SumOutOfRange = 17
-- request 5: 'Answers: 18'
number_of KindWithoutAtlas = 18
-- request 6: 'Answers: 19'
number_of WindowReversed = 19

-- what a step of the code that reads no bytes says: an outcome, as the rules have it, or a refusal
abbrev pub outcome : {A B : Type 0} → (A → B) → Result A Refusal → Rule B
outcome f (Ok a) = gives (f a)
outcome f (Err r) = refuses (number_of r)

abbrev pub stop_of : Stopped → Stop
stop_of (Refused r) = refused (number_of r)
stop_of Finished = finished
stop_of MoreBytes = more_bytes

-- one number for each answer: 'finished (printed 0)', a refusal its own, and what has none in document 01 one beyond all refusals (DECISIONS 18)
abbrev pub stop_number : Stop → ℕ
stop_number finished = 0
stop_number (refused c) = c
stop_number more_bytes = 101

abbrev pub closing_number : Answer → ℕ
closing_number full = 102
closing_number (stopped z) = stop_number z
