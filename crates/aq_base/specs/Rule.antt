-- The rules that a line can break: each one's number and name.
use Rattle.std.specs.Prelude.{ℕ, List, [], ◌∷◌, codes}
use Rattle.aq_base.specs.declared.rule.Rule.{Rule}
use Rattle.aq_base.specs.declared.rule.Rule.TheVariants.{BadBytes, BadTag, FieldCount, BadAction, BadSite, ParameterOutOfProfile, BadPoc, BadDuration, BadUnit, BadMethod, BadDate, BadTime, ValueAndNull, NeitherValueNorNull, BadValue, ValueOutOfRange, BadNull, BadQualifier, UnknownMonitor, WrongDuration, AlreadyThere, NotThere, ObservationsFull, SitesFull, MonitorsFull, BadSpan, BadInterval, BadSeason, BadMakeup, MakeupsFull, UnknownEvent, EventsFull, BadCode, ListFull, BadPair, PairTaken}

-- the number that replies and stored loads give
abbrev pub rule_number : Rule → ℕ
rule_number BadBytes = 1
rule_number BadTag = 2
rule_number FieldCount = 3
rule_number BadAction = 4
rule_number BadSite = 5
rule_number ParameterOutOfProfile = 6
rule_number BadPoc = 7
rule_number BadDuration = 8
rule_number BadUnit = 9
rule_number BadMethod = 10
rule_number BadDate = 11
rule_number BadTime = 12
rule_number ValueAndNull = 13
rule_number NeitherValueNorNull = 14
rule_number BadValue = 15
rule_number ValueOutOfRange = 16
rule_number BadNull = 17
rule_number BadQualifier = 18
rule_number UnknownMonitor = 19
rule_number WrongDuration = 20
rule_number AlreadyThere = 21
rule_number NotThere = 22
rule_number ObservationsFull = 23
rule_number SitesFull = 24
rule_number MonitorsFull = 25
rule_number BadSpan = 26
rule_number BadInterval = 27
rule_number BadSeason = 28
rule_number BadMakeup = 29
rule_number MakeupsFull = 30
rule_number UnknownEvent = 31
rule_number EventsFull = 32
rule_number BadCode = 33
rule_number ListFull = 34
rule_number BadPair = 35
rule_number PairTaken = 36

-- the name that replies give
abbrev pub rule_name : Rule → List ℕ
rule_name BadBytes = codes "BadBytes"
rule_name BadTag = codes "BadTag"
rule_name FieldCount = codes "FieldCount"
rule_name BadAction = codes "BadAction"
rule_name BadSite = codes "BadSite"
rule_name ParameterOutOfProfile = codes "ParameterOutOfProfile"
rule_name BadPoc = codes "BadPoc"
rule_name BadDuration = codes "BadDuration"
rule_name BadUnit = codes "BadUnit"
rule_name BadMethod = codes "BadMethod"
rule_name BadDate = codes "BadDate"
rule_name BadTime = codes "BadTime"
rule_name ValueAndNull = codes "ValueAndNull"
rule_name NeitherValueNorNull = codes "NeitherValueNorNull"
rule_name BadValue = codes "BadValue"
rule_name ValueOutOfRange = codes "ValueOutOfRange"
rule_name BadNull = codes "BadNull"
rule_name BadQualifier = codes "BadQualifier"
rule_name UnknownMonitor = codes "UnknownMonitor"
rule_name WrongDuration = codes "WrongDuration"
rule_name AlreadyThere = codes "AlreadyThere"
rule_name NotThere = codes "NotThere"
rule_name ObservationsFull = codes "ObservationsFull"
rule_name SitesFull = codes "SitesFull"
rule_name MonitorsFull = codes "MonitorsFull"
rule_name BadSpan = codes "BadSpan"
rule_name BadInterval = codes "BadInterval"
rule_name BadSeason = codes "BadSeason"
rule_name BadMakeup = codes "BadMakeup"
rule_name MakeupsFull = codes "MakeupsFull"
rule_name UnknownEvent = codes "UnknownEvent"
rule_name EventsFull = codes "EventsFull"
rule_name BadCode = codes "BadCode"
rule_name ListFull = codes "ListFull"
rule_name BadPair = codes "BadPair"
rule_name PairTaken = codes "PairTaken"

-- all rules of the formats, in rising number
abbrev pub all_rules : List Rule
all_rules =
    BadBytes ∷ BadTag ∷ FieldCount ∷ BadAction ∷ BadSite ∷ ParameterOutOfProfile ∷ BadPoc ∷ BadDuration ∷ BadUnit ∷ BadMethod
    ∷ BadDate ∷ BadTime ∷ ValueAndNull ∷ NeitherValueNorNull ∷ BadValue ∷ ValueOutOfRange ∷ BadNull ∷ BadQualifier
    ∷ UnknownMonitor ∷ WrongDuration ∷ AlreadyThere ∷ NotThere ∷ ObservationsFull ∷ SitesFull ∷ MonitorsFull
    ∷ BadSpan ∷ BadInterval ∷ BadSeason ∷ BadMakeup ∷ MakeupsFull ∷ UnknownEvent ∷ EventsFull ∷ BadCode ∷ ListFull
    ∷ BadPair ∷ PairTaken ∷ []
