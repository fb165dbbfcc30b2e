-- How much the program takes and keeps, and the range of a reported value (own). The numbers stand in aq_base: those of the limits in its page `limits`, those of values in `Values`.
pub use Rattle.aq_base.specs.declared.limits.TheConstants.{MOST_BYTES, MOST_LINES, MOST_LISTED, MOST_LOADS, LAST_LOAD_NUMBER, MOST_OBSERVATIONS, MOST_SITES, MOST_MONITORS, MOST_IN_LIST, MOST_MAKEUPS, MOST_EVENTS, MOST_EVENT_HOURS, LAST_EVENT_NUMBER, MOST_GENERATED_SITES, FEWEST_GENERATED_YEARS, MOST_GENERATED_YEARS}
pub use Rattle.aq_base.specs.Values.{least_value, greatest_value}
