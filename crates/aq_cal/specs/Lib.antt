-- What this crate's contracts cite beside aq_base's definitions.
pub mod DayText
