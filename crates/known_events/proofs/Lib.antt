-- Laws behind refusal 7 of an event by itself.
--   Known   which events are known, by their kinds and fields
pub mod Known
