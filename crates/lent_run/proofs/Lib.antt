-- What no refusal of the lent tables gives a run, and the first refusal of all.
pub mod Given
