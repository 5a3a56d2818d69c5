-- Laws of what is asked of events.
--   Asking      a question about the object in a row, by the places that name it
--   Losses      the losses of an object, by the chain of its row
pub mod Asking
pub mod Losses
