-- Laws of the places of a trace, and of what is kept of each event.
--   Questions   questions at the places of an event, and by the words of its row
--   Placing     the places of a batch in the trace that is made
--   Losing      the losses of a batch in the trace that is made
--   Naming      the ids that an event names, by its words
--   Keeping     what is kept of each event
--   Steps       the steps of a batch by the rows of its events, and what some step of it does
pub mod Questions
pub mod Placing
pub mod Losing
pub mod Naming
pub mod Keeping
pub mod Steps
