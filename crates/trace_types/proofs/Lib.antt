-- Laws of the types that events move objects into and out of.
--   Coming      the types that an event's object comes into or goes out of, by its words
--   Climbing    the types above a type, by a walk up from it
--   Moving      the sets of directions in which all objects of a type move
pub mod Coming
pub mod Climbing
pub mod Moving
