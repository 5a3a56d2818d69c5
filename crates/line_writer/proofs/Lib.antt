-- Laws behind the lines.
--   Puts       bytes put after bytes
--   Spellings  the spelling of a line by its pieces
--   Names      the table of names
--   Bodies     the spelling of a form by its row and its parts
pub mod Puts
pub mod Spellings
pub mod Names
pub mod Bodies
