-- Laws behind the writer.
--   Sections   the lines of a section, one after the other
--   Answers    the answer by what was put
--   Refusals   the writer's refusals, one after the other
--   Texts      the lines of all sections are the text of the tables' entries
--   Clear      the answer by the refusals
pub mod Sections
pub mod Answers
pub mod Refusals
pub mod Texts
pub mod Clear
