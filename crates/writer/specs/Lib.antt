-- What the writer's functions leave in their bytes, and what the writer answers.
--   Answers  the writer's refusals and its answer
pub mod Answers
