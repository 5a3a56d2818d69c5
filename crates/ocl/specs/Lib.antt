-- What the evaluators of rule bodies are given, and what they compute.
--   Ready       what an evaluator is given
pub mod Ready
