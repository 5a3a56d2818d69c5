-- Laws behind the evaluators.
--   Variables     the ids of bound variables
--   Codes         operators by ranges of codes
--   Steady        what a register that fits its schema gives
--   Scopes        well-typed forms are in scope
--   Nums          the numbers of a form are small
--   Parts         the parts of a form are ready where the form is
--   Answers       what each evaluator answers
--   Bodies        well-typed bodies are ready
pub mod Variables
pub mod Codes
pub mod Steady
pub mod Scopes
pub mod Nums
pub mod Loops
pub mod Parts
pub mod Answers
pub mod Bodies
