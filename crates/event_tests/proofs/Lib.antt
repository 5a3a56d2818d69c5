-- Laws of what is asked of a register.
--   Tests     what the code's tests say of the register
pub mod Tests
