-- Laws behind what `park` prints.
--   Printing   what is printed of tables, by what is asked
--   Wording    what is asked, by the words that a word is compared with
pub mod Printing
pub mod Wording
