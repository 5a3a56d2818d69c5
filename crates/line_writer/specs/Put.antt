-- Bytes put at a place of a text: the place after them, or past the end where they do not fit. Where they do not, what stands in the
-- text is not said.
use Rattle.std.specs.Prelude.{ℕ, ◌+◌, ◌≤◌, ◌≡◌, List, length}
use Rattle.lexical.specs.Writing.{written, place_after}

pub record Put (before : List ℕ) (at : ℕ) (bytes after : List ℕ) (next : ℕ) : Type 0 where
  pub place : next ≡ place_after before at bytes
  pub size : length after ≡ length before
  pub text : at + length bytes ≤ length before → after ≡ written before at bytes
