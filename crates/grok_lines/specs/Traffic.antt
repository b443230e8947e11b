-- What a run reads and writes.
use Rattle.std.specs.Prelude.{ℕ, List, Option}

-- The bytes that the reader has left, before the run and after it, and those that the writer has got, before the run
-- and after it. They are `None` for a reader or a writer whose bytes the kit doesn't know.
pub record Traffic : Type 0 where
  pub unread_old : Option (List ℕ)
  pub unread_new : Option (List ℕ)
  pub written_old : Option (List ℕ)
  pub written_new : Option (List ℕ)

-- the record of what the reader had left, before and after, and of what the writer had got, before and after
abbrev pub traffic : Option (List ℕ) → Option (List ℕ) → Option (List ℕ) → Option (List ℕ) → Traffic
traffic unread_old unread_new written_old written_new =
    record {
      unread_old = unread_old;
      unread_new = unread_new;
      written_old = written_old;
      written_new = written_new;
    }
