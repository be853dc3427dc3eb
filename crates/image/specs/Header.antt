-- What the header of a well-formed image says, as the code that stands after the test needs it. This, that an image is
-- well formed and that a number is issued stand as `requires`, and in no type: an image is lent as `&mut [u8]`, each
-- write makes another of it, and a value that held such a fact would have to be made anew after each.
use Rattle.std.specs.Prelude.{ℕ, ◌+◌, ◌*◌, ◌≤◌, ◌≡◌, List, length}
use Rattle.refusal.specs.Limits.{reference_limit}
use Rattle.image.specs.Fields.{header_size, entry_size, count_limit, pool_limit, journal_place, record_capacity, issued}
use Rattle.image.specs.Fields.{journal_capacity, journal_count, journal_offset, pool_capacity, pool_used, pool_offset}
use Rattle.image.specs.Fields.{reference_length}

pub record Header (b : List ℕ) : Type 0 where
  pub journal : journal_offset b ≡ journal_place (record_capacity b)
  pub after-header : header_size ≤ journal_offset b
  pub pool : pool_offset b ≡ journal_offset b + entry_size * journal_capacity b
  pub records : issued b ≤ record_capacity b
  pub journalled : journal_count b ≤ journal_capacity b
  pub used : pool_used b ≤ pool_capacity b
  pub records-limit : record_capacity b ≤ count_limit
  pub journal-limit : journal_capacity b ≤ count_limit
  pub pool-limit : pool_capacity b ≤ pool_limit
  pub reference-limit : reference_length b ≤ reference_limit
  pub whole : pool_offset b + pool_capacity b ≤ length b
