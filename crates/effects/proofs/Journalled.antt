-- A number put in the next entry of the journal, and counted.
use Prim.Native.Nat.{ℕ, ◌+◌, ◌^◌, ◌≤◌, ◌<◌}
use native.Mathlib.Omega.{arith}
use mathlib.Core.Logic.{inr}
use mathlib.Core.Path.{◌≡◌, ◌∙◌}
use mathlib.Core.List.{List}
use lib.ListN.{length}
use Rattle.image.specs.Numbers.{number, put}
use Rattle.image.specs.Fields.{journal_capacity, journal_count, journal_count_place, entry_place, entry_size}
use Rattle.image.specs.Header.{Header}
use Rattle.image.proofs.Numbers.{number_put}
use Rattle.image.proofs.Spared.{Spared, Aside, spared-put, spared-on, spared-number, number-aside}
use Rattle.changes.specs.Changes.{journalled}
use Rattle.effects.proofs.Spares.{Spares, spares-put, spares-on}
use Rattle.effects.proofs.Clear.{clear-count, clear-entry}

abbrev pub next_entry : List ℕ → ℕ
next_entry b = entry_place b (journal_count b)

module _ (b : List ℕ) (h : Header b) (room : journal_count b < journal_capacity b) (i : ℕ) (c : List ℕ)
    (long : length c ≡ length b) (n : ℕ) where
  abbrev listed : List ℕ
  listed = put c (next_entry b) n

  listed-spares : Spares b i c listed
  listed-spares = spares-put b i c (next_entry b) n long (clear-entry b h i room)

  listed-room : journal_count_place ≤ length listed
  listed-room = omega (arith, listed-spares.long, (clear-count b h i).room)

  pub journalled-spares : Spares b i c (journalled b c n)
  unfolding journalled
  journalled-spares =
      spares-on b i c listed (journalled b c n) listed-spares
      (spares-put b i listed journal_count_place (journal_count b + 1) (listed-spares.long ∙ long) (clear-count b h i))

  -- stretches and numbers beside both
  pub journalled-spared : (from to : ℕ) → Aside (next_entry b) entry_size from to → Aside journal_count_place 4 from to
      → Spared c (journalled b c n) from to
  unfolding journalled
  journalled-spared from to s t =
      spared-on (spared-put c (next_entry b) n (omega (arith, (clear-entry b h i room).room)) from to s)
      (spared-put listed journal_count_place (journal_count b + 1) listed-room from to t)

  pub journalled-number : (p : ℕ) → Aside (next_entry b) entry_size p (p + 4) → Aside journal_count_place 4 p (p + 4)
      → number (journalled b c n) p ≡ number c p
  journalled-number p s t = spared-number (journalled-spared p (p + 4) s t) p (omega arith) (omega arith)

  pub journalled-count : journal_count (journalled b c n) ≡ journal_count b + 1
  unfolding journalled
  journalled-count = number_put listed journal_count_place (journal_count b + 1) listed-room
      (omega (arith, h.journal-limit))

  pub journalled-entry : n < 2 ^ 32 → number (journalled b c n) (next_entry b) ≡ n
  unfolding journalled
  journalled-entry l =
      number-aside listed journal_count_place (journal_count b + 1) listed-room (next_entry b)
      (inr (omega (arith, h.after-header)))
      ∙ number_put c (next_entry b) n (omega (arith, (clear-entry b h i room).room)) l
