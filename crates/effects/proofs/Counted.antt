-- A number issued and the residues of its replacement counted.
use Prim.Native.Nat.{ℕ, ◌+◌, ◌≤◌}
use native.Mathlib.Omega.{arith}
use mathlib.Core.Logic.{inl, inr}
use mathlib.Core.Path.{◌≡◌, ◌∙◌}
use mathlib.Core.List.{List}
use lib.ListN.{length}
use Rattle.image.specs.Numbers.{put}
use Rattle.image.specs.Fields.{header_size, issued, issued_place, pool_capacity, pool_used, pool_used_place}
use Rattle.image.specs.Header.{Header}
use Rattle.image.proofs.Numbers.{number_put}
use Rattle.image.proofs.Spared.{Spared, spared-put, spared-on, number-aside}
use Rattle.changes.specs.Changes.{counted}
use Rattle.effects.proofs.Spares.{Spares, spares-put, spares-on}
use Rattle.effects.proofs.Clear.{clear-issued, clear-used}

module _ (b : List ℕ) (h : Header b) (i : ℕ) (c : List ℕ) (long : length c ≡ length b) (n : ℕ) where
  abbrev more : List ℕ
  more = put c issued_place (issued b + 1)

  more-spares : Spares b i c more
  more-spares = spares-put b i c issued_place (issued b + 1) long (clear-issued b h i)

  first-room : issued_place ≤ length c
  first-room = omega (arith, (clear-issued b h i).room)

  second-room : pool_used_place ≤ length more
  second-room = omega (arith, more-spares.long, (clear-used b h i).room)

  pub counted-spares : Spares b i c (counted b c n)
  unfolding counted
  counted-spares =
      spares-on b i c more (counted b c n) more-spares
      (spares-put b i more pool_used_place (pool_used b + n) (more-spares.long ∙ long) (clear-used b h i))

  -- a stretch after the header
  pub counted-spared : (from to : ℕ) → header_size ≤ from → Spared c (counted b c n) from to
  unfolding counted
  counted-spared from to l =
      spared-on (spared-put c issued_place (issued b + 1) first-room from to (inr (omega arith)))
      (spared-put more pool_used_place (pool_used b + n) second-room from to (inr (omega arith)))

  pub counted-issued : issued (counted b c n) ≡ issued b + 1
  unfolding counted
  counted-issued =
      number-aside more pool_used_place (pool_used b + n) second-room issued_place (inl (omega arith))
      ∙ number_put c issued_place (issued b + 1) first-room (omega (arith, h.records, h.records-limit))

  pub counted-used : pool_used b + n ≤ pool_capacity b → pool_used (counted b c n) ≡ pool_used b + n
  unfolding counted
  counted-used l = number_put more pool_used_place (pool_used b + n) second-room (omega (arith, h.pool-limit))
