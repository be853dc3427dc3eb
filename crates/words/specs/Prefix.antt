-- Document 01, refusal 8: the length of the longest prefix that begins some accepted text. Texts of one kind are a
-- predicate on lists.
use Rattle.std.specs.Prelude.{ℕ, ◌<◌, ◌≤◌, List, ◌++◌, length, take}

-- some text of the kind begins so
pub record Begins (Kind : List ℕ → Type 0) (front : List ℕ) : Type 0 where
  pub rest : List ℕ
  pub whole : Kind (front ++ rest)

-- the prefix of length i begins some text of the kind, and no longer one does
pub record Longest (Kind : List ℕ → Type 0) (text : List ℕ) (i : ℕ) : Type 0 where
  pub within : i ≤ length text
  pub begins : Begins Kind (take i text)
  pub furthest : (j : ℕ) → i < j → j ≤ length text → Begins Kind (take j text) → ⊥

-- the text is none of the kind, and i is refusal 8's value
pub record Refuses (Kind : List ℕ → Type 0) (text : List ℕ) (i : ℕ) : Type 0 where
  pub other : Kind text → ⊥
  pub longest : Longest Kind text i
