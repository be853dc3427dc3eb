-- Three stretches as the one text that they make.
use Rattle.std.specs.Prelude.{ℕ, ◌+◌, List, ◌++◌, length}
use Rattle.stretch.specs.declared.Three.{Three}

abbrev pub whole : Three → List ℕ
whole t = t.first.now ++ (t.middle.now ++ t.last.now)

-- its length
abbrev pub whole_length : Three → ℕ
whole_length t = length t.first.now + (length t.middle.now + length t.last.now)
