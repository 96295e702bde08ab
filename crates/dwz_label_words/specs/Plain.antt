-- Inner: numbers of marks. No public clause cites it.
use Rattle.std.specs.Prelude.{ℕ, ◌*◌, List}
use Rattle.dwz_label.specs.Labels.{number}

-- the mark of a number
abbrev pub plainly : ℕ → List ℕ
plainly n = number (2 * n)
