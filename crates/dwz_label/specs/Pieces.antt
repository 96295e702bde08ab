-- Inner: how a signed number is told in labels. No public clause cites it.
use Rattle.std.specs.Prelude.{ℕ, ℤ, pos, negsuc}

abbrev pub sign : ℤ → ℕ
sign (pos n) = 0
sign (negsuc n) = 1
