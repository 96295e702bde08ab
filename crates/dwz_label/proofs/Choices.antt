-- A choice of two facts by a test: from it and to it.
use Rattle.std.proofs.Common.{◌≡◌, Bool, true, false, refl}
use Rattle.dwz_def_reading.specs.Meanings.{IfSo}

pub by_if : (b : Bool) (P Q : Type 0) → (b ≡ true → P) → (b ≡ false → Q) → IfSo b P Q
by_if true P Q f h = f refl
by_if false P Q f h = h refl
