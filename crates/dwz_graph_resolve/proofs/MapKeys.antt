-- Numbers as keys of ordered maps.
use Rattle.std.proofs.Common.{◌≡◌, ℕ, nat_eq, arith}
use Rattle.std.specs.Ordering.{is_eq, nat_cmp}
use Rattle.std.proofs.lemmas.Bool.Decides.{nat_tests}

-- a number is found where it is equal
pub found_eq : (a b : ℕ) → is_eq (nat_cmp a b) ≡ nat_eq a b
found_eq a b = grind (arith, nat_tests)
