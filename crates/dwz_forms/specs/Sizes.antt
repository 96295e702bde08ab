-- How many bytes a value occupies, shape by shape.
use Rattle.std.specs.Prelude.{ℕ, ℤ, ◌+◌, ◌*◌, List, length}
use Rattle.dwz_bytes.specs.Spelling.{group_count, reach}
use Rattle.dwz_codes.specs.declared.shape.Shape.{Shape}
use Rattle.dwz_codes.specs.declared.shape.Shape.TheVariants.{Fixed1, Fixed2, Fixed3, Fixed4, Fixed8, Fixed16, Uleb, Sleb, ZeroEnded, Block1}
use Rattle.dwz_codes.specs.declared.shape.Shape.TheVariants.{Block2, Block4, BlockUleb, Address}

abbrev pub number_len : Shape → ℤ → ℕ
number_len Fixed1 z = 1
number_len Fixed2 z = 2
number_len Fixed3 z = 3
number_len Fixed4 z = 4
number_len Fixed8 z = 8
number_len Address z = 8
number_len Uleb z = group_count (reach z)
number_len Sleb z = group_count (2 * reach z)
number_len _ z = 0

abbrev pub run_len : Shape → List ℕ → ℕ
run_len Fixed16 content = length content
run_len ZeroEnded content = length content + 1
run_len Block1 content = 1 + length content
run_len Block2 content = 2 + length content
run_len Block4 content = 4 + length content
run_len BlockUleb content = group_count (length content) + length content
run_len _ content = 0
