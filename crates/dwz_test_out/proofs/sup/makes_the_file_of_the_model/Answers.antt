use Rattle.std.proofs.Common.{arith, ap, length}
use Rattle.dwz_sup.proofs.LengthLemmas.{small_file}
use Rattle.dwz_test_out.proofs.sup.makes_the_file_of_the_model.Goals as goal

pub common_file-requires : goal.common_file-requires
common_file-requires g c =
    small_file 183 0x05000400 c.new.result c.new-2.result c.new-3.result
    (omega (arith, ap length c.new.ensures, c.in_ok-to_vec.ensures.len, c.in_ok-to_vec.field-0.ok.0))
    (omega (arith, ap length c.new-2.ensures, c.in_ok-to_vec-2.ensures.len, c.in_ok-to_vec-2.field-0.ok.0))
    (omega (arith, ap length c.new-3.ensures, c.in_ok-to_vec-3.ensures.len, c.in_ok-to_vec-3.field-0.ok.0))
