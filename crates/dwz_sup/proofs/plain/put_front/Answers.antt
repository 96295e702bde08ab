use Rattle.std.proofs.Common.{ℕ, replicate}
use Rattle.std.proofs.lemmas.Result.{on_ok_weaker}
use Rattle.dwz_def_reading.specs.ElfFaults.{identification}
use Rattle.dwz_def_reading.specs.ElfLayout.{numbers}
use Rattle.dwz_def_reading.specs.PlainFile.{file_fields}
use Rattle.dwz_sup.proofs.WrittenLemmas.{three_parts}
use Rattle.dwz_sup.proofs.plain.put_front.Goals as goal

pub returns : goal.returns
returns c =
    on_ok_weaker c.put_numbers.result
    (λ is. three_parts identification (replicate {A = ℕ} 9 0) (numbers (file_fields c.args.machine c.args.flags c.args.headers_at c.args.count)) c.args.out.now.items c.extend_from_slice.new.self.items
    c.put_zeros.new.out.items c.put_numbers.new.out.items c.in_ok-extend_from_slice.ensures.items c.in_ok-put_zeros.ensures is)
    c.put_numbers.ensures
