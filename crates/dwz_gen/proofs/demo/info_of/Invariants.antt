use Rattle.std.proofs.Common.{◌≡◌}
use Rattle.dwz_gen.specs.Demo.{demo_info}
use Rattle.dwz_gen.proofs.demo.info_of.Given as goal

abbrev pub invariant-loop-unit : goal.invariant-loop-unit
invariant-loop-unit l = l.info.items ≡ demo_info l.unit l.first
