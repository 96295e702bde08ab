use Rattle.std.proofs.Common.{List, ap, length, ℕ, ◌∙◌}
use Rattle.dwz_layout.proofs.NumberLemmas.{small_code, wide_code_bytes, wide_code_written}
use Rattle.dwz_expand_layout.proofs.sizes.uleb_len.Goals as goal

pub returns-then-number-lt128 : goal.returns-then-number-lt128
returns-then-number-lt128 c = small_code c.args.number c.if-number-lt128.true

pub size_of_value-requires : goal.size_of_value-requires
size_of_value-requires c = wide_code_written c.args.number c.ranges.number.fits

pub returns : goal.returns
returns c = c.size_of_value.ensures ∙ ap (λ (w : List ℕ). length w) (wide_code_bytes c.args.number c.ranges.number.fits)
