use Rattle.std.proofs.Common.{◌≡◌, ℕ, zero, suc, ◌+◌, ◌<◌, List, map, sym, ap, subst, ◌∙◌, arith, get_or}
use Rattle.dwz_codes.specs.Operators.{operator_rows}
use Rattle.dwz_codes.specs.declared.shape.Shape.{Shape}
use Rattle.dwz_codes.specs.declared.shape.Shape.TheVariants.{Nothing}
use Rattle.dwz_codes.specs.Rows.{shape_of}
use Rattle.dwz_codes.specs.Shapes.{numbers, operator_shapes}
use Rattle.dwz_codes.proofs.operator.shape_in.Goals as goal

nth : (f : ℕ → Shape) (from n k : ℕ) → k < n → get_or (map f (numbers from n)) k Nothing ≡ f (from + k)
nth f from zero k lt = absurd (omega (arith, lt))
nth f from (suc n) zero lt = ap f (let same : from ≡ from + 0 = omega arith in same)
nth f from (suc n) (suc k) lt = nth f (from + 1) n k (omega (arith, lt)) ∙ ap f (let same : from + 1 + k ≡ from + suc k = omega arith in same)

of_all : (k : ℕ) → k < 256 → get_or operator_shapes k Nothing ≡ shape_of operator_rows k
unfolding operator_shapes
of_all k lt = nth (shape_of operator_rows) 0 256 k lt ∙ ap (shape_of operator_rows) (let same : 0 + k ≡ k = omega arith in same)

pub returns : goal.returns
returns c = subst (λ (all : List Shape). get_or all c.args.code Nothing ≡ shape_of operator_rows c.args.code) (sym c.requires) (of_all c.args.code c.ranges.code.fits)
