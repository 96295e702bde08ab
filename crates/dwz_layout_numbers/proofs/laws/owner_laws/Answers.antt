use Rattle.dwz_layout_numbers.proofs.OwnerLemmas.{owned}
use Rattle.dwz_layout_numbers.proofs.laws.owner_laws.Goals as goal

pub returns : goal.returns
returns c = λ docs m planned written commons parts olds moved file x start f is_written around raw means. owned docs m planned written commons parts olds moved file x start f
    is_written around raw means
