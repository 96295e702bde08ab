use Rattle.dwz_expand_layout.specs.Shown.{keys_of}
use Rattle.dwz_expand_passes.specs.Numbered.{key_in}
use Rattle.dwz_expand_passes.proofs.copied.next_source.Goals as goal

pub returns : goal.returns
returns c = (c.in_ok-entry.ensures, record { tag = c.head_of.ensures.tag; is = λ w stands know l found. c.head_of.ensures.is w (keys_of (key_in w)) stands know l found })
