-- What stands in a list.
use Rattle.std.proofs.Common.{ℕ, Contains, List, sym, ◌∙◌}
use Rattle.std.proofs.lemmas.List.{get_or_default}
use Rattle.dwz_nodes.specs.Among.{Among}

pub among-from : (xs : List ℕ) (a : ℕ) → Contains xs a → Among xs a
among-from xs a c = let l = c.1 in (c.0, l, sym (get_or_default xs c.0 a 0 l) ∙ c.2)

pub among-to : (xs : List ℕ) (a : ℕ) → Among xs a → Contains xs a
among-to xs a c = let l = c.1 in (c.0, l, get_or_default xs c.0 a 0 l ∙ c.2)
