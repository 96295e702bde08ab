use Rattle.std.proofs.Common.{List, ℕ, length, ap, arith}
use Rattle.dwz_nodes.proofs.Parts.{length-parts_of}
use Rattle.dwz_nodes.proofs.keys.Keys.len.Goals as goal

pub returns : goal.returns
returns c = let e = length-parts_of 0 c.self.inside.ends.items c.self.inside.words.items in let v = ap (λ (g : List (List ℕ)). length g) c.self.view_is in omega arith
