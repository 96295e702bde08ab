-- A common file that a graph has, or that stands beside it.
use Rattle.std.specs.Prelude.{ℕ, List}
use Rattle.dwz_graph.specs.declared.common_file.HeldCommon.{HeldCommon}
use Rattle.dwz_graph.specs.declared.common_file.HeldCommon.TheVariants.{Own, Lent}
use Rattle.dwz_graph.specs.Files.{CommonRead}

abbrev pub held : HeldCommon → CommonRead
held (Own c) = c
held (Lent c) = c.now

abbrev pub held_bytes : HeldCommon → List ℕ
held_bytes h = (held h).bytes
