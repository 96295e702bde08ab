use Rattle.dwz_graph.proofs.PartLemmas.{part_meant}
use Rattle.dwz_graph.proofs.flat.part_laws.Goals as goal

pub returns : goal.returns
returns c around raw refs starts n u i end rows after ds parted low is_unit own found count means = part_meant around raw refs starts parted low n u is_unit i end rows after ds own found count means
