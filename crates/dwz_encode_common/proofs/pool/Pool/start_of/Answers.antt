use Rattle.dwz_encode_common.proofs.PoolNumbers.{start_found}
use Rattle.dwz_encode_common.proofs.pool.Pool.start_of.Goals as goal

pub returns : goal.returns
returns c = start_found c.self.inside.texts c.args.self.now c.args.text.now c.start_of.result c.self.view_is c.start_of.ensures
