use Rattle.dwz_encode_common.proofs.PoolNumbers.{number_found}
use Rattle.dwz_encode_common.proofs.pool.Pool.find.Goals as goal

pub returns : goal.returns
returns c = number_found c.self.inside.texts c.args.self.now c.args.text.now c.find.result c.self.view_is c.find.ensures
