use Rattle.dwz_abbrev.proofs.PairLemmas.{byte_left, uleb_left}
use Rattle.dwz_abbrev.proofs.reading.declaration.Goals as goal

pub part_at-requires : goal.part_at-requires
part_at-requires c =
    let section = c.args.pairs.now.section in
    let code = uleb_left section c.args.cursor.now c.uleb.new.self c.uleb.result c.uleb.ensures c.requires in
    let tag = uleb_left section c.uleb.new.self c.uleb-2.new.self c.uleb-2.result c.uleb-2.ensures code in
    byte_left section c.uleb-2.new.self c.u8.new.self c.u8.result c.u8.ensures tag
