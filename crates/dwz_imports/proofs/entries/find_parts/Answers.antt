use Rattle.std.specs.Option.{option_map}
use Rattle.std.proofs.lemmas.List.Filters.{dedup_is}
use Rattle.dwz_unit.specs.Rows.{units_of}
use Rattle.dwz_imports.specs.Said.{raw_beside}
use Rattle.dwz_imports.specs.Stored.{named_parts}
use Rattle.dwz_imports.proofs.NamedParts.{all_added, parts_rise}
use Rattle.dwz_imports.proofs.Numbers.{in_order}
use Rattle.dwz_imports.proofs.entries.find_parts.Goals as goal

pub returns : goal.returns
returns c = λ row found. (
    let own = units_of c.args.own.now in
    let common = raw_beside (option_map (λ u. u.now) c.args.common) in
    in_order c.put_named.new.parts.items c.sort_unstable.new.self.items c.dedup.new.self.items (named_parts own common c.args.at row.entry.attrs) c.sort_unstable.ensures.permutation
    c.sort_unstable.ensures.sorted (dedup_is _ _ _ c.dedup.ensures.filtered) (parts_rise own common c.args.at row.entry.attrs)
    (all_added own common c.args.at row.entry.attrs c.clear.new.self.items c.put_named.new.parts.items c.clear.ensures.items (c.in_ok-put_named.ensures row found)))
