use Rattle.std.proofs.Common.{ℕ, List}
use Rattle.dwz_nodes.specs.Mentions.{part_key}
use Rattle.dwz_rounds.proofs.Grouping.{is-grouped, are-same, same-length}
use Rattle.dwz_rounds.proofs.Mentioned.{part-number}
use Rattle.dwz_rounds.proofs.pass.group_nodes.Goals as goal

pub returns-clause-grouped : goal.returns-clause-grouped
returns-clause-grouped c =
    let numbers : List ℕ = c.args.numbers.now in
    let ms = c.args.mentions.now in
    let e = c.in_ok-groups.ensures in
    is-grouped (part_key numbers ms) numbers c.args.visit.now (part-number numbers ms) c.fill_parts.new.keys
    c.in_ok-rows.rows.items e.0 c.in_ok-groups.groups.nodes.items c.in_ok-groups.groups.news.items c.in_ok-fill_parts.ensures c.in_ok-rows.ensures.nodes c.in_ok-rows.ensures.keys e.1 e.2

pub returns-clause-same : goal.returns-clause-same
returns-clause-same c =
    let numbers : List ℕ = c.args.numbers.now in
    let ms = c.args.mentions.now in
    let e = c.in_ok-groups.ensures in
    are-same (part_key numbers ms) numbers c.args.visit.now (part-number numbers ms) c.fill_parts.new.keys
    c.in_ok-rows.rows.items e.0 c.in_ok-groups.groups.nodes.items c.in_ok-groups.groups.news.items c.in_ok-fill_parts.ensures c.in_ok-rows.ensures.nodes c.in_ok-rows.ensures.keys e.1 e.2

pub returns-clause-len : goal.returns-clause-len
returns-clause-len c =
    let numbers : List ℕ = c.args.numbers.now in
    let ms = c.args.mentions.now in
    let e = c.in_ok-groups.ensures in
    same-length (part_key numbers ms) numbers c.args.visit.now (part-number numbers ms) c.fill_parts.new.keys
    c.in_ok-rows.rows.items e.0 c.in_ok-groups.groups.nodes.items c.in_ok-groups.groups.news.items c.in_ok-fill_parts.ensures c.in_ok-rows.ensures.nodes c.in_ok-rows.ensures.keys e.1 e.2
