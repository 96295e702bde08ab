use Rattle.std.proofs.Common.{◌≡◌, ◌<◌, ◌^◌, ℕ, List, All, length, map, ap, subst, sym, ◌∙◌, arith}
use Rattle.std.specs.List.{flat_map}
use Rattle.std.specs.Option.{option_map}
use Rattle.dwz_def_reading.specs.Units.{RawUnit}
use Rattle.dwz_groups.specs.declared.groups.Edge.{Edge}
use Rattle.dwz_groups.specs.Groups.{grouped}
use Rattle.dwz_groups.proofs.MarkLemmas.{grouped_length}
use Rattle.dwz_unit.specs.Rows.{rows_of, units_of}
use Rattle.dwz_imports.specs.Said.{raw_beside}
use Rattle.dwz_imports.specs.Stored.{once_each, row_edges, row_imports}
use Rattle.dwz_imports.proofs.RowParts.{edges_low, groups_low, units_few}
use Rattle.dwz_imports.proofs.Whole.{flags_are, lists_are, rows_within}
use Rattle.dwz_imports.proofs.imports.imports_of.Goals as goal

pub collect-requires : goal.collect-requires
collect-requires c =
    let own = units_of c.args.file.now.units in
    let common = raw_beside (option_map (λ f. f.now.units) c.args.common) in
    let one = units_few own in
    let two = units_few common in
    let same = ap (λ o. length (raw_beside o)) c.units_beside-common.ensures in
    omega (arith, one, two, same, c.requires.own, c.requires.common)

pub group-requires : goal.group-requires
group-requires c =
    let own = units_of c.args.file.now.units in
    let common = raw_beside (option_map (λ u. u.now) c.units_beside-common.result) in
    subst (λ (es : List Edge). All (λ (p : Edge). p.key < c.len.result) es) (sym (c.deref.ensures.value ∙ c.in_ok-found.ensures.edges))
    (subst (λ (n : ℕ). All (λ (p : Edge). p.key < n) (flat_map (row_edges own common) (rows_of own))) (sym c.len.ensures) (edges_low own common (rows_of own) (rows_within own)))

made : (own common : List RawUnit) (n : ℕ) (edges : List Edge) (all : List (List ℕ)) → n ≡ length own → edges ≡ flat_map (row_edges own common) (rows_of own) → all ≡ grouped n edges
    → all ≡ grouped (length own) (flat_map (row_edges own common) (rows_of own))
made own common n edges all len is e = e ∙ (λ i. grouped (len i) (is i))

pub each_once-requires : goal.each_once-requires
each_once-requires c =
    let own = units_of c.args.file.now.units in
    let common = raw_beside (option_map (λ u. u.now) c.units_beside-common.result) in
    let is = made own common c.len.result c.deref.result.now c.in_ok-all.all c.len.ensures (c.deref.ensures.value ∙ c.in_ok-found.ensures.edges) c.in_ok-all.ensures in
    let one = units_few own in
    let long = ap (λ (ls : List (List ℕ)). length ls) is ∙ grouped_length (length own) (flat_map (row_edges own common) (rows_of own)) in
    record {
      numbers = subst (λ (ls : List (List ℕ)). All (λ (list : List ℕ). All (λ k. k < c.unit_count.result) list) ls) (sym is)
          (groups_low own common (rows_of own) c.unit_count.result (length own) c.unit_count.ensures);
      room = omega (arith, one, long, c.requires.own);
    }

pub returns : goal.returns
returns c =
    let own = units_of c.args.file.now.units in
    let common = raw_beside (option_map (λ u. u.now) c.units_beside-common.result) in
    let o = option_map (λ f. f.now.units) c.args.common in
    let same = c.units_beside-common.ensures in
    let is = made own common c.len.result c.deref.result.now c.in_ok-all.all c.len.ensures (c.deref.ensures.value ∙ c.in_ok-found.ensures.edges) c.in_ok-all.ensures in
    let lists = c.in_ok-units.ensures ∙ ap (map once_each) (is ∙ ap (λ w. grouped (length own) (flat_map (row_edges own (raw_beside w)) (rows_of own))) same) in
    let flags = c.new.ensures ∙ c.in_ok-found.ensures.importing ∙ ap (λ w. map (row_imports own (raw_beside w)) (rows_of own)) same in
    let short : length c.args.file.now.units.info < 2 ^ 32 = subst (λ (bytes : List ℕ). length bytes < 2 ^ 32) c.info-info.ensures.bytes c.info-info.ensures.short in
    record {
      units = λ w says. lists_are c.args.file.now.units o short w says c.in_ok-units.units lists;
      importing = λ w says. flags_are c.args.file.now.units o short w says c.new.result flags;
    }
