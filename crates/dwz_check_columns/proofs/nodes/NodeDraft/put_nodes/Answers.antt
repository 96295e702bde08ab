use Rattle.std.proofs.Common.{◌≡◌, ◌<◌, ◌++◌, ℕ, All, false, List, length, map, get_or, sym, ap, subst, ◌∙◌}
use Rattle.std.specs.Prelude.{not}
use Rattle.dwz_check_index.specs.declared.index.TopEntry.{TopEntry}
use Rattle.dwz_check_columns.proofs.NodePuts.{entries_low, lone_low, lone_put, outers_low, plain_put, tops_put}
use Rattle.dwz_check_columns.proofs.nodes.NodeDraft.put_nodes.Goals as goal

pub put_outer-requires : goal.put_outer-requires
put_outer-requires c =
    let r = c.requires.said in
    let many = length c.as_slice.result.now in
    let len : many ≡ length c.args.side.now.index.now.steps = ap (λ (w : List ℕ). length w) c.as_slice.ensures.value ∙ c.in_ok-numbers.ensures.len in
    subst (λ (ts : List TopEntry). All (λ (t : TopEntry). t.outer < many) ts) (sym c.tops-tops.ensures) (outers_low c.args.side.now r.0 r.1 r.2 many len)

pub put_plain-requires : goal.put_plain-requires
put_plain-requires c =
    let r = c.requires.said in
    let many = length c.args.importing.now in
    subst (λ (ts : List TopEntry). All (λ (t : TopEntry). t.entry < many) ts) (sym c.tops-tops.ensures) (entries_low c.args.side.now r.0 r.1 r.2 many c.requires.flags)

pub put_numbers-requires : goal.put_numbers-requires
put_numbers-requires c =
    let r = c.requires.said in
    let many = length c.as_slice-2.result.now in
    let len : many ≡ length c.args.side.now.index.now.steps = ap (λ (w : List ℕ). length w) c.as_slice-2.ensures.value ∙ c.in_ok-numbers.ensures.len in
    subst (λ (is : List ℕ). All (λ (i : ℕ). i < many) is) (sym c.lone.ensures) (lone_low c.args.side.now r.0 r.1 r.2 many len)

pub returns-clause-tops : goal.returns-clause-tops
returns-clause-tops c = λ said starts side.
    tops_put c.args.side.now said starts side c.space_lists.new.known c.in_ok-numbers.numbers.items c.in_ok-numbers.ensures.len (c.in_ok-numbers.ensures.numbers said starts side)
    c.args.self.now.tops.items c.put_outer.new.names.items
    (c.in_ok-put_outer.ensures ∙ (λ i. c.args.self.now.tops.items ++ map (λ (t : TopEntry). get_or (c.as_slice.ensures.value i) t.outer 0) (c.tops-tops.ensures i)))

pub returns-clause-plain : goal.returns-clause-plain
returns-clause-plain c = λ said units starts side are.
    plain_put c.args.side.now said starts side units c.args.importing.now c.args.self.now.plain.items c.put_plain.new.plain.items are
    (c.in_ok-put_plain.ensures ∙ ap (λ (ts : List TopEntry). c.args.self.now.plain.items ++ map (λ (t : TopEntry). not (get_or c.args.importing.now t.entry false)) ts) c.tops-tops.ensures)

pub returns-clause-lone : goal.returns-clause-lone
returns-clause-lone c = λ said starts side.
    lone_put c.args.side.now said starts side c.space_lists.new.known c.in_ok-numbers.numbers.items c.in_ok-numbers.ensures.len (c.in_ok-numbers.ensures.numbers said starts side)
    c.args.self.now.lone.items c.put_numbers.new.names.items
    (c.in_ok-put_numbers.ensures ∙ (λ i. c.args.self.now.lone.items ++ map (λ (k : ℕ). get_or (c.as_slice-2.ensures.value i) k 0) (c.lone.ensures i)))
