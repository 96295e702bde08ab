use Rattle.std.proofs.Common.{◌≡◌, ℕ, ◌≤◌, List, length, None, sym, ap, arith}
use Rattle.std.proofs.lemmas.List.{drop_all}
use Rattle.dwz_def_reading.specs.Texts.{text_at, text_in}
use Rattle.dwz_graph_resolve.proofs.sections.text_in.Goals as goal

none_behind : (section : List ℕ) (offset : ℕ) → length section ≤ offset → text_at section offset ≡ None
unfolding text_in
none_behind section offset l = ap text_in (drop_all offset section l)

pub returns-then-offset : goal.returns-then-offset
returns-then-offset c = sym ((none_behind c.args.section.now c.args.offset (let l = c.type_inv.section in let h = c.if-offset.true in omega arith)))
