use Rattle.std.proofs.Common.{◌≡◌, ◌∙◌, ◌++◌, ◌∷◌, [], List, true, false, ap, append_assoc}
use Rattle.dwz_def_tops.specs.Spots.{EntryName}
use Rattle.dwz_layout_items.specs.Lines.{Line, line}
use Rattle.dwz_layout_items.specs.Order.{import_lines, order_lines}
use Rattle.dwz_layout_items.specs.Parts.{part_lines}
use Rattle.dwz_layout_items.proofs.KeptLemmas.{both_parts}
use Rattle.dwz_layout_items.proofs.LineLemmas.{order_one}
use Rattle.dwz_layout_items.proofs.kept.put_kept.Goals as goal

pub returns : goal.returns
returns c = λ v row s.
    let old : List (Line EntryName) = order_lines v.names c.args.order.now.items in
    let root : List (Line EntryName) = line 1 v.names.root ∷ [] in
    let p : List (Line EntryName) = part_lines v 2 true row in
    let q : List (Line EntryName) = part_lines v 2 false row in
    let last : List (Line EntryName) = import_lines v.names c.args.imports.now in
    let with_root : order_lines v.names c.push.new.self.items ≡ old ++ root = ap (order_lines v.names) c.in_ok-push.ensures.items ∙ order_one v.names c.args.order.now.items _ in
    let with_first : order_lines v.names c.put_part.new.order.items ≡ (old ++ root) ++ p = c.in_ok-put_part.ensures v row s ∙ ap (λ (w : List (Line EntryName)). w ++ p) with_root in
    let with_others : order_lines v.names c.put_part-2.new.order.items ≡ ((old ++ root) ++ p) ++ q = c.in_ok-put_part-2.ensures v row s ∙ ap (λ (w : List (Line EntryName)). w ++ q) with_first in
    let with_all : order_lines v.names c.put_imports.new.order.items ≡ (((old ++ root) ++ p) ++ q) ++ last = c.in_ok-put_imports.ensures v.names
    ∙ ap (λ (w : List (Line EntryName)). w ++ last) with_others in
    let grouped : (((old ++ root) ++ p) ++ q) ++ last ≡ old ++ (root ++ ((p ++ q) ++ last)) = simp append_assoc in
    with_all ∙ grouped ∙ ap (λ (w : List (Line EntryName)). old ++ (root ++ (w ++ last))) (both_parts v row)
