use Rattle.std.proofs.Common.{◌≡◌, ℕ, ◌+◌, ◌<◌, ◌≤◌, All, List, length, map, replicate, sym, ap, subst, ◌∙◌, arith, rules}
use Rattle.std.specs.Vec.{with_items}
use Rattle.std.proofs.lemmas.List.{length-map, length-replicate, take_all, with_items_is}
use Rattle.std.proofs.lemmas.List.Elements.{All-replicate}
use Rattle.dwz_def_reading.proofs.CaseFacts.{if_ok}
use Rattle.dwz_groups.specs.declared.groups.Edge.{Edge}
use Rattle.dwz_groups.specs.Groups.{grouped}
use Rattle.dwz_imports.specs.Stored.{edges_of, once_each}
use Rattle.dwz_imports.proofs.Grouped.{grouped_back, keys_low}
use Rattle.dwz_imports.proofs.OnceLemmas.{edges_next, no_edges}
use Rattle.dwz_imports.proofs.once.each_once.Goals as goal

pub loop-key-init : goal.loop-key-init
loop-key-init c =
    let zeros : c.in_ok-marks.marks.items ≡ replicate c.args.count 0 = search rules in
    record {
      edges = c.new-edges.ensures.items ∙ no_edges;
      len = ap (λ (ms : List ℕ). length ms) zeros ∙ length-replicate c.args.count 0;
      low = subst (λ (ms : List ℕ). All (λ m. m ≤ 0) ms) (sym zeros) (All-replicate (λ m. m ≤ 0) c.args.count 0 (omega arith));
    }

pub loop-key-preserved : goal.loop-key-preserved
loop-key-preserved c =
    let same : (with_items c.loop-key.marks c.put_once.new.marks).items ≡ c.put_once.new.marks = with_items_is c.loop-key.marks c.put_once.new.marks (omega
    (arith, c.put_once.auto.marks, c.deref_mut.ensures.len, ap (λ (ms : List ℕ). length ms) c.deref_mut.ensures.value)) in
    record {
      edges = edges_next c.loop-key.key c.args.groups.now c.loop-key.edges.items c.put_once.new.edges.items c.get.result.now (omega
          (arith, c.loop-key-test.true, c.len-key-end.ensures)) c.get.ensures c.loop-key.invariant.edges c.in_ok-put_once.ensures.edges;
      len = ap (λ (ms : List ℕ). length ms) same ∙ omega (arith, c.put_once.auto.marks, ap (λ (ms : List ℕ). length ms) c.deref_mut.ensures.value, c.loop-key.invariant.len);
      low = subst (λ (ms : List ℕ). All (λ m. m ≤ c.loop-key.key + 1) ms) (sym same) c.put_once.ensures.marks;
    }

pub group-requires : goal.group-requires
group-requires c =
    let lists : List (List ℕ) = map once_each c.args.groups.now in
    let edges : c.deref.result.now ≡ edges_of 0 lists =
    c.deref.ensures.value ∙ c.loop-key.invariant.edges ∙ ap (λ (ls : List (List ℕ)). edges_of 0 (map once_each ls)) (take_all c.loop-key.key c.args.groups.now (omega
    (arith, c.loop-key-test.false, c.len-key-end.ensures))) in
    subst (λ (es : List Edge). All (λ (p : Edge). p.key < c.len.result) es) (sym edges) (keys_low lists c.len.result (length-map c.args.groups.now once_each ∙ sym c.len.ensures))

pub returns : goal.returns
returns c =
    let lists : List (List ℕ) = map once_each c.args.groups.now in
    let edges : c.deref.result.now ≡ edges_of 0 lists =
    c.deref.ensures.value ∙ c.loop-key.invariant.edges ∙ ap (λ (ls : List (List ℕ)). edges_of 0 (map once_each ls)) (take_all c.loop-key.key c.args.groups.now (omega
    (arith, c.loop-key-test.false, c.len-key-end.ensures))) in
    let long : c.len.result ≡ length lists = c.len.ensures ∙ sym (length-map c.args.groups.now once_each) in
    let made : grouped c.len.result c.deref.result.now ≡ lists = (λ i. grouped (long i) (edges i)) ∙ grouped_back lists in
    if_ok c.group.result (λ (ls : List (List ℕ)). ls ≡ grouped c.len.result c.deref.result.now) (λ (ls : List (List ℕ)). ls ≡ lists) (λ ls is. is ∙ made) c.group.ensures
