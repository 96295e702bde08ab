use Rattle.std.proofs.Common.{IsTrue}
use Rattle.dwz_label_differences.proofs.TopLemmas.{entries_first, entries_second, languages_told, names_told}
use Rattle.dwz_label_differences.proofs.what.what_differs.Goals as goal

pub returns-then-not-are_same : goal.returns-then-not-are_same
returns-then-not-are_same c = λ x y a b short same. (
    let t = languages_told x y c.args.a.now c.args.b.now c.after_language-a_place.result.now c.after_language-b_place.result.now a b c.after_language-a_place.ensures c.after_language-b_place.ensures
    (IsTrue c.are_same.result) c.are_same.ensures in
    let is = t.1 same in
    let no = c.if-not-are_same.true in
    absurd cc)

pub returns-then-not-are_same-2 : goal.returns-then-not-are_same-2
returns-then-not-are_same-2 c = λ x y a b short. (
    let t = languages_told x y c.args.a.now c.args.b.now c.after_language-a_place.result.now c.after_language-b_place.result.now a b c.after_language-a_place.ensures c.after_language-b_place.ensures
    (IsTrue c.are_same.result) c.are_same.ensures in
    let n = names_told x y c.args.a.now c.args.b.now c.after_language-a_place.result.now c.after_language-b_place.result.now a b c.after_language-a_place.ensures c.after_language-b_place.ensures
    c.after_names-a_entries.result.now c.after_names-b_entries.result.now c.after_names-a_entries.ensures c.after_names-b_entries.ensures (IsTrue c.are_same-2.result) c.are_same-2.ensures in (
      t.0 c.if-not-are_same.false,
      λ same. (
          let is = n.1 same in
          let no = c.if-not-are_same-2.true in
          absurd cc),
    ))

pub returns : goal.returns
returns c = λ x y a b short. (
    let t = languages_told x y c.args.a.now c.args.b.now c.after_language-a_place.result.now c.after_language-b_place.result.now a b c.after_language-a_place.ensures c.after_language-b_place.ensures
    (IsTrue c.are_same.result) c.are_same.ensures in
    let n = names_told x y c.args.a.now c.args.b.now c.after_language-a_place.result.now c.after_language-b_place.result.now a b c.after_language-a_place.ensures c.after_language-b_place.ensures
    c.after_names-a_entries.result.now c.after_names-b_entries.result.now c.after_names-a_entries.ensures c.after_names-b_entries.ensures (IsTrue c.are_same-2.result) c.are_same-2.ensures in
    c.entries_differ.ensures x y
    (entries_first x y c.args.a.now c.args.b.now c.after_language-a_place.result.now c.after_language-b_place.result.now a b c.after_language-a_place.ensures c.after_language-b_place.ensures
    c.after_names-a_entries.result.now c.after_names-b_entries.result.now c.after_names-a_entries.ensures c.after_names-b_entries.ensures)
    (entries_second x y c.args.a.now c.args.b.now c.after_language-a_place.result.now c.after_language-b_place.result.now a b c.after_language-a_place.ensures c.after_language-b_place.ensures
    c.after_names-a_entries.result.now c.after_names-b_entries.result.now c.after_names-a_entries.ensures c.after_names-b_entries.ensures)
    short (t.0 c.if-not-are_same.false, n.0 c.if-not-are_same-2.false))
