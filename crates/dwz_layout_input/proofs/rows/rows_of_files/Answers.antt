use Rattle.std.proofs.Common.{◌≡◌, ◌+◌, ◌<◌, ℕ, Global, List, ◌∷◌, Vec, get_or, length, ap, ◌∙◌, arith}
use Rattle.std.proofs.lemmas.List.{get_or_default}
use Rattle.dwz_def_reading.proofs.ListFacts.{item_got}
use Rattle.dwz_def_reading.proofs.CaseFacts.{none_left}
use Rattle.dwz_layout.specs.declared.known.TextAt.{TextAt}
use Rattle.dwz_layout_input.proofs.RowSteps.{numbers_done, numbers_next, room_at, rows_done, rows_next, start_there, starts_many}
use Rattle.dwz_layout_input.proofs.rows.rows_of_files.Goals as goal

pub bounds-starts-number : goal.bounds-starts-number
bounds-starts-number c =
    let parts = ap (λ (w : List (Vec TextAt Global)). length w) c.in-Some.ensures.steps.0 in
    let going = c.loop-texts.invariant.rows.many in
    let many = c.requires.fit.many in
    start_there c.args.indexes.now c.args.starts.now c.loop-texts.number c.requires.starts (omega arith)

pub rows_of-requires-clause-fits : goal.rows_of-requires-clause-fits
rows_of-requires-clause-fits c =
    let n = c.loop-texts.number in
    let parts = ap (λ (w : List (Vec TextAt Global)). length w) c.in-Some.ensures.steps.0 in
    let going = c.loop-texts.invariant.rows.many in
    let many = c.requires.fit.many in
    c.requires.fit.each n c.index-files-number.result c.index-indexes-number.result (item_got c.args.files.now n c.index-files-number.result (omega arith) c.index-files-number.is)
    (item_got c.args.indexes.now n c.index-indexes-number.result (omega arith) c.index-indexes-number.is)

pub rows_of-requires-clause-few : goal.rows_of-requires-clause-few
rows_of-requires-clause-few c =
    let parts = ap (λ (w : List (Vec TextAt Global)). length w) c.in-Some.ensures.steps.0 in
    let going = c.loop-texts.invariant.rows.many in
    let many = c.requires.fit.many in
    room_at c.args.indexes.now c.args.starts.now c.loop-texts.number c.index-indexes-number.result c.requires.starts (omega arith) c.index-indexes-number.is c.requires.fit.few

pub loop-texts-preserved : goal.loop-texts-preserved
loop-texts-preserved c =
    let n = c.loop-texts.number in
    let starts = c.args.starts.now in
    let parts = ap (λ (w : List (Vec TextAt Global)). length w) c.in-Some.ensures.steps.0 in
    let going = c.loop-texts.invariant.rows.many in
    let many = c.requires.fit.many in
    let lt : n < length c.args.files.now = omega arith in
    let lti : n < length c.args.indexes.now = omega arith in
    let lts : n < length starts = start_there c.args.indexes.now starts n c.requires.starts lti in
    record {
      rows =
          rows_next c.args.files.now c.args.indexes.now c.args.plan.now c.args.tops.now starts c.args.all.items c.loop-texts.texts-iterator.rest.items c.next.new.self.rest.items n
          c.loop-texts.rows.items c.push.new.self.items c.index-files-number.result c.index-indexes-number.result (get_or starts n 0) c.in-Some.texts c.in_ok-row.row
          lt c.index-files-number.is lti c.index-indexes-number.is lts (get_or_default starts n 0 (get_or starts n 0) lts)
          c.in-Some.ensures.steps.0 c.in_ok-push.ensures.items (λ beside f p. c.in_ok-row.ensures.listed beside f p) c.loop-texts.invariant.rows;
      numbers =
          numbers_next c.args.numbers.items c.loop-texts.left.rest.items c.next-in-loop-texts.new.self.rest.items n (length c.args.files.now) c.loop-texts.rows.items c.push.new.self.items
          c.in_ok-row.row c.in-Some-next.numbers c.in-Some-next.ensures.items c.in_ok-push.ensures.items c.in_ok-row.ensures.numbers c.loop-texts.invariant.numbers;
    }

pub returns-clause-rows : goal.returns-clause-rows
returns-clause-rows c =
    rows_done c.args.files.now c.args.indexes.now c.args.plan.now c.args.tops.now c.args.starts.now c.args.all.items c.loop-texts.texts-iterator.rest.items c.loop-texts.number
    c.loop-texts.rows.items (omega (arith, c.loop-texts.texts-iterator.rest.ok, c.in-None.ensures.steps.0)) c.requires.fit.many
    (ap (λ (w : List ℕ). length w) c.requires.starts ∙ starts_many 0 c.args.indexes.now ∙ c.requires.fit.many) c.loop-texts.invariant.rows

pub returns-clause-numbers : goal.returns-clause-numbers
returns-clause-numbers c =
    let going = c.loop-texts.invariant.rows.many in
    numbers_done c.args.numbers.items c.loop-texts.left.rest.items c.loop-texts.number (length c.args.files.now) c.loop-texts.rows.items
    (omega (arith, c.loop-texts.texts-iterator.rest.ok, c.in-None.ensures.steps.0)) c.loop-texts.invariant.numbers

-- there are as many numbers as texts
none_out : {X : Type 0} (left : ℕ) (some more : List (Vec TextAt Global)) (n many : ℕ) (t : Vec TextAt Global) → left ≡ 0 → n + left ≡ many → some ≡ t ∷ more → n + length some ≡ many → X
none_out left some more n many t none here parts going = (let long = ap (λ (w : List (Vec TextAt Global)). length w) parts in absurd (omega arith))

pub returns-in_default-clause-rows : goal.returns-in_default-clause-rows
returns-in_default-clause-rows c =
    let none = none_left c.next-in-loop-texts.result _ c.next-in-loop-texts.ensures.variant c.in_default.not-Some in
    none_out (length c.loop-texts.left.rest.items) c.loop-texts.texts-iterator.rest.items c.next.new.self.rest.items c.loop-texts.number (length c.args.files.now) c.in-Some.texts
    (omega (arith, c.loop-texts.left.rest.ok, none)) c.loop-texts.invariant.numbers.many_left c.in-Some.ensures.steps.0 c.loop-texts.invariant.rows.many

pub returns-in_default-clause-numbers : goal.returns-in_default-clause-numbers
returns-in_default-clause-numbers c =
    let none = none_left c.next-in-loop-texts.result _ c.next-in-loop-texts.ensures.variant c.in_default.not-Some in
    none_out (length c.loop-texts.left.rest.items) c.loop-texts.texts-iterator.rest.items c.next.new.self.rest.items c.loop-texts.number (length c.args.files.now) c.in-Some.texts
    (omega (arith, c.loop-texts.left.rest.ok, none)) c.loop-texts.invariant.numbers.many_left c.in-Some.ensures.steps.0 c.loop-texts.invariant.rows.many
