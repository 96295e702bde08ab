use Rattle.std.proofs.Common.{◌≡◌, ◌<◌, All, List, length, sym, subst, ◌∙◌, arith}
use Rattle.std.proofs.lemmas.Result.{IfOk-weaker}
use Rattle.dwz_groups.specs.declared.groups.Edge.{Edge}
use Rattle.dwz_groups.specs.Groups.{grouped}
use Rattle.dwz_move_files.proofs.outline.targets_of.Goals as goal

pub group-requires : goal.group-requires
group-requires c =
    let draft = c.args.draft.now in
    let len : length draft.rows.items ≡ c.len.result = omega (arith, c.len.ensures, draft.rows.ok.0) in
    let low = subst (λ n. All (λ p. p.key < n) draft.pairs.items) len c.requires in
    subst (λ (w : List Edge). All (λ p. p.key < c.len.result) w) (sym c.as_slice.ensures.value) low

pub returns : goal.returns
returns c =
    let draft = c.args.draft.now in
    let len : c.len.result ≡ length draft.rows.items = omega (arith, c.len.ensures, draft.rows.ok.0) in
    IfOk-weaker c.group.result _ _ (λ targets is. is ∙ (λ i. grouped (len i) (c.as_slice.ensures.value i))) c.group.ensures
