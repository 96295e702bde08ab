use Rattle.std.proofs.Common.{◌≡◌, ◌<◌, ◌↔◌, ℕ, All, List, [], length, ap, sym, subst, ◌∙◌}
use Rattle.dwz_def_reading.proofs.CaseFacts.{if_ok}
use Rattle.dwz_def_reading.specs.Lists.{In}
use Rattle.dwz_def_taken.specs.Beside.{reused_of}
use Rattle.dwz_def_taken.specs.Takes.{PartRefers}
use Rattle.dwz_groups.specs.declared.groups.Edge.{Edge}
use Rattle.dwz_groups.specs.Groups.{grouped}
use Rattle.dwz_groups.proofs.MarkLemmas.{grouped_length}
use Rattle.dwz_takes.specs.Takes.{AreBelow, list_at}
use Rattle.dwz_reuse.proofs.PartRefs.{edges_put, keys_low, known, room, targets_low, targets_refer}
use Rattle.dwz_reuse.proofs.parts.part_targets.Goals as goal

pub units_of_refs-requires : goal.units_of_refs-requires
units_of_refs-requires c =
    let f = c.args.common.now in
    known [] f c.requires.said.0 c.requires.said.1 c.as_slice.result.now c.as_slice.ensures.value

pub group-requires : goal.group-requires
group-requires c =
    let doc = c.requires.said.0 in
    let s = c.requires.said.1 in
    let f = c.args.common.now in
    let e = edges_put [] f doc s c.as_slice.result.now c.as_slice.ensures.value c.in_ok-into.into.items c.in_ok-into.ensures c.as_slice-2.result.now c.as_slice-2.ensures.value
    c.as_slice-3.result.now c.as_slice-3.ensures.value c.new-edges.result.items c.new-edges.ensures.items c.put_units.new.edges.items c.in_ok-put_units.ensures in
    subst (λ (w : List Edge). All (λ e. e.key < c.args.parts) w) (sym c.as_slice-4.ensures.value)
    (keys_low [] doc s.partial s.parts c.args.parts (room [] f doc s c.args.parts c.requires.parts) c.put_units.new.edges.items e)

pub returns-clause-refers : goal.returns-clause-refers
returns-clause-refers c = λ docs doc s. (
    let f = c.args.common.now in
    let edges = c.put_units.new.edges.items in
    let e = edges_put docs f doc s c.as_slice.result.now c.as_slice.ensures.value c.in_ok-into.into.items c.in_ok-into.ensures c.as_slice-2.result.now c.as_slice-2.ensures.value
    c.as_slice-3.result.now c.as_slice-3.ensures.value c.new-edges.result.items c.new-edges.ensures.items edges c.in_ok-put_units.ensures in
    if_ok c.group.result (λ g. g ≡ grouped c.args.parts c.as_slice-4.result.now) (λ g. (p q : ℕ) → In q (list_at g p) ↔ PartRefers (reused_of docs doc) p q)
    (λ g is. targets_refer docs doc s.partial s.parts c.args.parts (room [] f doc s c.args.parts c.requires.parts) edges e g
    (is ∙ ap (grouped c.args.parts) c.as_slice-4.ensures.value)) c.group.ensures)

pub returns-clause-len : goal.returns-clause-len
returns-clause-len c = if_ok c.group.result (λ g. g ≡ grouped c.args.parts c.as_slice-4.result.now) (λ g. length g ≡ c.args.parts)
    (λ g is. ap (λ (w : List (List ℕ)). length w) is ∙ grouped_length c.args.parts c.as_slice-4.result.now) c.group.ensures

pub returns-clause-below : goal.returns-clause-below
returns-clause-below c =
    let doc = c.requires.said.0 in
    let s = c.requires.said.1 in
    let f = c.args.common.now in
    let edges = c.put_units.new.edges.items in
    let e = edges_put [] f doc s c.as_slice.result.now c.as_slice.ensures.value c.in_ok-into.into.items c.in_ok-into.ensures c.as_slice-2.result.now c.as_slice-2.ensures.value
    c.as_slice-3.result.now c.as_slice-3.ensures.value c.new-edges.result.items c.new-edges.ensures.items edges c.in_ok-put_units.ensures in
    if_ok c.group.result (λ g. g ≡ grouped c.args.parts c.as_slice-4.result.now) (AreBelow c.args.parts)
    (λ g is. targets_low [] doc s.partial s.parts c.args.parts (room [] f doc s c.args.parts c.requires.parts) edges e g
    (is ∙ ap (grouped c.args.parts) c.as_slice-4.ensures.value)) c.group.ensures
