use Rattle.std.proofs.Common.{◌≡◌, ◌∙◌, ◌-◌, ℕ, ap}
use Rattle.dwz_encode.proofs.ValueLemmas.{put_mapped}
use Rattle.dwz_expand_layout.specs.Written.{numbers_view}
use Rattle.dwz_expand_layout.proofs.ByteLemmas.{header_put}
use Rattle.dwz_expand_layout.proofs.writing.put_header.Goals as goal

pub returns : goal.returns
returns c =
    let size : c.saturating_sub-2.result ≡ c.args.unit.now.end - c.args.unit.now.at - 4 = c.saturating_sub-2.ensures ∙ ap (λ (n : ℕ). n - 4) c.saturating_sub.ensures in
    put_mapped c.put_kind.result
    (header_put (numbers_view c.args.numbers) c.args.kind c.args.unit.now c.args.out.now.items c.put_four.new.out.items c.extend_from_slice.new.self.items c.put_four-2.new.out.items
    c.put_kind.new.out.items c.saturating_sub-2.result c.type_of.result
    size c.type_of.ensures c.in_ok-put_four.ensures c.in_ok-extend_from_slice.ensures.items c.in_ok-put_four-2.ensures) c.put_kind.ensures
