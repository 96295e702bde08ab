use Rattle.std.proofs.Common.{ℕ, None, Some, refl, sym, subst, ◌∙◌}
use Rattle.dwz_expand_sources.specs.Copies.{IsCopyFor}
use Rattle.dwz_expand_passes.specs.Files.{around_beside, common_of, raw_in}
use Rattle.dwz_expand_passes.proofs.KindLemmas.{copy_named, main_stands, main_there, raw_unit}
use Rattle.dwz_expand_passes.proofs.SaidLemmas.{all_many}
use Rattle.dwz_expand_passes.proofs.kinds.main_copy.Goals as goal

pub returns-in-None : goal.returns-in-None
returns-in-None c = λ w stands u signature k says found kind there. (
    let f = c.args.file.now in
    let raw = raw_in f.own in
    let around = around_beside f.own (common_of f.common) in
    let r = raw_unit w raw around says.own.means refl c.args.unit u c.requires.unit found in
    absurd (main_there w raw around says.own.means refl r.0 u signature k r.2 kind (c.in-None.ensures.main r.0 r.1)))

pub returns-in-Some-copy_of : goal.returns-in-Some-copy_of
returns-in-Some-copy_of c = λ w stands u signature k says found kind there. (
    let f = c.args.file.now in
    let raw = raw_in f.own in
    let around = around_beside f.own (common_of f.common) in
    let n = c.args.copies.now.unit in
    let r = raw_unit w raw around says.own.means refl c.args.unit u c.requires.unit found in
    let at = main_stands w raw around says.own.means refl r.0 u signature k c.in-Some.entry r.2 kind c.in-Some.ensures.within (c.in-Some.ensures.main r.0 r.1) in
    let answer = c.in-Some-copy_of.ensures w f.sources.now c.requires.copies.0 says.are says.apart c.requires.copies.1 (all_many f w stands says ∙ sym c.requires.many) c.requires.there at.0 at.1 in
    copy_named w n k (Some c.in-Some-copy_of.copy) there (subst (λ (p : ℕ). IsCopyFor w n p (Some c.in-Some-copy_of.copy)) at.2 answer))

pub returns-in-None-copy_of : goal.returns-in-None-copy_of
returns-in-None-copy_of c = λ w stands u signature k says found kind there. (
    let f = c.args.file.now in
    let raw = raw_in f.own in
    let around = around_beside f.own (common_of f.common) in
    let n = c.args.copies.now.unit in
    let r = raw_unit w raw around says.own.means refl c.args.unit u c.requires.unit found in
    let at = main_stands w raw around says.own.means refl r.0 u signature k c.in-Some.entry r.2 kind c.in-Some.ensures.within (c.in-Some.ensures.main r.0 r.1) in
    let answer = c.in-None-copy_of.ensures w f.sources.now c.requires.copies.0 says.are says.apart c.requires.copies.1 (all_many f w stands says ∙ sym c.requires.many) c.requires.there at.0 at.1 in
    copy_named w n k None there (subst (λ (p : ℕ). IsCopyFor w n p None) at.2 answer))
