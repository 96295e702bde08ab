use Rattle.std.proofs.Common.{ℕ, List, Option, Some, sym, ap, subst, ◌∙◌}
use Rattle.dwz_def_reading.specs.ElfReading.{ElfView, elf_of}
use Rattle.dwz_elf.specs.Rebuilds.{Finishes, RebuildView}
use Rattle.dwz_def_output.specs.Changed.{CanGive}
use Rattle.dwz_expand_file.specs.Giving.{IsThere, given}
use Rattle.dwz_expand_file.proofs.AnswerLemmas.{all_given, there}
use Rattle.dwz_expand_file.proofs.made.rebuild_file.Goals as goal

pub returns : goal.returns
returns c can =
    let s = c.args.sections in
    let input = c.args.bytes.now in
    let is_there : (code : ℕ) (bytes : Option (List ℕ)) → CanGive input code bytes → IsThere c.args.elf.now code bytes = λ code bytes give.
    subst (λ (e : ElfView). IsThere e code bytes) (sym c.requires) (there input code bytes give) in
    let ranges = c.in_ok-give.ensures.given (is_there 8 s.aranges can.ranges) in
    let lists = c.in_ok-give-2.ensures.given (is_there 7 s.loclists can.lists) in
    let line = c.in_ok-give-3.ensures.given (is_there 6 s.line can.line) in
    let offsets = c.in_ok-give-4.ensures.given (is_there 5 s.offsets can.offsets) in
    let strs = c.in_ok-give-5.ensures.given (is_there 3 s.strs can.strs) in
    let abbrevs = c.in_ok-give-6.ensures.given (is_there 2 (Some s.abbrev) can.abbrevs) in
    let info = c.in_ok-give-7.ensures.given (is_there 1 (Some s.info) can.info) in
    let all =
    info
    ∙ ap (given 1 (Some s.info)) (abbrevs
    ∙ ap (given 2 (Some s.abbrev)) (strs
    ∙ ap (given 3 s.strs) (offsets
    ∙ ap (given 5 s.offsets) (line
    ∙ ap (given 6 s.line) (lists
    ∙ ap (given 7 s.loclists) ranges))))) in
    let start = c.new-rebuild.ensures in
    let is = all_given (elf_of input) s c.new-rebuild.result (start.file ∙ c.requires) start.none start.no_sup in
    subst (λ (v : RebuildView). Finishes (λ out. out.items) v input c.finish.result) (all ∙ is) c.finish.ensures
