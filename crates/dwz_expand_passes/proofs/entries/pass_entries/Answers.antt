use Rattle.std.proofs.Common.{◌≡◌, ℕ, List, [], ◌∷◌, ◌++◌, ◌<◌, refl, sym, ap, subst, ◌∙◌, append_assoc}
use Rattle.std.proofs.lemmas.List.{append-nil}
use Rattle.std.proofs.lemmas.Result.{err_from_is_err_and}
use Rattle.dwz_expand_layout.specs.Depths.{with_ends}
use Rattle.dwz_expand_layout.specs.Entries.{NewLine, line_view}
use Rattle.dwz_expand_layout.specs.Shown.{keys_of}
use Rattle.dwz_expand_layout.specs.declared.entries.NewOperand.{NewOperand}
use Rattle.dwz_expand_passes.specs.Numbered.{key_in}
use Rattle.dwz_expand_passes.specs.Files.{SpeaksEntry, entry_count}
use Rattle.dwz_expand_passes.specs.Noted.{Noted, noted_of}
use Rattle.dwz_expand_passes.proofs.NotedLemmas.{none_noted, noted_none, noted_some, one_noted}
use Rattle.dwz_expand_passes.specs.Steps.{copied_deep, depth_at, lines_before, rest_of}
use Rattle.dwz_expand_passes.proofs.ReferLemmas.{no_roots}
use Rattle.dwz_expand_passes.proofs.StepLemmas.{at_none, at_some, lines_are, lines_push, none_passed, one_passed, refuses_at, rest_each, rest_is, source_is}
use Rattle.dwz_expand_passes.proofs.entries.pass_entries.Goals as goal

pub loop-next-init : goal.loop-next-init
loop-next-init g c =
    let x = c.args.known.now in
    let s = c.next_source-next in
    record {
      source = source_is x s.result c.args.walk.now s.new.walk s.ensures;
      deep = [];
      passed = none_passed x c.args.walk.now (rest_of s.result s.new.walk) (rest_is x s.result c.args.walk.now s.new.walk s.ensures);
      state = λ made units kind start. start;
      given = [];
      noted = none_noted x c.args.walk.now (rest_of s.result s.new.walk) (rest_is x s.result c.args.walk.now s.new.walk s.ensures);
      told = λ before start. subst (λ (all : List Noted). g.P.Pass.noted c.args.pass.now all) (sym (append-nil before)) start;
    }

pub next_source-next-requires-in-Some-clause-there :
    goal.next_source-next-requires-in-Some-clause-there
next_source-next-requires-in-Some-clause-there g c =
    let x = c.args.known.now in
    let s = c.in-Some.source in
    let i = c.loop-next.invariant in
    (rest_each (λ n. n < entry_count x) x c.args.walk.now (s.entry ∷ c.loop-next.walk) i.deep c.requires.there
    (at_some x c.args.walk.now c.loop-next.next c.loop-next.walk i.deep s c.in-Some.is i.passed)).1

pub copy-requires-clause-there : goal.copy-requires-clause-there
copy-requires-clause-there g c =
    let x = c.args.known.now in
    let s = c.in-Some.source in
    let i = c.loop-next.invariant in
    (rest_each (λ n. n < entry_count x) x c.args.walk.now (s.entry ∷ c.loop-next.walk) i.deep c.requires.there
    (at_some x c.args.walk.now c.loop-next.next c.loop-next.walk i.deep s c.in-Some.is i.passed)).0

pub returns-in_err-copy-clause-refused : goal.returns-in_err-copy-clause-refused
returns-in_err-copy-clause-refused g c =
    let x = c.args.known.now in
    let s = c.in-Some.source in
    let i = c.loop-next.invariant in
    let e = err_from_is_err_and c.from_residual.result c.from_residual.ensures.1 in
    rw (e.1, e.2) (refuses_at (Unit {0}) x c.args.walk.now s.entry c.loop-next.walk i.deep (copied_deep s.head.depth c.copy.new.self) c.in_err-copy.field-0.0
    (at_some x c.args.walk.now c.loop-next.next c.loop-next.walk i.deep s c.in-Some.is i.passed) (λ w stands l know found. c.in_err-copy.ensures.copies w stands l know found))

pub loop-next-preserved : goal.loop-next-preserved
loop-next-preserved g c =
    let x = c.args.known.now in
    let s = c.in-Some.source in
    let i = c.loop-next.invariant in
    let n = c.next_source-next-in-Some in
    let d = copied_deep s.head.depth c.copy.new.self in
    record {
      source = source_is x n.result c.loop-next.walk n.new.walk n.ensures;
      deep = i.deep ++ d ∷ [];
      passed = one_passed x c.args.walk.now s.entry c.loop-next.walk (rest_of n.result n.new.walk) i.deep d
          (at_some x c.args.walk.now c.loop-next.next c.loop-next.walk i.deep s c.in-Some.is i.passed) (rest_is x n.result c.loop-next.walk n.new.walk n.ensures)
          (λ w stands know l found. c.in_ok-copy.ensures.copies w stands l know found) (no_roots c.copy.new.self.operands.items c.copy.new.self.attrs.items);
      state = λ made units kind start. (
          let depth : depth_at c.loop-next.next ≡ s.head.depth = ap depth_at c.in-Some.is in
          let line = c.entry.ensures.line ∙ c.in_ok-copy.ensures.line in
          let lines : lines_before (depth_at c.loop-next.next) i.deep ++ line_view c.entry.result ∷ [] ≡ lines_before (depth_at n.result) (i.deep ++ d ∷ []) =
          (λ j. lines_before (depth j) i.deep ++ line j ∷ []) ∙ sym (lines_push (depth_at n.result) i.deep d) in
          subst (λ (ls : List NewLine). g.P.Pass.within made c.put.new.self units kind ls) lines
          (c.in_ok-put.ensures.passed made units kind (lines_before (depth_at c.loop-next.next) i.deep) (i.state made units kind start)));
      given = i.given ++ noted_of x.unit s.entry c.is_common-common.result c.entry.result ∷ [];
      noted = one_noted x c.args.walk.now s.entry c.loop-next.walk (rest_of n.result n.new.walk) i.given (noted_of x.unit s.entry c.is_common-common.result c.entry.result)
          (noted_some x c.args.walk.now c.loop-next.next c.loop-next.walk i.given s c.in-Some.is i.noted) (rest_is x n.result c.loop-next.walk n.new.walk n.ensures)
          (record {
            in_unit = refl;
            of_source = refl;
            of_common = c.is_common-common.ensures;
            speaks = λ w stands l know found. subst (λ (os : List NewOperand). SpeaksEntry x.own x.common x.unit w (keys_of (key_in w)) s.entry os) (sym c.entry.ensures.operands)
                (c.in_ok-copy.ensures.speaks w stands l know found);
          });
      told = λ before start. subst (λ (all : List Noted). g.P.Pass.noted c.put.new.self all) (append_assoc before i.given (noted_of x.unit s.entry c.is_common-common.result c.entry.result ∷ []))
          (c.in_ok-put.ensures.noted (before ++ i.given) (i.told before start));
    }

pub returns-clause-passed : goal.returns-clause-passed
returns-clause-passed g c =
    let i = c.loop-next.invariant in
    let depth : depth_at c.loop-next.next ≡ 1 = ap depth_at c.in_default.is in
    let lines : lines_before (depth_at c.loop-next.next) i.deep ≡ with_ends i.deep = ap (λ (k : ℕ). lines_before k i.deep) depth ∙ lines_are i.deep in (
      i.deep,
      at_none c.args.known.now c.args.walk.now c.loop-next.next c.loop-next.walk i.deep c.in_default.is i.passed,
      λ made units kind start. subst (λ (ls : List NewLine). g.P.Pass.within made c.loop-next.pass units kind ls) lines (i.state made units kind start),
    )

pub returns-clause-noted : goal.returns-clause-noted
returns-clause-noted g c =
    let i = c.loop-next.invariant in
    (i.given, noted_none c.args.known.now c.args.walk.now c.loop-next.next c.loop-next.walk i.given c.in_default.is i.noted, i.told)
