use Rattle.std.proofs.Common.{◌≡◌, ◌+◌, ◌<◌, ◌^◌, ℕ, List, arith, length, subst, sym}
use Rattle.dwz_label_files.specs.Marked.{TellFrom}
use Rattle.dwz_label_join.specs.Joined.{AreNumbersIn}
use Rattle.dwz_label_files.proofs.MarkedLemmas.{from_kept}
use Rattle.dwz_label_files.proofs.marked.with_stretch.Goals as goal

pub put_labels-requires : goal.put_labels-requires
put_labels-requires c = subst (λ (w : List ℕ). length w < 2 ^ 32) (sym c.as_slice.ensures.value) c.in_ok-numbers.ensures.few

pub returns : goal.returns
returns c = λ units movable first middle end own more. (
    let names = c.join.new.names in
    record {
      len = (let before = own.len in let behind = more.len in let grown = c.in_ok-put_labels.ensures.len in omega arith);
      told = λ flags. (
          let numbers = subst (λ (w : List ℕ). AreNumbersIn c.args.more.now.names names w) (sym c.as_slice.ensures.value) c.in_ok-numbers.ensures.numbers in
          let from : middle ≡ first + length c.args.all.labels = sym own.len in
          c.in_ok-put_labels.ensures.told units names c.args.more.now.names first numbers
          (from_kept units c.args.all.names names first c.args.all.labels c.join.ensures.kept (own.told flags))
          (subst (λ (n : ℕ). TellFrom units c.args.more.now.names n c.args.more.now.labels) from (more.told flags)));
    })
