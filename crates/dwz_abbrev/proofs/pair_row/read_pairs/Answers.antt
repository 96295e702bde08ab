use Rattle.std.proofs.Common.{◌≡◌, ℕ, List, [], ◌∷◌, ◌++◌, drop, length, sym, ap, subst, ◌∙◌, arith}
use Rattle.std.proofs.lemmas.List.{length_push}
use Rattle.std.proofs.lemmas.Result.{err_from_is_err_and}
use Rattle.dwz_def_reading.specs.Abbrevs.{pairs_at}
use Rattle.dwz_def_reading.proofs.TableLemmas.{pairs_end, pairs_fails, pairs_more}
use Rattle.dwz_model.specs.declared.place.Pair.{Pair}
use Rattle.dwz_abbrev.proofs.PairLemmas.{passed_end, passed_more}
use Rattle.dwz_abbrev.proofs.ReadLemmas.{begins_push, behind_push}
use Rattle.dwz_abbrev.proofs.pair_row.read_pairs.Goals as goal

pub returns-in_err-pair-clause-pairs : goal.returns-in_err-pair-clause-pairs
returns-in_err-pair-clause-pairs c =
    let p = err_from_is_err_and c.from_residual.result c.from_residual.ensures.1 in
    rw (p.1, p.2) (pairs_fails _ _ _ _ _ c.loop-pair.invariant.read c.in_err-pair.ensures)

pub loop-pair-smaller : goal.loop-pair-smaller
loop-pair-smaller c =
    let read = rw c.in-Some.is at c.in_ok-pair.ensures in
    (pairs_more c.args.start (drop (length c.args.row.now.items) c.loop-pair.row.items) c.loop-pair.cursor c.read_pair.new.cursor c.in-Some.pair read).shorter

pub loop-pair-preserved : goal.loop-pair-preserved
loop-pair-preserved c =
    let read = rw c.in-Some.is at c.in_ok-pair.ensures in
    let start = c.args.start in
    let pair = c.in-Some.pair in
    let from = c.loop-pair.cursor in
    let to = c.read_pair.new.cursor in
    let old = c.args.row.now.items in
    let mid = c.loop-pair.row.items in
    let new = c.push-in-Some.new.self.items in
    let places = c.args.places.now.items in
    let before = c.loop-pair.places.items in
    let after = c.push.new.self.items in
    let is = c.loop-pair.invariant in
    let more = pairs_more start (drop (length old) mid) from to pair read in
    let row : drop (length old) new ≡ drop (length old) mid ++ pair ∷ [] = behind_push old mid new pair is.begins c.in_ok-push-2.ensures.items in
    let pushed : after ≡ before ++ from.at ∷ [] = c.in_ok-push.ensures.items ∙ ap (λ (n : ℕ). before ++ n ∷ []) is.here in
    let there : drop (length old) after ≡ drop (length old) before ++ from.at ∷ [] =
    subst (λ (n : ℕ). drop n after ≡ drop n before ++ from.at ∷ []) c.requires (behind_push places before after from.at is.before pushed) in
    record {
      here = c.at-at-in-Some.ensures;
      begins = begins_push old mid new pair is.begins c.in_ok-push-2.ensures.items;
      before = begins_push places before after from.at is.before pushed;
      many = omega (arith, ap length pushed, length_push before from.at, ap length c.in_ok-push-2.ensures.items, length_push mid pair, is.many);
      read = ap (λ (ps : List Pair). pairs_at start ps to) row ∙ sym more.same ∙ is.read;
      passed = λ section here. rw (row, there) (passed_more section start (drop (length old) mid) (drop (length old) before) from to (is.passed section here) pair read);
    }

pub returns-clause-placed : goal.returns-clause-placed
returns-clause-placed c =
    let read = rw c.in_default.is at c.in_ok-pair.ensures in
    let old = c.args.row.now.items in
    λ section here. passed_end section c.args.start (drop (length old) c.loop-pair.row.items) (drop (length old) c.loop-pair.places.items) c.loop-pair.cursor c.read_pair.new.cursor
    (c.loop-pair.invariant.passed section here) read

pub returns-clause-pairs : goal.returns-clause-pairs
returns-clause-pairs c =
    let read = rw c.in_default.is at c.in_ok-pair.ensures in
    sym c.loop-pair.invariant.read ∙ pairs_end c.args.start (drop (length c.args.row.now.items) c.loop-pair.row.items) c.loop-pair.cursor c.read_pair.new.cursor read
