use Rattle.std.proofs.Common.{◌≡◌, ℕ, length, subst, arith}
use Rattle.dwz_run_files.proofs.PruneSteps.{Keeping, keeping_next, pruned_so}
use Rattle.dwz_run_files.proofs.pruned.prune_files.Goals as goal

pub returns : goal.returns
returns c = λ beside f a. (
    let all : c.loop-number.number ≡ length c.args.written.now.ranks.now = omega arith in
    pruned_so c.args.graph.now.given c.args.known.now c.args.written.now c.args.prunes.now f a c.requires.many c.loop-number.pruned.items
    (subst (λ (n : ℕ). Keeping c.args.graph.now.given c.args.known.now c.args.written.now c.args.prunes.now n c.loop-number.pruned.items) all
    c.loop-number.invariant))

pub loop-number-preserved : goal.loop-number-preserved
loop-number-preserved c =
    keeping_next c.args.graph.now.given c.args.known.now c.args.written.now c.args.prunes.now c.loop-number.number c.is_prunable-prunable.result c.in_ok-file.file
    c.loop-number.pruned.items c.push.new.self.items c.is_prunable-prunable.ensures c.in_ok-file.ensures c.in_ok-push.ensures.items c.loop-number.invariant
