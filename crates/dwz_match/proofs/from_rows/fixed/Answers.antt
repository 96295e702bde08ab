use Rattle.std.proofs.Common.{List, Option, ℕ, refl, sym, subst}
use Rattle.dwz_takes.specs.Blocked.{AreBlocked, AreKin}
use Rattle.dwz_match.proofs.FixedFacts.{are_kin, fixed_is}
use Rattle.dwz_match.proofs.from_rows.fixed.Goals as goal

pub blocked-requires : goal.blocked-requires
blocked-requires c = subst (λ (w : List (Option ℕ)). AreKin c.args.kin.now w c.args.targets.now) (sym c.as_slice-2.ensures)
    (are_kin c.args.rows.now c.args.kin.now c.args.targets.now c.in_ok-images.images c.requires.kin c.in_ok-images.ensures)

pub returns-clause-lists : goal.returns-clause-lists
returns-clause-lists c docs common name placed m =
    fixed_is docs common name c.args.rows.now c.args.kin.now c.args.targets.now placed m c.in_ok-images.images c.in_ok-images.ensures c.requires.kin _ refl c.in_ok-takes.ensures
    (subst (λ (w : List (Option ℕ)). AreBlocked c.args.kin.now w c.args.targets.now c.in_ok-blocked.blocked) c.as_slice-2.ensures c.in_ok-blocked.ensures)
