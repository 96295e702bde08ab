use Rattle.std.proofs.Common.{ℕ, ◌<◌, List, sym, subst, arith}
use Rattle.dwz_model.specs.Lists.{In}
use Rattle.dwz_takes.proofs.FitFacts.{fits_by, own_low}
use Rattle.dwz_takes.proofs.fits.fits.Goals as goal

pub mark_all-requires-clause-inside : goal.mark_all-requires-clause-inside
mark_all-requires-clause-inside c n i =
    subst (λ (m : ℕ). n < m) (sym c.requires.classes_len) (own_low c.args.rows.now c.args.tables.now c.args.unit c.get-own.result.now c.requires.rows c.requires.tables c.get-own.ensures n i)

pub mark_all-requires-2-clause-inside : goal.mark_all-requires-2-clause-inside
mark_all-requires-2-clause-inside c n i =
    subst (λ (m : ℕ). n < m) (sym c.requires.names_len) (c.requires.rows.unit_names c.args.unit n (subst (λ (xs : List ℕ). In n xs) c.get-spaces.ensures i))

pub marked_parts-requires-clause-own : goal.marked_parts-requires-clause-own
marked_parts-requires-clause-own c n i =
    subst (λ (m : ℕ). n < m) (sym c.requires.tables.watchers_len)
    (own_low c.args.rows.now c.args.tables.now c.args.unit c.get-own.result.now c.requires.rows c.requires.tables c.get-own.ensures n i)

pub clear_all-requires-clause-inside : goal.clear_all-requires-clause-inside
clear_all-requires-clause-inside c n i =
    let low = own_low c.args.rows.now c.args.tables.now c.args.unit c.get-own.result.now c.requires.rows c.requires.tables c.get-own.ensures n i in
    let same = c.requires.classes_len in
    omega arith

pub clear_all-requires-2-clause-inside : goal.clear_all-requires-2-clause-inside
clear_all-requires-2-clause-inside c n i =
    let low = c.requires.rows.unit_names c.args.unit n (subst (λ (xs : List ℕ). In n xs) c.get-spaces.ensures i) in
    let same = c.requires.names_len in
    omega arith

pub returns-clause-each : goal.returns-clause-each
returns-clause-each c p =
    let r = fits_by c.args.rows.now c.args.tables.now c.args.unit c.get-own.result.now c.get-spaces.result.now c.mark_all.new.flags c.mark_all-2.new.flags c.in_ok-found.found.items c.requires.tables
    c.get-own.ensures c.get-spaces.ensures c.mark_all.ensures c.mark_all-2.ensures c.in_ok-found.ensures p in
    (λ i. r.0 ((c.in_order.ensures.each p).0 i), λ f. (c.in_order.ensures.each p).1 (r.1 f))
