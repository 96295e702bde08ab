-- What the tables of rows say.
use Rattle.std.proofs.Common.{ℕ, List, length, subst}
use Rattle.dwz_groups.proofs.MarkLemmas.{inside_at}
use Rattle.dwz_takes.specs.declared.rows.Rows.{Rows}
use Rattle.dwz_takes.specs.Steps.{AreHolders, AreTurned, AreWatchers}
use Rattle.dwz_takes.specs.Tables.{AreTables}
use Rattle.dwz_takes.specs.Takes.{AreBelow, HasClass}

pub holders_below : (rows : Rows) (holders : List (List ℕ)) → AreHolders rows holders → AreBelow (length rows.unit_tops) holders
holders_below rows holders h k u i = let r = (h.each k u).0 i in inside_at rows.unit_tops u r.0 r.1

pub tables_by : (rows : Rows) (holders classes watchers sources : List (List ℕ)) → AreHolders rows holders → AreTurned (length rows.unit_tops) holders classes → AreWatchers rows holders watchers
    → AreTurned (length rows.part_tops) rows.part_targets sources → AreTables rows (record { classes = classes; watchers = watchers; sources = sources })
tables_by rows holders classes watchers sources h t w s = record {
  classes_len = t.len;
  classes = λ u k. (λ i. (h.each k u).0 ((t.each u k).0 i), λ c. (t.each u k).1 ((h.each k u).1 c));
  watchers_len = w.len;
  part = w.part;
  found = λ u p f.
      let r = w.found p f.some.0 f.some.1 in
      let one = (w.rarest r.0 p r.1).one in
      (r.0, subst (λ (k : ℕ). HasClass rows u k) one.2 (f.tops one.0 one.1), r.1);
  sources = s;
}
