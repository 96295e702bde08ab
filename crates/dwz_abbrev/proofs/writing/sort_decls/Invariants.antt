use Rattle.std.proofs.Common.{◌≡◌, drop}
use Rattle.std.specs.Prelude.{All}
use Rattle.std.specs.BTreeMap.{values}
use Rattle.dwz_def_reading.specs.Abbrevs.{by_code}
use Rattle.dwz_abbrev.specs.Views.{lent_views, views}
use Rattle.dwz_abbrev.proofs.writing.sort_decls.Given as goal

abbrev pub invariant-loop-place : goal.invariant-loop-place
invariant-loop-place l = (lent_views (values l.order) ≡ by_code (views (drop l.place l.decls))) × All (λ e. e.0 ≡ e.1.now.code) l.order.entries
