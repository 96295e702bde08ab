-- The entries that operands of location lists name.
use Rattle.std.proofs.Common.{◌≡◌, ◌∙◌, ℕ, ◌+◌, true, false, List, map, slice_get, Some, None, sym, ap}
use Rattle.dwz_def_reading.specs.declared.exprs.Operand.{Operand}
use Rattle.dwz_model.proofs.ListFacts.{got_map}
use Rattle.dwz_def_reading.specs.Meanings.{MeaningContext, target_of, targets}
use Rattle.dwz_graph.specs.Operands.{LooksUp, is_named}
use Rattle.dwz_graph.specs.Resolved.{place_at, scope_in}
use Rattle.dwz_graph.proofs.SurroundingLemmas.{own_place, own_within}
use Rattle.dwz_check_labels.proofs.AloneLemmas.{alone_scope, named_alone, target_alone}
use Rattle.dwz_expand_passes.specs.declared.files.SourceEntry.{SourceEntry}
use Rattle.dwz_expand_passes.specs.Known.{Fits, Setting, StandsAt, raw_of, scope}
use Rattle.dwz_expand_passes.proofs.CopyLemmas.{stands_named}

-- the unit without a common file is that of the file by itself
pub scope_alone : (x : SourceEntry) (q : Setting) → Fits x q → scope_in x.file.sections.now (raw_of x) q.raw ≡ alone_scope (scope q)
scope_alone x q fits = sym (λ i. record {
  around = record { sources = fits.sources i; all = fits.all i; place = fits.own_place i; common = None };
  unit = q.raw.at;
  root = q.raw.root;
  own = (scope q).own;
})

-- an entry that an operand names
pub operand_stands : (x : SourceEntry) (q : Setting) (o : Operand) (i : ℕ) → Fits x q → LooksUp (raw_of x) (scope_in x.file.sections.now (raw_of x) q.raw) o (Some i)
    → StandsAt q.w (x.first + i) (q.place (target_of (scope q) o))
operand_stands x q o i fits looks =
    let raw = raw_of x in
    let target : place_at raw i ≡ target_of (scope q) o = looks.1 ∙ ap (λ (s : MeaningContext ℕ). target_of s o) (scope_alone x q fits) ∙ target_alone (scope q) o in
    stands_named x q i (q.place (target_of (scope q) o)) fits (own_within q.around.common raw i looks.0) (ap q.place (own_place q.around.common raw i looks.0 ∙ target))

-- it names one
pub operand_named : (x : SourceEntry) (q : Setting) (o : Operand) → Fits x q → is_named (scope q) o ≡ true → LooksUp (raw_of x) (scope_in x.file.sections.now (raw_of x) q.raw) o None → ⊥
operand_named x q o fits named looks =
    let no : is_named (scope q) o ≡ false = sym (named_alone (scope q) o) ∙ ap (λ (s : MeaningContext ℕ). is_named s o) (sym (scope_alone x q fits)) ∙ looks in
    let both : true ≡ false = sym named ∙ no in
    cc

-- the place that an operand names, among those of all
pub target_got : (q : Setting) (x : SourceEntry) (os : List Operand) (k : ℕ) (o : Operand) → Fits x q → slice_get os k ≡ Some o
    → slice_get (map q.place (targets (scope q) os)) k ≡ Some (q.place (target_of (scope q) o))
target_got q x os k o fits found =
    got_map q.place (targets (scope q) os) k (q.around.place (target_of (scope q) o)) (got_map (λ (r : Operand). q.around.place (target_of (scope q) r)) os k o found)
    ∙ ap (λ (g : ℕ → ℕ). Some (q.place (g (target_of (scope q) o)))) fits.own_place
