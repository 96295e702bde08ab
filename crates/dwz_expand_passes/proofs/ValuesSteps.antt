-- The values of an entry, from the first to the last.
use Rattle.std.proofs.Common.{◌≡◌, ◌∙◌, ℕ, ◌+◌, ◌<◌, ◌≤◌, zero, suc, List, [], ◌∷◌, length, drop, map, take, Some, Err, slice_get, refl, sym, ap, subst, arith}
use Rattle.dwz_model.specs.Lists.{Each}
use Rattle.dwz_model.specs.declared.fault.ReadErr.{ReadErr}
use Rattle.dwz_model.specs.declared.fault.ReadErr.TheVariants.{NoMemory, Refused}
use Rattle.dwz_def_reading.specs.Documents.{Attr, Node}
use Rattle.dwz_def_reading.specs.Entries.{RawAttr}
use Rattle.dwz_def_reading.specs.Units.{entries_in}
use Rattle.dwz_graph.specs.Surroundings.{AreAmong, place_among}
use Rattle.dwz_graph.proofs.TreeLemmas.{node_attrs}
use Rattle.dwz_label_entries.proofs.AttrsLemmas.{entry_in, line_for}
use Rattle.dwz_unit.specs.Rows.{EntryRow}
use Rattle.dwz_expand_layout.specs.declared.entries.NewAttr.{NewAttr}
use Rattle.dwz_expand_layout.specs.declared.entries.NewOperand.{NewOperand}
use Rattle.dwz_expand_passes.specs.declared.files.SourceEntry.{SourceEntry}
use Rattle.dwz_expand_passes.specs.Attributes.{AnswersAll, IsEntryOf, PutsAttr, Remain, refs_at}
use Rattle.dwz_expand_passes.specs.Copied.{IsAt}
use Rattle.dwz_expand_passes.specs.Known.{Setting, raw_of, scope}
use Rattle.dwz_expand_passes.proofs.AttrSteps.{each_drop}

each_take : {X : Type 0} (P : X → Type 0) (k : ℕ) (xs : List X) → Each P xs → Each P (take k xs)
each_take P zero xs all = tt
each_take P (suc k) [] all = tt
each_take P (suc k) (x ∷ xs) all = (all.0, each_take P k xs all.1)

pub drop_one : {X : Type 0} (xs : List X) (j : ℕ) (x : X) → slice_get xs j ≡ Some x → drop j xs ≡ x ∷ drop (j + 1) xs
drop_one [] j x e = absurd cc
drop_one {X} (y ∷ xs) zero x e = (let same : y ≡ x = cc in ap (λ (w : X). w ∷ xs) same)
drop_one (y ∷ xs) (suc j) x e =
    let at : suc j + 1 ≡ suc (j + 1) = omega arith in
    drop_one xs j x e ∙ ap (λ (n : ℕ). x ∷ drop n (y ∷ xs)) (sym at)

pub drop_whole : {X : Type 0} (xs : List X) (j : ℕ) → length xs ≤ j → drop j xs ≡ []
drop_whole [] zero le = refl
drop_whole [] (suc j) le = refl
drop_whole (x ∷ xs) zero le = absurd (omega arith)
drop_whole (x ∷ xs) (suc j) le = drop_whole xs j (omega arith)

pub values_left : (x : SourceEntry) (q : Setting) (i : ℕ) (row : EntryRow) (d : Node ℕ) (refs : List ℕ) (attrs : List NewAttr) (operands : List NewOperand) → IsEntryOf x q i row d
    → i < entries_in (raw_of x)
    → refs ≡ refs_at x i → attrs ≡ [] → Remain x q row.entry.attrs refs d.attrs attrs operands
values_left x q i row d refs attrs operands is lt part none =
    subst (λ (w : List NewAttr). Remain x q row.entry.attrs refs d.attrs w operands) (sym none) (record {
      left = d.attrs;
      meant = record {
        means = (node_attrs (scope q) row.entry d is.means).0;
        named = ap (λ (w : List ℕ). map (place_among q.around.common (raw_of x)) w) part ∙ is.parts.part i row q.raw d lt is.found is.is_unit is.means;
      };
      among = subst (λ (w : List ℕ). AreAmong q.around.common (raw_of x) w) (sym part) (each_take _ _ _ (each_drop _ _ _ is.among));
      at = λ k a there. (let e : k ≡ 0 + k = omega arith in subst (λ (n : ℕ). IsAt q n a) e (is.at k a there));
      lines = λ j a there. line_for q.around q.raw x.file.tables.now x.line row.entry j a is.line (entry_in (raw_of x) i row.unit row q.raw is.found refl is.is_unit) there;
      shows = refl;
      within = tt;
      faults = λ f. ((λ h. h), (λ h. h));
    })

pub puts_err : (x : SourceEntry) (q : Setting) (values : List RawAttr) (all : List (Attr ℕ)) (attrs : List NewAttr) (operands : List NewOperand) (e : ReadErr)
    → PutsAttr x q values all attrs operands (Err e)
    → AnswersAll {Y = Unit {0}} q all attrs operands (Err e)
puts_err x q values all attrs operands NoMemory h = tt
puts_err x q values all attrs operands (Refused f) h = h
