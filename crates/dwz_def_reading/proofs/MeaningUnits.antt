-- Meanings of entries and units: what is answered for them is what they mean, and their fault is answered exactly where they have one.
use Rattle.std.proofs.Common.{◌≡◌, ◌↔◌, ◌+◌, List, [], ◌∷◌, Ok, refl, sym, ap, subst}
use Rattle.dwz_bytes.specs.Reading.{◌>>=◌}
use Rattle.dwz_def_reading.specs.Documents.{Attr, Compile, DwUnit, Entries, Kind, Node, OfType, Partial}
use Rattle.dwz_def_reading.specs.Entries.{RawEntry}
use Rattle.dwz_def_reading.specs.Meanings.{Around}
use Rattle.dwz_def_reading.specs.MeaningFaults.{HasEntryFault, HasKindFault, HasNodeFault, HasUnitFault}
use Rattle.dwz_def_reading.specs.MeaningFaults.{HaveUnitFault}
use Rattle.dwz_def_reading.specs.Meanings.{MeanAttrs, MeanEntries, MeanUnits, MeansKind, MeansNode, MeansUnit}
use Rattle.dwz_def_reading.specs.Meanings.{MeaningContext}
use Rattle.dwz_def_reading.specs.Meant.{entries_meaning}
use Rattle.dwz_def_reading.specs.Meant.{kind_meaning}
use Rattle.dwz_def_reading.specs.Meanings.{scope_of}
use Rattle.dwz_def_reading.specs.Meant.{node_meaning}
use Rattle.dwz_def_reading.specs.Meanings.{without_siblings}
use Rattle.dwz_def_reading.specs.Meant.{type_offset_at, unit_meaning, units_meaning}
use Rattle.dwz_def_reading.specs.Trees.{End, Entry, Forest}
use Rattle.dwz_def_reading.specs.Units.{CompileUnit, PartialUnit, RawKind, RawUnit, TypeUnit}
use Rattle.dwz_def_reading.proofs.AgreeLemmas.{Agrees, Made, Next, agrees_ok, and_then, in_words, then_made}
use Rattle.dwz_def_reading.proofs.MeaningLemmas.{among_agrees, attrs_agree}

-- ---- entries

-- an entry's node from its attributes
abbrev with_attrs : {P : Type 0} → MeaningContext P → RawEntry → List (Attr P) → Node P
with_attrs s e attrs = record { at = s.around.place e.at; tag = e.tag; attrs = attrs }

pub node_agrees : {P : Type 0} (s : MeaningContext P) (e : RawEntry) → Agrees (node_meaning s e) (MeansNode s e) (HasNodeFault s e)
node_agrees {P} s e = in_words (then_made (attrs_agree s (without_siblings e.attrs)) (with_attrs s e)) means (λ f. (λ h. h, λ h. h)) where
  means : (d : Node P) → Made (MeanAttrs s (without_siblings e.attrs)) (with_attrs s e) d ↔ MeansNode s e d
  means d = (
    λ h.
        let same = h.2 in
        record {
          place = ap (λ (n : Node P). n.at) same;
          tag = ap (λ (n : Node P). n.tag) same;
          attrs = subst (MeanAttrs s (without_siblings e.attrs)) (sym (ap (λ (n : Node P). n.attrs) same)) h.1;
        },
    λ m. (d.attrs, m.attrs, λ i. record { at = m.place i; tag = m.tag i; attrs = d.attrs }),
  )

pub entries_agree : {P : Type 0} (s : MeaningContext P) (f : Forest RawEntry) → Agrees (entries_meaning s f) (MeanEntries s f) (HasEntryFault s f)
unfolding entries_meaning
entries_agree {P} s End = in_words (agrees_ok End) means (λ f. (λ none. none, λ none. none)) where
  means : (g : Entries P) → (g ≡ End) ↔ MeanEntries s End g
  means End = (λ same. tt, λ is. refl)
  means (Entry d below next) = (λ same. absurd cc, λ none. absurd none)
entries_agree {P} s (Entry e children next) =
    in_words (and_then (node_agrees s e) (λ d. entries_meaning s children >>= λ below. entries_meaning s next >>= λ n. Ok (Entry d below n))
    (λ d. and_then (entries_agree s children) (λ below. entries_meaning s next >>= λ n. Ok (Entry d below n))
    (λ below. then_made (entries_agree s next) (λ n. Entry d below n))))
    means (λ f. (λ h. h, λ h. h)) where
      means : (g : Entries P) → Next (MeansNode s e) (λ d. Next (MeanEntries s children) (λ below. Made (MeanEntries s next) (λ n. Entry d below n))) g ↔ MeanEntries s (Entry e children next) g
      means End = (λ h. absurd (let none = h.2.2.2 in cc), λ none. absurd none)
      means (Entry d below n) = (
        λ h.
            let same = h.2.2.2 in
            let node : d ≡ h.0 = cc in
            let inside : below ≡ h.2.0 = cc in
            let behind : n ≡ h.2.2.0 = cc in
            (subst (MeansNode s e) (sym node) h.1, subst (MeanEntries s children) (sym inside) h.2.1, subst (MeanEntries s next) (sym behind) h.2.2.1),
        λ h. (d, h.0, (below, h.1, (n, h.2, refl))),
      )

-- ---- units

kind_agrees : {P : Type 0} (s : MeaningContext P) (k : RawKind) → Agrees (kind_meaning s k) (MeansKind s k) (HasKindFault s k)
kind_agrees s CompileUnit = agrees_ok Compile
kind_agrees s PartialUnit = agrees_ok Partial
kind_agrees s (TypeUnit signature type_offset) = among_agrees s.own (type_offset_at s.unit) (s.unit + type_offset) (OfType signature (s.around.place (s.unit + type_offset)))

abbrev unit_from : {P : Type 0} → Around P → RawUnit → Kind P → Node P → Entries P → DwUnit P
unit_from around u kind root below = record { at = around.place u.at; kind = kind; root = root; below = below }

pub unit_agrees : {P : Type 0} (around : Around P) (u : RawUnit) → Agrees (unit_meaning around u) (MeansUnit around u) (HasUnitFault around u)
unit_agrees {P} around u =
    let s = scope_of around u in
    in_words (and_then (kind_agrees s u.kind) (λ kind. node_meaning s u.root >>= λ root. entries_meaning s u.below >>= λ below. Ok (unit_from around u kind root below))
    (λ kind. and_then (node_agrees s u.root) (λ root. entries_meaning s u.below >>= λ below. Ok (unit_from around u kind root below))
    (λ root. then_made (entries_agree s u.below) (unit_from around u kind root))))
    means (λ f. (λ h. h, λ h. h)) where
      means : (v : DwUnit P)
          → Next (MeansKind (scope_of around u) u.kind) (λ kind. Next (MeansNode (scope_of around u) u.root) (λ root. Made (MeanEntries (scope_of around u) u.below) (unit_from around u kind root))) v
          ↔ MeansUnit around u v
      means v = (
        λ h.
            let same = h.2.2.2 in
            record {
              place = ap (λ (w : DwUnit P). w.at) same;
              kind = subst (MeansKind (scope_of around u) u.kind) (sym (ap (λ (w : DwUnit P). w.kind) same)) h.1;
              root = subst (MeansNode (scope_of around u) u.root) (sym (ap (λ (w : DwUnit P). w.root) same)) h.2.1;
              below = subst (MeanEntries (scope_of around u) u.below) (sym (ap (λ (w : DwUnit P). w.below) same)) h.2.2.1;
            },
        λ m. (v.kind, m.kind, (v.root, m.root, (v.below, m.below, λ i. record { at = m.place i; kind = v.kind; root = v.root; below = v.below }))),
      )

pub units_agree : {P : Type 0} (around : Around P) (units : List RawUnit) → Agrees (units_meaning around units) (MeanUnits around units) (HaveUnitFault around units)
unfolding units_meaning
units_agree {P} around [] = in_words (agrees_ok []) means (λ f. (λ none. none, λ none. none)) where
  means : (vs : List (DwUnit P)) → (vs ≡ []) ↔ MeanUnits around [] vs
  means [] = (λ same. tt, λ is. refl)
  means (v ∷ vs) = (λ same. absurd cc, λ none. absurd none)
units_agree {P} around (u ∷ units) =
    in_words (and_then (unit_agrees around u) (λ v. units_meaning around units >>= λ vs. Ok (v ∷ vs)) (λ v. then_made (units_agree around units) (λ vs. v ∷ vs)))
    means (λ f. (λ h. h, λ h. h)) where
      means : (vs : List (DwUnit P)) → Next (MeansUnit around u) (λ v. Made (MeanUnits around units) (λ w. v ∷ w)) vs ↔ MeanUnits around (u ∷ units) vs
      means [] = (λ h. absurd (let none = h.2.2 in cc), λ none. absurd none)
      means (v ∷ vs) = (
        λ h.
            let same = h.2.2 in
            let head : v ≡ h.0 = cc in
            let tail : vs ≡ h.2.0 = cc in
            (subst (MeansUnit around u) (sym head) h.1, subst (MeanUnits around units) (sym tail) h.2.1),
        λ h. (v, h.0, (vs, h.1, refl)),
      )
