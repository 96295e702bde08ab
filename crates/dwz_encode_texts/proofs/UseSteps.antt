-- Texts that are used, one value, entry and unit after the other: those that are found and those that are left are all of them.
use Rattle.std.proofs.Common.{◌≡◌, ℕ, suc, ◌+◌, ◌<◌, ◌≤◌, List, [], ◌∷◌, ◌++◌, cond, drop, eqb, get_or, length, Bool, true, false, Option, Some, None, Result, slice_get, refl, sym, ap, subst, ◌∙◌}
use Rattle.std.proofs.Common.{append_assoc, append-nil, arith}
use Rattle.std.specs.Prelude.{OnOk}
use Rattle.std.specs.List.{flat_map}
use Rattle.std.proofs.lemmas.List.{drop_all}
use Rattle.std.proofs.lemmas.Option.{slice_get-get_or}
use Rattle.dwz_model.specs.declared.place.Pair.{Pair}
use Rattle.dwz_def_reading.proofs.ListFacts.{drop_here}
use Rattle.dwz_def_encoding.specs.Placing.{UnitRole}
use Rattle.dwz_layout.specs.declared.known.EntryTable.{EntryTable}
use Rattle.dwz_layout.specs.declared.known.TextAt.{TextAt}
use Rattle.dwz_layout.specs.declared.order.UnitItems.{UnitItems}
use Rattle.dwz_layout.specs.declared.walk.Entry.{Entry}
use Rattle.dwz_layout.specs.declared.walk.Slot.{Slot}
use Rattle.dwz_layout.specs.declared.ways.Rewrite.{Rewrite}
use Rattle.dwz_layout.specs.declared.ways.Rewrite.TheVariants.{AsEntry, AsExpression, AsFile, AsRead, AsText, Dropped, KeepsText}
use Rattle.dwz_layout.specs.Attributes.{WritingContext, here_of, line_attrs}
use Rattle.dwz_layout.specs.Entries.{entries_of}
use Rattle.dwz_layout.specs.Ways.{rewrite_of}
use Rattle.dwz_encode_texts.specs.Used.{items_uses, order_uses, origin_uses, out_uses}
use Rattle.dwz_encode_texts.specs.Steps.{text_behind, way_uses}
use Rattle.dwz_encode_texts.proofs.PairUses.{name_uses, names_uses, pairs_uses}

-- ---- nothing is added

pub none_more : (old some : List ℕ) → some ≡ [] → old ≡ old ++ some
none_more old some none = sym (ap (λ (w : List ℕ). old ++ w) none ∙ append-nil old)

pub on_same : {T E : Type 0} (r : Result T E) (new old a b : List ℕ) → a ≡ b → OnOk r (new ≡ old ++ a) → OnOk r (new ≡ old ++ b)
on_same r new old a b same is = subst (λ (w : List ℕ). OnOk r (new ≡ old ++ w)) same is

pub way_other : (k : EntryTable) (file next : ℕ) (w : Rewrite) → (w ≡ AsText → ⊥) → way_uses k file next w ≡ []
way_other k file next AsText other = absurd (other refl)
way_other k file next Dropped other = refl
way_other k file next AsRead other = refl
way_other k file next KeepsText other = refl
way_other k file next AsFile other = refl
way_other k file next AsEntry other = refl
way_other k file next AsExpression other = refl

pub way_stays : (next : ℕ) (w : Rewrite) → (w ≡ AsText → ⊥) → (w ≡ KeepsText → ⊥) → text_behind next w ≡ next
way_stays next AsText other keeps = absurd (other refl)
way_stays next KeepsText other keeps = absurd (keeps refl)
way_stays next Dropped other keeps = refl
way_stays next AsRead other keeps = refl
way_stays next AsFile other keeps = refl
way_stays next AsEntry other keeps = refl
way_stays next AsExpression other keeps = refl

pub line_none : (line : Option ℕ) → flat_map out_uses (line_attrs line) ≡ []
line_none None = refl
line_none (Some line) = refl

-- ---- values

pub pairs_step : (k : EntryTable) (file : ℕ) (h : UnitRole) (pairs : List Pair) (j : ℕ) (d : Pair) (next more : ℕ) (out new all : List ℕ) → j < length pairs
    → new ≡ out ++ way_uses k file next (rewrite_of h (get_or pairs j d)) → more ≡ text_behind next (rewrite_of h (get_or pairs j d))
    → out ++ pairs_uses k file h next (drop j pairs) ≡ all → new ++ pairs_uses k file h more (drop (j + 1) pairs) ≡ all
pairs_step k file h pairs j d next more out new all lt is step so =
    let p = get_or pairs j d in
    let w = rewrite_of h p in
    (λ i. is i ++ pairs_uses k file h (step i) (drop (j + 1) pairs))
    ∙ append_assoc out (way_uses k file next w) (pairs_uses k file h (text_behind next w) (drop (j + 1) pairs))
    ∙ sym (ap (λ (ps : List Pair). out ++ pairs_uses k file h next ps) (drop_here pairs j p (slice_get-get_or pairs j d lt)))
    ∙ so

pub pairs_end : (k : EntryTable) (file : ℕ) (h : UnitRole) (pairs : List Pair) (j next : ℕ) (out all : List ℕ) → length pairs ≤ j → out ++ pairs_uses k file h next (drop j pairs) ≡ all → out ≡ all
pairs_end k file h pairs j next out all le so = sym (append-nil out) ∙ sym (ap (λ (ps : List Pair). out ++ pairs_uses k file h next ps) (drop_all j pairs le)) ∙ so

-- ---- names

pub name_found : (h : UnitRole) (text : TextAt) (pairs : List Pair) (j : ℕ) (d : Pair) (all : List ℕ) → j < length pairs → (get_or pairs j d).name ≡ 0x03
    → names_uses h text (drop j pairs) ≡ all → name_uses text (rewrite_of h (get_or pairs j d)) ≡ all
name_found h text pairs j d all lt named so =
    let p = get_or pairs j d in
    let yes : eqb p.name 0x03 ≡ true = ap (λ (n : ℕ). eqb n 0x03) named in
    sym (ap (λ (ps : List Pair). names_uses h text ps) (drop_here pairs j p (slice_get-get_or pairs j d lt))
    ∙ ap (λ (b : Bool). cond b (name_uses text (rewrite_of h p)) (names_uses h text (drop (j + 1) pairs))) yes)
    ∙ so

pub name_next : (h : UnitRole) (text : TextAt) (pairs : List Pair) (j : ℕ) (d : Pair) (all : List ℕ) → j < length pairs → eqb (get_or pairs j d).name 0x03 ≡ false
    → names_uses h text (drop j pairs) ≡ all → names_uses h text (drop (j + 1) pairs) ≡ all
name_next h text pairs j d all lt other so =
    let p = get_or pairs j d in
    sym (ap (λ (ps : List Pair). names_uses h text ps) (drop_here pairs j p (slice_get-get_or pairs j d lt))
    ∙ ap (λ (b : Bool). cond b (name_uses text (rewrite_of h p)) (names_uses h text (drop (j + 1) pairs))) other)
    ∙ so

pub name_end : (h : UnitRole) (text : TextAt) (pairs : List Pair) (j : ℕ) (all : List ℕ) → length pairs ≤ j → names_uses h text (drop j pairs) ≡ all → all ≡ []
name_end h text pairs j all le so = sym so ∙ ap (λ (ps : List Pair). names_uses h text ps) (drop_all j pairs le)

-- ---- entries

abbrev pub entries_uses : EntryTable → WritingContext → List Entry → List ℕ
entries_uses k here entries = flat_map (λ (e : Entry). origin_uses k here e.origin) entries

entries_are : (k : EntryTable) (here : WritingContext) (slots : List Slot) → entries_uses k here (entries_of slots) ≡ flat_map (λ (s : Slot). origin_uses k here s.origin) slots
unfolding entries_of
entries_are k here [] = refl
entries_are k here (s ∷ slots) = ap (λ (w : List ℕ). origin_uses k here s.origin ++ w) (entries_are k here slots)

pub entries_start : (k : EntryTable) (unit : ℕ) (o : UnitItems) (here : WritingContext) (slots all : List Slot) (out : List ℕ) → here ≡ here_of k unit o.sort → slots ≡ all
    → flat_map (λ (s : Slot). origin_uses k (here_of k unit o.sort) s.origin) all ≡ items_uses k unit o → out ++ entries_uses k here (entries_of slots) ≡ out ++ items_uses k unit o
entries_start k unit o here slots all out same is so =
    (λ i. out ++ entries_uses k (same i) (entries_of (is i)))
    ∙ ap (λ (w : List ℕ). out ++ w) (entries_are k (here_of k unit o.sort) all ∙ so)

pub entries_step : (k : EntryTable) (here : WritingContext) (e : Entry) (old more : List Slot) (out new all : List ℕ) → entries_of old ≡ e ∷ entries_of more → new ≡ out ++ origin_uses k here e.origin
    → out ++ entries_uses k here (entries_of old) ≡ all → new ++ entries_uses k here (entries_of more) ≡ all
entries_step k here e old more out new all first is so =
    ap (λ (w : List ℕ). w ++ entries_uses k here (entries_of more)) is
    ∙ append_assoc out (origin_uses k here e.origin) (entries_uses k here (entries_of more))
    ∙ sym (ap (λ (es : List Entry). out ++ entries_uses k here es) first)
    ∙ so

pub entries_end : (k : EntryTable) (here : WritingContext) (slots : List Slot) (out all : List ℕ) → slots ≡ [] → out ++ entries_uses k here (entries_of slots) ≡ all → out ≡ all
unfolding entries_of
entries_end k here slots out all none so = sym (append-nil out) ∙ sym (ap (λ (s : List Slot). out ++ entries_uses k here (entries_of s)) none) ∙ so

-- ---- units

pub units_step : (k : EntryTable) (units : List UnitItems) (i unit next : ℕ) (o : UnitItems) (out new all : List ℕ) → i < length units → o ≡ get_or units i o → next ≡ unit + 1
    → new ≡ out ++ items_uses k unit o → out ++ order_uses k unit (drop i units) ≡ all → new ++ order_uses k next (drop (i + 1) units) ≡ all
unfolding order_uses
units_step k units i unit next o out new all lt there step is so =
    let one : next ≡ suc unit = omega (arith, step) in
    let found : slice_get units i ≡ Some o = slice_get-get_or units i o lt ∙ ap (λ (x : UnitItems). Some x) (sym there) in
    (λ j. is j ++ order_uses k (one j) (drop (i + 1) units))
    ∙ append_assoc out (items_uses k unit o) (order_uses k (suc unit) (drop (i + 1) units))
    ∙ sym (ap (λ (w : List UnitItems). out ++ order_uses k unit w) (drop_here units i o found))
    ∙ so

pub units_end : (k : EntryTable) (units : List UnitItems) (i unit : ℕ) (out all : List ℕ) → length units ≤ i → out ++ order_uses k unit (drop i units) ≡ all → out ≡ all
unfolding order_uses
units_end k units i unit out all le so = sym (append-nil out) ∙ sym (ap (λ (w : List UnitItems). out ++ order_uses k unit w) (drop_all i units le)) ∙ so
