-- Texts of an entry move, one by one: what is written anew is among the uses, and so has the new number that is asked for.
use Rattle.std.proofs.Common.{◌≡◌, ℕ, ◌+◌, Bool, true, false, List, [], ◌∷◌, map, pos, Ok, Option, None, Some, Contains, slice_get, refl, sym, ap, subst, ◌∙◌, cond, eqb, eqb-true, inl}
use Rattle.std.specs.Prelude.{SomeIff}
use Rattle.std.specs.List.{flat_map}
use Rattle.std.specs.Option.{option_map_or, unwrap_or}
use Rattle.std.proofs.lemmas.Bool.{eqb-false}
use Rattle.dwz_def_reading.specs.Reading.{◌>>=◌}
use Rattle.dwz_def_reading.specs.Spelling.{reach}
use Rattle.dwz_def_reading.specs.Entries.{RawAttr, RawEntry}
use Rattle.dwz_def_reading.specs.Lists.{In}
use Rattle.dwz_def_reading.specs.Pruning.{new_number}
use Rattle.dwz_def_reading.proofs.PartLemmas.{bind_ok}
use Rattle.dwz_def_reading.proofs.ListFacts.{in_left, in_right}
use Rattle.dwz_def_reading.specs.Documents.{Attr, Node, Value, attr_map, node_map}
use Rattle.dwz_def_reading.specs.Meanings.{MeaningContext}
use Rattle.dwz_def_reading.specs.Classes.{OfConstant, OfExpression, OfInfoEntry, OfTextBySlot, OfTextInLineStr, OfTextInStr, OfUnitEntry, Unread}
use Rattle.dwz_def_reading.specs.Classes.{Class}
use Rattle.dwz_def_reading.specs.Meant.{as_class, attr_with, attrs_meaning}
use Rattle.dwz_def_reading.specs.Meanings.{scope_of, without_siblings}
use Rattle.dwz_def_reading.specs.Classes.{class_of, names_file}
use Rattle.dwz_def_reading.specs.Meant.{meaning, node_with, with_attr}
use Rattle.dwz_def_tops.specs.Spots.{EntryName}
use Rattle.dwz_graph.proofs.StepLemmas.{skipped, taken}
use Rattle.dwz_strs.specs.Pruned.{IsPruned, Pruning, moved_in}
use Rattle.dwz_unit.specs.Rows.{EntryRow}
use Rattle.dwz_encode_sections.specs.Slots.{moved_or_same}
use Rattle.dwz_def_encoding.specs.Placing.{Chosen, CommonUnit, NewUnit, OldUnit, UnitForms, UnitRole, fit_attr, with_form}
use Rattle.dwz_def_encoding.specs.Pruned.{renumbered_attr}
use Rattle.dwz_layout.specs.declared.known.EntryTable.{EntryTable}
use Rattle.dwz_layout.specs.declared.known.TextAt.{TextAt}
use Rattle.dwz_layout.specs.declared.known.TextAt.TheVariants.{Own, Pooled, Shared}
use Rattle.dwz_layout.specs.declared.walk.Origin.TheVariants.{Read as OfRow}
use Rattle.dwz_layout.specs.declared.ways.Rewrite.{Rewrite}
use Rattle.dwz_layout.specs.declared.ways.Rewrite.TheVariants.{AsEntry, AsExpression, AsFile, AsRead, AsText, Dropped, KeepsText}
use Rattle.dwz_layout.specs.Attributes.{row_attrs}
use Rattle.dwz_layout.specs.Entries.{row}
use Rattle.dwz_layout.specs.Known.{firsts_of, row_at, text_at}
use Rattle.dwz_layout.specs.Ways as Ways
use Rattle.dwz_layout.specs.Ways.{if_file, rewrite_of}
use Rattle.dwz_law_layout.specs.Knows.{EachFrom, IsText, chosen_of, is_placed, text_chosen, texts_in}
use Rattle.dwz_law_layout.proofs.FormWays.{class_way, is_read, way_is}
use Rattle.dwz_encode_texts.specs.Used.{origin_uses, out_uses}
use Rattle.dwz_encode_texts.specs.Steps.{text_behind, text_uses, way_uses}
use Rattle.dwz_encode_texts.specs.MovedTexts.{EntryMovedLaw, HaveMoved, IsPooled, IsUse, TextMovedLaw, moved_text}
use Rattle.dwz_encode_texts.proofs.PairUses.{attrs_are, pairs, pairs_uses}

-- ---- one text

abbrev renumbered_chosen : (ℕ → ℕ) → Chosen → Chosen
renumbered_chosen number c = cond (eqb c.form 0x0e) (record { form = 0x0e; raw = pos (number (reach c.raw)) }) c

chosen_is : (number : ℕ → ℕ) (b : Attr EntryName) → chosen_of (renumbered_attr number b) ≡ renumbered_chosen number (chosen_of b)
chosen_is number b = go (eqb b.form 0x0e) where
  go : (t : Bool) → chosen_of (cond t (with_form b (record { form = 0x0e; raw = pos (number (reach b.raw)) })) b) ≡ cond t (record { form = 0x0e; raw = pos (number (reach b.raw)) }) (chosen_of b)
  go true = refl
  go false = refl

pub text_moved : TextMovedLaw
text_moved strs uses p is ft a t stands used own = λ way. (
    moved t (used way) own
    ∙ ap (renumbered_chosen number) (stands way)
    ∙ sym (chosen_is number (fit_attr ft a)))
  where
    number : ℕ → ℕ
    number = new_number strs uses

    use_moved : (offset : ℕ) → Contains uses offset → moved_or_same p offset ≡ number offset
    use_moved offset there = by (moved_in p offset) (is.moved offset) where
      by : (o : Option ℕ) → SomeIff o (Contains uses offset) (new_number strs uses offset) → unwrap_or o offset ≡ number offset
      by (Some m) s = s.1
      by None s = absurd (s there)

    moved : (t : TextAt) → ((offset : ℕ) → t ≡ Own offset → Contains uses offset) → (IsPooled t → ⊥) → text_chosen (moved_text p t) ≡ renumbered_chosen number (text_chosen t)
    moved (Own offset) there own = ap (λ (n : ℕ). let c : Chosen = record { form = 0x0e; raw = pos n } in c) (use_moved offset (there offset refl))
    moved (Shared offset) there own = refl
    moved (Pooled offset) there own = absurd (own tt)

-- ---- which texts are counted

by_name : (b : Bool) (n : ℕ) (w : Rewrite) → text_behind n (if_file b w) ≡ text_behind n w
by_name true n w = refl
by_name false n AsFile = refl
by_name false n Dropped = refl
by_name false n AsRead = refl
by_name false n KeepsText = refl
by_name false n AsText = refl
by_name false n AsEntry = refl
by_name false n AsExpression = refl

placed_next : (h : UnitRole) (c : Class) (n : ℕ) → is_placed c ≡ true → text_behind n (class_way h c) ≡ n + 1
placed_next h OfTextInStr n e = refl
placed_next OldUnit OfTextInLineStr n e = refl
placed_next NewUnit OfTextInLineStr n e = refl
placed_next CommonUnit OfTextInLineStr n e = refl
placed_next OldUnit OfTextBySlot n e = refl
placed_next NewUnit OfTextBySlot n e = refl
placed_next CommonUnit OfTextBySlot n e = refl
placed_next h _ n e = absurd cc

other_next : (h : UnitRole) (c : Class) (n : ℕ) → is_placed c ≡ false → text_behind n (class_way h c) ≡ n
other_next h OfTextInStr n e = absurd cc
other_next h OfTextInLineStr n e = absurd cc
other_next h OfTextBySlot n e = absurd cc
other_next OldUnit OfConstant n e = refl
other_next NewUnit OfConstant n e = refl
other_next CommonUnit OfConstant n e = refl
other_next h OfUnitEntry n e = refl
other_next h OfInfoEntry n e = refl
other_next h OfExpression n e = refl
other_next h _ n e = refl

means_read : (c : Class) (s : MeaningContext ℕ) (a : RawAttr) (v : Value ℕ) → as_class c s a ≡ Ok v → is_read c ≡ true
means_read Unread s a v e = absurd cc
means_read _ s a v e = refl

meant_read : (s : MeaningContext ℕ) (a : RawAttr) (v : Value ℕ) → meaning s a ≡ Ok v → is_read (class_of a.pair.form) ≡ true
unfolding meaning
meant_read s a v e = means_read (class_of a.pair.form) s a v e

-- the number of the text behind a value that isn't DW_AT_sibling
behind_is : (h : UnitRole) (a : RawAttr) (n : ℕ) → (a.pair.name ≡ 0x01 → ⊥) → is_read (class_of a.pair.form) ≡ true
    → text_behind n (rewrite_of h a.pair) ≡ text_behind n (class_way h (class_of a.pair.form))
behind_is h a n other some = ap (text_behind n) (way_is h a.pair (class_of a.pair.form) other refl some) ∙ by_name (names_file a.pair.name) n (class_way h (class_of a.pair.form))

-- ---- value by value

module _ (uses : List ℕ) (ft : UnitForms EntryName) (k : EntryTable) (file : ℕ) (after : ℕ → EntryName) (s : MeaningContext ℕ) where
  abbrev h : UnitRole
  h = ft.holder

  abbrev Are : ℕ → List (Attr ℕ) → Type 0
  Are m ds = EachFrom (λ j a. IsUse uses ft a (text_at k file j)) m (texts_in (map (attr_map after) ds))

  abbrev Among : ℕ → List RawAttr → Type 0
  Among m attrs = (n : ℕ) → In n (pairs_uses k file h m (pairs attrs)) → Contains uses n

  abbrev Holds : List RawAttr → Type 0
  Holds attrs = (ds : List (Attr ℕ)) (m : ℕ) → attrs_meaning s (without_siblings attrs) ≡ Ok ds → Among m attrs → Are m ds

  none : Holds []
  unfolding attrs_meaning without_siblings
  none ds m means among = let e : [] ≡ ds = cc in subst (Are m) e tt

  -- those behind a value
  rest_among : (m more : ℕ) (a : RawAttr) (attrs : List RawAttr) → text_behind m (rewrite_of h a.pair) ≡ more → Among m (a ∷ attrs) → Among more attrs
  rest_among m more a attrs e among = λ n there.
      among n (in_right n (way_uses k file m (rewrite_of h a.pair)) (pairs_uses k file h (text_behind m (rewrite_of h a.pair)) (pairs attrs))
      (subst (λ (t : ℕ). In n (pairs_uses k file h t (pairs attrs))) (sym e) there))

  first_among : (m : ℕ) (a : RawAttr) (attrs : List RawAttr) → Among m (a ∷ attrs) → (v : Value ℕ) → IsUse uses ft (attr_map after (attr_with a v)) (text_at k file m)
  first_among m a attrs among v = λ way n e.
      among n (in_left n (way_uses k file m (rewrite_of h a.pair)) (pairs_uses k file h (text_behind m (rewrite_of h a.pair)) (pairs attrs))
      (subst (λ (w : Rewrite). In n (way_uses k file m w)) (sym way) (subst (λ (t : TextAt). In n (text_uses t)) (sym e) (inl refl))))

  value : (a : RawAttr) (attrs : List RawAttr) → Holds attrs → (v : Value ℕ) (ds : List (Attr ℕ)) (m : ℕ) → (a.pair.name ≡ 0x01 → ⊥) → is_read (class_of a.pair.form) ≡ true
      → attrs_meaning s (without_siblings attrs) ≡ Ok ds → Among m (a ∷ attrs) → (b : Bool) → is_placed (class_of a.pair.form) ≡ b → Are m (attr_with a v ∷ ds)
  value a attrs rest v ds m other some means among true e =
      let x = attr_map after (attr_with a v) in
      let next = behind_is h a m other some ∙ placed_next h (class_of a.pair.form) m e in
      subst (λ (b : Bool). EachFrom (λ j y. IsUse uses ft y (text_at k file j)) m (cond b (x ∷ texts_in (map (attr_map after) ds)) (texts_in (map (attr_map after) ds)))) (sym e)
      (first_among m a attrs among v, rest ds (m + 1) means (rest_among m (m + 1) a attrs next among))
  value a attrs rest v ds m other some means among false e =
      let x = attr_map after (attr_with a v) in
      let next = behind_is h a m other some ∙ other_next h (class_of a.pair.form) m e in
      subst (λ (b : Bool). EachFrom (λ j y. IsUse uses ft y (text_at k file j)) m (cond b (x ∷ texts_in (map (attr_map after) ds)) (texts_in (map (attr_map after) ds)))) (sym e)
      (rest ds m means (rest_among m m a attrs next among))

  one : (a : RawAttr) (attrs : List RawAttr) → Holds attrs → (ds : List (Attr ℕ)) (m : ℕ) → (a.pair.name ≡ 0x01 → ⊥)
      → attrs_meaning s (a ∷ without_siblings attrs) ≡ Ok ds → Among m (a ∷ attrs) → Are m ds
  unfolding attrs_meaning
  one a attrs rest ds m other means among =
      let x = bind_ok (meaning s a) (λ v. attrs_meaning s (without_siblings attrs) >>= with_attr a v) ds means in
      let y = bind_ok (attrs_meaning s (without_siblings attrs)) (with_attr a x.0) ds x.2 in
      let z : attr_with a x.0 ∷ y.0 ≡ ds = cc in
      subst (Are m) z (value a attrs rest x.0 y.0 m other (meant_read s a x.0 x.1) y.1 among (is_placed (class_of a.pair.form)) refl)

  split : (a : RawAttr) (attrs : List RawAttr) → Holds attrs → (ds : List (Attr ℕ)) (m : ℕ) → attrs_meaning s (without_siblings (a ∷ attrs)) ≡ Ok ds
      → Among m (a ∷ attrs) → (t : Bool) → eqb a.pair.name 0x01 ≡ t → Are m ds
  split a attrs rest ds m means among true t =
      let dropped : rewrite_of h a.pair ≡ Dropped = ap (λ (b : Bool). cond b Dropped (if_file (names_file a.pair.name) (Ways.way_in h a.pair.form Ways.way_rows))) t in
      rest ds m (ap (attrs_meaning s) (sym (skipped a attrs (eqb-true a.pair.name 0x01 t))) ∙ means) (rest_among m m a attrs (ap (text_behind m) dropped) among)
  split a attrs rest ds m means among false t =
      let other : a.pair.name ≡ 0x01 → ⊥ = eqb-false a.pair.name 0x01 t in
      one a attrs rest ds m other (ap (attrs_meaning s) (sym (taken a attrs other)) ∙ means) among

  pub attrs_use : (attrs : List RawAttr) → Holds attrs
  attrs_use [] = none
  attrs_use (a ∷ attrs) = λ ds m means among. split a attrs (attrs_use attrs) ds m means among (eqb a.pair.name 0x01) refl

-- ---- an entry

module _ (strs uses : List ℕ) (p : Pruning) (is : IsPruned strs uses p) (k moved : EntryTable) (file : ℕ) (have : HaveMoved p file k moved) (ft : UnitForms EntryName) where
  all_moved : (m : ℕ) (attrs : List (Attr EntryName)) → EachFrom (λ j a. IsText ft None a (text_at k file j)) m attrs → EachFrom (λ j a. IsUse uses ft a (text_at k file j)) m attrs
      → EachFrom (λ j a. IsPooled (text_at k file j) → ⊥) m attrs → EachFrom (λ j a. IsText ft (Some (new_number strs uses)) a (text_at moved file j)) m attrs
  all_moved m [] stand among_uses own = tt
  all_moved m (a ∷ attrs) stand among_uses own = (
    subst (λ (t : TextAt). IsText ft (Some (new_number strs uses)) a t) (sym (have m)) (text_moved strs uses p is ft a (text_at k file m) stand.0 among_uses.0 own.0),
    all_moved (m + 1) attrs stand.1 among_uses.1 own.1,
  )

attrs_same : (s : MeaningContext ℕ) (e : RawEntry) (attrs : List (Attr ℕ)) (d : Node ℕ) → node_with s e attrs ≡ Ok d → attrs ≡ d.attrs
attrs_same s e attrs d is =
    let n : Node ℕ = record { at = s.around.place e.at; tag = e.tag; attrs = attrs } in
    let same : n ≡ d = cc in
    ap (λ (w : Node ℕ). w.attrs) same

pub entry_moved : EntryMovedLaw
entry_moved strs uses p is k moved f have rows here ft holder i r d read among stand own_file =
    let s = scope_of f.around read.unit in
    let x = bind_ok (attrs_meaning s (without_siblings r.entry.attrs)) (node_with s r.entry) d read.means in
    let same : x.0 ≡ d.attrs = (let e : node_with s r.entry x.0 ≡ Ok d = x.2 in attrs_same s r.entry x.0 d e) in
    let there : row_at k (row f.number i) ≡ Some r = ap (λ (rs : List EntryRow). slice_get rs i) rows ∙ read.found in
    let first = (firsts_of k (row f.number i)).text in
    let own : origin_uses k here (OfRow (row f.number i)) ≡ pairs_uses k f.number ft.holder first (pairs r.entry.attrs) =
    ap (λ (o : Option EntryRow). flat_map out_uses (option_map_or (row_attrs k here (OfRow (row f.number i))) o [])) there
    ∙ attrs_are k f.number here (firsts_of k (row f.number i)) r.entry.attrs
    ∙ ap (λ (h : UnitRole). pairs_uses k f.number h first (pairs r.entry.attrs)) (sym holder) in
    let own_uses = attrs_use uses ft k f.number f.after s r.entry.attrs x.0 first x.1 (λ n there. among n (subst (In n) (sym own) there)) in
    all_moved strs uses p is k moved f.number have ft first (texts_in (node_map f.after d).attrs) stand
    (subst (λ (ds : List (Attr ℕ)). EachFrom (λ j a. IsUse uses ft a (text_at k f.number j)) first (texts_in (map (attr_map f.after) ds))) same own_uses)
    own_file
