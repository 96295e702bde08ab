-- Where the names of a unit stand is where the entries that show it are laid.
use Rattle.std.proofs.Common.{◌≡◌, ℕ, zero, suc, ◌+◌, ◌-◌, List, [], ◌∷◌, ◌++◌, length, map, replicate, refl, sym, ap, subst, ◌∙◌, append_assoc, append-nil, arith}
use Rattle.std.proofs.lemmas.List.{length-append}
use Rattle.dwz_def_reading.specs.Trees.{End, Entry}
use Rattle.dwz_def_reading.specs.Values.{value_bytes}
use Rattle.dwz_def_reading.specs.Documents.{Attr, DwUnit, Entries, Node}
use Rattle.dwz_model.specs.declared.place.Pair.{Pair}
use Rattle.dwz_layout_items.specs.Lines.{Enter, Leave, Line, Step, any as line_any, depth_of as line_depth, if_steps, steps, steps_of, unit_steps}
use Rattle.dwz_def_encoding.specs.Placing.{Stands, UnitStands, zeros}
use Rattle.dwz_def_encoding.specs.Writing.{DeclarationShape, Numbering, any, attrs_bytes, code_bytes, code_in, declaration_shape, if_any, node_bytes, pair_of, shapes_in, spelled, stored, table_of}
use Rattle.dwz_def_encoding.specs.Writing.{with_shape, written_header_size}
use Rattle.dwz_def_encoding.proofs.WriteCodes.{Grown, Grown-then, code_grows, shapes_cover, with_shape-has}
use Rattle.dwz_def_encoding.proofs.WriteLengths.{FixedEntries, FixedUnit, if_len, node_len, spelled_len}
use Rattle.dwz_layout.specs.declared.known.EntryTable.{EntryTable}
use Rattle.dwz_layout.specs.declared.walk.Slot.{Slot}
use Rattle.dwz_layout.specs.Attributes.{Call, WritingContext}
use Rattle.dwz_layout.specs.Laid.{shape_of_call}
use Rattle.dwz_layout.specs.Stored.{StoredAttr, entry_bytes, shape_for, values_bytes}
use Rattle.dwz_encode.specs.Events.{EndOfList, Event, NewEntry, entry_event, events, if_children, stored_attr, unit_events}
use Rattle.dwz_encode.specs.Shown.{Keys, key_of, line_held, slot_held}
use Rattle.dwz_encode.proofs.PassLemmas.{Stand, call_len, calls_events, laid_from}
use Rattle.dwz_encode.proofs.StepLemmas.{Begin, Finish, HeldStep, held_depth, held_steps}

-- ---- the places of entries, by the events

unfoldable pub event_places : List DeclarationShape → ℕ → List Event → List ℕ
event_places shapes at [] = []
event_places shapes at (NewEntry tag children attrs ∷ es) =
    let s = shape_for tag children attrs in
    let more = with_shape shapes s in
    at ∷ event_places more (at + length (entry_bytes more s attrs)) es
event_places shapes at (EndOfList ∷ es) = event_places shapes (at + 1) es

ends_places : (count : ℕ) (shapes : List DeclarationShape) (at : ℕ) (es : List Event) → event_places shapes at (replicate count EndOfList ++ es) ≡ event_places shapes (at + count) es
unfolding event_places
ends_places zero shapes at es = (let none : at ≡ at + 0 = omega arith in ap (λ (p : ℕ). event_places shapes p es) none)
ends_places (suc count) shapes at es =
    let one : at + 1 + count ≡ at + suc count = omega arith in
    ends_places count shapes (at + 1) es ∙ ap (λ (p : ℕ). event_places shapes p es) one

-- those of calls are where these are laid
pub laid_places : (calls : List Call) (shapes : List DeclarationShape) (at : ℕ) → event_places shapes at (calls_events calls) ≡ map (λ (l : Stand). l.at) (laid_from shapes at calls)
unfolding event_places calls_events laid_from
laid_places [] shapes at = refl
laid_places (c ∷ calls) shapes at =
    let s = shape_of_call c in
    let more = with_shape shapes s in
    let next : at + length (entry_bytes more s c.attrs) + c.ends ≡ at + call_len shapes c = omega arith in
    ap (λ (ps : List ℕ). at ∷ ps)
    (ends_places c.ends more (at + length (entry_bytes more s c.attrs)) (calls_events calls)
    ∙ ap (λ (p : ℕ). event_places more p (calls_events calls)) next
    ∙ laid_places calls more (at + call_len shapes c))

-- ---- keys at places, entry by entry

abbrev pub KeysAt : {K : Type 0} → Numbering K → List (Step K) → List ℕ → Type 0
KeysAt n [] ps = Unit {0}
KeysAt n (Enter e children ∷ ss) [] = ⊥
KeysAt n (Enter e children ∷ ss) (p ∷ ps) = (n.place e.at ≡ p) × KeysAt n ss ps
KeysAt n (Leave ∷ ss) ps = KeysAt n ss ps

module _ {K : Type 0} where
  pairs_of : (attrs : List (Attr K)) → map (λ (a : StoredAttr). a.pair) (map (stored_attr zeros 0) attrs) ≡ map pair_of attrs
  pairs_of [] = refl
  pairs_of (a ∷ attrs) = ap (λ (ps : List Pair). pair_of a ∷ ps) (pairs_of attrs)

  values_of : (attrs : List (Attr K)) → values_bytes (map (stored_attr zeros 0) attrs) ≡ attrs_bytes zeros 0 attrs
  unfolding values_bytes attrs_bytes
  values_of [] = refl
  values_of (a ∷ attrs) = ap (λ (w : List ℕ). value_bytes a.form (stored zeros 0 a) ++ w) (values_of attrs)

  shape_same : (e : Node K) (children : Entries K) → shape_for e.tag (any children) (map (stored_attr zeros 0) e.attrs) ≡ declaration_shape e children
  shape_same e children = ap (λ (ps : List Pair). let s : DeclarationShape = record { tag = e.tag; children = any children; pairs = ps } in s) (pairs_of e.attrs)

  -- an entry in a table that grew from the one which it was added to
  entry_is : (e : Node K) (children : Entries K) (shapes table : List DeclarationShape) → Grown (with_shape shapes (declaration_shape e children)) table
      → entry_bytes (with_shape shapes (declaration_shape e children)) (declaration_shape e children) (map (stored_attr zeros 0) e.attrs) ≡ node_bytes zeros 0 table e children
  unfolding node_bytes
  entry_is e children shapes table grown =
      let s = declaration_shape e children in
      let has = (with_shape-has shapes s).0 in
      let code : code_in 1 (with_shape shapes s) s ≡ code_in 1 table s =
      has.is ∙ sym (ap (λ (t : List DeclarationShape). code_in 1 t s) grown.is ∙ code_grows 1 (with_shape shapes s) grown.more s has.code has.is) in
      (λ i. code_bytes (code i) ++ values_of e.attrs i)

  module _ (n : Numbering K) (unit : ℕ) where
    -- an entry, and what follows
    entry_at : (e : Node K) (children : Entries K) (shapes table : List DeclarationShape) (at : ℕ) → Grown (with_shape shapes (declaration_shape e children)) table → n.place e.at ≡ at
        → (rest : List (Step K)) (es : List Event)
        → KeysAt n rest (event_places (with_shape shapes (declaration_shape e children)) (at + length (node_bytes zeros 0 table e children)) es)
        → KeysAt n (Enter e (line_any children) ∷ rest) (event_places shapes at (entry_event zeros 0 e children ∷ es))
    unfolding event_places
    entry_at e children shapes table at grown place rest es keys =
        let s = declaration_shape e children in
        let attrs = map (stored_attr zeros 0) e.attrs in
        let same = shape_same e children in
        let next : event_places (with_shape shapes s) (at + length (node_bytes zeros 0 table e children)) es
        ≡ event_places (with_shape shapes (shape_for e.tag (any children) attrs))
        (at + length (entry_bytes (with_shape shapes (shape_for e.tag (any children) attrs)) (shape_for e.tag (any children) attrs) attrs)) es =
        ap (λ (b : List ℕ). event_places (with_shape shapes s) (at + length b) es) (sym (entry_is e children shapes table grown))
        ∙ sym (ap (λ (t : DeclarationShape). event_places (with_shape shapes t) (at + length (entry_bytes (with_shape shapes t) t attrs)) es) same) in
        (place, subst (KeysAt n rest) next keys)

    abbrev NodesKeys : Entries K → Type 0
    NodesKeys f = (shapes table : List DeclarationShape) (at : ℕ) → Grown (shapes_in shapes f) table → Stands n unit table at f → (rest : List (Step K)) (es : List Event)
        → KeysAt n rest (event_places (shapes_in shapes f) (at + length (spelled zeros 0 table f)) es) → KeysAt n (steps f ++ rest) (event_places shapes at (events zeros 0 f ++ es))

    children_at : (children : Entries K) → NodesKeys children → (shapes table : List DeclarationShape) (at : ℕ) → Grown (shapes_in shapes children) table → Stands n unit table at children
        → (rest : List (Step K)) (es : List Event)
        → KeysAt n rest (event_places (shapes_in shapes children) (at + length (if_any children (spelled zeros 0 table children))) es)
        → KeysAt n (if_steps children (steps children) ++ rest) (event_places shapes at (if_children children (events zeros 0 children) ++ es))
    unfolding shapes_in
    children_at End keys shapes table at grown stands rest es more =
        let none : at + 0 ≡ at = omega arith in
        subst (λ (p : ℕ). KeysAt n rest (event_places shapes p es)) none more
    children_at (Entry e c next) keys shapes table at grown stands rest es more = keys shapes table at grown stands rest es more

    pub entries_at : (f : Entries K) → FixedEntries f → NodesKeys f
    unfolding steps events shapes_in spelled event_places
    entries_at End fixed shapes table at grown stands rest es more = more
    entries_at (Entry e children next) fixed shapes table at grown stands rest es more =
        let s = declaration_shape e children in
        let one = with_shape shapes s in
        let two = shapes_in one children in
        let node = node_bytes zeros 0 table e children in
        let inner = if_any children (spelled zeros 0 table children) in
        let front : length (node_bytes n unit table e children) ≡ length node = node_len n zeros unit 0 table e children fixed.0 in
        let inside : length (if_any children (spelled n unit table children)) ≡ length inner = if_len children _ _ (spelled_len n zeros unit 0 table children fixed.1) in
        let two_grown : Grown two table = Grown-then two (shapes_in two next) table (shapes_cover next two).1 grown in
        let one_grown : Grown one table = Grown-then one two table (shapes_cover children one).1 two_grown in
        let first : Stands n unit table (at + length node) children = subst (λ (p : ℕ). Stands n unit table (at + p) children) front stands.1 in
        let second : Stands n unit table (at + length node + length inner) next = subst (λ (p : ℕ). Stands n unit table p next) (λ i. at + front i + inside i) stands.2 in
        let whole : at + length (node ++ (inner ++ spelled zeros 0 table next)) ≡ at + length node + length inner + length (spelled zeros 0 table next) =
        omega (arith, length-append node (inner ++ spelled zeros 0 table next), length-append inner (spelled zeros 0 table next)) in
        let last : KeysAt n rest (event_places (shapes_in two next) (at + length node + length inner + length (spelled zeros 0 table next)) es) =
        subst (λ (p : ℕ). KeysAt n rest (event_places (shapes_in two next) p es)) whole more in
        let behind = entries_at next fixed.2 two table (at + length node + length inner) grown second rest es last in
        let below = children_at children (entries_at children fixed.1) one table (at + length node) two_grown first (steps next ++ rest) (events zeros 0 next ++ es) behind in
        let here = entry_at e children shapes table at one_grown stands.0 (if_steps children (steps children) ++ (steps next ++ rest))
        (if_children children (events zeros 0 children) ++ (events zeros 0 next ++ es)) below in
        subst (λ (w : List (Step K)). KeysAt n (Enter e (line_any children) ∷ w)
        (event_places shapes at (entry_event zeros 0 e children ∷ ((if_children children (events zeros 0 children) ++ events zeros 0 next) ++ es))))
        (sym (append_assoc (if_steps children (steps children)) (steps next) rest))
        (subst (λ (w : List Event). KeysAt n (Enter e (line_any children) ∷ (if_steps children (steps children) ++ (steps next ++ rest))) (event_places shapes at (entry_event zeros 0 e children ∷ w)))
        (sym (append_assoc (if_children children (events zeros 0 children)) (events zeros 0 next) es)) here)

  -- the keys of a unit that stands there
  pub unit_at : (n : Numbering K) (u : DwUnit K) (at : ℕ) → FixedUnit u → UnitStands n u at → KeysAt n (unit_steps u) (event_places [] (at + written_header_size u.kind) (unit_events zeros 0 u))
  unfolding event_places
  unit_at n u at fixed stands =
      let table = table_of u in
      let start = at + written_header_size u.kind in
      let one = with_shape [] (declaration_shape u.root u.below) in
      let front : length (node_bytes n at table u.root u.below) ≡ length (node_bytes zeros 0 table u.root u.below) = node_len n zeros at 0 table u.root u.below fixed.0 in
      let below : Stands n at table (start + length (node_bytes zeros 0 table u.root u.below)) u.below = subst (λ (p : ℕ). Stands n at table (start + p) u.below) front stands.below in
      let same : Grown (shapes_in one u.below) table = record { more = []; is = sym (append-nil table) } in
      let inner = children_at n at u.below (entries_at n at u.below fixed.1) one table (start + length (node_bytes zeros 0 table u.root u.below)) same below [] [] tt in
      let here = entry_at n at u.root u.below [] table start (shapes_cover u.below one).1 stands.root (if_steps u.below (steps u.below) ++ []) (if_children u.below (events zeros 0 u.below) ++ [])
      inner in
      subst (λ (w : List (Step K)). KeysAt n (Enter u.root (line_any u.below) ∷ w) (event_places [] start (unit_events zeros 0 u))) (append-nil (if_steps u.below (steps u.below)))
      (subst (λ (w : List Event). KeysAt n (Enter u.root (line_any u.below) ∷ (if_steps u.below (steps u.below) ++ [])) (event_places [] start (entry_event zeros 0 u.root u.below ∷ w)))
      (append-nil (if_children u.below (events zeros 0 u.below))) here)

-- ---- the same of lines

abbrev pub HeldAt : {K : Type 0} → Numbering K → List (HeldStep K) → List ℕ → Type 0
HeldAt n [] ps = Unit {0}
HeldAt n (Begin l children ∷ ss) [] = ⊥
HeldAt n (Begin l children ∷ ss) (p ∷ ps) = (n.place l.key ≡ p) × HeldAt n ss ps
HeldAt n (Finish ∷ ss) ps = HeldAt n ss ps

module _ {K : Type 0} (n : Numbering K) where
  leaves_held : (count others : ℕ) (ss : List (Step K)) (hs : List (HeldStep K)) (ps : List ℕ) → (KeysAt n ss ps → HeldAt n hs ps) → KeysAt n (replicate count Leave ++ ss) ps
      → HeldAt n (replicate others Finish ++ hs) ps
  leaves_held zero zero ss hs ps go keys = go keys
  leaves_held zero (suc others) ss hs ps go keys = leaves_held zero others ss hs ps go keys
  leaves_held (suc count) others ss hs ps go keys = leaves_held count others ss hs ps go keys

  pub lines_held : (lines : List (Line K)) (ps : List ℕ) → KeysAt n (steps_of lines) ps → HeldAt n (held_steps (map line_held lines)) ps
  unfolding steps_of held_steps
  lines_held [] ps keys = tt
  lines_held (l ∷ lines) [] keys = keys
  lines_held (l ∷ lines) (p ∷ ps) keys =
      (keys.0, leaves_held (l.depth - line_depth lines) (l.depth - held_depth (map line_held lines)) (steps_of lines) (held_steps (map line_held lines)) ps (lines_held lines ps) keys.1)

-- ---- slots at places

module _ {K : Type 0} (keys : Keys K) (n : Numbering K) (k : EntryTable) (here : WritingContext) where
  abbrev pub SlotsAt : List Slot → List Stand → Type 0
  SlotsAt [] laid = Unit {0}
  SlotsAt (s ∷ slots) [] = ⊥
  SlotsAt (s ∷ slots) (l ∷ laid) = (n.place (key_of keys k here.unit s.depth s.origin) ≡ l.at) × SlotsAt slots laid

  leaves_at : (count : ℕ) (ss : List (HeldStep K)) (ps : List ℕ) → HeldAt n (replicate count Finish ++ ss) ps → HeldAt n ss ps
  leaves_at zero ss ps at = at
  leaves_at (suc count) ss ps at = leaves_at count ss ps at

  pub slots_at : (slots : List Slot) (laid : List Stand) → HeldAt n (held_steps (map (slot_held keys k here) slots)) (map (λ (l : Stand). l.at) laid) → SlotsAt slots laid
  unfolding held_steps
  slots_at [] laid at = tt
  slots_at (s ∷ slots) [] at = at
  slots_at (s ∷ slots) (l ∷ laid) at =
      (at.0, slots_at slots laid (leaves_at (s.depth - held_depth (map (slot_held keys k here) slots)) (held_steps (map (slot_held keys k here) slots)) (map (λ (x : Stand). x.at) laid) at.1))
