-- Entries that show those of a unit: their calls are the unit's events, and where they are laid its keys stand.
use Rattle.std.proofs.Common.{◌≡◌, ℕ, zero, suc, ◌+◌, ◌<◌, List, [], ◌∷◌, ◌++◌, length, map, replicate, slice_index, refl, sym, ap, subst, ◌∙◌, arith}
use Rattle.std.proofs.lemmas.List.{map-append}
use Rattle.dwz_def_encoding.specs.Placing.{zeros}
use Rattle.dwz_def_encoding.specs.Writing.{Numbering}
use Rattle.dwz_def_reading.specs.Lists.{Each}
use Rattle.dwz_encode.proofs.KeyLemmas.{KeysAt}
use Rattle.dwz_encode.proofs.PassLemmas.{calls_events}
use Rattle.dwz_encode.proofs.StepLemmas.{AttrAgrees, ContentAgrees, RowAgrees, held_attrs, step_event, stored_held}
use Rattle.dwz_encode.specs.Events.{EndOfList, Event, NewEntry}
use Rattle.dwz_encode.specs.Shown.{attr_held, held_of}
use Rattle.dwz_layout.specs.Attributes.{Content, Numbers, OfEntry, OfParts, OfRoot, OutAttr, Read, no_numbers}
use Rattle.dwz_layout_items.specs.Lines.{Enter, Leave, Step}
use Rattle.dwz_expand_layout.specs.Entries.{NewLine, line_call}
use Rattle.dwz_expand_layout.specs.Shown.{Begins, ContentRefers, AttrRefers, Ends, LineRefers, ShownStep, keys_of, line_steps, shown_step}

-- ---- events

abbrev pub shown_event : {K : Type 0} → Numbering K → ℕ → ShownStep K → Event
shown_event n unit (Begins k tag children attrs) = NewEntry tag children (map (stored_held n unit) attrs)
shown_event n unit Ends = EndOfList

pub steps_shown : {K : Type 0} (n : Numbering K) (unit : ℕ) (ss : List (Step K)) → map (shown_event n unit) (map shown_step ss) ≡ map (step_event n unit) ss
steps_shown n unit [] = refl
steps_shown n unit (Enter e children ∷ ss) = ap (λ (es : List Event). NewEntry e.tag children (map (stored_held n unit) (map held_of e.attrs)) ∷ es) (steps_shown n unit ss)
steps_shown n unit (Leave ∷ ss) = ap (λ (es : List Event). EndOfList ∷ es) (steps_shown n unit ss)

module _ {K : Type 0} (key : ℕ → K) (n : Numbering K) (m : Numbers) where
  -- what an entry names has the numbers of its keys
  abbrev pub LineAgrees : NewLine → Type 0
  LineAgrees l = Each (AttrAgrees (keys_of key) n m) l.attrs

  ends_shown : (count : ℕ) → map (shown_event n m.unit) (replicate count Ends) ≡ replicate count EndOfList
  ends_shown zero = refl
  ends_shown (suc count) = ap (λ (es : List Event). EndOfList ∷ es) (ends_shown count)

  pub lines_shown : (number : ℕ) (lines : List NewLine) → Each LineAgrees lines → map (shown_event n m.unit) (line_steps key number lines) ≡ calls_events (map (line_call m) lines)
  unfolding line_steps calls_events
  lines_shown number [] agree = refl
  lines_shown number (l ∷ lines) agree =
      let rest = line_steps key (suc number) lines in
      let ends : List (ShownStep K) = replicate l.ends Ends in
      let attrs = map (stored_held n m.unit) (map (attr_held (keys_of key)) l.attrs) in
      ap (λ (es : List Event). NewEntry l.tag l.children attrs ∷ es) (map-append (shown_event n m.unit) ends rest)
      ∙ (λ i. NewEntry l.tag l.children (held_attrs (keys_of key) n m l.attrs agree.0 i) ∷ (ends_shown l.ends i ++ lines_shown (suc number) lines agree.1 i))

-- ---- where there are no numbers, they agree

module _ {K : Type 0} (key : ℕ → K) where
  no_rows : (numbers : List ℕ) → Each (RowAgrees (keys_of key) zeros no_numbers) numbers
  no_rows [] = tt
  no_rows (x ∷ numbers) = (refl, no_rows numbers)

  no_content : (c : Content) → ContentAgrees (keys_of key) zeros no_numbers c
  no_content (Read raw) = tt
  no_content (OfEntry number) = refl
  no_content (OfRoot unit) = refl
  no_content (OfParts parts numbers) = no_rows numbers

  no_attrs : (attrs : List OutAttr) → Each (AttrAgrees (keys_of key) zeros no_numbers) attrs
  no_attrs [] = tt
  no_attrs (a ∷ attrs) = (no_content a.content, no_attrs attrs)

  pub no_lines : (lines : List NewLine) → Each (LineAgrees key zeros no_numbers) lines
  no_lines [] = tt
  no_lines (l ∷ lines) = (no_attrs l.attrs, no_lines lines)

-- ---- where each copy has the place of its key, they agree

module _ {K : Type 0} (key : ℕ → K) (n : Numbering K) (m : Numbers) (count : ℕ) (there : (i : ℕ) → i < count → slice_index m.places i ≡ n.place (key i)) where
  rows_agree : (numbers : List ℕ) → Each (λ i. i < count) numbers → Each (RowAgrees (keys_of key) n m) numbers
  rows_agree [] refer = tt
  rows_agree (x ∷ numbers) refer = (sym (there x refer.0), rows_agree numbers refer.1)

  content_agrees : (c : Content) → ContentRefers count c → ContentAgrees (keys_of key) n m c
  content_agrees (Read raw) refers = tt
  content_agrees (OfEntry number) refers = sym (there number refers)
  content_agrees (OfRoot unit) refers = absurd refers
  content_agrees (OfParts parts numbers) refers = rows_agree numbers refers

  attrs_agree : (attrs : List OutAttr) → Each (AttrRefers count) attrs → Each (AttrAgrees (keys_of key) n m) attrs
  attrs_agree [] refer = tt
  attrs_agree (a ∷ attrs) refer = (content_agrees a.content refer.0, attrs_agree attrs refer.1)

  pub lines_agree : (lines : List NewLine) → Each (LineRefers count) lines → Each (LineAgrees key n m) lines
  lines_agree [] refer = tt
  lines_agree (l ∷ lines) refer = (attrs_agree l.attrs refer.0, lines_agree lines refer.1)

-- ---- places

module _ {K : Type 0} (n : Numbering K) where
  abbrev pub ShownAt : List (ShownStep K) → List ℕ → Type 0
  ShownAt [] ps = Unit {0}
  ShownAt (Begins k tag children attrs ∷ ss) [] = ⊥
  ShownAt (Begins k tag children attrs ∷ ss) (p ∷ ps) = (n.place k ≡ p) × ShownAt ss ps
  ShownAt (Ends ∷ ss) ps = ShownAt ss ps

  pub keys_shown : (ss : List (Step K)) (ps : List ℕ) → KeysAt n ss ps → ShownAt (map shown_step ss) ps
  keys_shown [] ps keys = tt
  keys_shown (Enter e children ∷ ss) [] keys = keys
  keys_shown (Enter e children ∷ ss) (p ∷ ps) keys = (keys.0, keys_shown ss ps keys.1)
  keys_shown (Leave ∷ ss) ps keys = keys_shown ss ps keys

  ends_at : (count : ℕ) (ss : List (ShownStep K)) (ps : List ℕ) → ShownAt (replicate count Ends ++ ss) ps → ShownAt ss ps
  ends_at zero ss ps at = at
  ends_at (suc count) ss ps at = ends_at count ss ps at

  -- the places of copies, of which the first has that number, are those of their keys
  abbrev pub CopiesAt : (ℕ → K) → ℕ → List ℕ → Type 0
  CopiesAt key number [] = Unit {0}
  CopiesAt key number (p ∷ ps) = (n.place (key number) ≡ p) × CopiesAt key (suc number) ps

  module _ (key : ℕ → K) where
    pub lines_at : (number : ℕ) (lines : List NewLine) (ps : List ℕ) → length ps ≡ length lines → ShownAt (line_steps key number lines) ps → CopiesAt key number ps
    unfolding line_steps
    lines_at number lines [] same at = tt
    lines_at number [] (p ∷ ps) same at = absurd (omega (arith, same))
    lines_at number (l ∷ lines) (p ∷ ps) same at = (at.0, lines_at (suc number) lines ps (omega (arith, same)) (ends_at l.ends (line_steps key (suc number) lines) ps at.1))

    pub copies_append : (number : ℕ) (xs ys : List ℕ) → CopiesAt key number xs → CopiesAt key (number + length xs) ys → CopiesAt key number (xs ++ ys)
    copies_append number [] ys first second = (let none : number + 0 ≡ number = omega arith in subst (λ (k : ℕ). CopiesAt key k ys) none second)
    copies_append number (x ∷ xs) ys first second =
        let next : number + length (x ∷ xs) ≡ suc number + length xs = omega arith in
        (first.0, copies_append (suc number) xs ys first.1 (subst (λ (k : ℕ). CopiesAt key k ys) next second))

    pub copy_at : (number : ℕ) (ps : List ℕ) (i : ℕ) → CopiesAt key number ps → i < length ps → slice_index ps i ≡ n.place (key (number + i))
    copy_at number [] i at lt = absurd (omega (arith, lt))
    copy_at number (p ∷ ps) zero at lt = (let none : number ≡ number + 0 = omega arith in sym at.0 ∙ ap (λ (k : ℕ). n.place (key k)) none)
    copy_at number (p ∷ ps) (suc i) at lt =
        let next : suc number + i ≡ number + suc i = omega arith in
        copy_at (suc number) ps i at.1 (omega (arith, lt)) ∙ ap (λ (k : ℕ). n.place (key k)) next
