-- Attributes, value by value.
use Rattle.std.proofs.Common.{◌≡◌, ℕ, zero, suc, ◌+◌, ◌≤◌, List, [], ◌∷◌, ◌++◌, length, map, drop, slice_get, Err, refl, sym, ap, subst, ◌∙◌, arith, inl, inr}
use Rattle.std.proofs.lemmas.List.{append-nil, append_assoc, length-append, length-map, map-append}
use Rattle.dwz_model.specs.Lists.{Each}
use Rattle.dwz_model.specs.declared.fault.Fault.{Fault}
use Rattle.dwz_model.specs.declared.fault.ReadErr.{ReadErr}
use Rattle.dwz_model.specs.declared.fault.ReadErr.TheVariants.{NoMemory, Refused}
use Rattle.dwz_def_reading.specs.Documents.{Attr, Block, Expr, File, Flag, Index, Loc, Num, Plain, Ref, Sec, Sig, Text, Addr}
use Rattle.dwz_def_reading.specs.Entries.{RawAttr}
use Rattle.dwz_def_reading.specs.Meanings.{without_siblings}
use Rattle.dwz_def_reading.specs.Meant.{attr_with, attrs_meaning}
use Rattle.dwz_def_expand.specs.Source.{Copy}
use Rattle.dwz_graph.specs.Named.{attrs_refs, refs_beside, value_refs}
use Rattle.dwz_graph.specs.Surroundings.{place_among}
use Rattle.dwz_graph.proofs.StepLemmas as Steps
use Rattle.dwz_check_labels.specs.Values.{AreAttrsMeant}
use Rattle.dwz_check_labels.proofs.ValueLemmas.{NextAttr, next_attr}
use Rattle.dwz_encode.specs.Shown.{HeldAttr, content_held}
use Rattle.dwz_expand_sources.proofs.RangeLemmas.{range_kept}
use Rattle.dwz_expand_layout.specs.declared.entries.Content.{Content}
use Rattle.dwz_expand_layout.specs.declared.entries.Content.TheVariants.{Expression, OfCopy, Stored}
use Rattle.dwz_expand_layout.specs.declared.entries.NewAttr.{NewAttr}
use Rattle.dwz_expand_layout.specs.declared.entries.NewOperand.{NewOperand}
use Rattle.dwz_expand_layout.specs.Entries.{content_view, parts_in}
use Rattle.dwz_layout.specs.Attributes as Out
use Rattle.dwz_expand_passes.specs.declared.files.SourceEntry.{SourceEntry}
use Rattle.dwz_expand_passes.specs.Attributes.{FirstRefused, PutsAttr, Remain, held_by, held_for}
use Rattle.dwz_expand_passes.specs.Copied.{Answers, Asks, IsAt, IsCopyOf, IsWithin, Refuses, names_many, said, site}
use Rattle.dwz_expand_passes.specs.Known.{Fits, Setting, raw_of, scope}
use Rattle.dwz_expand_passes.proofs.OperandLemmas.{each_last, map_twice}

-- ---- lists

pub each_drop : {X : Type 0} (P : X → Type 0) (k : ℕ) (xs : List X) → Each P xs → Each P (drop k xs)
each_drop P zero xs all = all
each_drop P (suc k) [] all = tt
each_drop P (suc k) (x ∷ xs) all = each_drop P k xs all.1

each_map : {X : Type 0} (P Q : X → Type 0) (xs : List X) → ((x : X) → P x → Q x) → Each P xs → Each Q xs
each_map P Q [] f all = tt
each_map P Q (x ∷ xs) f all = (f x all.0, each_map P Q xs f all.1)

-- ---- operands that come later

view_stays : (old more : List NewOperand) (a : Content) → IsWithin (length old) a → content_view (old ++ more) a ≡ content_view old a
view_stays old more (Stored raw) h = refl
view_stays old more (OfCopy n) h = refl
view_stays old more (Expression e) h = ap (λ (own : List NewOperand). parts_in e.start e.bytes.now own) (range_kept old more e.first e.end h.0 h.1)

within_more : (old new : ℕ) → old ≤ new → (a : Content) → IsWithin old a → IsWithin new a
within_more old new le (Stored raw) h = tt
within_more old new le (OfCopy n) h = tt
within_more old new le (Expression e) h = (let b = h.1 in (h.0, omega arith))

held_stays : (q : Setting) (old more : List NewOperand) (attrs : List NewAttr) → Each (λ a. IsWithin (length old) a.content) attrs → map (held_by q (old ++ more)) attrs ≡ map (held_by q old) attrs
held_stays q old more [] h = refl
held_stays q old more (a ∷ attrs) h =
    λ i. held_with (view_stays old more a.content h.0 i) ∷ held_stays q old more attrs h.1 i
  where
    held_with : Out.Content → HeldAttr (Copy ℕ)
    held_with c = record { pair = a.pair; held = content_held q.keys c }

-- ---- references

refs_placed : (g : ℕ → ℕ) (plain : Plain) (refs : List ℕ) → refs_beside plain (map g refs) ≡ map g (refs_beside plain refs)
refs_placed g (Loc exprs) refs = refl
refs_placed g (Num w n) refs = refl
refs_placed g (Flag b) refs = refl
refs_placed g (Block bytes) refs = refl
refs_placed g (Text text) refs = refl
refs_placed g (File path) refs = refl
refs_placed g Ref refs = refl
refs_placed g (Sig s) refs = refl
refs_placed g (Addr n) refs = refl
refs_placed g (Index n) refs = refl
refs_placed g (Sec n) refs = refl
refs_placed g (Expr parts) refs = refl

module _ (x : SourceEntry) (q : Setting) where
  abbrev place : ℕ → ℕ
  place = place_among q.around.common (raw_of x)

  pub skip_attr : (a : RawAttr) (values : List RawAttr) (refs : List ℕ) (all : List (Attr ℕ)) (attrs : List NewAttr) (operands : List NewOperand) → a.pair.name ≡ 0x01
      → Remain x q (a ∷ values) refs all attrs operands → Remain x q values refs all attrs operands
  skip_attr a values refs all attrs operands is h =
      let same = Steps.skipped a values is in
      record {
        left = h.left;
        meant = record { means = ap (attrs_meaning (scope q)) (sym same) ∙ h.meant.means; named = h.meant.named };
        among = h.among;
        at = λ k b found. h.at k b (ap (λ (w : List RawAttr). slice_get w k) same ∙ found);
        lines = λ j b found. h.lines (suc j) b found;
        shows = h.shows;
        within = h.within;
        faults = h.faults;
      }

  module _ (a : RawAttr) (values : List RawAttr) (refs : List ℕ) (all : List (Attr ℕ)) (attrs : List NewAttr) (operands : List NewOperand) (other : a.pair.name ≡ 0x01 → ⊥)
      (h : Remain x q (a ∷ values) refs all attrs operands) where
    abbrev pub n : NextAttr (scope q) place refs a values h.left
    n = next_attr (scope q) place refs a values h.left other h.meant

    taken : without_siblings (a ∷ values) ≡ a ∷ without_siblings values
    taken = Steps.taken a values other

    pub asks : Fits x q → Asks x q (length attrs) a n.value refs (map q.place (attrs_refs n.left))
    asks fits =
        let at : length attrs + 0 ≡ length attrs = omega arith in
        record {
          fits = fits;
          at = subst (λ (k : ℕ). IsAt q k a) at (h.at 0 a (ap (λ (w : List RawAttr). slice_get w 0) taken));
          means = n.means;
          line = h.lines 0 a refl;
          among = h.among;
          named = map_twice q.place place refs ∙ ap (map q.place) n.named ∙ map-append q.place (value_refs n.value) (attrs_refs n.left)
              ∙ ap (λ (w : List ℕ). w ++ map q.place (attrs_refs n.left)) (sym (refs_placed q.place n.value.plain n.value.refs));
        }

    pub refused_here : (f : Fault) → Refuses q (site q (length attrs) (said q a n.value)) f → FirstRefused q 0 all f
    refused_here f r = (h.faults f).1 (subst (λ (w : List (Attr ℕ)). FirstRefused q (length attrs) w f) (sym n.parts) (inl r))

    pub put_err : (later : List NewOperand) (after : List NewAttr) (e : ReadErr) → Answers q (length attrs) a n.value operands later (Err e) → PutsAttr x q values all after later (Err e)
    put_err later after NoMemory h = tt
    put_err later after (Refused f) h = refused_here f h

    pub attr_put : (new : NewAttr) (later : List NewOperand) → ((f : Fault) → ¬ Refuses q (site q (length attrs) (said q a n.value)) f) → IsCopyOf q (said q a n.value) operands later new
        → Remain x q values (drop (names_many new.content) refs) all (attrs ++ new ∷ []) later
    attr_put new later free is =
        let long : length (attrs ++ new ∷ []) ≡ suc (length attrs) = omega (arith, length-append attrs (new ∷ [])) in
        let grown : length operands ≤ length later = (let l = ap (λ (w : List NewOperand). length w) is.grown in omega (arith, l, length-append operands is.more)) in
        let many : names_many new.content ≡ length (value_refs n.value) =
        is.many ∙ ap (λ (w : List ℕ). length w) (refs_placed q.place n.value.plain n.value.refs) ∙ length-map (value_refs n.value) q.place in
        record {
          left = n.left;
          meant = subst (λ (k : ℕ). AreAttrsMeant (scope q) place (drop k refs) values n.left) (sym many) n.rest;
          among = each_drop _ (names_many new.content) refs h.among;
          at = λ k b found. (let e : length attrs + suc k ≡ length (attrs ++ new ∷ []) + k = omega (arith, long) in
              subst (λ (m : ℕ). IsAt q m b) e (h.at (suc k) b (ap (λ (w : List RawAttr). slice_get w (suc k)) taken ∙ found)));
          lines = λ j b found. h.lines (suc j) b found;
          shows =
              ap (λ (w : List (HeldAttr (Copy ℕ))). w ++ map (held_for q) n.left)
              (map-append (held_by q later) attrs (new ∷ []) ∙ (λ i. before i ++ is.shows i ∷ []))
              ∙ append_assoc (map (held_by q operands) attrs) (held_for q (attr_with a n.value) ∷ []) (map (held_for q) n.left)
              ∙ ap (λ (w : List (Attr ℕ)). map (held_by q operands) attrs ++ map (held_for q) w) (sym n.parts) ∙ h.shows;
          within = each_last _ attrs new (each_map _ _ attrs (λ b w. within_more (length operands) (length later) grown b.content w) h.within) is.within;
          faults = λ f. (
            (λ first. subst (λ (k : ℕ). FirstRefused q k n.left f) (sym long) (later_one f ((h.faults f).0 first))),
            (λ rest. (h.faults f).1 (subst (λ (w : List (Attr ℕ)). FirstRefused q (length attrs) w f) (sym n.parts) (inr (free, subst (λ (k : ℕ). FirstRefused q k n.left f) long rest)))),
          );
        }
      where
        before : map (held_by q later) attrs ≡ map (held_by q operands) attrs
        before = ap (λ (w : List NewOperand). map (held_by q w) attrs) is.grown ∙ held_stays q operands is.more attrs h.within

        later_one : (f : Fault) → FirstRefused q (length attrs) h.left f → FirstRefused q (suc (length attrs)) n.left f
        later_one f first = by (subst (λ (w : List (Attr ℕ)). FirstRefused q (length attrs) w f) n.parts first) where
          by : FirstRefused q (length attrs) (attr_with a n.value ∷ n.left) f → FirstRefused q (suc (length attrs)) n.left f
          by (inl here) = absurd (free f here)
          by (inr rest) = rest.1

  -- ---- all of them

  none_left : (refs : List ℕ) (left : List (Attr ℕ)) → AreAttrsMeant (scope q) place refs [] left → left ≡ []
  unfolding attrs_meaning without_siblings
  none_left refs left h = (let e = h.means in let w : [] ≡ left = cc in sym w)

  pub all_put : (refs : List ℕ) (all : List (Attr ℕ)) (attrs : List NewAttr) (operands : List NewOperand) → Remain x q [] refs all attrs operands
      → (map (held_by q operands) attrs ≡ map (held_for q) all) × ((f : Fault) → ¬ FirstRefused q 0 all f)
  all_put refs all attrs operands h =
      let none = none_left refs h.left h.meant in (
        sym (append-nil (map (held_by q operands) attrs)) ∙ ap (λ (w : List (Attr ℕ)). map (held_by q operands) attrs ++ map (held_for q) w) (sym none) ∙ h.shows,
        (λ f first. subst (λ (w : List (Attr ℕ)). FirstRefused q (length attrs) w f) none ((h.faults f).0 first)),
      )
