-- A list that is kept, as one that is named.
use Rattle.std.proofs.Common.{◌≡◌, ◌⊎◌, ℕ, suc, ◌+◌, ◌<◌, ◌≤◌, ◌^◌, true, List, [], ◌∷◌, ◌++◌, length, false, Some, None, Ok, slice_get, refl, sym, ap, subst, ◌∙◌, inl, inr, arith}
use Rattle.std.proofs.lemmas.List.{length-append}
use Rattle.dwz_def_reading.specs.Lists.{In}
use Rattle.dwz_def_reading.specs.Units.{RawUnit}
use Rattle.dwz_def_reading.proofs.ListFacts.{get_first, get_last, in_cases, in_left, in_right, same_got}
use Rattle.dwz_def_reading.specs.declared.exprs.Operand.{Operand}
use Rattle.dwz_def_reading.specs.LocLists.{LocList}
use Rattle.dwz_def_reading.specs.Meanings.{MeaningContext}
use Rattle.dwz_def_reading.specs.Shared.{NamedList}
use Rattle.dwz_lists.specs.FirstFault.{WalksInto}
use Rattle.dwz_graph_resolve.specs.declared.lists.ListRow.{ListRow}
use Rattle.dwz_graph_resolve.specs.declared.lists.Lists.{Lists}
use Rattle.dwz_graph_resolve.specs.declared.list_parts.Stop.{Stop}
use Rattle.dwz_graph_resolve.specs.declared.operands.ListOperand.{ListOperand}
use Rattle.dwz_graph_resolve.specs.declared.state.State.{State}
use Rattle.dwz_graph_resolve.specs.declared.files.Files.{Files}
use Rattle.dwz_graph_resolve.specs.FileRows.{KnowTables}
use Rattle.dwz_graph_resolve.specs.Apart.{Rows}
use Rattle.dwz_graph_resolve.specs.ListRows.{AreOfFile, IsKept, IsPieceOf, IsWithin, Shows, own_rows}
use Rattle.dwz_graph_resolve.specs.ListParts.{Fits, IsPlain, IsReadUp, IsStop, KnowMarks, Marks, WasMarked}
use Rattle.dwz_graph_resolve.specs.ListSteps.{AreOperands, HasList, named_list}
use Rattle.dwz_graph_resolve.specs.State.{IsRead, IsState}
use Rattle.dwz_graph_resolve.proofs.ListKept.{Added, Grown, IsRest, fresh, grown, kept_grown, kept_there, list_from, old_own, piece, read_here, read_there, rest_end}
use Rattle.dwz_graph_resolve.proofs.ListKept.{rest_plain, rest_read, stands}
use Rattle.dwz_graph_resolve.proofs.ListPasses.{end_is_plain, passes_from, plain_there}

in_last : {X : Type 0} (x y : X) → In x (y ∷ []) → y ≡ x
in_last x y (inl same) = same
in_last x y (inr is) = absurd is

at_end : {X : Type 0} (xs : List X) (y : X) → In y (xs ++ y ∷ [])
at_end xs y = in_right y xs (y ∷ []) (inl refl)

-- ---- what the rows show

pub record IsAdded (raw : List RawUnit) (file : ℕ) (l : NamedList) (old new : Lists) : Type 0 where
  pub g : Grown old.rows.items new.rows.items old.operands.items new.operands.items
  pub no_slot : l.slot ≡ None
  pub slots : new.slots.items ≡ old.slots.items
  pub of_file : AreOfFile raw file g.more
  pub own : own_rows new.operands.items g.row ≡ g.more
  pub row_within : IsWithin new.operands.items g.row
  pub piece : IsPieceOf raw new.operands.items l.unit l.from l.list g.row
  pub kept : IsKept raw new.rows.items new.operands.items l.unit l.from l.list
  pub stand : Rows (g.row.from + 1) g.more g.row.end

pub shows_more : (raw : List RawUnit) (file : ℕ) (named : List NamedList) (l : NamedList) (old new : Lists) → IsAdded raw file l old new → Shows raw file named old
    → Shows raw file (named ++ l ∷ []) new
shows_more raw file named l old new a k =
    let w = a.g.row in
    let more = a.g.more in
    let of : (w0 : ListRow) → In w0 new.rows.items → In w0 (old.rows.items ++ w ∷ []) = λ w0 is. subst (λ (xs : List ListRow). In w0 xs) a.g.rows_are is in
    let into : (w0 : ListRow) → In w0 (old.rows.items ++ w ∷ []) → In w0 new.rows.items = λ w0 is. subst (λ (xs : List ListRow). In w0 xs) (sym a.g.rows_are) is in
    let same : (w0 : ListRow) → In w0 old.rows.items → own_rows new.operands.items w0 ≡ own_rows old.operands.items w0
    = λ w0 is. old_own raw old.rows.items new.rows.items old.operands.items new.operands.items a.g w0 is in
    let len : length new.operands.items ≡ length old.operands.items + length more = ap length a.g.operands_are ∙ length-append old.operands.items more in
    let cases : (o : ListOperand) → In o new.operands.items → In o old.operands.items ⊎ In o more
    = λ o is. in_cases o old.operands.items more (subst (λ (xs : List ListOperand). In o xs) a.g.operands_are is) in
    record {
      within = λ w0 is. elim (in_cases w0 old.rows.items (w ∷ []) (of w0 is)) [
        | inl here ↦ (let low = (k.within w0 here).0 in low, let high = (k.within w0 here).1 in omega arith)
        | inr there ↦ subst (λ (x : ListRow). IsWithin new.operands.items x) (in_last w0 w there) a.row_within
      ];
      rows = λ l0 is. elim (in_cases l0 named (l ∷ []) is) [
        | inl here ↦ kept_grown raw old.rows.items new.rows.items old.operands.items new.operands.items a.g l0.unit l0.from l0.list (k.rows l0 here)
        | inr there ↦ subst (λ (x : NamedList). IsKept raw new.rows.items new.operands.items x.unit x.from x.list) (in_last l0 l there) a.kept
      ];
      lists_of = λ w0 is. elim (in_cases w0 old.rows.items (w ∷ []) (of w0 is)) [
        | inl here ↦ (let r = k.lists_of w0 here in (
          r.0,
          in_left r.0 named (l ∷ []) r.1,
          record {
            from = r.2.from;
            end = r.2.end;
            own = λ p own b has lt. (let o = r.2.own p own b has lt in (o.0, subst (λ (xs : List ListOperand). In o.0 xs) (sym (same w0 here)) o.1, o.2));
            others = λ o own. r.2.others o (subst (λ (xs : List ListOperand). In o xs) (same w0 here) own);
          },
        ))
        | inr there ↦ (l, at_end named l, subst (λ (x : ListRow). IsPieceOf raw new.operands.items l.unit l.from l.list x) (in_last w0 w there) a.piece)
      ];
      slots = λ l0 slot is e. elim (in_cases l0 named (l ∷ []) is) [
        | inl here ↦ subst (λ (xs : List ℕ). In slot xs) (sym a.slots) (k.slots l0 slot here e)
        | inr there ↦ absurd (let no : None ≡ Some slot = sym a.no_slot ∙ ap (λ (x : NamedList). x.slot) (in_last l0 l there) ∙ e in cc)
      ];
      slots_of = λ slot is. (let r = k.slots_of slot (subst (λ (xs : List ℕ). In slot xs) a.slots is) in (r.0, in_left r.0 named (l ∷ []) r.1, r.2));
      operands_of = λ o is. elim (cases o is) [
        | inl here ↦ (let r = k.operands_of o here in
            (r.0, into r.0 (in_left r.0 old.rows.items (w ∷ []) r.1), subst (λ (xs : List ListOperand). In o xs) (sym (same r.0 r.1)) r.2))
        | inr there ↦ (w, into w (at_end old.rows.items w), subst (λ (xs : List ListOperand). In o xs) (sym a.own) there)
      ];
      of_file = λ o is. elim (cases o is) [
        | inl here ↦ k.of_file o here
        | inr there ↦ a.of_file o there
      ];
      stand = λ w0 is. elim (in_cases w0 old.rows.items (w ∷ []) (of w0 is)) [
        | inl here ↦ subst (λ (xs : List ListOperand). Rows (w0.from + 1) xs w0.end) (sym (same w0 here)) (k.stand w0 here)
        | inr there ↦ subst (λ (x : ListRow). Rows (x.from + 1) (own_rows new.operands.items x) x.end) (in_last w0 w there)
            (subst (λ (xs : List ListOperand). Rows (w.from + 1) xs w.end) (sym a.own) a.stand)
      ];
    }

-- a list that is kept already is named
pub shows_again : (raw : List RawUnit) (file : ℕ) (named : List NamedList) (l : NamedList) (lists : Lists) → IsKept raw lists.rows.items lists.operands.items l.unit l.from l.list → l.slot ≡ None
    → Shows raw file named lists → Shows raw file (named ++ l ∷ []) lists
shows_again raw file named l lists kept none k =
    record {
      within = k.within;
      rows = λ l0 is. elim (in_cases l0 named (l ∷ []) is) [
        | inl here ↦ k.rows l0 here
        | inr there ↦ subst (λ (x : NamedList). IsKept raw lists.rows.items lists.operands.items x.unit x.from x.list) (in_last l0 l there) kept
      ];
      lists_of = λ w is. (let r = k.lists_of w is in (r.0, in_left r.0 named (l ∷ []) r.1, r.2));
      slots = λ l0 slot is e. elim (in_cases l0 named (l ∷ []) is) [
        | inl here ↦ k.slots l0 slot here e
        | inr there ↦ absurd (let no : None ≡ Some slot = sym none ∙ ap (λ (x : NamedList). x.slot) (in_last l0 l there) ∙ e in cc)
      ];
      slots_of = λ slot is. (let r = k.slots_of slot is in (r.0, in_left r.0 named (l ∷ []) r.1, r.2));
      operands_of = k.operands_of;
      of_file = k.of_file;
      stand = k.stand;
    }

-- the same list, by a slot
pub shows_slot : (raw : List RawUnit) (file : ℕ) (named : List NamedList) (s : MeaningContext ℕ) (place : ℕ) (list : LocList) (p : ℕ) (old new : Lists) → new.rows.items ≡ old.rows.items
    → new.operands.items ≡ old.operands.items → new.slots.items ≡ old.slots.items ++ p ∷ [] → Shows raw file (named ++ named_list s None place list ∷ []) old
    → Shows raw file (named ++ named_list s (Some p) place list ∷ []) new
shows_slot raw file named s place list p old new rows operands slots k =
    let l = named_list s None place list in
    let m = named_list s (Some p) place list in
    let kept : (l0 : NamedList) → IsKept raw old.rows.items old.operands.items l0.unit l0.from l0.list → IsKept raw new.rows.items new.operands.items l0.unit l0.from l0.list
    = λ l0 h. subst (λ (xs : List ListRow). IsKept raw xs new.operands.items l0.unit l0.from l0.list) (sym rows)
    (subst (λ (xs : List ListOperand). IsKept raw old.rows.items xs l0.unit l0.from l0.list) (sym operands) h) in
    let piece_of : (l0 : NamedList) (w : ListRow) → IsPieceOf raw old.operands.items l0.unit l0.from l0.list w → IsPieceOf raw new.operands.items l0.unit l0.from l0.list w
    = λ l0 w h. subst (λ (xs : List ListOperand). IsPieceOf raw xs l0.unit l0.from l0.list w) (sym operands) h in
    let was : (w : ListRow) → In w new.rows.items → In w old.rows.items = λ w is. subst (λ (xs : List ListRow). In w xs) rows is in
    let now : (w : ListRow) → In w old.rows.items → In w new.rows.items = λ w is. subst (λ (xs : List ListRow). In w xs) (sym rows) is in
    record {
      within = λ w is. subst (λ (xs : List ListOperand). IsWithin xs w) (sym operands) (k.within w (was w is));
      rows = λ l0 is. elim (in_cases l0 named (m ∷ []) is) [
        | inl here ↦ kept l0 (k.rows l0 (in_left l0 named (l ∷ []) here))
        | inr there ↦ subst (λ (x : NamedList). IsKept raw new.rows.items new.operands.items x.unit x.from x.list) (in_last l0 m there) (kept l (k.rows l (at_end named l)))
      ];
      lists_of = λ w is. (let r = k.lists_of w (was w is) in elim (in_cases r.0 named (l ∷ []) r.1) [
        | inl here ↦ (r.0, in_left r.0 named (m ∷ []) here, piece_of r.0 w r.2)
        | inr there ↦ (m, at_end named m, piece_of l w (subst (λ (x : NamedList). IsPieceOf raw old.operands.items x.unit x.from x.list w) (sym (in_last r.0 l there)) r.2))
      ]);
      slots = λ l0 slot is e. elim (in_cases l0 named (m ∷ []) is) [
        | inl here ↦ subst (λ (xs : List ℕ). In slot xs) (sym slots) (in_left slot old.slots.items (p ∷ []) (k.slots l0 slot (in_left l0 named (l ∷ []) here) e))
        | inr there ↦ (let both : Some p ≡ Some slot = ap (λ (x : NamedList). x.slot) (in_last l0 m there) ∙ e in let one : p ≡ slot = cc in
            subst (λ (xs : List ℕ). In slot xs) (sym slots) (in_right slot old.slots.items (p ∷ []) (inl one)))
      ];
      slots_of = λ slot is. elim (in_cases slot old.slots.items (p ∷ []) (subst (λ (xs : List ℕ). In slot xs) slots is)) [
        | inl here ↦ (let r = k.slots_of slot here in elim (in_cases r.0 named (l ∷ []) r.1) [
          | inl front ↦ (r.0, in_left r.0 named (m ∷ []) front, r.2)
          | inr there ↦ absurd (let no : None ≡ Some slot = ap (λ (x : NamedList). x.slot) (in_last r.0 l there) ∙ r.2 in cc)
        ])
        | inr there ↦ (m, at_end named m, ap (λ (n : ℕ). Some n) (in_last slot p there))
      ];
      operands_of = λ o is. (let r = k.operands_of o (subst (λ (xs : List ListOperand). In o xs) operands is) in
          (r.0, now r.0 r.1, subst (λ (xs : List ListOperand). In o (own_rows xs r.0)) (sym operands) r.2));
      of_file = λ o is. k.of_file o (subst (λ (xs : List ListOperand). In o xs) operands is);
      stand = λ w is. subst (λ (xs : List ListOperand). Rows (w.from + 1) (own_rows xs w) w.end) (sym operands) (k.stand w (was w is));
    }

-- ---- marks

-- what is known of a mark's row
pub marked_is : (rows : List ListRow) (marks : List ℕ) (P : ℕ → ListRow → Type 0) → KnowMarks rows marks P → (place : ℕ) (w : ListRow) (k : ℕ) → slice_get marks place ≡ Some (suc k)
    → slice_get rows k ≡ Some w → P place w
marked_is rows marks P know place w k there row =
    let r = know place k there in
    subst (λ (x : ListRow). P place x) (same_got rows k r.0 w r.1 row) r.2

-- a row is added, and places are marked with its number
marks_more : (rows rows' : List ListRow) (old mid new places : List ℕ) (w : ListRow) (P Q : ℕ → ListRow → Type 0) → rows' ≡ rows ++ w ∷ [] → Fits old mid → Marks mid places (length rows') new
    → ((place : ℕ) (x : ListRow) → P place x → Q place x) → ((place : ℕ) → In place places → Q place w) → KnowMarks rows old P → KnowMarks rows' new Q
marks_more rows rows' old mid new places w P Q are fits marks still fresh know place k e = elim (marks place (suc k) e) [
  | inl before ↦ (let r = know place k (fits place k before) in
      (r.0, ap (λ (xs : List ListRow). slice_get xs k) are ∙ get_first rows (w ∷ []) k r.0 r.1, still place r.0 r.2))
  | inr here ↦
      let number : suc k ≡ length rows' = here.1 in
      let last : k ≡ length rows = omega (arith, number, ap length are, length-append rows (w ∷ [])) in
      (w, (λ i. slice_get (are i) (last i)) ∙ get_last rows w, fresh place here.0)
]

-- ---- the state

module _ (raw : List RawUnit) (s : MeaningContext ℕ) (n : ℕ) (named : List NamedList) where
  abbrev section : List ℕ
  section = s.around.sources.lists

  abbrev Known : List ListRow → List ListOperand → ℕ → ListRow → Type 0
  Known rows operands place w = IsPlain section place w × (w.unit ≤ n) × (w.unit ≡ n → IsRead raw s rows operands place)

  pub state_again : (place : ℕ) (st : State) → WasMarked st.lists.rows.items st.lists.marks.items place n → IsState raw s n named st → HasList raw s n None place named st st
  state_again place st was k =
      let m = was.1 in
      let r = (marked_is st.lists.rows.items st.lists.marks.items (Known st.lists.rows.items st.lists.operands.items) k.marks place was.0 m.0 m.1 m.2).2 was.2 in
      record {
        list = r.list;
        read = r.read;
        refs = refl;
        keeps = record { shows = shows_again raw st.file named (named_list s None place r.list) st.lists r.kept refl k.shows; tables = k.tables; marks = k.marks };
      }

  -- the list at which reading stopped
  pub record Stopped (rows : List ListRow) (operands : List ListOperand) (from to : ℕ) (x : Stop) : Type 0 where
    pub rest : IsRest raw s rows operands to x.end
    pub above : from < x.end
    pub plain : x.plain ≡ true → WalksInto section to [] (Ok x.end)

  stopped : (rows : List ListRow) (operands : List ListOperand) (old mid : List ℕ) (from to : ℕ) (x : Stop) → Fits old mid → KnowMarks rows old (Known rows operands) → from ≤ to
      → to ≤ length section → IsStop section rows mid n from to x → Stopped rows operands from to x
  stopped rows operands old mid from to x fits know order within (inl (end, plain, at)) = record {
    rest = subst (λ (e : ℕ). IsRest raw s rows operands to e) (sym at) (rest_end raw s rows operands to end);
    above = omega arith;
    plain = λ is. subst (λ (e : ℕ). WalksInto section to [] (Ok e)) (sym at) (end_is_plain section to end);
  }
  stopped rows operands old mid from to x fits know order within (inr (above, stop)) =
      let m = stop.marked in
      let known = marked_is rows old (Known rows operands) know to stop.row m.0 (fits to m.0 m.1) m.2 in
      elim stop.by [
        | inl found ↦
            let walks : WalksInto section to [] (Ok x.end) = subst (λ (e : ℕ). WalksInto section to [] (Ok e)) (sym found.2) (known.0 found.1) in
            let rest = rest_plain raw s rows operands to x.end within walks in
            let high = rest.order in
            record { rest = rest; above = omega arith; plain = λ is. walks }
        | inr found ↦
            let end : x.end ≡ to = found.2 in
            record {
              rest = subst (λ (e : ℕ). IsRest raw s rows operands to e) (sym end) (rest_read raw s rows operands to within (known.2 found.1));
              above = omega arith;
              plain = λ is. absurd (let bad : true ≡ false = sym is ∙ found.0 in cc);
            }
      ]

  pub state_more : (place : ℕ) (ops : List Operand) (x : Stop) (w : ListRow) (places mid : List ℕ) (old new : State) → length section < 2 ^ 32
      → IsReadUp section old.lists.rows.items mid n place ops places x → Fits old.lists.marks.items mid → AreOperands raw old.file s ops old.lists.operands.items new.lists.operands.items
      → w.from ≡ place → w.end ≡ x.end → w.first ≡ length old.lists.operands.items → w.last ≡ length new.lists.operands.items → w.unit ≡ n → (w.plain ≡ true → (x.plain ≡ true) × (ops ≡ []))
      → new.lists.rows.items ≡ old.lists.rows.items ++ w ∷ [] → new.lists.slots.items ≡ old.lists.slots.items → Marks mid places (length new.lists.rows.items) new.lists.marks.items
      → new.file ≡ old.file → new.refs.items ≡ old.refs.items → new.files ≡ old.files → IsState raw s n named old → HasList raw s n None place named old new
  state_more place ops x w places mid old new short up fits kept begins ends first last unit plain rows slots marks file refs files k =
      let rows0 = old.lists.rows.items in
      let rows1 = new.lists.rows.items in
      let all0 = old.lists.operands.items in
      let all1 = new.lists.operands.items in
      let st = stopped rows0 all0 old.lists.marks.items mid place up.to x fits k.marks up.part.order up.part.within up.stop in
      let h : Added raw old.file s rows0 rows1 all0 all1 place up.to x.end ops w = record {
        part = up.part;
        rest = st.rest;
        operands = kept;
        begins = begins;
        ends = ends;
        above = st.above;
        first = first;
        last = last;
        rows_are = rows;
        within = k.shows.within;
        short = short;
      } in
      let list = list_from raw old.file s rows0 rows1 all0 all1 place up.to x.end ops w h place ops up.part in
      let g = grown raw old.file s rows0 rows1 all0 all1 place up.to x.end ops w h in
      let len : length all1 ≡ length all0 + length kept.more = ap length kept.added ∙ length-append all0 kept.more in
      let added : IsAdded raw old.file (named_list s None place list) old.lists new.lists = record {
        g = g;
        no_slot = refl;
        slots = slots;
        of_file = kept.of_file;
        own = fresh raw old.file s rows0 rows1 all0 all1 place up.to x.end ops w h;
        row_within = (omega (arith, first, last, len), omega (arith, last));
        piece = piece raw old.file s rows0 rows1 all0 all1 place up.to x.end ops w h;
        kept = kept_there raw old.file s rows0 rows1 all0 all1 place up.to x.end ops w h place (passes_from section place up.to ops up.part);
        stand = stands raw old.file s rows0 rows1 all0 all1 place up.to x.end ops w h;
      } in
      record {
        list = list;
        read = read_here raw old.file s rows0 rows1 all0 all1 place up.to x.end ops w h;
        refs = refs;
        keeps = record {
          shows = subst (λ (f : ℕ). Shows raw f (named ++ named_list s None place list ∷ []) new.lists) (sym file)
              (shows_more raw old.file named (named_list s None place list) old.lists new.lists added k.shows);
          tables = subst (λ (f : Files). KnowTables s.around.sources f) (sym files) k.tables;
          marks = marks_more rows0 rows1 old.lists.marks.items mid new.lists.marks.items places w (Known rows0 all0) (Known rows1 all1) rows fits marks
              (λ q y known. (
                known.0,
                known.1,
                λ same. (let r = known.2 same in
                    record { list = r.list; read = r.read; kept = kept_grown raw rows0 rows1 all0 all1 g s.unit q r.list r.kept }),
              ))
              (λ q is. (let t = up.passes q is in (
                λ yes. (let p = plain yes in subst (λ (e : ℕ). WalksInto section q [] (Ok e)) (sym ends) (plain_there section place up.to q x.end ops t p.1 (st.plain p.0))),
                omega (arith, unit),
                λ same. read_there raw old.file s rows0 rows1 all0 all1 place up.to x.end ops w h q t,
              )))
              k.marks;
        };
      }

  pub state_slot : (place p : ℕ) (old mid new : State) → new.file ≡ mid.file → new.refs.items ≡ mid.refs.items → new.files ≡ mid.files → new.lists.rows.items ≡ mid.lists.rows.items
      → new.lists.operands.items ≡ mid.lists.operands.items → new.lists.marks ≡ mid.lists.marks → new.lists.slots.items ≡ mid.lists.slots.items ++ p ∷ []
      → HasList raw s n None place named old mid → HasList raw s n (Some p) place named old new
  state_slot place p old mid new file refs files rows operands marks slots h =
      let m = named_list s (Some p) place h.list in
      record {
        list = h.list;
        read = h.read;
        refs = refs ∙ h.refs;
        keeps = record {
          shows = subst (λ (f : ℕ). Shows raw f (named ++ m ∷ []) new.lists) (sym file) (shows_slot raw mid.file named s place h.list p mid.lists new.lists rows operands slots h.keeps.shows);
          tables = subst (λ (f : Files). KnowTables s.around.sources f) (sym files) h.keeps.tables;
          marks = λ q k e. (
              let r = h.keeps.marks q k ((λ i. slice_get (sym marks i).items q) ∙ e) in (
                r.0,
                ap (λ (xs : List ListRow). slice_get xs k) rows ∙ r.1,
                (r.2.0, r.2.1, λ same. read_same q (r.2.2 same)),
              ));
        };
      } where
        read_same : (q : ℕ) → IsRead raw s mid.lists.rows.items mid.lists.operands.items q → IsRead raw s new.lists.rows.items new.lists.operands.items q
        read_same q x = subst (λ (xs : List ListRow). IsRead raw s xs new.lists.operands.items q) (sym rows) (subst (λ (xs : List ListOperand). IsRead raw s mid.lists.rows.items xs q) (sym operands) x)
