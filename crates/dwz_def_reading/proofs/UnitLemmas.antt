-- A unit is read as it is spelled, and fails with the faults that it has.
use Rattle.std.proofs.Common.{◌≡◌, ℕ, ◌+◌, ◌<◌, inl, inr, Bool, ltb, List, ◌++◌, length, drop, Option, Some, None, Result, Ok, Err, refl, sym, ap, subst, ◌∙◌, arith}
use Rattle.std.proofs.lemmas.Bool.{le-ltb, lt-ltb, ltb-false, ltb-true}
use Rattle.std.proofs.lemmas.List.{take-append-drop}
use Rattle.dwz_model.specs.declared.fault.Fault.{Fault}
use Rattle.dwz_model.specs.declared.fault.Reason.{Reason}
use Rattle.dwz_model.specs.declared.fault.Reason.TheVariants.{BadRoot}
use Rattle.dwz_bytes.specs.Input.{Input, past}
use Rattle.dwz_bytes.specs.Reading.{◌>>=◌}
use Rattle.dwz_bytes.proofs.LebLemmas.{drop-front}
use Rattle.dwz_def_reading.specs.Abbrevs.{Declaration, SpellsTable, table_at}
use Rattle.dwz_def_reading.specs.Entries.{Mode, UnitContext, unless_so}
use Rattle.dwz_def_reading.specs.Faults.{info_fault}
use Rattle.dwz_def_reading.specs.Parts.{StandsAt}
use Rattle.dwz_def_reading.specs.Units.{IsBadPadding, IsContext, IsFaultBehindHeader, IsUnitFault, RawKind, RawUnit, SpellsHeader, SpellsTree, SpellsUnit, Tree, after_header, after_table, after_tree}
use Rattle.dwz_def_reading.specs.Units.{behind_header, context_of, debug_abbrev_offset, unit_header_at, header_reason, header_size, kind_of, root_tag, tree_at, unit_at, unit_of, unit_size, zero_count}
use Rattle.dwz_def_reading.specs.Units.{zeros_at}
use Rattle.dwz_def_reading.proofs.EntryLemmas.{unless_err, unless_ok}
use Rattle.dwz_def_reading.proofs.HeaderLemmas.{header_again, header_found, header_passed, other_again, other_found, zeros_again, zeros_found}
use Rattle.dwz_def_reading.proofs.PartLemmas.{bind_err, bind_ok, same_error, same_input, same_value}
use Rattle.dwz_def_reading.proofs.TableLemmas.{fault_here, here_fault, here_table, table_here}
use Rattle.dwz_def_reading.proofs.TreeLemmas.{Takes, input_at}
use Rattle.dwz_def_reading.proofs.UnitTreeLemmas.{tree_again, tree_fault, tree_fault_again, tree_found}

-- ---- the parts of a unit that is read

-- the unit that these parts make
abbrev pub unit_from : Input → Tree → RawUnit
unit_from i tree = record { at = i.at; end = i.at + unit_size i.rest; table_offset = debug_abbrev_offset i.rest; kind = kind_of i.rest; root = tree.0; below = tree.1 }

-- its header passes, its table stands, its tree is read behind the header, zero bytes follow, and the next unit begins behind it
pub record UnitParts (abbrevs : List ℕ) (mode : Mode) (before : ℕ) (i : Input) (u : RawUnit) (j : Input) : Type 0 where
  pub header : header_reason mode i.rest ≡ None
  pub table : List Declaration
  pub table_is : table_at abbrevs (debug_abbrev_offset i.rest) ≡ Ok table
  pub tree : Tree
  pub behind : Input
  pub tree_is : tree_at (context_of i mode table) before (behind_header i) ≡ Ok (tree, behind)
  pub zeros_are : zeros_at behind ≡ Ok tt
  pub unit_is : unit_from i tree ≡ u
  pub next_is : past (unit_size i.rest) i ≡ j

header_ok : (i : Input) (o : Option Reason) (t : Unit {0}) → unit_header_at i o ≡ Ok t → o ≡ None
header_ok i None t e = refl
header_ok i (Some reason) t e = absurd cc

header_err : (i : Input) (o : Option Reason) (f : Fault) → unit_header_at i o ≡ Err f → (reason : Reason) × (o ≡ Some reason) × (f ≡ info_fault i.at reason)
header_err i None f e = absurd cc
header_err i (Some reason) f e = (reason, refl, same_error f (info_fault i.at reason) (Err f) refl (sym e))

pub unit_parts : (abbrevs : List ℕ) (mode : Mode) (before : ℕ) (i : Input) (u : RawUnit) (j : Input) → unit_at abbrevs mode before i ≡ Ok (u, j) → UnitParts abbrevs mode before i u j
unfolding unit_at
unit_parts abbrevs mode before i u j e =
    let h = bind_ok (unit_header_at i (header_reason mode i.rest)) (after_header abbrevs mode before i) (u, j) e in
    let t = bind_ok (table_at abbrevs (debug_abbrev_offset i.rest)) (after_table mode before i) (u, j) h.2 in
    let r = bind_ok (tree_at (context_of i mode t.0) before (behind_header i)) (after_tree i) (u, j) t.2 in
    let z = bind_ok (zeros_at r.0.1) (unit_of i r.0.0) (u, j) r.2 in
    record {
      header = header_ok i (header_reason mode i.rest) h.0 h.1;
      table = t.0;
      table_is = t.1;
      tree = r.0.0;
      behind = r.0.1;
      tree_is = r.1;
      zeros_are = z.1;
      unit_is = same_value (unit_from i r.0.0) u (past (unit_size i.rest) i) j (unit_of i r.0.0 z.0) refl z.2;
      next_is = same_input (unit_from i r.0.0) u (past (unit_size i.rest) i) j (unit_of i r.0.0 z.0) refl z.2;
    }

pub parts_unit : (abbrevs : List ℕ) (mode : Mode) (before : ℕ) (i : Input) (u : RawUnit) (j : Input) → UnitParts abbrevs mode before i u j → unit_at abbrevs mode before i ≡ Ok (u, j)
unfolding unit_at
parts_unit abbrevs mode before i u j is =
    ap (λ (o : Option Reason). unit_header_at i o >>= after_header abbrevs mode before i) is.header
    ∙ ap (λ (r : Result (List Declaration) Fault). r >>= after_table mode before i) is.table_is
    ∙ ap (λ (r : Result (Tree × Input) Fault). r >>= after_tree i) is.tree_is
    ∙ ap (λ (r : Result (Unit {0}) Fault). r >>= unit_of i is.tree) is.zeros_are
    ∙ ap (λ (w : RawUnit). Ok (w, past (unit_size i.rest) i)) is.unit_is
    ∙ ap (λ (w : Input). Ok (u, w)) is.next_is

-- ---- what is read is spelled

pub record UnitRead (abbrevs : List ℕ) (mode : Mode) (before : ℕ) (i : Input) (u : RawUnit) (j : Input) : Type 0 where
  pub bytes : List ℕ
  pub spelled : SpellsUnit abbrevs mode before u i.at bytes
  pub takes : Takes i bytes j

-- the table that is read is the context's
context_is : (abbrevs : List ℕ) (i : Input) (mode : Mode) (table : List Declaration) (end : ℕ) → StandsAt SpellsTable abbrevs (debug_abbrev_offset i.rest) table → i.at + unit_size i.rest ≡ end
    → IsContext abbrevs (debug_abbrev_offset i.rest) (kind_of i.rest) end mode (context_of i mode table)
context_is abbrevs i mode table end stands same = record { stands = stands; same_root = refl; same_end = same; same_mode = refl }

pub unit_found : (abbrevs : List ℕ) (mode : Mode) (before : ℕ) (i : Input) (u : RawUnit) (j : Input) → unit_at abbrevs mode before i ≡ Ok (u, j) → UnitRead abbrevs mode before i u j
unit_found abbrevs mode before i u j e =
    let p = unit_parts abbrevs mode before i u j e in
    let h = header_found mode i (header_passed mode i.rest p.header) in
    let c = context_of i mode p.table in
    let t = tree_found c before (behind_header i) p.behind p.tree p.tree_is in
    let zeros = zeros_found p.behind.rest (ltb-false (zero_count p.behind.rest) (length p.behind.rest) (unless_ok _ _ _ p.zeros_are)) in
    let end : i.at + unit_size i.rest ≡ i.at + length h.bytes = ap (λ (n : ℕ). i.at + n) (sym h.len) in
    let place : i.at + header_size (kind_of i.rest) ≡ i.at + length h.header = ap (λ (n : ℕ). i.at + n) (sym h.size) in
    let spelled : SpellsUnit abbrevs mode before (unit_from i p.tree) i.at h.bytes = record {
      place = refl;
      end = end;
      context = c;
      is_context = context_is abbrevs i mode p.table (i.at + unit_size i.rest) (table_here abbrevs (debug_abbrev_offset i.rest) p.table p.table_is) refl;
      header = h.header;
      is_header = subst (λ (n : ℕ). SpellsHeader mode (kind_of i.rest) n (debug_abbrev_offset i.rest) h.header) (sym h.len) h.is_header;
      tree = t.bytes;
      is_tree = subst (λ (n : ℕ). SpellsTree c before p.tree.0 p.tree.1 n t.bytes) place t.spelled;
      padding = p.behind.rest;
      zeros = zeros;
      parts = h.parts ∙ ap (λ (w : List ℕ). h.header ++ w) t.takes.parts;
    } in
    let takes : Takes i h.bytes (past (unit_size i.rest) i) = record {
      parts = sym (take-append-drop (unit_size i.rest) i.rest) ∙ ap (λ (w : List ℕ). w ++ drop (unit_size i.rest) i.rest) h.is_unit;
      place = end;
    } in
    let one : UnitRead abbrevs mode before i (unit_from i p.tree) (past (unit_size i.rest) i) = record { bytes = h.bytes; spelled = spelled; takes = takes } in
    subst (λ (w : RawUnit). UnitRead abbrevs mode before i w j) p.unit_is (subst (λ (w : Input). UnitRead abbrevs mode before i (unit_from i p.tree) w) p.next_is one)

-- ---- what is spelled is read

-- a context is what is made of its unit
same_context : (abbrevs : List ℕ) (i : Input) (offset : ℕ) (kind : RawKind) (end : ℕ) (mode : Mode) (c : UnitContext) → IsContext abbrevs offset kind end mode c → kind_of i.rest ≡ kind
    → i.at + unit_size i.rest ≡ end → context_of i mode c.table ≡ c
same_context abbrevs i offset kind end mode c is kind_is size =
    ap (λ (n : ℕ). record { table = c.table; root_tag = n; end = i.at + unit_size i.rest; mode = mode }) (ap root_tag kind_is ∙ sym is.same_root)
    ∙ ap (λ (n : ℕ). record { table = c.table; root_tag = c.root_tag; end = n; mode = mode }) (size ∙ sym is.same_end)
    ∙ ap (λ (n : Mode). record { table = c.table; root_tag = c.root_tag; end = c.end; mode = n }) (sym is.same_mode)

-- a unit is what is read of its parts
same_unit : (i : Input) (u : RawUnit) → i.at ≡ u.at → i.at + unit_size i.rest ≡ u.end → debug_abbrev_offset i.rest ≡ u.table_offset → kind_of i.rest ≡ u.kind → unit_from i (u.root, u.below) ≡ u
same_unit i u at end offset kind =
    ap (λ (n : ℕ). record { at = n; end = i.at + unit_size i.rest; table_offset = debug_abbrev_offset i.rest; kind = kind_of i.rest; root = u.root; below = u.below }) at
    ∙ ap (λ (n : ℕ). record { at = u.at; end = n; table_offset = debug_abbrev_offset i.rest; kind = kind_of i.rest; root = u.root; below = u.below }) end
    ∙ ap (λ (n : ℕ). record { at = u.at; end = u.end; table_offset = n; kind = kind_of i.rest; root = u.root; below = u.below }) offset
    ∙ ap (λ (k : RawKind). record { at = u.at; end = u.end; table_offset = u.table_offset; kind = k; root = u.root; below = u.below }) kind

zeros_read : (i : Input) → zero_count i.rest ≡ length i.rest → zeros_at i ≡ Ok tt
zeros_read i all = ap (λ (b : Bool). unless_so b (info_fault (i.at + zero_count i.rest) BadRoot)) (le-ltb (zero_count i.rest) (length i.rest) (omega (arith, all)))

pub unit_again : (abbrevs : List ℕ) (mode : Mode) (before : ℕ) (u : RawUnit) (start : ℕ) (bytes rest : List ℕ) → SpellsUnit abbrevs mode before u start bytes
    → unit_at abbrevs mode before (input_at start (bytes ++ rest)) ≡ Ok (u, input_at (start + length bytes) rest)
unit_again abbrevs mode before u start bytes rest is =
    let i = input_at start (bytes ++ rest) in
    let says = header_again mode u.kind u.table_offset bytes is.header (is.tree ++ is.padding) rest is.is_header is.parts in
    let c = is.context in
    let end : start + unit_size (bytes ++ rest) ≡ u.end = ap (λ (n : ℕ). start + n) says.size ∙ sym is.end in
    let same : context_of i mode c.table ≡ c = same_context abbrevs i u.table_offset u.kind u.end mode c is.is_context says.kind_is end in
    let skipped : header_size (kind_of (bytes ++ rest)) ≡ length is.header = ap header_size says.kind_is ∙ sym is.is_header.size in
    let behind : behind_header i ≡ input_at (start + length is.header) (is.tree ++ is.padding) =
    ap (λ (n : ℕ). input_at (start + n) (behind_header i).rest) skipped ∙ ap (λ (w : List ℕ). input_at (start + length is.header) w) says.is_behind in
    let k = input_at (start + length is.header + length is.tree) is.padding in
    let tree : tree_at (context_of i mode c.table) before (behind_header i) ≡ Ok ((u.root, u.below), k) =
    ap (λ (w : UnitContext). tree_at w before (behind_header i)) same ∙ ap (tree_at c before) behind ∙ tree_again c before u.root u.below (start + length is.header) is.tree is.padding is.is_tree in
    let next : past (unit_size (bytes ++ rest)) i ≡ input_at (start + length bytes) rest = ap (λ (n : ℕ). past n i) says.size ∙ ap (λ (w : List ℕ). input_at (start + length bytes) w)
    (drop-front bytes rest) in
    parts_unit abbrevs mode before i u (input_at (start + length bytes) rest) (record {
      header = says.passes;
      table = c.table;
      table_is = ap (table_at abbrevs) says.table ∙ here_table abbrevs u.table_offset c.table is.is_context.stands;
      tree = (u.root, u.below);
      behind = k;
      tree_is = tree;
      zeros_are = zeros_read k (zeros_again is.padding is.zeros);
      unit_is = same_unit i u (sym is.place) end says.table says.kind_is;
      next_is = next;
    })

-- ---- faults

padding_fault : (c : UnitContext) (before : ℕ) (i k : Input) (tree : Tree) (f : Fault) → tree_at c before i ≡ Ok (tree, k) → zeros_at k ≡ Err f → IsBadPadding c before i.at i.rest f
padding_fault c before i k tree f read e =
    let t = tree_found c before i k tree read in
    let z = unless_err (ltb (zero_count k.rest) (length k.rest)) (info_fault (k.at + zero_count k.rest) BadRoot) f e in
    record {
      root = tree.0;
      below = tree.1;
      tree = t.bytes;
      is_tree = t.spelled;
      rest = k.rest;
      parts = t.takes.parts;
      behind = zero_count k.rest;
      other = other_found k.rest (ltb-true (zero_count k.rest) (length k.rest) z.0);
      placed = z.1 ∙ ap (λ (n : ℕ). info_fault (n + zero_count k.rest) BadRoot) t.takes.place;
    }

pub unit_fault : (abbrevs : List ℕ) (mode : Mode) (before : ℕ) (i : Input) (f : Fault) → unit_at abbrevs mode before i ≡ Err f → IsUnitFault abbrevs mode before i f
unfolding unit_at
unit_fault abbrevs mode before i f e =
    elim (bind_err (unit_header_at i (header_reason mode i.rest)) (after_header abbrevs mode before i) f e) [
      | inl h ↦ inl (header_err i (header_reason mode i.rest) f h)
      | inr h ↦
          let passes = header_ok i (header_reason mode i.rest) h.0 h.1 in
          elim (bind_err (table_at abbrevs (debug_abbrev_offset i.rest)) (after_table mode before i) f h.2) [
            | inl t ↦ inr (record { header = passes; fault = inl (fault_here abbrevs (debug_abbrev_offset i.rest) f t) })
            | inr t ↦
                let stands = table_here abbrevs (debug_abbrev_offset i.rest) t.0 t.1 in
                let c = context_of i mode t.0 in
                elim (bind_err (tree_at c before (behind_header i)) (after_tree i) f t.2) [
                  | inl r ↦ inr (record { header = passes; fault = inr (t.0, stands, inl (tree_fault c before (behind_header i) f r)) })
                  | inr r ↦
                      let zeros : zeros_at r.0.1 ≡ Err f = elim (bind_err (zeros_at r.0.1) (unit_of i r.0.0) f r.2) [ inl z ↦ z | inr z ↦ absurd cc ] in
                      inr (record { header = passes; fault = inr (t.0, stands, inr (padding_fault c before (behind_header i) r.0.1 r.0.0 f r.1 zeros)) })
                ]
          ]
    ]

padding_fails : (c : UnitContext) (before : ℕ) (i : Input) (f : Fault) (is : IsBadPadding c before i.at i.rest f) → (k : Input) × (tree_at c before i ≡ Ok ((is.root, is.below), k))
    × (zeros_at k ≡ Err f)
padding_fails c before i f is =
    let k = input_at (i.at + length is.tree) is.rest in
    let other = other_again is.rest is.behind is.other in
    let less : zero_count is.rest < length is.rest = omega (arith, other.0, other.1) in (
      k,
      ap (λ (w : List ℕ). tree_at c before (input_at i.at w)) is.parts ∙ tree_again c before is.root is.below i.at is.tree is.rest is.is_tree,
      ap (λ (b : Bool). unless_so b (info_fault (k.at + zero_count is.rest) BadRoot)) (lt-ltb (zero_count is.rest) (length is.rest) less)
          ∙ ap (λ (n : ℕ). Err (info_fault (k.at + n) BadRoot)) other.0
          ∙ ap (λ (g : Fault). Err g) (sym is.placed),
    )

-- the header passes, and the table stands there
behind_table : (abbrevs : List ℕ) (mode : Mode) (before : ℕ) (i : Input) (table : List Declaration) → header_reason mode i.rest ≡ None → StandsAt SpellsTable abbrevs (debug_abbrev_offset i.rest) table
    → unit_at abbrevs mode before i ≡ (tree_at (context_of i mode table) before (behind_header i) >>= after_tree i)
unfolding unit_at
behind_table abbrevs mode before i table passes stands =
    ap (λ (o : Option Reason). unit_header_at i o >>= after_header abbrevs mode before i) passes
    ∙ ap (λ (r : Result (List Declaration) Fault). r >>= after_table mode before i) (here_table abbrevs (debug_abbrev_offset i.rest) table stands)

fails_behind : (abbrevs : List ℕ) (mode : Mode) (before : ℕ) (i : Input) (f : Fault) → IsFaultBehindHeader abbrevs mode before i f → unit_at abbrevs mode before i ≡ Err f
unfolding unit_at
fails_behind abbrevs mode before i f is =
    elim is.fault [
      | inl t ↦
          ap (λ (o : Option Reason). unit_header_at i o >>= after_header abbrevs mode before i) is.header
          ∙ ap (λ (r : Result (List Declaration) Fault). r >>= after_table mode before i) (here_fault abbrevs (debug_abbrev_offset i.rest) t.0 t.2)
          ∙ ap (λ (g : Fault). Err g) (sym t.1)
      | inr t ↦
          let c = context_of i mode t.0 in
          let to = behind_table abbrevs mode before i t.0 is.header t.1 in
          elim t.2 [
            | inl r ↦ to ∙ ap (λ (w : Result (Tree × Input) Fault). w >>= after_tree i) (tree_fault_again c before (behind_header i).at (behind_header i).rest f r)
            | inr r ↦
                let p = padding_fails c before (behind_header i) f r in
                to
                ∙ ap (λ (w : Result (Tree × Input) Fault). w >>= after_tree i) p.1
                ∙ ap (λ (w : Result (Unit {0}) Fault). w >>= unit_of i (r.root, r.below)) p.2
          ]
    ]

header_fails : (abbrevs : List ℕ) (mode : Mode) (before : ℕ) (i : Input) (reason : Reason) → header_reason mode i.rest ≡ Some reason → unit_at abbrevs mode before i ≡ Err (info_fault i.at reason)
unfolding unit_at
header_fails abbrevs mode before i reason is = ap (λ (o : Option Reason). unit_header_at i o >>= after_header abbrevs mode before i) is

pub unit_fault_again : (abbrevs : List ℕ) (mode : Mode) (before : ℕ) (i : Input) (f : Fault) → IsUnitFault abbrevs mode before i f → unit_at abbrevs mode before i ≡ Err f
unit_fault_again abbrevs mode before i f is =
    elim is [
      | inl h ↦ header_fails abbrevs mode before i h.0 h.1 ∙ ap (λ (g : Fault). Err g) (sym h.2)
      | inr h ↦ fails_behind abbrevs mode before i f h
    ]
