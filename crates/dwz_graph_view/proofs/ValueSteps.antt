-- What is shown of a value, by its class.
use Rattle.std.proofs.Common.{◌≡◌, ℕ, ◌+◌, Bool, true, false, List, map, Option, Some, None, Result, Ok, Err, refl, sym, ap, ◌∙◌}
use Rattle.std.specs.Prelude.{if◌then◌else◌}
use Rattle.std.specs.List.{flat_map}
use Rattle.dwz_model.specs.declared.fault.Fault.{Fault}
use Rattle.dwz_model.specs.declared.fault.Reason.TheVariants.{BadReference}
use Rattle.dwz_model.specs.declared.place.Piece.{Piece}
use Rattle.dwz_model.specs.declared.place.Place.{Place}
use Rattle.dwz_expr.specs.FirstFault.{AreAsked, unless_one}
use Rattle.dwz_def_reading.specs.Classes.{OfInfoEntry, OfUnitEntry}
use Rattle.dwz_def_reading.specs.Documents.{Expr, File, Loc, Plain, Value, only, ref}
use Rattle.dwz_def_reading.specs.Entries.{RawAttr}
use Rattle.dwz_def_reading.specs.Exprs.{ExprContext, Expression, any_operands, expr_at, first_unnamed}
use Rattle.dwz_def_reading.specs.Faults.{info_fault}
use Rattle.dwz_def_reading.specs.Input.{Input}
use Rattle.dwz_def_reading.specs.LineTables.{FileTable}
use Rattle.dwz_def_reading.specs.LocLists.{LocList}
use Rattle.dwz_def_reading.specs.Meanings.{MeaningContext, any_with_address, block_begins, bytes_of, expr_context, expr_value, has, loc_value, number_of, offset_of, path_by}
use Rattle.dwz_def_reading.specs.Meant.{as_class, entry_among, expr_meaning, expr_said, file_by, path_or, row_of_table}
use Rattle.dwz_def_reading.proofs.PartLemmas.{bind_ok}
use Rattle.dwz_graph.specs.FileRows.{HasTable, table_at}
use Rattle.dwz_graph.specs.Operands.{is_named}
use Rattle.dwz_graph_view.specs.PieceRows.{AreExprs, ArePieces}
use Rattle.dwz_graph_view.specs.ValueViews.{Shows, named_in, part_of, value_in, value_shown}
use Rattle.dwz_graph_view.specs.declared.value_views.ValueView.TheVariants as shown

-- ---- values that name nothing

abbrev pub okay : Value ℕ → Result (Value ℕ) Fault
okay v = Ok v

pub plain_shown : (file : ℕ) (plain : Plain) (v : Value ℕ) → okay (only plain) ≡ okay v → Some (only {P = Place} plain) ≡ Some (value_in file v)
plain_shown file plain v e = let is : only plain ≡ v = cc in ap (λ (w : Value ℕ). Some (value_in file w)) is

pub path_shown : (file : ℕ) (a : RawAttr) (o : Option (List ℕ)) (v : Value ℕ) → path_or a o ≡ Ok v → (path : List ℕ) × (o ≡ Some path) × (Some (only {P = Place} (File (Some path))) ≡ Some (value_in file v))
path_shown file a None v e = absurd cc
path_shown file a (Some path) v e = (path, refl, plain_shown file (File (Some path)) v e)

-- a row of the line table
pub row_means : (s : MeaningContext ℕ) (a : RawAttr) (line : Option ℕ) (place number : ℕ) (tables : List FileTable) (v : Value ℕ) → line ≡ Some place → (t : HasTable s.around.sources tables place number)
    → file_by line s a ≡ Ok v → path_or a (path_by t.table (number_of a.raw)) ≡ Ok v
row_means s a None place number tables v is t e = absurd cc
row_means s a (Some p) place number tables v is t e =
    let same : p ≡ place = cc in
    let x = bind_ok (table_at s.around.sources p) (row_of_table a) v e in
    let both : Ok x.0 ≡ Ok t.table = sym x.1 ∙ ap (table_at s.around.sources) same ∙ t.read in
    let one : x.0 ≡ t.table = cc in
    ap (λ (w : FileTable). path_or a (path_by w (number_of a.raw))) (sym one) ∙ x.2

-- ---- entries

named_among : (place : ℕ → ℕ) (places : List ℕ) (at p : ℕ) (v : Value ℕ) → entry_among place places at p ≡ Ok v → (has p places ≡ true) × (ref (place p) ≡ v)
named_among place places at p v e = by (has p places) (info_fault at BadReference) refl e where
  by : (b : Bool) (f : Fault) → has p places ≡ b → (if b then okay (ref (place p)) else Err f) ≡ okay v → (has p places ≡ true) × (ref (place p) ≡ v)
  by true f is h = let one : ref (place p) ≡ v = cc in (is, one)
  by false f is h = absurd cc

pub unit_named : (s : MeaningContext ℕ) (a : RawAttr) (v : Value ℕ) → as_class OfUnitEntry s a ≡ Ok v → (has (s.unit + offset_of a) s.own ≡ true) × (ref (s.around.place (s.unit + offset_of a)) ≡ v)
unit_named s a v e = named_among s.around.place s.own a.at (s.unit + offset_of a) v e

pub info_named : (s : MeaningContext ℕ) (a : RawAttr) (v : Value ℕ) → as_class OfInfoEntry s a ≡ Ok v → (has (offset_of a) s.around.all ≡ true) × (ref (s.around.place (offset_of a)) ≡ v)
info_named s a v e = named_among s.around.place s.around.all a.at (offset_of a) v e

-- ---- expressions

asked_ok : {X : Type 0} (c : ExprContext) (answer : Result X Fault) (o : Option _) (x : X) → unless_one c answer o ≡ Ok x → (answer ≡ Ok x) × (o ≡ None)
asked_ok c answer None x e = (e, refl)
asked_ok c answer (Some o) x e = absurd cc

abbrev pub input_of : RawAttr → Input
input_of a = record { at = block_begins a; rest = bytes_of a.raw }

-- the expression that was read where nothing is asked of operands is the one that the value is, and each operand names an entry
pub expr_told : (s : MeaningContext ℕ) (a : RawAttr) (v : Value ℕ) (i : Input) (o : Expression) → input_of a ≡ i → expr_meaning s a ≡ Ok v → Ok o ≡ expr_at (any_operands 1) i → AreAsked 1 i o.operands
    → (first_unnamed (is_named s) o.operands ≡ None) × (expr_value s o ≡ v)
expr_told s a v i o is means read asks =
    let c = expr_context s 1 in
    let x = bind_ok (expr_at c (input_of a)) (expr_said s) v means in
    let y = asked_ok c (expr_at (any_operands 1) i) (first_unnamed c.names o.operands) x.0 (sym (asks c refl) ∙ ap (expr_at c) (sym is) ∙ x.1) in
    let both : Ok o ≡ Ok x.0 = read ∙ y.0 in
    let one : o ≡ x.0 = cc in
    let said : expr_value s x.0 ≡ v = (let z = x.2 in cc) in
    (y.1, ap (expr_value s) one ∙ said)

pub expr_shown : (file : ℕ) (s : MeaningContext ℕ) (e : Expression) (v : Value ℕ) (o : Option (List Piece)) (pieces : List Piece) → expr_value s e ≡ v → ArePieces file s e.at e.bytes e.operands o → o ≡ Some pieces
    → Shows file v (Some (shown.Expr pieces e.address))
expr_shown file s e v o pieces said are is =
    let both : Some pieces ≡ Some are.pieces = sym is ∙ are.is in
    let one : pieces ≡ are.pieces = cc in
    let so : value_shown (shown.Expr pieces e.address) ≡ value_in file (expr_value s e)
    = (λ i. record { plain = Expr ((ap (map part_of) one ∙ are.parts) i); refs = (ap (flat_map named_in) one ∙ are.named) i; address = e.address }) in
    ap Some (so ∙ ap (value_in file) said)

-- ---- location lists

pub list_shown : (file : ℕ) (s : MeaningContext ℕ) (l : LocList) (o : Option (List (List Piece))) (exprs : List (List Piece)) (address : Bool) → AreExprs file s l.exprs o → o ≡ Some exprs
    → address ≡ any_with_address l.exprs → Shows file (loc_value s l) (Some (shown.Loc exprs address))
list_shown file s l o exprs address are is any =
    let both : Some exprs ≡ Some are.shown = sym is ∙ are.is in
    let one : exprs ≡ are.shown = cc in
    let so : value_shown (shown.Loc exprs address) ≡ value_in file (loc_value s l)
    = (λ i. record { plain = Loc ((ap (map (λ (pieces : List Piece). map part_of pieces)) one ∙ are.parts) i); refs = (ap (flat_map (λ (pieces : List Piece). flat_map named_in pieces)) one ∙ are.named) i; address = any i }) in
    ap Some so
