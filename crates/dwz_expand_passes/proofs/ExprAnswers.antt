-- The copy of a value that is an expression.
use Rattle.std.proofs.Common.{◌≡◌, ◌∙◌, ℕ, ◌+◌, ◌-◌, Bool, List, [], ◌++◌, length, map, Result, Ok, Err, refl, sym, ap, subst, arith}
use Rattle.std.proofs.lemmas.List.{length-append, length-map}
use Rattle.dwz_model.specs.declared.fault.Fault.{Fault}
use Rattle.dwz_model.specs.declared.fault.ReadErr.{ReadErr}
use Rattle.dwz_model.specs.declared.fault.ReadErr.TheVariants.{NoMemory, Refused}
use Rattle.dwz_model.specs.declared.place.Pair.{Pair}
use Rattle.dwz_def_reading.specs.Classes.{OfConstant, OfExpression, class_of}
use Rattle.dwz_def_reading.specs.declared.exprs.Operand.{Operand}
use Rattle.dwz_def_reading.specs.Documents.{Attr, Plain, Value}
use Rattle.dwz_def_reading.specs.Entries.{RawAttr}
use Rattle.dwz_def_reading.specs.Exprs.{any_operands, expr_at, first_unnamed}
use Rattle.dwz_def_reading.specs.Input.{Input}
use Rattle.dwz_def_reading.specs.Meanings.{MeaningContext, block_begins, bytes_of, expr_context, target_of}
use Rattle.dwz_def_reading.specs.Meant.{as_class, expr_said}
use Rattle.dwz_def_reading.specs.Values.{HasSpelling}
use Rattle.dwz_forms.specs.declared.raw.Raw.{Raw as RawOfCode}
use Rattle.dwz_forms.specs.RawValues.{raw_view}
use Rattle.dwz_graph.specs.Named.{refs_beside, value_refs}
use Rattle.dwz_graph.specs.Resolved.{stored}
use Rattle.dwz_expand_layout.specs.declared.entries.Content.TheVariants.{Expression}
use Rattle.dwz_expand_layout.specs.declared.entries.NewAttr.{NewAttr}
use Rattle.dwz_expand_layout.specs.declared.entries.NewExpression.{NewExpression}
use Rattle.dwz_expand_layout.specs.declared.entries.NewOperand.{NewOperand}
use Rattle.dwz_expand_passes.specs.declared.files.SourceEntry.{SourceEntry}
use Rattle.dwz_expand_passes.specs.Copied.{AddsAll, Answers, Asks, KeepsConstant, operand_places, said}
use Rattle.dwz_def_reading.proofs.PartLemmas.{bind_ok}
use Rattle.dwz_expr.specs.FirstFault.{ReadsInto}
use Rattle.dwz_expr.specs.Gathering.{added}
use Rattle.dwz_label_entries.proofs.ExprLemmas.{asked_is}
use Rattle.dwz_expand_passes.specs.Known.{Setting, place_named, raw_of, scope}
use Rattle.dwz_expand_passes.proofs.AnswerLemmas.{expr_shows}
use Rattle.dwz_expand_passes.proofs.ContentLemmas.{as_class_of}
use Rattle.dwz_expand_passes.proofs.LostLemmas.{lost_same, no_constant, not_refused, refused_lost}
use Rattle.dwz_expand_passes.proofs.NamedLemmas.{IsRead, at_operands}

-- ---- what was read

-- the same of what is appended to room that was cleared
pub reads_row : (at end : ℕ) (bytes own : List ℕ) (cleared operands shown : List Operand) (r : Result Bool ReadErr) → bytes ≡ own → at ≡ end - length bytes → cleared ≡ [] → shown ≡ operands
    → ReadsInto 1 (record { at = at; rest = bytes }) (added cleared operands) r
    → ReadsInto 1 (record { at = end - length own; rest = own }) shown r
reads_row at end bytes own cleared operands shown r is place none same reads =
    let i : Input = record { at = at; rest = bytes } in
    let j : Input = record { at = end - length own; rest = own } in
    let here : i ≡ j = λ k. record { at = (place ∙ ap (λ (b : List ℕ). end - length b) is) k; rest = is k } in
    subst (λ (os : List Operand). ReadsInto 1 j os r) (ap (λ (w : List Operand). added w operands) none ∙ sym same) (subst (λ (x : Input). ReadsInto 1 x (added cleared operands) r) here reads)

-- one that is refused means nothing
pub expr_refused : (s : MeaningContext ℕ) (a : RawAttr) (v : Value ℕ) (os : List Operand) (f : Fault) → as_class OfExpression s a ≡ Ok v
    → ReadsInto 1 (record { at = block_begins a; rest = bytes_of a.raw }) os (Err (Refused f)) → ⊥
expr_refused s a v os f means reads =
    let i : Input = record { at = block_begins a; rest = bytes_of a.raw } in
    let c = expr_context s 1 in
    let x = bind_ok (expr_at c i) (expr_said s) v means in
    let all = asked_is c (expr_at (any_operands 1) i) (first_unnamed c.names os) x.0 (sym (reads.1 c refl) ∙ x.1) in
    let no : Err f ≡ Ok x.0 = sym reads.0 ∙ all in
    cc

-- ---- its copy

module _ (x : SourceEntry) (q : Setting) (index at end : ℕ) (pair : Pair) (raw : RawOfCode) (v : Value ℕ) (refs others : List ℕ) (constant : KeepsConstant pair (raw_view raw))
    (spelled : HasSpelling pair.form (raw_view raw)) (class : class_of pair.form ≡ OfExpression) (asks : Asks x q index (stored at end pair raw) v refs others) where
  abbrev a : RawAttr
  a = stored at end pair raw

  abbrev b : Attr ℕ
  b = said q a v

  pub means : as_class OfExpression (scope q) a ≡ Ok v
  means = as_class_of (scope q) a v OfExpression class asks.means

  module _ (read : List Operand) (is : IsRead (scope q) a v read) where
    abbrev pub places : List ℕ
    places = map q.place v.refs

    refs_all : value_refs b.value ≡ places
    refs_all = ap (λ (d : Plain). refs_beside d places) is.plain

    pub named : map (place_named q (raw_of x)) refs ≡ places ++ others
    named = asks.named ∙ ap (λ (w : List ℕ). w ++ others) refs_all

    pub many : length places ≡ length read
    many = length-map v.refs q.place ∙ ap (λ (w : List ℕ). length w) is.refs ∙ length-map read (λ (o : Operand). q.around.place (target_of (scope q) o))

    pub expr_err : (old new : List NewOperand) (e : ReadErr) → AddsAll {Y = Unit {0}} q read places old new (Err e) → Answers q index a v old new (Err e)
    expr_err old new NoMemory h = tt
    expr_err old new (Refused f) h =
        refused_lost q index b f (lost_same q (operand_places 1 read at) (λ k. q.stands.named q.source index k) places f
        (λ k. sym (asks.at.named k ∙ at_operands (scope q) a read class is.operands k)) (h at))

    pub expr_ok : (old new : List NewOperand) (e : NewExpression) (attr : NewAttr) → AddsAll {Y = Unit {0}} q read places old new (Ok tt) → e.start ≡ block_begins a
        → e.bytes.now ≡ bytes_of (raw_view raw)
        → e.first ≡ length old → e.end ≡ length new → attr ≡ record { pair = pair; content = Expression e } → Answers q index a v old new (Ok attr)
    expr_ok old new e attr h start bytes first last are =
        let added = h.0 in
        let long : length new ≡ length old + length added.more = ap (λ (w : List NewOperand). length w) added.grown ∙ length-append old added.more in
        let kept : length added.more ≡ length read = sym (length-map added.more (λ (o : NewOperand). o.operand)) ∙ ap (λ (w : List Operand). length w) added.operands in
        let count : length (value_refs b.value) ≡ length read = ap (λ (w : List ℕ). length w) refs_all ∙ many in
        subst (λ (n : NewAttr). Answers q index a v old new (Ok n)) (sym are) (
          not_refused q index b h.1 (no_constant q index b (λ e. (let z : OfExpression ≡ OfConstant = sym class ∙ e in absurd cc))),
          record {
            shows = expr_shows q index at end pair raw v constant spelled old new e read added class is start bytes first last;
            within = (omega (arith, first, last, long), omega (arith, last));
            more = added.more;
            grown = added.grown;
            many = omega (arith, first, last, long, kept, count);
          },
        )
